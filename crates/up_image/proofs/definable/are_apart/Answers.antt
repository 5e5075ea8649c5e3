use Rattle.std.proofs.Common.{◌≡◌, ◌-◌, ◌<◌, suc, true, drop, length, sym, ap, ◌∙◌, arith}
use Rattle.std.specs.List.{list_any}
use Rattle.up_stanza.specs.Exits.{same_exit}
use Rattle.up_image.proofs.Ascending.{are_apart_met}
use Rattle.up_image.proofs.definable.are_apart.Goals as goal

pub returns-then-has_exit : goal.returns-then-has_exit
returns-then-has_exit c =
    let exits = c.args.exits.now in
    let exit = c.index-exits-i.result in
    let i = c.loop-i.i in
    let next : i ≡ suc (i - 1) = omega (arith, c.loop-i-test.true) in
    let within : i - 1 < length exits = omega (arith, c.loop-i.invariant.within, c.loop-i-test.true) in
    let met : list_any (same_exit exit) (drop (suc (i - 1)) exits) ≡ true =
    ap (λ n. list_any (same_exit exit) (drop n exits)) (sym next) ∙ (ap (list_any (same_exit exit)) (sym c.exits_from.ensures) ∙ (sym c.has_exit.ensures ∙ c.if-has_exit.true)) in
    sym (are_apart_met (i - 1) exits exit within c.index-exits-i.is met)
