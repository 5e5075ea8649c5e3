use Rattle.std.proofs.Common.{◌-◌, ◌≤◌, length, drop, sym, ◌∙◌, length-drop, arith}
use Rattle.up_image.proofs.Ascending.{are_ascending_one}
use Rattle.up_image.proofs.twice.are_ascending.Goals as goal

pub returns : goal.returns
returns c =
    let texts = c.args.texts.now in
    let few : length (drop (c.loop-i.i - 1) texts) ≤ 1 = omega (arith, length-drop (c.loop-i.i - 1) texts, c.loop-i-test.false) in
    sym (c.loop-i.invariant ∙ are_ascending_one (λ text. text.now) (drop (c.loop-i.i - 1) texts) few)
