use Rattle.std.proofs.Common.{◌≡◌, ◌+◌, Bool, true, false, Some, drop, bytes_eq, if◌then◌else◌, sym, ◌∙◌, ap}
use Rattle.up_text.specs.Bindings.{value_of}
use Rattle.up_marks.proofs.Values.{value_left}
use Rattle.up_marks.proofs.ruling.find.Goals as goal

pub returns-then-eq : goal.returns-then-eq
returns-then-eq c =
    let key = c.args.key.now in
    let same : bytes_eq key c.at.result.0.now ≡ true = cc in
    let step = value_left key c.args.vars.now c.loop-i.i c.at.result.0.now c.at.result.1.now c.at.ensures.pair in
    sym (step ∙ ap (λ (b : Bool). if b then Some c.at.result.1.now else value_of key (drop (c.loop-i.i + 1) c.args.vars.now)) same) ∙ c.loop-i.invariant

pub loop-i-preserved : goal.loop-i-preserved
loop-i-preserved c =
    let key = c.args.key.now in
    let apart : bytes_eq key c.at.result.0.now ≡ false = cc in
    let step = value_left key c.args.vars.now c.loop-i.i c.at.result.0.now c.at.result.1.now c.at.ensures.pair in
    sym (step ∙ ap (λ (b : Bool). if b then Some c.at.result.1.now else value_of key (drop (c.loop-i.i + 1) c.args.vars.now)) apart) ∙ c.loop-i.invariant
