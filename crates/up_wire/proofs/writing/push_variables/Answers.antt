use Rattle.std.proofs.Common.{◌++◌, ◌∙◌, ap, sym, append_assoc, take}
use Rattle.std.specs.List.{flat_map}
use Rattle.up_wire.specs.Frames.{variable}
use Rattle.up_wire.proofs.Sizes.{one_more}
use Rattle.up_wire.proofs.writing.push_variables.Goals as goal

pub loop-i-preserved : goal.loop-i-preserved
loop-i-preserved c =
    let key = c.at.result.0.now in
    let value = c.at.result.1.now in
    let one = one_more c.args.vars.now c.loop-i.i key value c.at.ensures.pair in
    c.in_ok-push_variable.ensures
    ∙ (ap (λ x. x ++ variable (key, value)) c.loop-i.invariant
    ∙ (append_assoc c.args.out.now.items (flat_map variable (take c.loop-i.i c.args.vars.now)) (variable (key, value))
    ∙ ap (λ x. c.args.out.now.items ++ x) (sym one)))
