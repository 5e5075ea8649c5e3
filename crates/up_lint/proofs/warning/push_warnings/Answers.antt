use Rattle.std.proofs.Common.{[], ◌∷◌, ◌++◌, ◌∙◌, ap}
use Rattle.up_lint.specs.Warnings.{warning_of}
use Rattle.up_lint.proofs.Steps.{mapped_next}
use Rattle.up_lint.proofs.warning.push_warnings.Goals as goal

pub loop-name-preserved : goal.loop-name-preserved
loop-name-preserved c =
    mapped_next (warning_of c.args.job.now c.args.spot c.args.kind) c.args.names.now c.loop-name.name-index c.name-item.result c.args.warnings.now.items c.loop-name.warnings.items c.push_warning.new.warnings.items
    c.loop-name-test.true c.name-item.is (c.in_ok-push_warning.ensures ∙ ap (λ name. c.loop-name.warnings.items ++ warning_of c.args.job.now c.args.spot c.args.kind name ∷ []) c.as_str.ensures) c.loop-name.invariant
