use Rattle.std.proofs.Common.{◌++◌, ◌∙◌, ap}
use Rattle.up_lint.specs.Lint.{export_warning}
use Rattle.up_lint.proofs.Steps.{pushed_next}
use Rattle.up_lint.proofs.job.push_keys.Goals as goal

pub loop-key-preserved : goal.loop-key-preserved
loop-key-preserved c =
    pushed_next (export_warning c.args.set.now c.args.job.now c.args.sheet.now) c.args.keys.now c.loop-key.key-index c.key-item.result c.args.warnings.now.items c.loop-key.warnings.items c.push_export.new.warnings.items
    c.loop-key-test.true c.key-item.is (c.in_ok-push_export.ensures ∙ ap (λ key. c.loop-key.warnings.items ++ export_warning c.args.set.now c.args.job.now c.args.sheet.now key) c.as_str.ensures) c.loop-key.invariant
