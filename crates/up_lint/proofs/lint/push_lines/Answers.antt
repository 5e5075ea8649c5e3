use Rattle.up_lint.specs.Lint.{line_unless}
use Rattle.up_lint.proofs.Steps.{pushed_next}
use Rattle.up_lint.proofs.lint.push_lines.Goals as goal

pub loop-warning-preserved : goal.loop-warning-preserved
loop-warning-preserved c =
    pushed_next (line_unless c.args.left_out.now) c.args.warnings.now c.loop-warning.warning-index c.warning-item.result c.args.text.now.items c.loop-warning.text.items c.push_unless.new.text.items
    c.loop-warning-test.true c.warning-item.is c.in_ok-push_unless.ensures c.loop-warning.invariant
