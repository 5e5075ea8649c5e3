use Rattle.up_chart.specs.Moments.{output_moments}
use Rattle.up_chart.proofs.Growing.{pushed_next}
use Rattle.up_chart.proofs.moment.push_outputs.Goals as goal

pub loop-output-preserved : goal.loop-output-preserved
loop-output-preserved c =
    pushed_next (output_moments c.args.time) c.args.outputs.now c.loop-output.output-index c.output-item.result c.args.moments.now.items c.loop-output.moments.items c.push_output.new.moments.items
    c.loop-output-test.true c.output-item.is c.in_ok-push_output.ensures c.loop-output.invariant
