use Rattle.up_chart.specs.Blame.{start_line}
use Rattle.up_chart.proofs.Growing.{pushed_next}
use Rattle.up_chart.proofs.blame.push_lines.Goals as goal

pub loop-start-preserved : goal.loop-start-preserved
loop-start-preserved c =
    pushed_next (start_line c.args.width) c.args.starts.now c.loop-start.start-index c.start-item.result c.args.text.now.items c.loop-start.text.items c.push_line.new.text.items
    c.loop-start-test.true c.start-item.is c.in_ok-push_line.ensures c.loop-start.invariant
