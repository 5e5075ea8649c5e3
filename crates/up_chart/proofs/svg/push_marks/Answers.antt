use Rattle.up_chart.specs.Svg.{mark_text}
use Rattle.up_chart.proofs.Growing.{pushed_next}
use Rattle.up_chart.proofs.svg.push_marks.Goals as goal

pub loop-mark-preserved : goal.loop-mark-preserved
loop-mark-preserved c =
    pushed_next (mark_text c.args.end) c.args.marks.now c.loop-mark.mark-index c.mark-item.result c.args.text.now.items c.loop-mark.text.items c.push_mark.new.text.items
    c.loop-mark-test.true c.mark-item.is c.in_ok-push_mark.ensures c.loop-mark.invariant
