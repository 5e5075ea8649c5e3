use Rattle.up_chart.specs.Svg.{label_text}
use Rattle.up_chart.proofs.Growing.{pushed_next}
use Rattle.up_chart.proofs.svg.push_labels.Goals as goal

pub loop-label-preserved : goal.loop-label-preserved
loop-label-preserved c =
    pushed_next label_text c.args.labels.now c.loop-label.label-index c.label-item.result c.args.text.now.items c.loop-label.text.items c.push_label.new.text.items
    c.loop-label-test.true c.label-item.is c.in_ok-push_label.ensures c.loop-label.invariant
