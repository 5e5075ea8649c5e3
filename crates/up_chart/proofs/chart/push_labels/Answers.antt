use Rattle.std.proofs.Common.{rules, append_assoc}
use Rattle.up_chart.specs.Charts.{label_of}
use Rattle.up_chart.proofs.Growing.{one_more}
use Rattle.up_chart.proofs.chart.push_labels.Goals as goal

pub loop-i-preserved : goal.loop-i-preserved
loop-i-preserved c =
    let more = one_more label_of c.args.rows.now c.loop-i.i in
    let pair = c.at.ensures in
    rw more (rw pair (search (rules, append_assoc)))
