use Rattle.up_chart.specs.Svg.{escaped}
use Rattle.up_chart.proofs.Growing.{pushed_at}
use Rattle.up_chart.proofs.push.push_all_escaped.Goals as goal

pub loop-byte-preserved : goal.loop-byte-preserved
loop-byte-preserved c =
    pushed_at escaped c.args.bytes.now c.loop-byte.byte-index 0 c.args.text.now.items c.loop-byte.text.items c.push_escaped.new.text.items
    c.loop-byte-test.true c.in_ok-push_escaped.ensures c.loop-byte.invariant
