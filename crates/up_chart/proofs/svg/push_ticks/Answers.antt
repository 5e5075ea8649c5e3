use Rattle.up_chart.specs.Svg.{tick_at}
use Rattle.up_chart.proofs.Growing.{pushed_at}
use Rattle.up_chart.proofs.svg.push_ticks.Goals as goal

pub loop-tick-preserved : goal.loop-tick-preserved
loop-tick-preserved c =
    pushed_at (tick_at c.args.end c.args.bottom c.args.step) c.args.ticks.now c.loop-tick.tick-index 0 c.args.text.now.items c.loop-tick.text.items c.push_tick_at.new.text.items
    c.loop-tick-test.true c.in_ok-push_tick_at.ensures c.loop-tick.invariant
