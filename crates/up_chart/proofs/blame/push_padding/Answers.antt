use Rattle.up_chart.proofs.Growing.{repeated_next}
use Rattle.up_chart.proofs.blame.push_padding.Goals as goal

pub loop-preserved : goal.loop-preserved
loop-preserved c = repeated_next 32 c.loop.counter c.args.text.now.items c.loop.text.items c.push.new.self.items c.in_ok-push.ensures.items c.loop.invariant
