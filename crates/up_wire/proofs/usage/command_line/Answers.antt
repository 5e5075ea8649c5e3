use Rattle.up_wire.proofs.Adding.{awaits_next}
use Rattle.up_wire.proofs.usage.command_line.Goals as goal

pub loop-its-preserved : goal.loop-its-preserved
loop-its-preserved c = awaits_next _ c.loop-its.its-index _ c.loop-its.line c.in_ok-line.line c.command_of.result c.loop-its-test.true c.loop-its.invariant c.in_ok-line.ensures c.command_of.ensures
