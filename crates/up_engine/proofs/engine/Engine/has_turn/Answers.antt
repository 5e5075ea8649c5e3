-- For the gate's time alone: with this answer a wrong body is refused sooner.
use Rattle.std.proofs.Common.{rules}
use Rattle.up_engine.proofs.engine.Engine.has_turn.Goals as goal

pub returns-clause-up : goal.returns-clause-up
returns-clause-up c = search rules

pub returns-clause-down : goal.returns-clause-down
returns-clause-down c = search rules
