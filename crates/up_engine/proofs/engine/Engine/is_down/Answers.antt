-- for the gate's time alone: without it a wrong body is gone over once more, to offer an answer
use Rattle.std.proofs.Common.{rules}
use Rattle.up_engine.proofs.engine.Engine.is_down.Goals as goal

pub returns-clause-down : goal.returns-clause-down
returns-clause-down c = search rules
