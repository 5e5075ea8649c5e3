-- for the gate's time alone: without it a wrong body is gone over once more, to offer an answer
use Rattle.std.proofs.Common.{rules}
use Rattle.up_edge.proofs.failure.Failure.is_failing.Goals as goal

pub returns-in-From : goal.returns-in-From
returns-in-From c = search rules
