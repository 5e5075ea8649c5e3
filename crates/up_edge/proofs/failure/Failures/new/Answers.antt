-- for the gate's time alone: without it a wrong body is gone over once more, to offer an answer
use Rattle.std.proofs.Common.{rules}
use Rattle.up_edge.proofs.failure.Failures.new.Goals as goal

pub returns-clause-call : goal.returns-clause-call
returns-clause-call c = search rules
