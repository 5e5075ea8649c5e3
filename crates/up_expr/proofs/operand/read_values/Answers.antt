-- For the gate's time alone: with this answer a wrong body is refused sooner.
use Rattle.std.proofs.Common.{rules}
use Rattle.up_expr.proofs.operand.read_values.Goals as goal

pub returns-clause-good : goal.returns-clause-good
returns-clause-good c = search rules
