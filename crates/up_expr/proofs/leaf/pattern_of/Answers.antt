-- For the gate's time alone: with this answer a wrong body is refused sooner.
use Rattle.std.proofs.Common.{rules}
use Rattle.up_expr.proofs.leaf.pattern_of.Goals as goal

pub returns-then-supported : goal.returns-then-supported
returns-then-supported c = search rules
