-- For the gate's time alone: with this answer a wrong body is refused sooner.
use Rattle.std.proofs.Common.{rules}
use Rattle.up_expr.proofs.leaf.misses.Goals as goal

pub returns-in-None-found : goal.returns-in-None-found
returns-in-None-found c = search rules
