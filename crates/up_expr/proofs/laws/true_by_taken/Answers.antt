use Rattle.up_expr.proofs.Truths.{none_taken, false_by_none}
use Rattle.up_expr.proofs.laws.true_by_taken.Goals as goal

pub returns : goal.returns
returns c = λ tree sights. (none_taken tree sights, false_by_none tree sights)
