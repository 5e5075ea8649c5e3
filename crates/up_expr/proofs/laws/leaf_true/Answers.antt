use Rattle.up_expr.proofs.Truths.{leaf_any}
use Rattle.up_expr.proofs.laws.leaf_true.Goals as goal

pub returns : goal.returns
returns c = leaf_any
