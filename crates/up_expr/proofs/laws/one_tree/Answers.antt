use Rattle.up_expr.proofs.Counting.{same_tree}
use Rattle.up_expr.proofs.laws.one_tree.Goals as goal

pub returns : goal.returns
returns c = λ tokens tree other writes also. same_tree tokens tree other writes also
