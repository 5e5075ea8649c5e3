use Rattle.up_expr.specs.Trees.{tree_of}
use Rattle.up_expr.proofs.Laid.{flat_own, tree_is}
use Rattle.up_expr.proofs.condition.Condition.new.Goals as goal

pub invariant_of-result : goal.invariant_of-result
invariant_of-result c = flat_own c.in_ok-nodes.nodes (tree_of c.args.expr.now) c.in_ok-nodes.ensures

pub returns : goal.returns
returns c = tree_is c.in_ok-nodes.nodes 0 (tree_of c.args.expr.now) c.in_ok-nodes.ensures.laid
