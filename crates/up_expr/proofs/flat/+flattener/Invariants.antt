use Rattle.up_expr.specs.Flat.{size}
use Rattle.up_expr.specs.Trees.{tree_of}
use Rattle.up_expr.proofs.flat.+flattener.Given as goal

-- a side is smaller than what it is a side of
abbrev pub decreases-append_nodes : goal.decreases-append_nodes
decreases-append_nodes l = size (tree_of l.expr.now)
