use Rattle.up_expr.specs.Flat.{size}
use Rattle.up_tools.proofs.changes.tree.+same_tree.Given as goal

-- each side is smaller than both
abbrev pub decreases-same_tree : goal.decreases-same_tree
decreases-same_tree l = size l.branch.now
