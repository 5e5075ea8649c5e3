use Rattle.up_expr.specs.Flat.{size}
use Rattle.up_lint.proofs.stop.+tree_follows.Given as goal

-- each side is smaller than both
abbrev pub decreases-tree_follows : goal.decreases-tree_follows
decreases-tree_follows l = size l.branch.now
