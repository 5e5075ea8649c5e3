use Rattle.up_expr.specs.Flat.{size}
use Rattle.up_lint.proofs.circle.+tree_may.Given as goal

-- each side is smaller than both
abbrev pub decreases-tree_may : goal.decreases-tree_may
decreases-tree_may l = size l.branch.now
