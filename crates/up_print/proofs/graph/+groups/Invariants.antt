use Rattle.std.proofs.Common.{◌+◌, ◌*◌}
use Rattle.up_expr.specs.Flat.{size}
use Rattle.up_print.proofs.graph.+groups.Given as goal

-- the sides are smaller than the group
abbrev pub decreases-push_tree : goal.decreases-push_tree
decreases-push_tree l = 3 * size l.branch.now

abbrev pub decreases-push_group : goal.decreases-push_group
decreases-push_group l = 3 * (size l.left.now + size l.right.now) + 2

abbrev pub decreases-push_sides : goal.decreases-push_sides
decreases-push_sides l = 3 * (size l.left.now + size l.right.now) + 1
