use Rattle.up_expr.specs.Flat.{size}
use Rattle.up_image.proofs.definable_events.+depths.Given as goal

-- a side is smaller
abbrev pub decreases-is_shallow : goal.decreases-is_shallow
decreases-is_shallow l = size l.branch.now
