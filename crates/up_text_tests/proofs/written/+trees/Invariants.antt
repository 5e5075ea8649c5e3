use Rattle.up_expr.specs.Flat.{size}
use Rattle.up_text_tests.proofs.written.+trees.Given as goal

-- a side is smaller
abbrev pub decreases-write_tree : goal.decreases-write_tree
decreases-write_tree l = size l.branch.now
