use Rattle.std.proofs.Common.{◌≡◌, ◌-◌, length}
use Rattle.up_expr.specs.Flat.{nodes_of}
use Rattle.up_expr.specs.Trees.{Tree}
use Rattle.up_marks.specs.Marking.{Kept}
use Rattle.up_marks.specs.Settling.{IsSettledBut}
use Rattle.up_marks.proofs.keeping.settle.Given as goal

-- only the mark at this place is still to be looked at
abbrev pub invariant-loop-place : goal.invariant-loop-place
invariant-loop-place l = (kept : Kept) (tree : Tree) → l.nodes ≡ nodes_of 0 tree → IsSettledBut l.fn.from l.nodes kept l.fn.marks → IsSettledBut l.place l.nodes kept l.marks

abbrev pub decreases-loop-place : goal.decreases-loop-place
decreases-loop-place l = length l.nodes - l.place
