use Rattle.std.proofs.Common.{length, ◌-◌, ◌≤◌}
use Rattle.up_edge.proofs.child.find_end.Given as goal

-- a look goes forward
abbrev pub invariant-loop-next : goal.invariant-loop-next
invariant-loop-next g l = l.initial.next ≤ l.next

abbrev pub decreases-loop-next : goal.decreases-loop-next
decreases-loop-next g l = length l.initial.children - l.next
