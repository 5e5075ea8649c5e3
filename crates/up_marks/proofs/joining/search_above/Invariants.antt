use Rattle.std.proofs.Common.{length, ◌-◌, ◌<◌}
use Rattle.up_marks.proofs.Above.{NoneUpTo}
use Rattle.up_marks.proofs.joining.search_above.Given as goal

-- none so far joins it
abbrev pub invariant-loop-above : goal.invariant-loop-above
invariant-loop-above l = record {
  later : l.place < l.above;
  none : NoneUpTo l.nodes l.place l.above;
}

abbrev pub decreases-loop-above : goal.decreases-loop-above
decreases-loop-above l = length l.nodes - l.above
