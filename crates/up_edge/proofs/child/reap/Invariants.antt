use Rattle.std.proofs.Common.{vec_len, ◌-◌}
use Rattle.up_edge.proofs.child.reap.Given as goal

abbrev pub decreases-loop-place : goal.decreases-loop-place
decreases-loop-place g l = vec_len l.helpers - l.place
