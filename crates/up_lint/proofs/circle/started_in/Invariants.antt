use Rattle.std.proofs.Common.{◌≡◌, length, []}
use Rattle.up_lint.specs.Circles.{rounds}
use Rattle.up_lint.proofs.circle.started_in.Given as goal

-- the rounds that are left
abbrev pub invariant-rounds : goal.invariant-rounds
invariant-rounds l = rounds l.left l.names l.commanded l.jobs l.started ≡ rounds (length l.jobs) l.names l.commanded l.jobs []

abbrev pub decreases-rounds : goal.decreases-rounds
decreases-rounds l = l.left
