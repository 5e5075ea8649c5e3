use Rattle.std.proofs.Common.{◌≡◌, drop}
use Rattle.up_lint.specs.Circles.{started_after}
use Rattle.up_lint.proofs.circle.add_all.Given as goal

abbrev pub invariant-loop-job : goal.invariant-loop-job
invariant-loop-job l = started_after l.names l.commanded l.started (drop l.job-index l.jobs) ≡ started_after l.names l.commanded l.initial.started l.jobs
