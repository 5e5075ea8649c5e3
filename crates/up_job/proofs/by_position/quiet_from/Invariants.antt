use Rattle.up_job.specs.Unblocking.{AreQuiet}
use Rattle.up_job.proofs.by_position.quiet_from.Given as goal

abbrev pub invariant-loop-job : goal.invariant-loop-job
invariant-loop-job l = AreQuiet l.job l.jobs
