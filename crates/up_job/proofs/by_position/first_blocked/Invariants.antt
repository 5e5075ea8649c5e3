use Rattle.up_job.proofs.Blocked.{AreFree}
use Rattle.up_job.proofs.by_position.first_blocked.Given as goal

-- none so far
abbrev pub invariant-loop-job : goal.invariant-loop-job
invariant-loop-job l = AreFree l.id l.job l.jobs
