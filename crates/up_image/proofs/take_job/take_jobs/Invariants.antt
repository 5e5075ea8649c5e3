use Rattle.std.proofs.Common.{◌≡◌, ◌-◌, []}
use Rattle.up_image.specs.Finding.{items_at, job_at}
use Rattle.up_image.proofs.take_job.take_jobs.Given as goal

-- what is left gives the whole
abbrev pub invariant-loop-i : goal.invariant-loop-i
invariant-loop-i l = items_at (job_at l.version) (l.count - l.i) l.jobs.items l.rest ≡ items_at (job_at l.version) l.count [] l.fn.bytes
