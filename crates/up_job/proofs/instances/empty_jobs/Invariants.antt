use Rattle.std.proofs.Common.{◌≡◌, map, take}
use Rattle.up_job.specs.JobLists.{new_job}
use Rattle.up_job.proofs.instances.empty_jobs.Given as goal

abbrev pub invariant-loop-job : goal.invariant-loop-job
invariant-loop-job l = l.all.items ≡ map new_job (take l.job-index l.jobs)
