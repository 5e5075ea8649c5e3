use Rattle.std.proofs.Common.{◌≡◌, drop}
use Rattle.up_tools.specs.Changes.{job_named}
use Rattle.up_tools.proofs.changes.job_named.Given as goal

abbrev pub invariant-loop-job : goal.invariant-loop-job
invariant-loop-job l = job_named l.name l.jobs ≡ job_named l.name (drop l.job-index l.jobs)
