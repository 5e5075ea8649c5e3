use Rattle.std.proofs.Common.{◌≡◌, map, take, drop}
use Rattle.up_job.specs.JobLists.{job_of, kept_job}
use Rattle.up_job.specs.Named.{AreInOrder}
use Rattle.up_job.proofs.KeptLists.{AreKept}
use Rattle.up_job.proofs.replacing.taken.Given as goal

-- the jobs so far have the instances of the old ones, and those to come find theirs
abbrev pub invariant-loop-job : goal.invariant-loop-job
invariant-loop-job l = record {
  order : AreInOrder job_of l.olds.items;
  taken : l.all.items ≡ map (kept_job l.fn.olds.items) (take l.job-index l.jobs);
  left : AreKept l.fn.olds.items l.olds.items (drop l.job-index l.jobs);
}
