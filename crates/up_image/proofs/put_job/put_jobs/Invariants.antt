use Rattle.std.proofs.Common.{◌≡◌, ◌++◌, take}
use Rattle.std.specs.List.{flat_map}
use Rattle.up_image.specs.Image.{job_part}
use Rattle.up_image.specs.declared.version.Version.TheVariants.{Two}
use Rattle.up_image.proofs.put_job.put_jobs.Given as goal

-- what was there, and after it the jobs so far
abbrev pub invariant-loop-job : goal.invariant-loop-job
invariant-loop-job l = l.out.items ≡ l.fn.out.items ++ flat_map (job_part Two) (take l.job-index l.jobs)
