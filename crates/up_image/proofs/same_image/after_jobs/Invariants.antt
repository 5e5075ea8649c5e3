use Rattle.std.proofs.Common.{◌≡◌, ◌++◌, take}
use Rattle.std.specs.List.{flat_map}
use Rattle.up_image.specs.Image.{job_part}
use Rattle.up_image.proofs.same_image.after_jobs.Given as goal

-- the bytes are the jobs so far, and after them the rest
abbrev pub invariant-loop-job : goal.invariant-loop-job
invariant-loop-job l = l.fn.bytes ≡ flat_map (job_part l.version) (take l.job-index l.jobs) ++ l.rest
