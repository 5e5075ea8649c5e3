use Rattle.std.proofs.Common.{arith}
use Rattle.up_image.specs.Image.{job_part}
use Rattle.up_image.proofs.Comparing.{no_part_after}
use Rattle.up_image.proofs.same_image.after_jobs.Goals as goal

pub returns-in-None : goal.returns-in-None
returns-in-None c =
    let fails = rw c.in-None.is at c.in_ok-back.ensures in
    no_part_after (job_part c.args.version) c.args.jobs.now c.loop-job.job-index c.job-item.result c.args.bytes.now c.loop-job.rest.now (omega arith) c.loop-job.invariant (rw (← c.job-item.is) fails)
