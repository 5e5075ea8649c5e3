use Rattle.std.proofs.Common.{refl, sym, subst}
use Rattle.up_job.specs.Alarms.{AllFrom}
use Rattle.up_job.specs.JobLists.{job_of, new_job}
use Rattle.up_job.specs.Named.{AreInOrder}
use Rattle.up_job.specs.Unblocking.{AreCalm}
use Rattle.up_job.proofs.AlarmLemmas.{all-new}
use Rattle.up_job.proofs.JobLemmas.{order-files}
use Rattle.up_job.proofs.WaitLemmas.{beyond-new, quiet-none}
use Rattle.up_job.proofs.instances.Instances.of_jobs.Goals as goal

pub invariant_of-result : goal.invariant_of-result
invariant_of-result c =
    let are = sym c.in_ok-jobs.ensures in (
      subst (AreInOrder job_of) are (order-files new_job (λ job. refl) c.args.jobs.now c.requires),
      subst (AllFrom _) are (all-new _ c.args.jobs.now),
      quiet-none _,
      subst (AreCalm 0) are (beyond-new 0 c.args.jobs.now),
    )
