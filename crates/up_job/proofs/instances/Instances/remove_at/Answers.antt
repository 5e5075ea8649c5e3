use Rattle.std.proofs.Common.{◌<◌, ◌≤◌, refl, sym, subst}
use Rattle.up_job.specs.Alarms.{AllFrom, AreFrom}
use Rattle.up_job.specs.JobLists.{job_of, removed_in}
use Rattle.up_job.specs.Named.{AreInOrder}
use Rattle.up_job.specs.Unblocking.{AreCalm, AreQuiet}
use Rattle.up_job.proofs.AlarmLemmas.{from-removed}
use Rattle.up_job.proofs.EachJob.{each-with_at}
use Rattle.up_job.proofs.JobLemmas.{order-with_at}
use Rattle.up_job.proofs.WaitLemmas.{calm-without_at, none-with_at}
use Rattle.up_job.proofs.instances.Instances.remove_at.Goals as goal

pub invariant_of-self : goal.invariant_of-self
invariant_of-self c =
    let jobs = c.self.inside.jobs.items in
    let key = c.args.key in
    let alarm = c.self.inside.alarm in
    let quiet = c.self.inside.quiet in
    let calm = c.self.inside.calm in
    let rest = sym c.remove_at.ensures.rest in (
      subst (AreInOrder job_of) rest (order-with_at key.job (removed_in key.at) (λ x. refl) jobs c.self.invariant.0),
      subst (AllFrom alarm) rest (each-with_at (AreFrom alarm) key.job (removed_in key.at) (from-removed alarm key.at) jobs c.self.invariant.1),
      subst (AreQuiet quiet) rest (none-with_at (λ n. n < quiet) key.job (removed_in key.at) (λ job. calm-without_at key.at job.instances) jobs c.self.invariant.2),
      subst (AreCalm calm) rest (none-with_at (λ n. calm ≤ n) key.job (removed_in key.at) (λ job. calm-without_at key.at job.instances) jobs c.self.invariant.3),
    )
