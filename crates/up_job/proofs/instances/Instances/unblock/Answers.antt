use Rattle.std.proofs.Common.{◌<◌, ◌≤◌, refl, sym, subst}
use Rattle.up_job.specs.Alarms.{AllFrom, AreFrom}
use Rattle.up_job.specs.JobLists.{job_of, changed_in}
use Rattle.up_job.specs.Named.{AreInOrder}
use Rattle.up_job.specs.Unblocking.{AreCalm, AreQuiet, unblocked}
use Rattle.up_job.proofs.AlarmLemmas.{from-changed}
use Rattle.up_job.proofs.EachJob.{each-with_at}
use Rattle.up_job.proofs.JobLemmas.{order-with_at}
use Rattle.up_job.proofs.WaitLemmas.{calm-unblocked, none-with_at}
use Rattle.up_job.proofs.instances.Instances.unblock.Goals as goal

pub invariant_of-self : goal.invariant_of-self
invariant_of-self c =
    let jobs = c.self.inside.jobs.items in
    let key = c.in-Some.key in
    let alarm = c.self.inside.alarm in
    let quiet = c.quiet_from-self-inside.result in
    let calm = c.calm_from-self-inside.result in
    let change = changed_in key.at (unblocked c.args.event) in
    let after = sym c.unblock_at.ensures in (
      subst (AreInOrder job_of) after (order-with_at key.job change (λ x. refl) jobs c.self.invariant.0),
      subst (AllFrom alarm) after (each-with_at (AreFrom alarm) key.job change (from-changed alarm key.at (unblocked c.args.event) (λ x from. from)) jobs c.self.invariant.1),
      subst (AreQuiet quiet) after (none-with_at (λ n. n < quiet) key.job change (calm-unblocked c.args.event key.at) jobs (subst (AreQuiet quiet) c.as_slice.ensures.value c.quiet_from-self-inside.ensures)),
      subst (AreCalm calm) after (none-with_at (λ n. calm ≤ n) key.job change (calm-unblocked c.args.event key.at) jobs (subst (AreCalm calm) c.as_slice-2.ensures.value c.calm_from-self-inside.ensures)),
    )
