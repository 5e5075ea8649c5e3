use Rattle.std.proofs.Common.{◌<◌, ◌≤◌, refl}
use Rattle.up_job.specs.Alarms.{AreFrom}
use Rattle.up_job.specs.InstanceLists.{new_instance}
use Rattle.up_job.specs.JobLists.{with_made}
use Rattle.up_job.proofs.AlarmLemmas.{from-made}
use Rattle.up_job.proofs.EachJob.{each-if_ok}
use Rattle.up_job.proofs.JobLemmas.{order-if_ok}
use Rattle.up_job.proofs.WaitLemmas.{calm-made, none-if_ok}
use Rattle.up_job.proofs.instances.Instances.add_at.Goals as goal

pub invariant_of-self : goal.invariant_of-self
invariant_of-self c =
    let old = c.self.inside.jobs.items in
    let alarm = c.self.inside.alarm in
    let quiet = c.self.inside.quiet in
    let calm = c.self.inside.calm in
    let new = new_instance c.args.name.now c.args.file c.args.stop_on in (
      order-if_ok c.add_at.result c.args.job (with_made new) (λ x. refl) old c.add_at.new.jobs.items c.add_at.ensures.added c.add_at.ensures.unchanged c.self.invariant.0,
      each-if_ok c.add_at.result (AreFrom alarm) c.args.job (with_made new) (from-made alarm new tt) old c.add_at.new.jobs.items c.add_at.ensures.added c.add_at.ensures.unchanged c.self.invariant.1,
      none-if_ok c.add_at.result (λ n. n < quiet) c.args.job (with_made new) (calm-made new refl) old c.add_at.new.jobs.items c.add_at.ensures.added c.add_at.ensures.unchanged c.self.invariant.2,
      none-if_ok c.add_at.result (λ n. calm ≤ n) c.args.job (with_made new) (calm-made new refl) old c.add_at.new.jobs.items c.add_at.ensures.added c.add_at.ensures.unchanged c.self.invariant.3,
    )
