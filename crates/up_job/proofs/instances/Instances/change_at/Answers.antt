use Rattle.std.proofs.Common.{◌≤◌, length, arith, refl, sym, subst}
use Rattle.up_job.specs.Alarms.{AllFrom, AreFrom, alarm_after}
use Rattle.up_job.specs.Changes.{changed}
use Rattle.up_job.specs.JobLists.{job_of, changed_in, changed_at}
use Rattle.up_job.specs.Named.{AreInOrder}
use Rattle.up_job.specs.Unblocking.{AreCalm, AreQuiet}
use Rattle.up_job.proofs.AlarmLemmas.{after-earlier, after-keeps, earlier-all, from-changed}
use Rattle.up_job.proofs.EachJob.{each-with_at}
use Rattle.up_job.proofs.JobLemmas.{order-with_at}
use Rattle.up_job.proofs.WaitLemmas.{beyond-changed, quiet-changed}
use Rattle.up_job.proofs.instances.Instances.change_at.Goals as goal

pub invariant_of-self : goal.invariant_of-self
invariant_of-self c =
    let jobs = c.self.inside.jobs.items in
    let key = c.args.key in
    let its = c.args.its in
    let old = c.self.inside.alarm in
    let alarm = alarm_after its old in
    let all : length jobs ≤ c.len.result = omega (arith, c.len.ensures) in
    let from : AllFrom alarm (changed_at key (changed its) jobs) =
    each-with_at (AreFrom alarm) key.job (changed_in key.at (changed its)) (from-changed alarm key.at (changed its) (after-keeps its old)) jobs (earlier-all alarm old jobs (after-earlier its old) c.self.invariant.1) in (
      subst (AreInOrder job_of) (sym c.change_at.ensures) (order-with_at key.job (changed_in key.at (changed its)) (λ x. refl) jobs c.self.invariant.0),
      subst (AllFrom c.alarm_after-self-inside.result) (sym c.change_at.ensures) (subst (λ a. AllFrom a (changed_at key (changed its) jobs)) (sym c.alarm_after-self-inside.ensures) from),
      subst (AreQuiet c.quiet_after-self-inside.result) (sym c.change_at.ensures)
          (subst (λ n. AreQuiet n (changed_at key (changed its) jobs)) (sym c.quiet_after-self-inside.ensures) (quiet-changed c.self.inside.quiet its key.at key.job jobs c.self.invariant.2)),
      subst (AreCalm c.calm_after-self-inside.result) (sym c.change_at.ensures)
          (subst (λ n. AreCalm n (changed_at key (changed its) jobs)) (sym c.calm_after-self-inside.ensures)
          (beyond-changed c.self.inside.calm its key.at key.job c.len.result jobs all c.self.invariant.3)),
    )
