use Rattle.std.proofs.Common.{◌∙◌, ◌<◌, ◌≤◌, refl, ap, subst, sym, IsSome, option_map}
use Rattle.up_job.specs.Alarms.{AllFrom, AreFrom}
use Rattle.up_job.specs.JobLists.{job_of, list_of, changed_in, changed_at, instance_at}
use Rattle.up_job.specs.Lending.{stop_on_of, with_stop_on}
use Rattle.up_job.specs.Lists.{nth}
use Rattle.up_job.specs.Named.{AreInOrder}
use Rattle.up_job.specs.Unblocking.{AreCalm, AreQuiet}
use Rattle.up_job.proofs.AlarmLemmas.{from-changed}
use Rattle.up_job.proofs.EachJob.{each-with_at}
use Rattle.up_job.proofs.Places.{nth_get, set_with_at}
use Rattle.up_job.proofs.JobLemmas.{job_within, order-with_at}
use Rattle.up_job.proofs.WaitLemmas.{calm-with_at, none-with_at}
use Rattle.up_job.proofs.instances.Instances.stop_on_mut.Goals as goal

pub invariant_of-self-lent : goal.invariant_of-self-lent
invariant_of-self-lent c w =
    let jobs = c.self.inside.jobs.items in
    let there : IsSome (instance_at c.args.key jobs) = subst (λ js. IsSome (instance_at c.args.key js)) (sym c.self.view_is) c.requires in
    let key = c.args.key in
    let alarm = c.self.inside.alarm in
    let quiet = c.self.inside.quiet in
    let calm = c.self.inside.calm in
    let lent = changed_in key.at (with_stop_on w) in
    let is = set_with_at lent key.job jobs c.index_mut-job.result.now (job_within key jobs there) c.index_mut-job.ensures.value in (
      subst (AreInOrder job_of) (sym is) (order-with_at key.job lent (λ x. refl) jobs c.self.invariant.0),
      subst (AllFrom alarm) (sym is) (each-with_at (AreFrom alarm) key.job lent (from-changed alarm key.at (with_stop_on w) (λ x from. from)) jobs c.self.invariant.1),
      subst (AreQuiet quiet) (sym is) (none-with_at (λ n. n < quiet) key.job lent (λ job. calm-with_at key.at (with_stop_on w) (λ x h. h) job.instances) jobs c.self.invariant.2),
      subst (AreCalm calm) (sym is) (none-with_at (λ n. calm ≤ n) key.job lent (λ job. calm-with_at key.at (with_stop_on w) (λ x h. h) job.instances) jobs c.self.invariant.3),
    )

pub returns : goal.returns
returns c =
    let jobs = c.self.inside.jobs.items in
    let there : IsSome (instance_at c.args.key jobs) = subst (λ js. IsSome (instance_at c.args.key js)) (sym c.self.view_is) c.requires in
    let within = job_within c.args.key jobs there in
    let job = c.index_mut-job.result.now in (
      (
        refl,
        λ w. set_with_at (changed_in c.args.key.at (with_stop_on w)) c.args.key.job jobs job within c.index_mut-job.ensures.value
            ∙ ap (λ js. changed_at c.args.key (with_stop_on w) js) c.self.view_is,
      ),
      record {
        writes_back = tt;
        value = c.stop_on_mut.ensures.value
            ∙ ap (λ o. option_map stop_on_of (nth c.args.key.at (list_of o))) (sym (nth_get c.args.key.job jobs job within c.index_mut-job.ensures.value))
            ∙ ap (λ js. option_map stop_on_of (instance_at c.args.key js)) c.self.view_is;
      },
    )
