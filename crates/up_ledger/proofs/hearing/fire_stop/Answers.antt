use Rattle.std.proofs.Common.{ap, sym}
use Rattle.up_job.specs.JobLists.{changed_at}
use Rattle.up_job.specs.Lending.{with_stop_on}
use Rattle.up_ledger.proofs.Hearings.{on-ok, fires, trigger-old, trigger-new}
use Rattle.up_ledger.proofs.hearing.fire_stop.Goals as goal

pub returns-clause-only : goal.returns-clause-only
returns-clause-only c =
    let jobs = c.args.instances.now in
    on-ok c.fire.result (ap (λ t. changed_at c.args.key (with_stop_on t) jobs) (sym (trigger-new c.args.key jobs _ c.fire.new.self c.stop_on_mut.ensures.value)))

pub returns-clause-fires : goal.returns-clause-fires
returns-clause-fires c =
    let jobs = c.args.instances.now in
    fires c.fire.result _ _ c.stop_on_mut.result.now c.fire.new.self c.args.condition.now
    (trigger-old c.args.key jobs c.stop_on_mut.result.now c.stop_on_mut.ensures.value) (trigger-new c.args.key jobs c.stop_on_mut.result.now c.fire.new.self c.stop_on_mut.ensures.value)
    c.fire.ensures.taken c.fire.ensures.kept c.fire.ensures.remembers
