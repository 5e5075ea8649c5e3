use Rattle.std.proofs.Common.{ap, sym, map}
use Rattle.up_job.specs.JobLists.{changed_at}
use Rattle.up_job.specs.Lending.{with_stop_on}
use Rattle.up_image.specs.declared.index.Place.{Place}
use Rattle.up_ledger.proofs.Hearings.{on-ok, hears, trigger-old, trigger-new}
use Rattle.up_ledger.proofs.hearing.offer_to_stop.Goals as goal

pub returns-clause-only : goal.returns-clause-only
returns-clause-only c =
    let jobs = c.args.instances.now in
    on-ok c.offer.result (ap (λ t. changed_at c.args.key (with_stop_on t) jobs) (sym (trigger-new c.args.key jobs _ c.offer.new.self c.stop_on_mut.ensures.value)))

pub returns-clause-hears : goal.returns-clause-hears
returns-clause-hears c =
    let jobs = c.args.instances.now in
    hears c.offer.result _ _ c.stop_on_mut.result.now c.offer.new.self c.args.condition.now (map (λ (place : Place). place.node) c.args.places.now) c.args.id c.args.event.now c.args.env.now
    (trigger-old c.args.key jobs c.stop_on_mut.result.now c.stop_on_mut.ensures.value) (trigger-new c.args.key jobs c.stop_on_mut.result.now c.offer.new.self c.stop_on_mut.ensures.value)
    c.offer.ensures.remembers c.offer.ensures.holds c.offer.ensures.uses
