use Rattle.std.proofs.Common.{◌∙◌, ◌<◌, ap, sym, map, length, arith}
use Rattle.up_image.specs.declared.index.Place.{Place}
use Rattle.up_job.specs.Lists.{with_at}
use Rattle.up_ledger.proofs.Hearings.{on-ok, hears, start-old, start-new}
use Rattle.up_book.proofs.Lists.{set_with_at}
use Rattle.up_ledger.proofs.hearing.offer_to_start.Goals as goal

pub returns-clause-only : goal.returns-clause-only
returns-clause-only c =
    let triggers = c.args.starts.now.items in
    let within : c.args.job < length triggers = omega (arith, c.if-job-len.false, c.len.ensures) in
    on-ok c.offer.result (set_with_at (λ old. c.offer.new.self) c.args.job triggers c.index_mut.result.now within c.index_mut.ensures.value
    ∙ ap (λ t. with_at c.args.job (λ old. t) triggers) (sym (start-new c.args.job triggers c.offer.new.self within)))

pub returns-clause-hears : goal.returns-clause-hears
returns-clause-hears c =
    let triggers = c.args.starts.now.items in
    let within : c.args.job < length triggers = omega (arith, c.if-job-len.false, c.len.ensures) in
    hears c.offer.result _ _ c.index_mut.result.now c.offer.new.self c.args.condition.now (map (λ (place : Place). place.node) c.args.places.now) c.args.id c.args.event.now c.args.env.now
    (start-old c.args.job triggers c.index_mut.result.now within c.index_mut.ensures.value) (start-new c.args.job triggers c.offer.new.self within)
    c.offer.ensures.remembers c.offer.ensures.holds c.offer.ensures.uses
