use Rattle.std.proofs.Common.{◌∙◌, ℕ, List, replicate, refl, ap}
use Rattle.up_event.specs.LiveEvents.{with_hold}
use Rattle.up_marks.specs.Naming.{naming_in}
use Rattle.up_model.specs.Values.{Bytes}
use Rattle.up_ledger.specs.declared.past.Past.{Past}
use Rattle.up_ledger.specs.Hearing.{trigger_at}
use Rattle.up_ledger.specs.Holding.{all_changed, as_holders}
use Rattle.up_ledger.proofs.Seeing.{StopOffer, stop-offered, stop-true}
use Rattle.up_ledger.specs.Eventing.{place_of}
use Rattle.up_ledger.proofs.Holds.{all-places, mild-hold}
use Rattle.up_ledger.proofs.past.Past.offer_stop.Goals as goal

pub returns-clause-after : goal.returns-clause-after
returns-clause-after c config c' i e f found in_jobs placed =
    let book = c.args.self.now in
    let key = c.args.key in
    let only = c.in_ok-offer.ensures.only in
    let nodes : Bytes → List ℕ = naming_in c.args.file.now.stop_on in
    let trigger = trigger_at key c.offer_to_stop.new.self.instances in
    let o : StopOffer book key c.args.file.now c.args.id c.in_ok-env.env trigger nodes c.in_ok-offer.offer = record { hears = c.in_ok-offer.ensures.hears; leaves = λ name. refl } in
    stop-offered book _ config c' key i e c.args.file.now c.args.id c.in_ok-env.env trigger nodes c.in_ok-offer.offer f found in_jobs placed (c.in_ok-env.ensures config c' i f found) o
    (ap (λ (p : Past). p.instances) only) (ap (λ (p : Past). p.starts) only)
    (c.in_ok-hold_times.ensures ∙ ap (λ (p : Past). all_changed with_hold (as_holders (replicate c.in_ok-offer.offer.kept c.args.id)) p.events) only) (ap (λ (p : Past). p.reading) only)

pub returns-clause-holds : goal.returns-clause-holds
returns-clause-holds c config c' i e f found in_jobs placed =
    let book = c.args.self.now in
    let key = c.args.key in
    let nodes : Bytes → List ℕ = naming_in c.args.file.now.stop_on in
    let trigger = trigger_at key c.offer_to_stop.new.self.instances in
    let o : StopOffer book key c.args.file.now c.args.id c.in_ok-env.env trigger nodes c.in_ok-offer.offer = record { hears = c.in_ok-offer.ensures.hears; leaves = λ name. refl } in
    stop-true book config c' key i e c.args.file.now c.args.id c.in_ok-env.env trigger nodes c.in_ok-offer.offer f found in_jobs placed (c.in_ok-env.ensures config c' i f found) o

pub returns-clause-places : goal.returns-clause-places
returns-clause-places c lives id =
    ap (λ events. place_of events lives id) c.in_ok-hold_times.ensures ∙ all-places with_hold (as_holders (replicate c.in_ok-offer.offer.kept c.args.id)) c.offer_to_stop.new.self.events lives id mild-hold
    ∙ ap (λ (p : Past). place_of p.events lives id) c.in_ok-offer.ensures.only
