use Rattle.std.proofs.Common.{◌∙◌, ℕ, List, map, true, replicate, ap}
use Rattle.up_event.specs.LiveEvents.{with_hold}
use Rattle.up_event.specs.declared.live.LiveEvent.{LiveEvent}
use Rattle.up_image.specs.Index.{named}
use Rattle.up_image.specs.declared.index.Place.{Place}
use Rattle.up_marks.specs.Naming.{of_expression}
use Rattle.up_model.specs.Values.{Bytes}
use Rattle.up_ledger.specs.Hearing.{trigger_in}
use Rattle.up_ledger.specs.Holding.{all_changed, as_holders}
use Rattle.up_ledger.proofs.Seeing.{StartOffer, start-offered, start-true}
use Rattle.up_ledger.specs.Eventing.{place_of}
use Rattle.up_ledger.proofs.Holds.{all-places, mild-hold}
use Rattle.up_ledger.proofs.past.Past.offer_start.Goals as goal

pub returns-clause-after : goal.returns-clause-after
returns-clause-after c config c' e f in_jobs in_force leaves placed =
    let book = c.args.self.now in
    let place = c.args.place in
    let only = c.in_ok-offer.ensures in
    let nodes : Bytes → List ℕ = λ name. map (λ (its : Place). its.node) (of_expression place true (named name c.args.index.now)) in
    let trigger = trigger_in place c.offer_to_start.new.self.starts.items in
    let o : StartOffer book place c.args.job.now c.args.id c.args.env.now trigger nodes c.in_ok-offer.offer = record { hears = only.hears; leaves = leaves } in
    start-offered book _ config c' place e c.args.job.now c.args.id c.args.env.now trigger nodes c.in_ok-offer.offer f in_jobs placed in_force o only.instances only.starts
    (c.in_ok-hold_times.ensures ∙ ap (λ (es : List LiveEvent). all_changed with_hold (as_holders (replicate c.in_ok-offer.offer.kept c.args.id)) es) only.events) only.reading

pub returns-clause-holds : goal.returns-clause-holds
returns-clause-holds c config c' e f in_jobs in_force leaves placed =
    let book = c.args.self.now in
    let place = c.args.place in
    let nodes : Bytes → List ℕ = λ name. map (λ (its : Place). its.node) (of_expression place true (named name c.args.index.now)) in
    let trigger = trigger_in place c.offer_to_start.new.self.starts.items in
    let o : StartOffer book place c.args.job.now c.args.id c.args.env.now trigger nodes c.in_ok-offer.offer = record { hears = c.in_ok-offer.ensures.hears; leaves = leaves } in
    start-true book config c' place e c.args.job.now c.args.id c.args.env.now trigger nodes c.in_ok-offer.offer f in_jobs placed in_force o

pub returns-clause-places : goal.returns-clause-places
returns-clause-places c lives id =
    ap (λ events. place_of events lives id) c.in_ok-hold_times.ensures ∙ all-places with_hold (as_holders (replicate c.in_ok-offer.offer.kept c.args.id)) c.offer_to_start.new.self.events lives id mild-hold
    ∙ ap (λ events. place_of events lives id) c.in_ok-offer.ensures.events
