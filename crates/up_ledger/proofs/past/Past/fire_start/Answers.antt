use Rattle.std.proofs.Common.{◌∙◌, List, false, ap}
use Rattle.up_event.specs.declared.live.LiveEvent.{LiveEvent}
use Rattle.up_ledger.specs.Hearing.{trigger_in}
use Rattle.up_ledger.specs.Holding.{freed, all_changed, as_holders}
use Rattle.up_ledger.proofs.Seeing.{forgets-fired-start, start-taken}
use Rattle.up_ledger.specs.Eventing.{place_of}
use Rattle.up_ledger.proofs.Holds.{all-places, mild-free}
use Rattle.up_ledger.proofs.past.Past.fire_start.Goals as goal

pub returns-clause-after : goal.returns-clause-after
returns-clause-after c config c' ts f in_jobs =
    let only = c.in_ok-taken.ensures in
    let firing = c.in_ok-taken.field-0 in
    forgets-fired-start c.args.self.now _ config c' c.args.place c.args.job.now (trigger_in c.args.place c.fire_start_of.new.self.starts.items) firing ts f in_jobs only.fires only.instances only.starts
    (c.free_ids.ensures ∙ ap (λ ids. all_changed (freed false) (as_holders ids) c.fire_start_of.new.self.events) c.as_slice.ensures ∙ ap (λ (es : List LiveEvent). all_changed (freed false) (as_holders firing.kept) es) only.events) only.reading

pub returns-clause-taken : goal.returns-clause-taken
returns-clause-taken c config c' ts f in_jobs =
    let only = c.in_ok-taken.ensures in
    let firing = c.in_ok-taken.field-0 in
    start-taken c.args.self.now _ config c' c.args.place c.args.job.now (trigger_in c.args.place c.fire_start_of.new.self.starts.items) firing ts f in_jobs only.fires
    (c.free_ids.ensures ∙ ap (λ ids. all_changed (freed false) (as_holders ids) c.fire_start_of.new.self.events) c.as_slice.ensures ∙ ap (λ (es : List LiveEvent). all_changed (freed false) (as_holders firing.kept) es) only.events)

pub returns-clause-places : goal.returns-clause-places
returns-clause-places c lives id =
    ap (λ events. place_of events lives id) c.free_ids.ensures ∙ all-places (freed false) (as_holders c.as_slice.result.now) c.fire_start_of.new.self.events lives id mild-free
    ∙ ap (λ events. place_of events lives id) c.in_ok-taken.ensures.events
