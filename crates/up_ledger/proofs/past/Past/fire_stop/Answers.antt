use Rattle.std.proofs.Common.{◌∙◌, false, ap}
use Rattle.up_ledger.specs.declared.past.Past.{Past}
use Rattle.up_ledger.specs.Hearing.{trigger_at}
use Rattle.up_ledger.specs.Holding.{freed, all_changed, as_holders}
use Rattle.up_ledger.proofs.Seeing.{stop-fired, stop-taken}
use Rattle.up_ledger.specs.Eventing.{place_of}
use Rattle.up_ledger.proofs.Holds.{all-places, mild-free}
use Rattle.up_ledger.proofs.past.Past.fire_stop.Goals as goal

pub returns-clause-after : goal.returns-clause-after
returns-clause-after c config c' i ts f found in_jobs =
    let only = c.in_ok-taken.ensures.only in
    let firing = c.in_ok-taken.field-0 in
    stop-fired c.args.self.now _ config c' c.args.key i c.args.job.now (trigger_at c.args.key c.fire_stop_of.new.self.instances) firing ts f found in_jobs c.in_ok-taken.ensures.fires (ap (λ (p : Past). p.instances) only) (ap (λ (p : Past). p.starts) only)
    (c.free_ids.ensures ∙ ap (λ ids. all_changed (freed false) (as_holders ids) c.fire_stop_of.new.self.events) c.as_slice.ensures ∙ ap (λ (p : Past). all_changed (freed false) (as_holders firing.kept) p.events) only) (ap (λ (p : Past). p.reading) only)

pub returns-clause-taken : goal.returns-clause-taken
returns-clause-taken c config c' i ts f found in_jobs =
    let only = c.in_ok-taken.ensures.only in
    let firing = c.in_ok-taken.field-0 in
    stop-taken c.args.self.now _ config c' c.args.key i c.args.job.now (trigger_at c.args.key c.fire_stop_of.new.self.instances) firing ts f found in_jobs c.in_ok-taken.ensures.fires
    (c.free_ids.ensures ∙ ap (λ ids. all_changed (freed false) (as_holders ids) c.fire_stop_of.new.self.events) c.as_slice.ensures ∙ ap (λ (p : Past). all_changed (freed false) (as_holders firing.kept) p.events) only)

pub returns-clause-places : goal.returns-clause-places
returns-clause-places c lives id =
    ap (λ events. place_of events lives id) c.free_ids.ensures ∙ all-places (freed false) (as_holders c.as_slice.result.now) c.fire_stop_of.new.self.events lives id mild-free
    ∙ ap (λ (p : Past). place_of p.events lives id) c.in_ok-taken.ensures.only
