use Rattle.std.proofs.Common.{◌∙◌, false, ap, refl}
use Rattle.up_event.specs.LiveEvents.{with_hold}
use Rattle.up_model.specs.Chronicle.{Aimed}
use Rattle.up_model.specs.declared.state.Goal.TheVariants.{Start}
use Rattle.up_model.specs.Queue.{queue}
use Rattle.up_job.specs.declared.change.Change.TheVariants as change
use Rattle.up_ledger.specs.Eventing.{place_of}
use Rattle.up_ledger.specs.Holding.{freed, all_changed, held_by_kept}
use Rattle.up_ledger.proofs.Entering as entry
use Rattle.up_book.proofs.One.{there}
use Rattle.up_ledger.proofs.Starting.{forgets-holders}
use Rattle.up_ledger.proofs.Holds.{all-places, mild-free, mild-hold}
use Rattle.std.specs.Option.{option_copied}
use Rattle.up_ledger.proofs.past.Past.start.Goals as goal

pub returns-clause-after : goal.returns-clause-after
returns-clause-after c config c' i events f found same older live =
    let book = c.args.self.now in
    let places = place_of book.events (queue c') in
    let t = there places book.instances config c' c.args.key i f.lives.jobs found in
    let freed_by = c.free_held.ensures ∙ ap (λ k. all_changed (freed false) (held_by_kept k) c.hold_all.new.events) (c.at.ensures ∙ t.found) in
    forgets-holders book _ config c' (Aimed i Start c.args.environment events) c.args.key i (change.Starts c.args.environment c.args.holders) t.kept c.args.holders f found (entry.is-started places config c' i c.args.environment c.args.holders events older same) older t.found (λ k. refl) live refl tt (λ p. refl) refl
    c.change_at.ensures refl (freed_by ∙ ap (all_changed (freed false) t.kept.holders) (c.in_ok-hold_all.ensures ∙ ap (λ hs. all_changed with_hold hs book.events) c.as_slice.ensures)) refl

pub returns-clause-places : goal.returns-clause-places
returns-clause-places c lives id =
    ap (λ events. place_of events lives id) c.free_held.ensures ∙ all-places (freed false) (held_by_kept (option_copied c.at.result)) c.hold_all.new.events lives id mild-free
    ∙ ap (λ events. place_of events lives id) c.in_ok-hold_all.ensures ∙ all-places with_hold c.as_slice.result.now c.args.self.now.events lives id mild-hold
