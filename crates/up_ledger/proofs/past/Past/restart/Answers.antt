use Rattle.std.proofs.Common.{◌∙◌, false, ap, refl}
use Rattle.up_event.specs.LiveEvents.{with_hold}
use Rattle.up_model.specs.Chronicle.{Restarted}
use Rattle.up_model.specs.Queue.{queue}
use Rattle.up_job.specs.declared.change.Change.TheVariants as change
use Rattle.up_ledger.specs.Eventing.{place_of}
use Rattle.up_ledger.specs.Holding.{freed, all_changed, held_by_kept}
use Rattle.up_ledger.proofs.Entering as entry
use Rattle.up_book.proofs.One.{there}
use Rattle.up_ledger.proofs.Starting.{forgets-holders}
use Rattle.up_ledger.proofs.past.Past.restart.Goals as goal

pub returns : goal.returns
returns c config c' i events f found same older live =
    let book = c.args.self.now in
    let places = place_of book.events (queue c') in
    let t = there places book.instances config c' c.args.key i f.lives.jobs found in
    let freed_by = c.free_held.ensures ∙ ap (λ k. all_changed (freed false) (held_by_kept k) c.hold_all.new.events) (c.at.ensures ∙ t.found) in
    forgets-holders book _ config c' (Restarted i events) c.args.key i (change.Restarts c.args.holders) t.kept c.args.holders f found (entry.is-restarted places config c' i c.args.holders events older same) older t.found (λ k. refl) live refl tt (λ p. refl) refl
    c.change_at.ensures refl (freed_by ∙ ap (all_changed (freed false) t.kept.holders) (c.in_ok-hold_all.ensures ∙ ap (λ hs. all_changed with_hold hs book.events) c.as_slice.ensures)) refl
