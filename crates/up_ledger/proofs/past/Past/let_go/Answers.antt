use Rattle.std.proofs.Common.{◌∙◌, [], false, ap, refl}
use Rattle.up_model.specs.Chronicle.{Released}
use Rattle.up_model.specs.Queue.{queue}
use Rattle.up_job.specs.declared.change.Change.TheVariants as change
use Rattle.up_ledger.specs.Eventing.{place_of}
use Rattle.up_ledger.specs.Holding.{freed, all_changed, held_by_kept}
use Rattle.up_ledger.proofs.Entering as entry
use Rattle.up_book.proofs.One.{there}
use Rattle.up_ledger.proofs.Starting.{forgets-holders}
use Rattle.up_ledger.proofs.Holds.{all-places, mild-free}
use Rattle.std.specs.Option.{option_copied}
use Rattle.up_ledger.proofs.past.Past.let_go.Goals as goal

pub returns-clause-after : goal.returns-clause-after
returns-clause-after c config c' i f found none =
    let book = c.args.self.now in
    let places = place_of book.events (queue c') in
    let t = there places book.instances config c' c.args.key i f.lives.jobs found in
    let freed_by = c.free_held.ensures ∙ ap (λ k. all_changed (freed false) (held_by_kept k) book.events) (c.at.ensures ∙ t.found) in
    forgets-holders book _ config c' (Released i false) c.args.key i (change.Releases c.args.none) t.kept [] f found (entry.is-released-all places config c' i false c.args.none none) tt t.found (λ k. none) tt refl tt (λ p. refl) refl
    c.change_at.ensures refl freed_by refl

pub returns-clause-places : goal.returns-clause-places
returns-clause-places c lives id = ap (λ events. place_of events lives id) c.free_held.ensures ∙ all-places (freed false) (held_by_kept (option_copied c.at.result)) c.args.self.now.events lives id mild-free
