use Rattle.std.proofs.Common.{◌∙◌, true, ap, refl}
use Rattle.up_model.specs.Queue.{queue}
use Rattle.up_ledger.specs.Eventing.{place_of}
use Rattle.up_ledger.specs.Holding.{freed, all_changed, held_by_kept}
use Rattle.up_book.proofs.One.{there}
use Rattle.up_ledger.proofs.Starting.{forgets-failed}
use Rattle.up_ledger.proofs.past.Past.let_go_failed.Goals as goal

pub returns : goal.returns
returns c config c' i f found none =
    let book = c.args.self.now in
    let places = place_of book.events (queue c') in
    let t = there places book.instances config c' c.args.key i f.lives.jobs found in
    let freed_by = c.free_held.ensures ∙ ap (λ k. all_changed (freed true) (held_by_kept k) book.events) (c.at.ensures ∙ t.found) in
    forgets-failed book _ config c' c.args.key i c.args.none t f c.len.ensures.distinct found none c.change_at.ensures refl freed_by refl
