use Rattle.std.proofs.Common.{◌≡◌, ◌∙◌, Some, sym, subst}
use Rattle.up_book.specs.Keys.{Stepping}
use Rattle.up_cascade.specs.Settling.{settle_one, ListsAfter}
use Rattle.up_cascade.proofs.KeyLemmas.{one-some}
use Rattle.up_cascade.proofs.moves.moves_on.Goals as goal

pub returns-in_ok-stays-in-Some-clause-after : goal.returns-in_ok-stays-in-Some-clause-after
returns-in_ok-stays-in-Some-clause-after g c c' its s there =
    let config = c.args.setup.now in
    let made = sym c.in-Some.is ∙ c.in_ok-file.ensures Stepping config c' its s there in
    let same : its.file ≡ c.job.result.now = sym (one-some c.in-Some.file its.file made) ∙ sym c.job.ensures in
    subst (λ file. g.B.Book.stands c.moves.new.book Stepping config (settle_one 5 file its c')) (sym same) (c.in_ok-stays-in-Some.ensures.after c' its s there same)

pub returns-in_ok-stays-in-Some-clause-events : goal.returns-in_ok-stays-in-Some-clause-events
returns-in_ok-stays-in-Some-clause-events g c c' its s there k j known =
    let config = c.args.setup.now in
    let made = sym c.in-Some.is ∙ c.in_ok-file.ensures Stepping config c' its s there in
    let same : its.file ≡ c.job.result.now = sym (one-some c.in-Some.file its.file made) ∙ sym c.job.ensures in
    subst (λ file. g.B.Book.event_place c.moves.new.book (settle_one 5 file its c') k ≡ Some j) (sym same) (c.in_ok-stays-in-Some.ensures.events c' its s there same k j known)

pub returns-in_ok-stays-in-Some-clause-lists : goal.returns-in_ok-stays-in-Some-clause-lists
returns-in_ok-stays-in-Some-clause-lists g c c' its s there =
    let config = c.args.setup.now in
    let made = sym c.in-Some.is ∙ c.in_ok-file.ensures Stepping config c' its s there in
    let same : its.file ≡ c.job.result.now = sym (one-some c.in-Some.file its.file made) ∙ sym c.job.ensures in
    subst (λ file. ListsAfter c.in_ok-stays-in-Some.stays its c' (settle_one 5 file its c')) (sym same) (c.in_ok-stays-in-Some.ensures.lists c' its s there same)
