use Rattle.std.proofs.Common.{◌≡◌, ◌∙◌, ◌++◌, Some, sym, subst}
use Rattle.up_book.specs.Keys.{Stepping}
use Rattle.up_cascade.specs.Settling.{settle_one, ListsAfter}
use Rattle.up_cascade.proofs.KeyLemmas.{one-some}
use Rattle.up_model.specs.Offers.{stop_offer}
use Rattle.up_cascade.proofs.hear.hear_stop.Goals as goal

pub returns-in_ok-stays-in-Some-clause-after : goal.returns-in_ok-stays-in-Some-clause-after
returns-in_ok-stays-in-Some-clause-after g c c' its e s there event =
    let config = c.args.setup.now in
    let made = sym c.in-Some.is ∙ c.in_ok-file.ensures Stepping config c' its s there in
    let same : its.file ≡ c.in-Some.file = sym (one-some c.in-Some.file its.file made) in
    subst (λ file. g.B.Book.stands c.hear_by.new.book Stepping config (settle_one 5 file its (stop_offer config file its.place e c' ++ c'))) (sym same)
    (c.in_ok-stays-in-Some.ensures.after c' its e s there event same)

pub returns-in_ok-stays-in-Some-clause-lists : goal.returns-in_ok-stays-in-Some-clause-lists
returns-in_ok-stays-in-Some-clause-lists g c c' its e s there event =
    let config = c.args.setup.now in
    let made = sym c.in-Some.is ∙ c.in_ok-file.ensures Stepping config c' its s there in
    let same : its.file ≡ c.in-Some.file = sym (one-some c.in-Some.file its.file made) in
    subst (λ file. ListsAfter c.in_ok-stays-in-Some.stays its c' (settle_one 5 file its (stop_offer config file its.place e c' ++ c'))) (sym same)
    (c.in_ok-stays-in-Some.ensures.lists c' its e s there event same)

pub returns-in_ok-stays-in-Some-clause-events : goal.returns-in_ok-stays-in-Some-clause-events
returns-in_ok-stays-in-Some-clause-events g c c' its e s there event k j known =
    let config = c.args.setup.now in
    let made = sym c.in-Some.is ∙ c.in_ok-file.ensures Stepping config c' its s there in
    let same : its.file ≡ c.in-Some.file = sym (one-some c.in-Some.file its.file made) in
    subst (λ file. g.B.Book.event_place c.hear_by.new.book (settle_one 5 file its (stop_offer config file its.place e c' ++ c')) k ≡ Some j) (sym same)
    (c.in_ok-stays-in-Some.ensures.events c' its e s there event same k j known)
