use Rattle.std.proofs.Common.{◌≡◌, ◌∷◌, ◌++◌, Some, false, subst, append_assoc}
use Rattle.up_book.specs.Keys.{Stepping}
use Rattle.up_cascade.proofs.KeyLemmas.{placed}
use Rattle.up_model.specs.declared.state.State.TheVariants.{Waiting}
use Rattle.up_model.specs.Chronicle.{Entered, Queued, Entering}
use Rattle.up_model.specs.Replies.{releasing}
use Rattle.up_cascade.proofs.moves.enter_waiting.Goals as goal

pub returns-clause-events : goal.returns-clause-events
returns-clause-events g c config c' its s there k j event =
    let told = c.in_ok-event.ensures Stepping config c' its s there in
    let left = c.in_ok-leave.ensures.events config c' its.place s (placed config c' c.args.key its there) k j event in
    rw append_assoc (subst (λ ev. g.B.Book.event_place c.leave.new.self (releasing its.place false (Queued (Entering its.place Waiting) ev ∷ Entered its.place Waiting ∷ c')
    ++ Queued (Entering its.place Waiting) ev ∷ Entered its.place Waiting ∷ c') k ≡ Some j) told left)
