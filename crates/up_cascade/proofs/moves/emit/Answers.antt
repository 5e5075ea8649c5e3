use Rattle.up_book.specs.Keys.{Stepping}
use Rattle.up_cascade.proofs.KeyLemmas.{placed}
use Rattle.up_cascade.proofs.moves.emit.Goals as goal

pub returns-in_ok-announce-in-Some-clause-events : goal.returns-in_ok-announce-in-Some-clause-events
returns-in_ok-announce-in-Some-clause-events g c config c' its s there k j event =
    let told = c.in_ok-event-in-Some.ensures Stepping config c' its s there in
    rw (c.in-Some.is, ← told) (c.in_ok-announce-in-Some.ensures.events config c' its.place s (placed config c' c.args.key its there) k j event)
