use Rattle.up_engine.proofs.Quiet.{idle-due}
use Rattle.up_cascade.proofs.Entries.{one_last}
use Rattle.up_engine.proofs.TurnLemmas.{turn_found, turn_none}
use Rattle.up_model.specs.Due.{effect, turn_event}
use Rattle.up_model.specs.Queue.{queue}
use Rattle.up_engine.proofs.due.take_turn.Goals as goal

pub returns-in_ok-concern-in-Some-clause-after : goal.returns-in_ok-concern-in-Some-clause-after
unfolding effect
returns-in_ok-concern-in-Some-clause-after g c config c' s =
    let found = turn_found (g.B.Book.event_place c.args.book.now c') (c.in-Some.id, c.in-Some.kind) (turn_event config (queue c') c') (c.in-Some.ensures config c' s) in
    rw (one_last, found.1.1) (c.in_ok-concern-in-Some.ensures.after config c' found.0 s found.1.0 found.1.1)

pub returns-in_ok-concern-in-Some-clause-concerns : goal.returns-in_ok-concern-in-Some-clause-concerns
returns-in_ok-concern-in-Some-clause-concerns g c config c' distinct s =
    let found = turn_found (g.B.Book.event_place c.args.book.now c') (c.in-Some.id, c.in-Some.kind) (turn_event config (queue c') c') (c.in-Some.ensures config c' s) in
    c.in_ok-concern-in-Some.ensures.concerns config distinct c' found.0 s found.1.0 found.1.1

pub returns-in-None-clause-concerns : goal.returns-in-None-clause-concerns
returns-in-None-clause-concerns g c config c' distinct s =
    idle-due config c' (turn_none (g.B.Book.event_place c.args.book.now c') (turn_event config (queue c') c') (rw c.in-None.is at (c.turn.ensures config c' s)))

pub returns-in_ok-concern-in-Some-clause-free : goal.returns-in_ok-concern-in-Some-clause-free
unfolding effect
returns-in_ok-concern-in-Some-clause-free g c config c' s free =
    let found = turn_found (g.B.Book.event_place c.args.book.now c') (c.in-Some.id, c.in-Some.kind) (turn_event config (queue c') c') (c.in-Some.ensures config c' s) in
    rw (one_last, found.1.1) (c.in_ok-concern-in-Some.ensures.free config c' found.0 s found.1.0 found.1.1 (rw found.1.1 at free))

pub returns-in_err-concern-in-Some-clause-free : goal.returns-in_err-concern-in-Some-clause-free
returns-in_err-concern-in-Some-clause-free g c config c' s free =
    let found = turn_found (g.B.Book.event_place c.args.book.now c') (c.in-Some.id, c.in-Some.kind) (turn_event config (queue c') c') (c.in-Some.ensures config c' s) in
    absurd (c.in_err-concern-in-Some.ensures.free config c' found.0 s found.1.0 found.1.1 (rw found.1.1 at free))
