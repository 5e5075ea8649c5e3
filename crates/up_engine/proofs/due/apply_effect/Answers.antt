use Rattle.std.proofs.Common.{◌++◌, subst, sym}
use Rattle.up_cascade.proofs.Effects.{effect-offers}
use Rattle.up_engine.proofs.Quiet.{event-due, reading-due}
use Rattle.up_engine.specs.Free.{ConcernsNone, IsFree}
use Rattle.up_model.specs.Due as model
use Rattle.up_engine.proofs.due.apply_effect.Goals as goal

pub returns-in_ok-take_event-in-Emit-clause-concerns : goal.returns-in_ok-take_event-in-Emit-clause-concerns
returns-in_ok-take_event-in-Emit-clause-concerns g c c' s = rw c.in-Emit.is (event-due c.args.setup.now _ c')

pub returns-in_ok-take_reading-in-Clock-clause-concerns : goal.returns-in_ok-take_reading-in-Clock-clause-concerns
returns-in_ok-take_reading-in-Clock-clause-concerns g c c' s = rw c.in-Clock.is (reading-due c.args.setup.now _ c' (effect-offers c.args.setup.now _ c' (λ no. no)))

pub returns-in_ok-concern-in-Turn-clause-free : goal.returns-in_ok-concern-in-Turn-clause-free
returns-in_ok-concern-in-Turn-clause-free g c c' s free =
    let config = c.args.setup.now in
    subst (λ given. ConcernsNone (g.B.Book.event_place c.take_turn.new.book) config (model.effect config given c' ++ c') c.in_ok-concern-in-Turn.concern) (sym c.in-Turn.is)
    (c.in_ok-concern-in-Turn.ensures.free config c' s (subst (IsFree config c') c.in-Turn.is free))
