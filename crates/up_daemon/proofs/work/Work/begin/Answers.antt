use Rattle.std.proofs.Common.{◌∙◌, [], sym, ap, length, refl, arith}
use Rattle.std.specs.Vec.Iter.{into_iter_items}
use Rattle.up_engine.proofs.RunLemmas.{no_items}
use Rattle.up_daemon.specs.Rounds.{Begins, HasBegun}
use Rattle.up_daemon.specs.RoundStates.{Beginning}
use Rattle.up_daemon.specs.Working.{state_of}
use Rattle.up_daemon.proofs.work.Work.begin.Goals as goal

pub loop-event-init : goal.loop-event-init
loop-event-init g c =
    let iterator = c.into_iter-event-iterator.ensures.into_iter_gives in
    record {
      goes = λ door source config chronicle start at. rw iterator.0 at;
      left = iterator.1 ∙ c.args.first.ok.0 ∙ ap length (sym iterator.0);
      numbers = refl;
    }

pub loop-event-preserved : goal.loop-event-preserved
loop-event-preserved g c =
    let taken = c.in-Some.ensures.steps in
    let before = c.loop-event.invariant in
    record {
      goes = λ door source config chronicle start at.
          let so_far = before.goes door source config chronicle start at in
          c.in_ok-take.ensures.takes config chronicle start (Beginning (into_iter_items c.next.new.self)) tt door source so_far.stands
          (λ outputs is. Begins c.in-Some.event (into_iter_items c.next.new.self) outputs (state_of c.loop-event.self (g.H.Host.calls c.loop-event.host) door source []) refl is (rw taken.0 at so_far.reaches));
      left = omega (arith, ap length taken.0, taken.1, before.left);
      numbers = c.in_ok-take.ensures.numbers ∙ before.numbers;
    }

pub returns-clause-goes : goal.returns-clause-goes
returns-clause-goes g c door source config chronicle start at =
    let before = c.loop-event.invariant in
    let so_far = before.goes door source config chronicle start at in
    let none = no_items (into_iter_items c.loop-event.event-iterator) (sym before.left ∙ c.in-None.ensures.steps.0) in
    record { stands = so_far.stands; reaches = HasBegun (state_of c.loop-event.self (g.H.Host.calls c.loop-event.host) door source []) refl (rw none at so_far.reaches) }
