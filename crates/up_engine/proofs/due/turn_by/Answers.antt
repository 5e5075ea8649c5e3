use Rattle.std.proofs.Common.{◌≡◌, ◌∷◌, true, false, ap, subst, sym}
use Rattle.up_book.specs.Hearers.{IsDeaf}
use Rattle.up_engine.proofs.FreeLemmas.{event-handled}
use Rattle.up_model.specs.declared.input.Input.TheVariants.{Turn}
use Rattle.up_model.specs.Chronicle.{Given}
use Rattle.up_book.specs.Turning.{is_finish}
use Rattle.up_cascade.proofs.Effects.{turn-takes}
use Rattle.up_engine.proofs.TurnLemmas.{free_then}
use Rattle.up_model.specs.Due.{turn_event}
use Rattle.up_model.specs.Queue.{queue, live_at}
use Rattle.std.specs.Prelude.{Some}
use Rattle.up_engine.proofs.due.turn_by.Goals as goal

pub returns-in_ok-concern-in-Finish-clause-after : goal.returns-in_ok-concern-in-Finish-clause-after
returns-in_ok-concern-in-Finish-clause-after g c config c' e s known found =
    let is : is_finish c.args.kind ≡ true = ap is_finish c.in-Finish.is in
    rw is (c.in_ok-concern-in-Finish.ensures.after config c' e s known (free_then config c' e (is_finish c.args.kind) found is))

pub returns-in_ok-concern-in-Finish-clause-concerns : goal.returns-in_ok-concern-in-Finish-clause-concerns
returns-in_ok-concern-in-Finish-clause-concerns g c config distinct c' e s known found =
    let is : is_finish c.args.kind ≡ true = ap is_finish c.in-Finish.is in
    c.in_ok-concern-in-Finish.ensures.concerns config distinct c' e s known (free_then config c' e (is_finish c.args.kind) found is)
    (subst (λ b. turn_event config (queue c') c' ≡ Some (live_at e b)) is found)

pub returns-in-Handle-clause-concerns : goal.returns-in-Handle-clause-concerns
returns-in-Handle-clause-concerns g c config distinct c' e s known found = (e, turn-takes config c' e (is_finish c.args.kind) found (ap is_finish c.in-Handle.is), c.handle.ensures.events config c' e s known)

pub returns-in_ok-concern-in-Finish-clause-free : goal.returns-in_ok-concern-in-Finish-clause-free
returns-in_ok-concern-in-Finish-clause-free g c config c' e s known found free =
    let is : is_finish c.args.kind ≡ true = ap is_finish c.in-Finish.is in
    rw is (c.in_ok-concern-in-Finish.ensures.free config c' e s known (free_then config c' e (is_finish c.args.kind) found is) (rw is at free))

pub returns-in_err-concern-in-Finish-clause-free : goal.returns-in_err-concern-in-Finish-clause-free
returns-in_err-concern-in-Finish-clause-free g c config c' e s known found free =
    let is : is_finish c.args.kind ≡ true = ap is_finish c.in-Finish.is in
    absurd (c.in_err-concern-in-Finish.ensures.free config c' e s known (free_then config c' e (is_finish c.args.kind) found is) (rw is at free))

pub returns-in-Handle-clause-free : goal.returns-in-Handle-clause-free
returns-in-Handle-clause-free g c config c' e s known found free =
    let is : is_finish c.args.kind ≡ false = ap is_finish c.in-Handle.is in
    rw is (
      e,
      (
        c.handle.ensures.events config c' e s known,
        λ n job there.
            subst (λ event. IsDeaf job event c') (sym (event-handled e e (Given Turn ∷ c'))) ((rw is at free) n job there),
      ),
    )
