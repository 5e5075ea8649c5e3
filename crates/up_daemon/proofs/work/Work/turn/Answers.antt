use Rattle.std.proofs.Common.{◌<◌, ◌+◌, ◌∙◌, [], refl, inl, inr, arith}
use Rattle.up_model.specs.Answers.{after_all}
use Rattle.up_daemon.specs.Rounds.{TakesTurn, HasTurned, most_turns}
use Rattle.up_daemon.specs.RoundStates.{TakingTurns}
use Rattle.up_daemon.specs.Working.{state_of}
use Rattle.up_daemon.proofs.Turns.{none_is, some_is}
use Rattle.up_daemon.proofs.work.Work.turn.Goals as goal

pub loop-turn-preserved : goal.loop-turn-preserved
loop-turn-preserved g c =
    let before = c.loop-turn.invariant in
    record {
      goes = λ door source config chronicle start at.
          let so_far = before.goes door source config chronicle start at in
          let history = after_all config chronicle c.loop-turn.self.log.fed.items in
          let few : c.loop-turn.turn < most_turns = c.loop-turn-test.true in
          c.in_ok-take.ensures.takes config chronicle start (TakingTurns (c.loop-turn.turn + 1)) tt door source so_far.stands
          (λ outputs is. TakesTurn c.loop-turn.turn outputs (state_of c.loop-turn.self (g.H.Host.calls c.loop-turn.host) door source []) refl few
          (some_is config history c.has_turn.result (c.has_turn.ensures.up config history so_far.stands) c.if-not-has_turn.false) is so_far.reaches);
      numbers = c.in_ok-take.ensures.numbers ∙ before.numbers;
    }

pub returns-then-not-has_turn-clause-turns : goal.returns-then-not-has_turn-clause-turns
returns-then-not-has_turn-clause-turns g c door source config chronicle start at =
    let so_far = c.loop-turn.invariant.goes door source config chronicle start at in
    let history = after_all config chronicle c.loop-turn.self.log.fed.items in
    record {
      stands = so_far.stands;
      reaches = HasTurned c.loop-turn.turn (state_of c.loop-turn.self (g.H.Host.calls c.loop-turn.host) door source []) refl
          (inr (none_is config history c.has_turn.result (c.has_turn.ensures.up config history so_far.stands) c.if-not-has_turn.true)) so_far.reaches;
    }

pub returns-clause-turns : goal.returns-clause-turns
returns-clause-turns g c door source config chronicle start at =
    let so_far = c.loop-turn.invariant.goes door source config chronicle start at in
    record {
      stands = so_far.stands;
      reaches = HasTurned c.loop-turn.turn (state_of c.loop-turn.self (g.H.Host.calls c.loop-turn.host) door source []) refl
          (inl (omega (arith, c.loop-turn-test.false))) so_far.reaches;
    }
