use Rattle.std.proofs.Common.{◌∙◌, Ok, sym, ap, refl, subst}
use Rattle.up_engine.proofs.FreeLemmas.{free-expected, true-false}
use Rattle.up_book.specs.Keys.{Resting}
use Rattle.up_engine.proofs.TurnLemmas.{turn_told}
use Rattle.up_engine.proofs.LeftLemmas.{left_after, sound_after}
use Rattle.up_engine.specs.Free.{IsFree}
use Rattle.up_cascade.specs.Unfired.{IsAtRest}
use Rattle.up_engine.proofs.Loading.{rest-after}
use Rattle.up_ledger.specs.Ledgers.{Stands}
use Rattle.up_model.specs.Answers.{after}
use Rattle.up_model.specs.Loads.{in_force}
use Rattle.up_engine.proofs.engine.Engine.step.Goals as goal

pub returns-then-not-expects-clause-meaning : goal.returns-then-not-expects-clause-meaning
returns-then-not-expects-clause-meaning c config c' s = (sym (c.expects.ensures config c' s) ∙ c.if-not-expects.true, s)

pub returns-in-Err-clause-meaning : goal.returns-in-Err-clause-meaning
returns-in-Err-clause-meaning c config c' s = (
  sym (c.expects.ensures config c' s) ∙ c.if-not-expects.false,
  record {
    down = refl;
    live = c.live_events-self.ensures Resting (in_force config c') c' s.past;
    turn = c.is_some-self.ensures ∙ turn_told _ _ _ (c.turn.ensures (in_force config c') c' s.past);
  },
)

pub returns-in-Ok-clause-meaning : goal.returns-in-Ok-clause-meaning
returns-in-Ok-clause-meaning c config c' s =
    let past = subst (λ conf. Stands c.args.self.now.book Resting conf c') (sym s.setup) s.past in
    let rest = subst (λ conf. IsAtRest conf c') (sym s.setup) s.rest in
    let force = c.in-Ok.ensures.setup config c' s.setup past rest in (
      sym (c.expects.ensures config c' s) ∙ c.if-not-expects.false,
      c.in-Ok.ensures.outputs config c' s.setup past rest,
      record {
        up = refl;
        setup = force;
        past = subst (λ conf. Stands c.step_book.new.book Resting conf (after config c' c.args.given)) force (c.in-Ok.ensures.after config c' s.setup past rest);
        rest = rest-after config c.args.given c' s.past.past.regular.known s.past.past.lives.distinct s.rest;
      },
    )

pub returns-in-Ok-clause-left : goal.returns-in-Ok-clause-left
returns-in-Ok-clause-left c calm =
    left_after c.args.self.now.setup c.step_book.new.setup c.args.self.now.book c.step_book.new.book c.args.given c.in-Ok.outputs.items calm (c.args.self.now.sound c.if-self.false) c.in-Ok.ensures.after c.in-Ok.ensures.outputs

pub invariant_of-self : goal.invariant_of-self
invariant_of-self c = record {
  sound = λ up. sound_after c.args.self.now.setup c.step_book.new.setup c.args.self.now.book c.step_book.new.book c.args.given (c.args.self.now.sound c.if-self.false) c.in-Ok.ensures.setup c.in-Ok.ensures.after;
}

pub returns-then-not-expects-clause-free : goal.returns-then-not-expects-clause-free
returns-then-not-expects-clause-free c config c' s free =
    let unexpected = sym (c.expects.ensures config c' s) ∙ c.if-not-expects.true in
    absurd (true-false (sym (free-expected (in_force config c') c' c.args.given free) ∙ unexpected))

pub returns-in-Err-clause-free : goal.returns-in-Err-clause-free
returns-in-Err-clause-free c config c' s free =
    let past = subst (λ conf. Stands c.args.self.now.book Resting conf c') (sym s.setup) s.past in
    absurd (c.in-Err.ensures.free c' past (subst (λ conf. IsFree conf c' c.args.given) (sym s.setup) free))

pub returns-in-Ok-clause-free : goal.returns-in-Ok-clause-free
returns-in-Ok-clause-free c config c' s free =
    let past = subst (λ conf. Stands c.args.self.now.book Resting conf c') (sym s.setup) s.past in
    ap Ok (c.in-Ok.ensures.free c' past (subst (λ conf. IsFree conf c' c.args.given) (sym s.setup) free))
