-- Turns that find no event.
use Rattle.std.proofs.Common.{◌≡◌, ℕ, zero, suc, List, [], ◌∷◌, ◌++◌, None, replicate, refl, sym, ◌∙◌, ap, subst}
use Rattle.up_model.specs.declared.input.Input.TheVariants.{Turn}
use Rattle.up_model.specs.declared.step.Step.TheVariants.{Gave}
use Rattle.up_model.specs.Answers.{after, is_expected, answers, after_all}
use Rattle.up_engine.proofs.Loading.{unloaded-after}
use Rattle.up_model.specs.Loads.{in_force}
use Rattle.up_model.specs.Chronicle.{Chronicle, Given}
use Rattle.up_model.specs.Configuration.{Configuration}
use Rattle.up_model.specs.Due.{due, turn_event, effect}
use Rattle.up_model.specs.Outputs.{outputs_of}
use Rattle.up_model.specs.Queue.{Live, queue}
use Rattle.up_model.proofs.HeldLaws.{held-given}
use Rattle.up_book.specs.Keys.{Resting}
use Rattle.up_ledger.proofs.Giving.{forgets-turn}
use Rattle.up_ledger.proofs.Ledgers.{found-same, stood}
use Rattle.up_engine.specs.declared.engine.Engine.{Engine}
use Rattle.up_engine.specs.Stands.{Stands}
use Rattle.up_cascade.proofs.Unfired.{none-entry}
use Rattle.up_engine.proofs.Quiet.{idle-due, after-quiet}

turn-same : (config : Configuration) (lives : List Live) (c : Chronicle) → turn_event config lives (Given Turn ∷ c) ≡ turn_event config lives c
turn-same config [] c = refl
turn-same config (live ∷ lives) c = rw (held-given config live.place Turn c, turn-same config lives c) refl

-- such a turn is all that happens
idle-effect : (config : Configuration) (c : Chronicle) → turn_event config (queue c) c ≡ None → effect config Turn c ++ c ≡ Given Turn ∷ c
unfolding effect
idle-effect config c none = rw none refl

idle-after : (start : Configuration) (c : Chronicle) → turn_event (in_force start c) (queue c) c ≡ None → due (in_force start c) c ≡ [] → after start c Turn ≡ Given Turn ∷ c
idle-after start c none rests =
    let config = in_force start c in
    sym (unloaded-after start c Turn refl) ∙ sym (after-quiet config Turn c (idle-due config c none rests)) ∙ idle-effect config c none

idle-stands : (engine : Engine) (start : Configuration) (c : Chronicle) → Stands engine start c → turn_event (in_force start c) (queue c) c ≡ None → Stands engine start (Given Turn ∷ c)
idle-stands engine start c s none = let config = in_force start c in record {
  up = s.up;
  setup = s.setup;
  past = stood engine.book Resting config (Given Turn ∷ c) (forgets-turn engine.book.past config c s.past.past) s.past.index tt
      (found-same engine.book.others config c (Given Turn ∷ c) (λ job. refl) s.past.found);
  rest = record { rested = subst (λ d. due config d ≡ []) (idle-effect config c none) (idle-due config c none s.rest.rested); untrue = none-entry config (Given Turn) c tt s.rest.untrue };
}

-- so the engine stands for as many of them as there are, and none asks for anything
pub idle-turns : (engine : Engine) (config : Configuration) (c : Chronicle) (count : ℕ) → Stands engine config c → turn_event (in_force config c) (queue c) c ≡ None
    → Stands engine config (after_all config c (replicate count Turn)) × (answers config c (replicate count Turn) ≡ replicate count (Gave []))
unfolding is_expected answers after_all outputs_of
idle-turns engine config c zero s none = (s, refl)
idle-turns engine config c (suc count) s none =
    let d : Chronicle = Given Turn ∷ c in
    let same = idle-after config c none s.rest.rested in
    let rest = idle-turns engine config d count (idle-stands engine config c s none) (turn-same (in_force config c) (queue c) c ∙ none) in (
      subst (λ f. Stands engine config (after_all config f (replicate count Turn))) (sym same) rest.0,
      ap (λ f. Gave (outputs_of f) ∷ answers config f (replicate count Turn)) same ∙ ap (λ steps. Gave [] ∷ steps) rest.1,
    )
