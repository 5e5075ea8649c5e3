-- What inputs show, one after another.
use Rattle.std.proofs.Common.{◌≡◌, ℕ, ◌<◌, ◌+◌, List, ◌∷◌, ◌++◌, ◌∙◌, ap, sym, subst, append_assoc, drop, get_or, length, suc, add-one, drop-cons}
use Rattle.up_engine.specs.declared.engine.Engine.{Engine}
use Rattle.up_engine.specs.Stands.{Stands}
use Rattle.up_model.specs.declared.input.Input.{Input}
use Rattle.up_model.specs.Answers.{answer, answers, next}
use Rattle.up_model.specs.Chronicle.{Chronicle}
use Rattle.up_model.specs.Configuration.{Configuration}
use Rattle.up_chart.specs.declared.clock.Clock.{Clock}
use Rattle.up_chart.specs.declared.moment.Moment.{Moment}
use Rattle.up_chart.specs.Moments.{clock_after, moments_from, step_moments, time_of}

-- after what was shown so far the other inputs show the rest of the whole
pub record Goes (shown : List Moment) (engine : Engine) (config : Configuration) (clock : Clock) (rest : List Input) (whole : List Moment) : Type 0 where
  pub past : Chronicle
  pub stands : Stands engine config past
  pub is : shown ++ moments_from clock rest (answers config past rest) ≡ whole

-- one input further
pub goes-on : (old new : List Moment) (before after : Engine) (config : Configuration) (clock : Clock) (given : Input) (rest : List Input) (whole : List Moment)
    → Goes old before config clock (given ∷ rest) whole
    → ((c : Chronicle) → Stands before config c → new ≡ old ++ step_moments (time_of (clock_after clock given)) given (answer config c given))
    → ((c : Chronicle) → Stands before config c → Stands after config (next config c given))
    → Goes new after config (clock_after clock given) rest whole
unfolding answers
goes-on old new before after config clock given rest whole goes added stands =
    let c = goes.past in
    let piece = step_moments (time_of (clock_after clock given)) given (answer config c given) in
    let others = moments_from (clock_after clock given) rest (answers config (next config c given) rest) in
    record {
      past = next config c given;
      stands = stands c goes.stands;
      is = ap (λ it. it ++ others) (added c goes.stands) ∙ append_assoc old piece others ∙ goes.is;
    }

-- the inputs from a place on are the one there and those after it
pub splits : (inputs : List Input) (i : ℕ) (given : Input) → i < length inputs → given ≡ get_or inputs i given → drop i inputs ≡ given ∷ drop (i + 1) inputs
splits inputs i given below is =
    drop-cons inputs i given below ∙ ap (λ it. it ∷ drop (suc i) inputs) (sym is) ∙ ap (λ n. given ∷ drop n inputs) (sym (add-one i))

-- the clock and what was shown, one input further
pub record Step (old new : List Moment) (before after : Engine) (clock read : Clock) (given : Input) (time : ℕ) : Type 0 where
  pub reads : read ≡ clock_after clock given
  pub timed : time ≡ time_of read
  pub added : (config : Configuration) (c : Chronicle) → Stands before config c → new ≡ old ++ step_moments time given (answer config c given)
  pub stands : (config : Configuration) (c : Chronicle) → Stands before config c → Stands after config (next config c given)

pub moved : (old new : List Moment) (before after : Engine) (config : Configuration) (clock read : Clock) (given : Input) (time : ℕ) (rest : List Input) (whole : List Moment)
    → Step old new before after clock read given time → Goes old before config clock (given ∷ rest) whole → Goes new after config read rest whole
moved old new before after config clock read given time rest whole step goes =
    subst (λ (it : Clock). Goes new after config it rest whole) (sym step.reads)
    (goes-on old new before after config clock given rest whole goes
    (λ c s. step.added config c s ∙ ap (λ (it : ℕ). old ++ step_moments it given (answer config c given)) (step.timed ∙ ap time_of step.reads))
    (λ c s. step.stands config c s))
