-- A run, one input more.
use Rattle.std.proofs.Common.{◌≡◌, suc, true, false, List, [], ◌∷◌, ◌++◌, length, take, Some, refl, sym, ◌∙◌, ap, arith}
use Rattle.std.proofs.Math.Seq.{take-append_seam, drop-append_seam}
use Rattle.up_model.specs.Configuration.{Configuration}
use Rattle.up_model.specs.declared.input.Input.{Input}
use Rattle.up_model.specs.declared.output.Output.{Output}
use Rattle.up_model.specs.declared.step.Step.{Step}
use Rattle.up_model.specs.declared.step.Step.TheVariants as step
use Rattle.up_model.specs.Answers.{after, is_expected, answer, next, answers, after_all}
use Rattle.up_model.specs.Chronicle.{Chronicle}
use Rattle.up_model.specs.Outputs.{outputs_of}
use Rattle.up_engine.specs.declared.engine.Engine.{Engine}
use Rattle.up_engine.specs.Stands.{Stands, DownAt, AnswerMeans, StepsMean}

-- an expected input is answered by its outputs
pub answered_expected : (outputs : List Output) (engine : Engine) (config : Configuration) (c : Chronicle) (given : Input)
    → is_expected given c ≡ true → outputs ≡ outputs_of (after config c given) → Stands engine config (after config c given) → AnswerMeans (Some (step.Gave outputs)) engine config c given
answered_expected outputs engine config c given expected same stands = (rw expected (ap step.Gave same), rw expected stands)

-- one that isn't expected leaves the engine with the same chronicle
pub answered_unexpected : (engine : Engine) (config : Configuration) (c : Chronicle) (given : Input)
    → is_expected given c ≡ false → Stands engine config c → AnswerMeans (Some step.NotExpected) engine config c given
answered_unexpected engine config c given unexpected stands = (rw unexpected refl, rw unexpected stands)

-- the answers to one input more
pub answers_push : (config : Configuration) (c : Chronicle) (inputs : List Input) (given : Input)
    → answers config c (inputs ++ given ∷ []) ≡ answers config c inputs ++ answer config (after_all config c inputs) given ∷ []
unfolding answers after_all
answers_push config c [] given = refl
answers_push config c (input ∷ inputs) given = ap (λ steps. answer config c input ∷ steps) (answers_push config (next config c input) inputs given)

-- the chronicle after one input more
pub after_all_push : (config : Configuration) (c : Chronicle) (inputs : List Input) (given : Input)
    → after_all config c (inputs ++ given ∷ []) ≡ next config (after_all config c inputs) given
unfolding after_all
after_all_push config c [] given = refl
after_all_push config c (input ∷ inputs) given = after_all_push config (next config c input) inputs given

-- there is an answer for each input
pub length-answers : (config : Configuration) (c : Chronicle) (inputs : List Input) → length (answers config c inputs) ≡ length inputs
unfolding answers
length-answers config c [] = refl
length-answers config c (input ∷ inputs) = ap suc (length-answers config (next config c input) inputs)

-- one answer more
pub answered_more : (steps : List Step) (answered : Step) (engine : Engine) (config : Configuration) (c : Chronicle) (inputs : List Input) (given : Input)
    → steps ≡ answers config c inputs → AnswerMeans (Some answered) engine config (after_all config c inputs) given
    → (steps ++ answered ∷ [] ≡ answers config c (inputs ++ given ∷ [])) × Stands engine config (after_all config c (inputs ++ given ∷ []))
answered_more steps answered engine config c inputs given so_far means = (
  rw (so_far, means.0) (sym (answers_push config c inputs given)),
  rw after_all_push means.1,
)

-- the steps before an expected input that ran out of memory
pub refused_run : (steps : List Step) (engine : Engine) (config : Configuration) (c : Chronicle) (inputs passed left : List Input) (given : Input)
    → inputs ≡ passed ++ given ∷ left → steps ≡ answers config c passed → is_expected given (after_all config c passed) ≡ true
    → DownAt engine config (after_all config c passed) → StepsMean true steps engine config c inputs
refused_run steps engine config c inputs passed left given whole so_far expected down =
    let count : length steps ≡ length passed = ap length so_far ∙ length-answers config c passed in
    let front : take (length steps) inputs ≡ passed = rw (count, whole) (take-append_seam passed (given ∷ left)) in
    (given, left, rw (count, whole) (drop-append_seam passed (given ∷ left)), rw front so_far, rw front expected, rw front down)

-- a list of no length has nothing in it
pub no_items : {X : Type 0} (xs : List X) → length xs ≡ 0 → xs ≡ []
no_items [] none = refl
no_items (x ∷ xs) none = absurd (omega arith)
