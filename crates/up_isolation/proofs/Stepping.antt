-- What a job does step by step is all that it does, and of each step's outputs.
use Rattle.std.proofs.Common.{◌≡◌, Bool, true, false, List, [], ◌∷◌, ◌++◌, refl, sym, ◌∙◌, ap, append_assoc}
use Rattle.std.proofs.Common.{append-nil, if◌then◌else◌}
use Rattle.up_model.specs.declared.input.Input.{Input}
use Rattle.up_model.specs.declared.step.Step.TheVariants as step
use Rattle.up_model.specs.Answers.{after, after_all, answers, is_expected, next}
use Rattle.up_model.specs.Chronicle.{Chronicle}
use Rattle.up_model.specs.Configuration.{Configuration}
use Rattle.up_model.specs.Outputs.{outputs_of}
use Rattle.up_model.specs.Values.{Bytes}
use Rattle.up_isolation.specs.Steps.{AreOf, AreStepsOf, deeds_by_step, deeds_of_step, joined}
use Rattle.up_isolation.specs.Views.{deeds, deeds_in}
use Rattle.up_isolation.proofs.Telling.{deeds-after, deeds-among}

-- what is done after one input is what was done before and what is done by it
deeds-next : (job : Bytes) (config : Configuration) (c : Chronicle) (given : Input)
    → deeds job (next config c given) ≡ deeds job c ++ deeds_of_step job config c given
deeds-next job config c given = by_case (is_expected given c)
  where
    by_case : (b : Bool) → deeds job (if b then after config c given else c)
        ≡ deeds job c ++ (if b then deeds_in job (after config c given) else [])
    by_case true = deeds-after job config c given
    by_case false = sym (append-nil (deeds job c))

-- all that is done after some inputs is what was done before and what is done in each step
pub deeds-joined : (job : Bytes) (config : Configuration) (c : Chronicle) (inputs : List Input)
    → deeds job (after_all config c inputs) ≡ deeds job c ++ joined (deeds_by_step job config c inputs)
unfolding after_all deeds_by_step
deeds-joined job config c [] = sym (append-nil (deeds job c))
deeds-joined job config c (given ∷ inputs) =
    deeds-joined job config (next config c given) inputs
    ∙ ap (λ xs. xs ++ joined (deeds_by_step job config (next config c given) inputs))
    (deeds-next job config c given)
    ∙ append_assoc (deeds job c) (deeds_of_step job config c given)
    (joined (deeds_by_step job config (next config c given) inputs))

-- of a run from its beginning
pub deeds-run : (job : Bytes) (config : Configuration) (inputs : List Input)
    → joined (deeds_by_step job config [] inputs) ≡ deeds job (after_all config [] inputs)
unfolding deeds
deeds-run job config inputs = sym (deeds-joined job config [] inputs)

-- what is done in each step is of what the step is answered
pub steps-of : (job : Bytes) (config : Configuration) (c : Chronicle) (inputs : List Input)
    → AreStepsOf (deeds_by_step job config c inputs) (answers config c inputs)
unfolding answers deeds_by_step
steps-of job config c [] = tt
steps-of job config c (given ∷ inputs) =
    (by_case (is_expected given c), steps-of job config (next config c given) inputs)
  where
    by_case : (b : Bool) → AreOf (if b then deeds_in job (after config c given) else [])
        (if b then step.Gave (outputs_of (after config c given)) else step.NotExpected)
    by_case true = deeds-among job (after config c given)
    by_case false = refl
