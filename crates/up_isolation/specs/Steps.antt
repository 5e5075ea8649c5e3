-- What a job does in each step of a run, beside the answers to its inputs.
use Rattle.std.specs.Prelude.{⊤, ◌≡◌, Bool, false, List, [], ◌∷◌, ◌++◌, if◌then◌else◌}
use Rattle.std.specs.Str.{bytes_eq}
use Rattle.up_model.specs.declared.input.Input.{Input}
use Rattle.up_model.specs.declared.output.Output.{Output}
use Rattle.up_model.specs.declared.output.Output.TheVariants as output
use Rattle.up_model.specs.declared.step.Step.{Step}
use Rattle.up_model.specs.declared.step.Step.TheVariants as step
use Rattle.up_model.specs.Answers.{after, is_expected, next}
use Rattle.up_model.specs.Chronicle.{Chronicle}
use Rattle.up_model.specs.Configuration.{Configuration}
use Rattle.up_model.specs.Values.{Bytes}
use Rattle.up_isolation.specs.Views.{AreAmong, deeds_in}

-- what a job does by an input: nothing by one that isn't expected
abbrev pub deeds_of_step : Bytes → Configuration → Chronicle → Input → List Output
deeds_of_step job config c given =
    if is_expected given c then deeds_in job (after config c given) else []

-- what it does by inputs, one after another
unfoldable pub deeds_by_step : Bytes → Configuration → Chronicle → List Input → List (List Output)
deeds_by_step job config c [] = []
deeds_by_step job config c (given ∷ inputs) =
    deeds_of_step job config c given ∷ deeds_by_step job config (next config c given) inputs

-- the outputs of all steps, in order
abbrev pub joined : List (List Output) → List Output
joined [] = []
joined (outputs ∷ steps) = outputs ++ joined steps

-- these are among what a step gave, in their order
abbrev pub AreOf : List Output → Step → Type 0
AreOf deeds (step.Gave outputs) = AreAmong deeds outputs
AreOf deeds step.NotExpected = deeds ≡ []

-- what is done in each step is among what that step gave, step by step
abbrev pub AreStepsOf : List (List Output) → List Step → Type 0
AreStepsOf [] [] = ⊤
AreStepsOf (deeds ∷ others) (answered ∷ steps) = AreOf deeds answered × AreStepsOf others steps
AreStepsOf [] (answered ∷ steps) = ⊥
AreStepsOf (deeds ∷ others) [] = ⊥

-- the outputs of steps, in order
abbrev pub outputs_in : List Step → List Output
outputs_in [] = []
outputs_in (step.Gave outputs ∷ steps) = outputs ++ outputs_in steps
outputs_in (step.NotExpected ∷ steps) = outputs_in steps

-- whether an output starts a process of the job, or is a signal to one
abbrev pub is_order_of : Bytes → Output → Bool
is_order_of job (output.Spawn order) = bytes_eq order.who.job job
is_order_of job (output.Signal who pid signal) = bytes_eq who.job job
is_order_of job (output.Emitted event) = false
is_order_of job (output.Reply id answer) = false

-- the job's starts and signals among some outputs
abbrev pub orders_of : Bytes → List Output → List Output
orders_of job [] = []
orders_of job (one ∷ outputs) = if is_order_of job one then one ∷ orders_of job outputs else orders_of job outputs
