-- The inputs that the steps of a script give.
use Rattle.std.specs.Prelude.{List, [], ◌∷◌, replicate}
use Rattle.std.specs.List.{flat_map}
use Rattle.up_model.specs.declared.input.Input.{Input}
use Rattle.up_model.specs.declared.input.Input.TheVariants as input
use Rattle.up_script.specs.declared.scripted.StepInputs.{StepInputs}
use Rattle.up_script.specs.declared.scripted.StepInputs.TheVariants.{Nothing, One, Turns}

abbrev pub inputs_of_step : StepInputs → List Input
inputs_of_step Nothing = []
inputs_of_step (One given) = given ∷ []
inputs_of_step (Turns count) = replicate count input.Turn

abbrev pub inputs_of_steps : List StepInputs → List Input
inputs_of_steps steps = flat_map inputs_of_step steps
