-- What a daemon's engine answered: what it stands for, and what it gave for what it was fed.
use Rattle.std.specs.Prelude.{◌≡◌, List, [], map}
use Rattle.up_model.specs.declared.input.Input.{Input}
use Rattle.up_model.specs.declared.output.Output.{Output}
use Rattle.up_model.specs.declared.step.Step.{Step}
use Rattle.up_model.specs.declared.step.Step.TheVariants.{Gave, NotExpected}
use Rattle.up_model.specs.Answers.{answer, next, answers, after_all}
use Rattle.up_model.specs.Chronicle.{Chronicle}
use Rattle.up_model.specs.Configuration.{Configuration}
use Rattle.up_engine.specs.declared.engine.Engine.{Engine}
use Rattle.up_engine.specs.Stands.{Stands}

-- what a step gave: nothing if the input wasn't expected
abbrev pub outputs_in : Step → List Output
outputs_in (Gave outputs) = outputs
outputs_in NotExpected = []

-- an engine that stood for a chronicle was fed an input, gave these outputs, and stands for what is after
abbrev pub IsAnswered : Engine → Engine → Configuration → Chronicle → Input → List Output → Type 0
IsAnswered old new config c given outputs =
    Stands old config c → (outputs ≡ outputs_in (answer config c given))
    × Stands new config (next config c given)

-- after a chronicle these inputs were fed, these outputs were given for them, and the engine stands for what is after
pub record Told (engine : Engine) (fed : List Input) (given : List (List Output)) (config : Configuration)
    (c : Chronicle) : Type 0 where
  pub gave : given ≡ map outputs_in (answers config c fed)
  pub stands : Stands engine config (after_all config c fed)
