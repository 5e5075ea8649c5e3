-- What an engine's answers print.
use Rattle.std.specs.Prelude.{◌≡◌, ℕ, List, ◌++◌}
use Rattle.std.specs.List.{flat_map}
use Rattle.up_engine.specs.declared.engine.Engine.{Engine}
use Rattle.up_engine.specs.Stands.{Stands}
use Rattle.up_model.specs.declared.input.Input.{Input}
use Rattle.up_model.specs.Answers.{answers, after_all}
use Rattle.up_model.specs.Chronicle.{Chronicle}
use Rattle.up_model.specs.Configuration.{Configuration}
use Rattle.up_print.specs.Lines.{step_lines}

-- a text grew by the lines of the answers to these inputs after a chronicle, and the engine stands for what is after them
pub record Tells (old new : List ℕ) (engine : Engine) (config : Configuration) (c : Chronicle) (inputs : List Input) : Type 0 where
  pub text : new ≡ old ++ flat_map step_lines (answers config c inputs)
  pub stands : Stands engine config (after_all config c inputs)
