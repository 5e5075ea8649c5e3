-- What an engine stands for: a chronicle of its jobs and its base environment. These are the only definitions that read its fields.
use Rattle.std.specs.Prelude.{◌≡◌, ◌≤◌, ◌+◌, ◌∷◌, ℕ, Bool, true, false, List, length, take, drop, is_some, Option, None, Some, Result, Ok, Err}
use Rattle.up_engine.specs.declared.engine.Engine.{Engine}
use Rattle.up_engine.specs.declared.fault.StepError.{StepError}
use Rattle.up_engine.specs.declared.fault.StepError.TheVariants.{NotExpected, Down, Memory}
use Rattle.up_engine.specs.declared.run.Run.{Run}
use Rattle.up_book.specs.Keys.{Resting}
use Rattle.up_model.specs.declared.input.Input.{Input}
use Rattle.up_model.specs.declared.output.Output.{Output}
use Rattle.up_model.specs.declared.step.Step.{Step}
use Rattle.up_model.specs.Answers.{after, is_expected, answer, next, answers, after_all}
use Rattle.up_model.specs.Chronicle.{Chronicle}
use Rattle.up_model.specs.Configuration.{Configuration}
use Rattle.up_cascade.specs.Unfired.{IsAtRest}
use Rattle.up_model.specs.Due.{turn_event}
use Rattle.up_model.specs.Left.{spawns}
use Rattle.up_model.specs.Loads.{in_force}
use Rattle.up_model.specs.Outputs.{outputs_of}
use Rattle.up_model.specs.Queue.{queue}
-- the one line that names the book in use
use Rattle.up_ledger.specs.Ledgers.{Stands as BookStands}
use Rattle.up_ledger.specs.Lefts.{left_of_jobs}

-- the engine isn't down, and its book stands for this chronicle of a run that was started with this configuration
pub record Stands (engine : Engine) (config : Configuration) (c : Chronicle) : Type 0 where
  pub up : engine.down ≡ false
  pub setup : engine.setup ≡ in_force config c
  pub past : BookStands engine.book Resting (in_force config c) c
  -- nothing is left to do, and no expression is true that hasn't fired
  pub rest : IsAtRest (in_force config c) c

-- the engine is down
abbrev pub IsDown : Engine → Type 0
IsDown engine = engine.down ≡ true

-- the engine is down, and what it tells of its events is what held of this chronicle
pub record DownAt (engine : Engine) (config : Configuration) (c : Chronicle) : Type 0 where
  pub down : engine.down ≡ true
  pub live : engine.live ≡ length (queue c)
  pub turn : engine.turns ≡ is_some (turn_event (in_force config c) (queue c) c)

-- a result with its value seen in another way
abbrev pub result_map : {A B E : Type 0} → (A → B) → Result A E → Result B E
result_map f (Ok x) = Ok (f x)
result_map f (Err e) = Err e

-- What a step means, for each chronicle that the engine stood for. With outputs the input was expected, they are what the model
-- gives, and the engine stands for what is after; if the input wasn't expected it still stands for the same; if the engine ran out of
-- memory the input was expected, and the engine is down.
abbrev pub StepMeans : Result (List Output) StepError → Engine → Configuration → Chronicle → Input → Type 0
StepMeans (Ok outputs) engine config c given = (is_expected given c ≡ true)
    × (outputs ≡ outputs_of (after config c given)) × Stands engine config (after config c given)
StepMeans (Err NotExpected) engine config c given = (is_expected given c ≡ false) × Stands engine config c
StepMeans (Err Memory) engine config c given = (is_expected given c ≡ true) × DownAt engine config c
StepMeans (Err Down) engine config c given = ⊥

-- the same of the answer to one input of a run, and of none when memory ran out
abbrev pub AnswerMeans : Option Step → Engine → Configuration → Chronicle → Input → Type 0
AnswerMeans (Some answered) engine config c given = (answered ≡ answer config c given)
    × Stands engine config (next config c given)
AnswerMeans None engine config c given = (is_expected given c ≡ true) × DownAt engine config c

-- The steps of a run are the answers to its inputs, item by item. If the run is down they are the answers to the inputs before
-- the one that ran out of memory, which was expected.
abbrev pub StepsMean : Bool → List Step → Engine → Configuration → Chronicle → List Input → Type 0
StepsMean false steps engine config c inputs = (steps ≡ answers config c inputs)
    × Stands engine config (after_all config c inputs)
StepsMean true steps engine config c inputs =
    (given : Input) × (left : List Input) × (drop (length steps) inputs ≡ given ∷ left)
    × (steps ≡ answers config c (take (length steps) inputs))
    × (is_expected given (after_all config c (take (length steps) inputs)) ≡ true)
    × DownAt engine config (after_all config c (take (length steps) inputs))

-- What a run means: its steps, or that memory ran out before the first of them, so that nothing has changed.
abbrev pub RunMeans : Result Run StepError → Engine → Configuration → Chronicle → List Input → Type 0
RunMeans (Ok run) engine config c inputs = StepsMean run.down run.steps engine config c inputs
RunMeans (Err Memory) engine config c inputs = Stands engine config c
RunMeans (Err Down) engine config c inputs = ⊥
RunMeans (Err NotExpected) engine config c inputs = ⊥

-- how many processes its instances may still order before they wait for an event
abbrev pub left_of : Engine → ℕ
left_of engine = left_of_jobs engine.book.past.instances

-- What a step of an input that is no turn and no request leaves to be ordered: fewer, by at least the processes that it orders, and as
-- many as before if the input wasn't expected.
abbrev pub Spends : Result (List Output) StepError → (before after : ℕ) → Type 0
Spends (Ok outputs) before after = after + spawns outputs ≤ before
Spends (Err NotExpected) before after = after ≡ before
Spends (Err Memory) before after = Unit {0}
Spends (Err Down) before after = after ≡ before

-- What is told of an engine that isn't down: this, or that memory ran out.
abbrev pub TellsOf : {A : Type 0} → Result A StepError → A → Type 0
TellsOf (Ok told) means = told ≡ means
TellsOf (Err Memory) means = Unit {0}
TellsOf (Err Down) means = ⊥
TellsOf (Err NotExpected) means = ⊥
