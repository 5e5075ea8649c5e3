-- How many processes the instances may still order before they wait for an event.
use Rattle.std.specs.Prelude.{ℕ, ◌+◌, ◌≤◌, Bool, true, false, List, [], ◌∷◌, if◌then◌else◌, is_some}
use Rattle.up_model.specs.declared.input.Input.{Input}
use Rattle.up_model.specs.declared.input.Input.TheVariants as input
use Rattle.up_model.specs.declared.output.Output.{Output}
use Rattle.up_model.specs.declared.output.Output.TheVariants.{Spawn}
use Rattle.up_model.specs.declared.state.Goal.{Goal}
use Rattle.up_model.specs.declared.state.Goal.TheVariants.{Start, Stop}
use Rattle.up_model.specs.declared.state.State.{State}
use Rattle.up_model.specs.declared.state.State.TheVariants.{Waiting, Starting, PreStart, Spawned, PostStart, Running, PreStop, Stopping, Killed, PostStop}
use Rattle.up_model.specs.Answers.{after}
use Rattle.up_model.specs.Chronicle.{Chronicle}
use Rattle.up_model.specs.Configuration.{Configuration}
use Rattle.up_model.specs.Instances.{Instance, all_instances}
use Rattle.up_model.specs.Outputs.{outputs_of}
use Rattle.up_model.specs.Readings.{goal, state_of, blocker}

-- How many processes an instance can order before it waits for an event of its own, by its goal and state and whether it waits for one
-- now. On the way from starting these are pre-start, main and post-start, and then pre-stop, since the goal may become stop at any
-- time; after stopping it is post-stop.
abbrev pub left_in : Goal → State → (blocked : Bool) → ℕ
left_in Start Waiting blocked = 0
left_in Start Starting blocked = if blocked then 0 else 4
left_in Start PreStart blocked = 3
left_in Start Spawned blocked = 2
left_in Start PostStart blocked = 1
left_in Start Running blocked = 1
left_in Start PreStop blocked = 1
left_in Start Stopping blocked = if blocked then 0 else 1
left_in Start Killed blocked = 1
left_in Start PostStop blocked = 0
left_in Stop Waiting blocked = 0
left_in Stop Starting blocked = 0
left_in Stop PreStart blocked = 0
left_in Stop Spawned blocked = 0
left_in Stop PostStart blocked = 0
left_in Stop Running blocked = 1
left_in Stop PreStop blocked = 0
left_in Stop Stopping blocked = if blocked then 0 else 1
left_in Stop Killed blocked = 1
left_in Stop PostStop blocked = 0

abbrev pub left_at : ℕ → Chronicle → ℕ
left_at instance c = left_in (goal instance c) (state_of instance c) (is_some (blocker instance c))

abbrev pub left_among : List Instance → Chronicle → ℕ
left_among [] c = 0
left_among (instance ∷ instances) c = left_at instance.place c + left_among instances c

-- how many the instances that exist can order
unfoldable pub left : Chronicle → ℕ
left c = left_among (all_instances c) c

-- whether an input sets no goal to start and finishes no event: only turns and requests do
abbrev pub is_calm : Input → Bool
is_calm (input.Request id request) = false
is_calm input.Turn = false
is_calm given = true

-- how many processes outputs order
abbrev pub spawns : List Output → ℕ
spawns [] = 0
spawns (Spawn order ∷ outputs) = 1 + spawns outputs
spawns (other ∷ outputs) = spawns outputs

-- by an input it falls by at least the processes that are ordered
abbrev pub Spends : Configuration → Chronicle → Input → Type 0
Spends config c given =
    left (after config c given) + spawns (outputs_of (after config c given)) ≤ left c
