-- How often something can still be due, and doing it so often.
use Rattle.std.specs.Prelude.{ℕ, zero, suc, ◌+◌, Bool, true, false, not, List, [], ◌∷◌, ◌++◌, if◌then◌else◌, Option, None, Some, is_some}
use Rattle.up_model.specs.declared.state.Goal.{Goal}
use Rattle.up_model.specs.declared.state.Goal.TheVariants.{Start, Stop}
use Rattle.up_model.specs.declared.state.State.{State}
use Rattle.up_model.specs.declared.state.State.TheVariants.{Waiting, Starting, PreStart, Spawned, PostStart, Running, PreStop, Stopping, Killed, PostStop}
use Rattle.up_model.specs.Chronicle.{Chronicle, StartOn}
use Rattle.up_model.specs.Configuration.{Configuration}
use Rattle.up_model.specs.Due.{due}
use Rattle.up_model.specs.Files.{names_in_order}
use Rattle.up_model.specs.Instances.{Instance, all_instances}
use Rattle.up_model.specs.Offers.{is_open, offering}
use Rattle.up_model.specs.Readings.{goal, state_of, blocker}
use Rattle.up_model.specs.Replies.{unanswered}
use Rattle.up_model.specs.Seen.{was_offered}
use Rattle.up_model.specs.Values.{Bytes}

-- how many moves an instance can make before it waits for an event of its own, at most, by its goal and state and whether it waits
abbrev pub moves : Goal → State → (blocked : Bool) → ℕ
moves Start Waiting blocked = 1
moves Start Starting blocked = if blocked then 0 else 5
moves Start PreStart blocked = 4
moves Start Spawned blocked = 3
moves Start PostStart blocked = 2
moves Start Running blocked = 1
moves Start PreStop blocked = 2
moves Start Stopping blocked = if blocked then 0 else 3
moves Start Killed blocked = 2
moves Start PostStop blocked = 1
moves Stop Waiting blocked = 0
moves Stop Starting blocked = if blocked then 0 else 1
moves Stop PreStart blocked = 1
moves Stop Spawned blocked = 1
moves Stop PostStart blocked = 1
moves Stop Running blocked = 2
moves Stop PreStop blocked = 1
moves Stop Stopping blocked = if blocked then 0 else 3
moves Stop Killed blocked = 2
moves Stop PostStop blocked = 1

-- six for an expression that is still to be offered this step's event, more than the moves that an offer can bring
abbrev pub offer_work : (offers left : Bool) → ℕ
offer_work false left = 0
offer_work true true = 6
offer_work true false = 0

abbrev pub moves_at : ℕ → Chronicle → ℕ
moves_at instance c = moves (goal instance c) (state_of instance c) (is_some (blocker instance c))

-- the work of an instance: its moves, and the offer to its `stop on`
abbrev pub instance_work : Bool → ℕ → Chronicle → ℕ
instance_work offers instance c = moves_at instance c + offer_work offers (is_open instance c)

abbrev pub work_in : Bool → List Instance → Chronicle → ℕ
work_in offers [] c = 0
work_in offers (instance ∷ instances) c = instance_work offers instance.place c + work_in offers instances c

-- the offers to each job's `start on`
abbrev pub start_work : Bool → Bytes → Chronicle → ℕ
start_work offers job c = offer_work offers (not (was_offered (StartOn job) c))

abbrev pub starts_work : Bool → (names : List Bytes) → Chronicle → ℕ
starts_work offers [] c = 0
starts_work offers (name ∷ names) c = start_work offers name c + starts_work offers names c

-- the answer to a client that doesn't wait
abbrev pub answer_work : Option ℕ → ℕ
answer_work None = 0
answer_work (Some request) = 1

-- how many things can be due one after another, at most
unfoldable pub work : Configuration → Chronicle → ℕ
work config c =
    work_in (is_some (offering c)) (all_instances c) c + starts_work
    (is_some (offering c)) (names_in_order config c) c + answer_work (unanswered c)

-- what is due is done, so many times
unfoldable pub settle : ℕ → Configuration → Chronicle → Chronicle
settle zero config c = c
settle (suc n) config c = settle n config (due config c ++ c)
