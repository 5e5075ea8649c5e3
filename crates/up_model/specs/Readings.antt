-- Readings of the chronicle. Each looks back for the latest entry that fits, and computes when an entry is added.
use Rattle.std.specs.Prelude.{ℕ, Bool, true, false, ◌&&◌, ◌==◌, List, [], ◌∷◌, Option, None, Some, if◌then◌else◌, length, is_some}
use Rattle.up_conf.specs.declared.job.JobDef.{JobDef}
use Rattle.up_stanza.specs.declared.process.Process.{Process}
use Rattle.up_stanza.specs.declared.process.Process.TheVariants.{PreStop, PostStop}
use Rattle.up_text.specs.Bindings.{set_all}
use Rattle.up_model.specs.declared.event.Event.{Event}
use Rattle.up_model.specs.declared.failure.Failure.{Failure}
use Rattle.up_model.specs.declared.input.Input.TheVariants as input
use Rattle.up_model.specs.declared.state.Goal.{Goal}
use Rattle.up_model.specs.declared.state.Goal.TheVariants.{Start, Stop}
use Rattle.up_model.specs.declared.state.State.{State}
use Rattle.up_model.specs.declared.state.State.TheVariants as state
use Rattle.up_model.specs.declared.who.Who.{Who}
use Rattle.up_model.specs.Chronicle.{Chronicle, Entry, Given, Queued, Finished, Made, Aimed, Restarted, Released, Failed, Entered, Ordered, Entering}
use Rattle.up_model.specs.Predicates.{same_process, same_who}
use Rattle.up_model.specs.Values.{Bindings}

-- the entry at a place
abbrev pub entry_at : ℕ → Chronicle → Option Entry
entry_at place [] = None
entry_at place (entry ∷ c) = if length c == place then Some entry else entry_at place c

abbrev pub event_of : Option Entry → Option Event
event_of (Some (Queued origin event)) = Some event
event_of other = None

-- the event that was queued at a place
abbrev pub event_at : ℕ → Chronicle → Option Event
event_at place c = event_of (entry_at place c)

abbrev pub made_of : Option Entry → Option Who
made_of (Some (Made file name)) = Some (record { job = file.name; instance = name })
made_of other = None

-- the instance that was made at a place, as it is known outside
abbrev pub made_at : ℕ → Chronicle → Option Who
made_at place c = made_of (entry_at place c)

abbrev pub file_in : Option Entry → Option JobDef
file_in (Some (Made file name)) = Some file
file_in other = None

-- the job file of the instance that was made at a place: it keeps the one by which it was made
abbrev pub file_of : ℕ → Chronicle → Option JobDef
file_of place c = file_in (entry_at place c)

abbrev pub id_of : Option Entry → Option ℕ
id_of (Some (Given (input.Request id request))) = Some id
id_of (Some (Given (input.Load id loaded))) = Some id
id_of other = None

-- the number under which the request at a place is answered
abbrev pub id_at : ℕ → Chronicle → Option ℕ
id_at place c = id_of (entry_at place c)

-- where an instance is heading (initctl(8))
abbrev pub goal : ℕ → Chronicle → Goal
goal instance [] = Stop
goal instance (Aimed other aim environment its ∷ c) = if other == instance then aim else goal instance c
goal instance (entry ∷ c) = goal instance c

-- the state that an instance entered last, and waiting before the first (initctl(8))
abbrev pub state_of : ℕ → Chronicle → State
state_of instance [] = state.Waiting
state_of instance (Entered other entered ∷ c) = if other == instance then entered else state_of instance c
state_of instance (entry ∷ c) = state_of instance c

-- whether a restart of an instance was taken since it entered its state
abbrev pub was_restarted : ℕ → Chronicle → Bool
was_restarted instance [] = false
was_restarted instance (Restarted other its ∷ c) =
    if other == instance then true else was_restarted instance c
was_restarted instance (Entered other entered ∷ c) =
    if other == instance then false else was_restarted instance c
was_restarted instance (entry ∷ c) = was_restarted instance c

-- the environment that goes with the last start
abbrev pub pending_env : ℕ → Chronicle → Bindings
pending_env instance [] = []
pending_env instance (Aimed other Start environment its ∷ c) =
    if other == instance then environment else pending_env instance c
pending_env instance (entry ∷ c) = pending_env instance c

-- the environment in force: the one that was pending when starting was entered last (init(5), "Job environment")
abbrev pub env : ℕ → Chronicle → Bindings
env instance [] = []
env instance (Entered other state.Starting ∷ c) =
    if other == instance then pending_env instance c else env instance c
env instance (entry ∷ c) = env instance c

-- what the last stop adds for the processes that come after it; nothing if the goal is start
abbrev pub stop_env : ℕ → Chronicle → Bindings
stop_env instance [] = []
stop_env instance (Aimed other Start environment its ∷ c) =
    if other == instance then [] else stop_env instance c
stop_env instance (Aimed other Stop environment its ∷ c) =
    if other == instance then environment else stop_env instance c
stop_env instance (entry ∷ c) = stop_env instance c

-- whether a process gets that too
abbrev pub has_stop_env : Process → Bool
has_stop_env PreStop = true
has_stop_env PostStop = true
has_stop_env other = false

-- the environment of a process (init(5), "Job environment")
abbrev pub process_env : ℕ → Process → Chronicle → Bindings
process_env instance process c = if has_stop_env process then set_all (env instance c) (stop_env instance c)
    else env instance c

-- why an instance failed since it entered starting last: the first failure is kept, and a later one doesn't replace it
abbrev pub failure : ℕ → Chronicle → Option Failure
failure instance [] = None
failure instance (Failed other its ∷ c) = if other == instance then Some its else failure instance c
failure instance (Entered other state.Starting ∷ c) = if other == instance then None else failure instance c
failure instance (entry ∷ c) = failure instance c

-- the events and requests that an instance holds: they go with its goal, until it lets them go
abbrev pub holders : ℕ → Chronicle → List ℕ
holders instance [] = []
holders instance (Aimed other aim environment its ∷ c) = if other == instance then its else holders instance c
holders instance (Restarted other its ∷ c) = if other == instance then its else holders instance c
holders instance (Released other failed ∷ c) = if other == instance then [] else holders instance c
holders instance (entry ∷ c) = holders instance c

-- the states whose event an instance waits for (starting(7), stopping(7))
abbrev pub is_blocking : State → Bool
is_blocking state.Starting = true
is_blocking state.Stopping = true
is_blocking other = false

-- a place, unless it is the given one
abbrev pub without : ℕ → Option ℕ → Option ℕ
without place None = None
without place (Some other) = if other == place then None else Some other

-- the event that an instance waits for: its last starting or stopping event, until that has finished
abbrev pub blocker : ℕ → Chronicle → Option ℕ
blocker instance [] = None
blocker instance (Queued (Entering other entered) event ∷ c) =
    if (other == instance) && is_blocking entered then Some (length c) else blocker instance c
blocker instance (Finished event ∷ c) = without event (blocker instance c)
blocker instance (entry ∷ c) = blocker instance c

-- whether an input that names a process speaks of this process of an instance, which is known outside as `its`
abbrev pub speaks_of : Option Who → Process → Who → Process → Bool
speaks_of None process who named = false
speaks_of (Some its) process who named = same_who who its && same_process named process

-- whether a process of an instance was ordered and not answered since. It is asked of instances that exist, of which no two have
-- one name
abbrev pub is_awaited : ℕ → Process → Chronicle → Bool
is_awaited instance process [] = false
is_awaited instance process (Made file name ∷ c) =
    if length c == instance then false else is_awaited instance process c
is_awaited instance process (Ordered other its ∷ c) =
    if (other == instance) && same_process its process then true else is_awaited instance process c
is_awaited instance process (Given (input.Spawned who its pid) ∷ c) =
    if speaks_of (made_at instance c) process who its then false else is_awaited instance process c
is_awaited instance process (Given (input.Refused who its) ∷ c) =
    if speaks_of (made_at instance c) process who its then false else is_awaited instance process c
is_awaited instance process (entry ∷ c) = is_awaited instance process c

-- the number of a living process of an instance: it was spawned and has not ended since
abbrev pub pid_of : ℕ → Process → Chronicle → Option ℕ
pid_of instance process [] = None
pid_of instance process (Made file name ∷ c) = if length c == instance then None else pid_of instance process c
pid_of instance process (Given (input.Spawned who its pid) ∷ c) =
    if speaks_of (made_at instance c) process who its then Some pid else pid_of instance process c
pid_of instance process (Given (input.Ended who its how) ∷ c) =
    if speaks_of (made_at instance c) process who its then None else pid_of instance process c
pid_of instance process (entry ∷ c) = pid_of instance process c

-- whether a process of an instance lives
abbrev pub lives : ℕ → Process → Chronicle → Bool
lives instance process c = is_some (pid_of instance process c)
