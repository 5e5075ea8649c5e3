-- How instances move from state to state (the Upstart Cookbook's table of states).
-- Each of these is a list of entries to be put before the chronicle, newest first.
use Rattle.std.specs.Prelude.{ℕ, Bool, false, ◌&&◌, ◌||◌, not, List, [], ◌∷◌, ◌++◌, Option, None, Some, is_some}
use Rattle.up_stanza.specs.declared.action.Action.{Action}
use Rattle.up_stanza.specs.declared.process.Process.{Process}
use Rattle.up_stanza.specs.declared.process.Process.TheVariants as process
use Rattle.up_conf.specs.declared.job.JobDef.{JobDef}
use Rattle.up_model.specs.declared.event.Event.{Event}
use Rattle.up_model.specs.declared.life.EntryActions as table
use Rattle.up_model.specs.declared.life.JobEvent.{JobEvent}
use Rattle.up_model.specs.declared.state.State.{State}
use Rattle.up_model.specs.declared.who.Who.{Who}
use Rattle.up_model.specs.Chronicle.{Chronicle, Entry, Queued, Entered, Ordered, Signalled, Entering}
use Rattle.up_model.specs.Events.{life_event, exporting}
use Rattle.up_model.specs.Instances.{Instance, instances_of}
use Rattle.up_model.specs.Life.{Wait, ForStart, ForEvent, ForAnswer, ForProcess, ForChange, ForMain, wait_in, next_state, entering}
use Rattle.up_model.specs.Readings.{goal, state_of, was_restarted, env, failure, blocker, is_awaited, lives}
use Rattle.up_model.specs.Replies.{releasing}
use Rattle.up_model.specs.Predicates.{is_start, entries_if, or_else}
use Rattle.up_model.specs.Values.{Bytes}

-- what a process of a job runs
abbrev pub action_of : JobDef → Process → Option Action
action_of job process.Main = job.main
action_of job process.PreStart = job.pre_start
action_of job process.PostStart = job.post_start
action_of job process.PreStop = job.pre_stop
action_of job process.PostStop = job.post_stop

abbrev pub has_process : JobDef → Process → Bool
has_process job its = is_some (action_of job its)

-- an instance as it is known outside
abbrev pub who_of : JobDef → Instance → Who
who_of job instance = record { job = job.name; instance = instance.name }

-- an event of an instance's life, with the keys that its job exports (starting(7), started(7), stopping(7), stopped(7))
abbrev pub job_event : JobDef → Who → ℕ → JobEvent → Chronicle → Event
job_event job who instance kind c =
    exporting (env instance c) job.export (life_event kind who (failure instance c))

-- the event that is emitted on entering a state
abbrev pub emitting : JobDef → Who → ℕ → State → Option JobEvent → Chronicle → List Entry
emitting job who instance to None c = []
emitting job who instance to (Some kind) c =
    Queued (Entering instance to) (job_event job who instance kind c) ∷ []

-- the process that is ordered, if the job has it
abbrev pub ordering : JobDef → ℕ → Option Process → List Entry
ordering job instance None = []
ordering job instance (Some its) = entries_if (has_process job its) (Ordered instance its ∷ [])

-- an instance enters a state, with what the table says of that, but for its release
abbrev pub enter : JobDef → Who → ℕ → (to : State) → table.EntryActions → Chronicle → List Entry
enter job who instance to entry c =
    let entered = ordering job instance entry.orders ++ Entered instance to ∷ [] in
    entries_if (entry.kills && lives instance process.Main c) (Signalled instance job.kill_signal false ∷ [])
    ++ (emitting job who instance to entry.emits (entered ++ c) ++ entered)

-- and with its release
abbrev pub enter_whole : JobDef → Who → ℕ → (to : State) → table.EntryActions → Chronicle → List Entry
enter_whole job who instance to entry c =
    let entered = enter job who instance to entry c in
    entries_if entry.releases (releasing instance false (entered ++ c)) ++ entered

-- whether what an instance waits for has come
abbrev pub is_over : JobDef → ℕ → Wait → Chronicle → Bool
is_over job instance ForStart c = is_start (goal instance c)
is_over job instance ForEvent c = not (is_some (blocker instance c))
is_over job instance (ForAnswer its) c = not (has_process job its) || not (is_awaited instance its c)
is_over job instance (ForProcess its) c =
    not (has_process job its) || not (is_awaited instance its c || lives instance its c)
is_over job instance ForChange c =
    not (is_start (goal instance c)) || was_restarted instance c
    || (has_process job process.Main && not (lives instance process.Main c))
is_over job instance ForMain c = not (lives instance process.Main c)

abbrev pub may_leave : JobDef → ℕ → Chronicle → Bool
may_leave job instance c = is_over job instance (wait_in (state_of instance c)) c

-- the state that an instance enters next
abbrev pub next_of : JobDef → ℕ → Chronicle → State
next_of job instance c =
    next_state (goal instance c) (state_of instance c) (has_process job process.Main)
    (lives instance process.Main c)

-- an instance moves on
abbrev pub move : JobDef → Instance → Chronicle → List Entry
move job instance c =
    let to = next_of job instance.place c in
    enter_whole job (who_of job instance) instance.place to
    (entering to (state_of instance.place c) job.task) c

-- the move of an instance, if it may leave its state
abbrev pub move_of : JobDef → Instance → Chronicle → List Entry
move_of job instance c = entries_if (may_leave job instance.place c) (move job instance c)

-- the move of the first of these instances that may leave its state, by its file
abbrev pub move_in : List Instance → Chronicle → List Entry
move_in [] c = []
move_in (instance ∷ instances) c = or_else (move_of instance.file instance c) (move_in instances c)

-- the move of the first instance that may, of the jobs of these names
abbrev pub move_first : (names : List Bytes) → Chronicle → List Entry
move_first [] c = []
move_first (name ∷ names) c = or_else (move_in (instances_of name c) c) (move_first names c)
