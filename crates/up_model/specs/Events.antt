-- The events that an instance emits, and the environment of a start.
use Rattle.std.specs.Prelude.{ℕ, Bool, nat_eq, List, [], ◌∷◌, ◌++◌, codes, Option, None, Some, is_some, if◌then◌else◌}
use Rattle.std.specs.List.{ends_with}
use Rattle.std.specs.Fmt.{decimal}
use Rattle.up_stanza.specs.declared.process.Process.{Process}
use Rattle.up_stanza.specs.declared.process.Process.TheVariants as process
use Rattle.up_text.specs.Bindings.{value_of, set_in, set_all}
use Rattle.up_model.specs.declared.event.Event.{Event}
use Rattle.up_model.specs.declared.failure.Cause.{Cause}
use Rattle.up_model.specs.declared.failure.Cause.TheVariants as cause
use Rattle.up_model.specs.declared.failure.Failure.{Failure}
use Rattle.up_model.specs.declared.process.How.{How}
use Rattle.up_model.specs.declared.process.How.TheVariants as how
use Rattle.up_model.specs.declared.life.JobEvent.{JobEvent}
use Rattle.up_model.specs.declared.life.JobEvent.TheVariants as kind
use Rattle.up_model.specs.declared.who.Who.{Who}
use Rattle.up_model.specs.Chronicle.{Chronicle}
use Rattle.up_model.specs.Readings.{event_at}
use Rattle.up_model.specs.Signals.{signal_text}
use Rattle.up_model.specs.Values.{Bytes, Bindings}

-- which instance an event is about (starting(7), started(7))
abbrev pub about : Who → Bindings
about who = (codes "JOB", who.job) ∷ (codes "INSTANCE", who.instance) ∷ []

-- a process as events name it (stopping(7))
abbrev pub process_name : Process → Bytes
process_name process.Main = codes "main"
process_name process.PreStart = codes "pre-start"
process_name process.PostStart = codes "post-start"
process_name process.PreStop = codes "pre-stop"
process_name process.PostStop = codes "post-stop"

abbrev pub cause_name : Cause → Bytes
cause_name (cause.Process its) = process_name its
cause_name cause.Respawn = codes "respawn"

-- how the process ended that failed
abbrev pub ending : Option How → Bindings
ending None = []
ending (Some (how.Exit status)) = (codes "EXIT_STATUS", decimal status) ∷ []
ending (Some (how.Signal signal)) = (codes "EXIT_SIGNAL", signal_text signal) ∷ []

-- how a life went (stopping(7), stopped(7))
abbrev pub result : Option Failure → Bindings
result None = (codes "RESULT", codes "ok") ∷ []
result (Some failure) = (codes "RESULT", codes "failed") ∷ (codes "PROCESS", cause_name failure.cause)
    ∷ ending failure.how

-- an exported key that the environment has, unless a variable has the key
abbrev pub with_export : (key : Bytes) → Option Bytes → Bindings → Bindings
with_export key None vars = vars
with_export key (Some value) vars = if is_some (value_of key vars) then vars else set_in key value vars

-- the exported keys that the environment in force has, after what an event says already (init(5), "export")
abbrev pub with_exports : Bindings → List Bytes → Bindings → Bindings
with_exports environment [] vars = vars
with_exports environment (key ∷ keys) vars =
    with_exports environment keys (with_export key (value_of key environment) vars)

-- what an event of an instance's life says by itself: which instance it is about, and how its life went that may have failed
abbrev pub life_event : JobEvent → Who → Option Failure → Event
life_event kind.Starting who failure = record { name = codes "starting"; vars = about who }
life_event kind.Started who failure = record { name = codes "started"; vars = about who }
life_event kind.Stopping who failure = record { name = codes "stopping"; vars = about who ++ result failure }
life_event kind.Stopped who failure = record { name = codes "stopped"; vars = about who ++ result failure }

-- the event, with the keys that the job exports
abbrev pub exporting : Bindings → List Bytes → Event → Event
exporting environment keys event = record {
  name = event.name;
  vars =
      with_exports environment keys event.vars;
}

abbrev pub with_event : Option Event → List Event → List Event
with_event None events = events
with_event (Some event) events = event ∷ events

-- the events at these places
abbrev pub events_at : List ℕ → Chronicle → List Event
events_at [] c = []
events_at (place ∷ places) c = with_event (event_at place c) (events_at places c)

-- the variables of the events, set in turn
abbrev pub collected : Bindings → List Event → Bindings
collected bindings [] = bindings
collected bindings (event ∷ events) = collected (set_all bindings event.vars) events

-- the names of further events, each after a space
abbrev pub more_names : List Event → Bytes
more_names [] = []
more_names (event ∷ events) = 32 ∷ event.name ++ more_names events

-- the names of the events, separated by a space
abbrev pub names_of : List Event → Bytes
names_of [] = []
names_of (event ∷ events) = event.name ++ more_names events

-- the environment of a start by these events, on top of that of the job (init(5), "Job environment")
abbrev pub events_env : Bindings → List Event → Bindings
events_env environment events =
    set_in (codes "UPSTART_EVENTS") (names_of events) (collected environment events)

-- and with the instance that it starts
abbrev pub with_instance : Who → Bindings → Bindings
with_instance who environment =
    set_in (codes "UPSTART_INSTANCE") who.instance (set_in (codes "UPSTART_JOB") who.job environment)

-- what a stop by these events adds for pre-stop and post-stop (init(5), "Job environment")
abbrev pub stopped_by : List Event → Bindings
stopped_by events = set_in (codes "UPSTART_STOP_EVENTS") (names_of events) (collected [] events)

-- whether an event tells of the failure of another, by its name
abbrev pub tells_failure : Event → Bool
tells_failure event = ends_with nat_eq event.name (codes "/failed")

-- the event that tells that another was spoilt, with the same variables: none tells so of one that tells of a failure itself
-- (initctl(8), "emit")
abbrev pub failure_of_event : Option Event → Option Event
failure_of_event None = None
failure_of_event (Some event) =
    if tells_failure event then None
    else Some (record { name = event.name ++ codes "/failed"; vars = event.vars })
