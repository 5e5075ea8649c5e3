-- A job's view, which is what comes to its notice, and its deeds, which are what it does. Neither names a
-- place: an event is known by its name and variables, an instance by its name, and a request by its id and
-- what it asks.
use Rattle.std.specs.Prelude.{⊤, ◌≡◌, ◌⊎◌, ℕ, Bool, true, false, ◌&&◌, ◌||◌, ◌==◌, List, [], ◌∷◌, ◌++◌}
use Rattle.std.specs.Prelude.{Option, None, Some, if◌then◌else◌}
use Rattle.std.specs.Str.{bytes_eq}
use Rattle.up_conf.specs.declared.job.JobDef.{JobDef}
use Rattle.up_expr.specs.Trees.{Tree, One, Both, Either}
use Rattle.up_stanza.specs.declared.process.Process.TheVariants.{Main}
use Rattle.up_model.specs.declared.event.Event.{Event}
use Rattle.up_model.specs.declared.input.Input.{Input}
use Rattle.up_model.specs.declared.input.Input.TheVariants as input
use Rattle.up_model.specs.declared.output.Output.{Output}
use Rattle.up_model.specs.declared.output.Output.TheVariants as output
use Rattle.up_model.specs.declared.request.Command.{Command}
use Rattle.up_model.specs.declared.request.Command.TheVariants as command
use Rattle.up_model.specs.declared.who.Who.{Who}
use Rattle.up_model.specs.Chronicle.{Chronicle, Entry, Given, Queued, Handled, Finished, Ordered, Signalled}
use Rattle.up_model.specs.Chronicle.{Replied, Loaded, Entering}
use Rattle.up_model.specs.Configuration.{Configuration, job_named}
use Rattle.up_model.specs.Held.{start_on_of}
use Rattle.up_model.specs.Instances.{Instance, instances_of}
use Rattle.up_model.specs.Loads.{in_force}
use Rattle.up_model.specs.Outputs.{order_of, signal_of, reply_of}
use Rattle.up_model.specs.Readings.{event_at, made_at, id_at, blocker, pid_of}
use Rattle.up_model.specs.Replies.{request_at}
use Rattle.up_model.specs.Requests.{RequestValue}
use Rattle.up_model.specs.Values.{Bytes}

-- whether an event of this name can match a leaf of an expression
abbrev pub has_leaf : (event : Bytes) → Tree → Bool
has_leaf event (One leaf) = bytes_eq event leaf.event
has_leaf event (Both left right) = has_leaf event left || has_leaf event right
has_leaf event (Either left right) = has_leaf event left || has_leaf event right

abbrev pub stands_in : (event : Bytes) → Option Tree → Bool
stands_in event None = false
stands_in event (Some tree) = has_leaf event tree

-- whether the name stands in the `stop on` of one of these instances: that of its own file
abbrev pub stands_in_stops : (event : Bytes) → List Instance → Bool
stands_in_stops event [] = false
stands_in_stops event (instance ∷ instances) =
    stands_in event instance.file.stop_on || stands_in_stops event instances

-- whether a job hears events of this name: it stands in an expression in force, which is the `start on` of the
-- job's file in force, or the `stop on` of an instance that exists
abbrev pub hears : Bytes → Configuration → (event : Bytes) → Chronicle → Bool
hears job config event c =
    stands_in event (start_on_of (job_named job config.jobs)) || stands_in_stops event (instances_of job c)

-- whether a request of this kind names a job: the others name an event or nothing
abbrev pub names_job : Command → Bool
names_job command.Start = true
names_job command.Stop = true
names_job command.Restart = true
names_job command.Status = true
names_job command.Reload = true
names_job other = false

-- whether a request names this job
abbrev pub asks : Bytes → RequestValue → Bool
asks job request = names_job request.command && bytes_eq request.name job

-- whether an input concerns a job: a request that names it, an answer or an end of one of its processes, a
-- reading of the clock
abbrev pub concerns : Bytes → Input → Bool
concerns job (input.Request id request) = asks job request
concerns job (input.Spawned who its pid) = bytes_eq who.job job
concerns job (input.Refused who its) = bytes_eq who.job job
concerns job (input.Ended who its how) = bytes_eq who.job job
concerns job (input.Clock reading) = true
concerns job (input.Emit event) = false
concerns job input.Turn = false
concerns job (input.Load id loaded) = false

-- the jobs of this name: one, or none
abbrev pub jobs_called : Bytes → List JobDef → List JobDef
jobs_called job [] = []
jobs_called job (its ∷ jobs) =
    if bytes_eq its.name job then its ∷ jobs_called job jobs else jobs_called job jobs

-- what comes to a job's notice, one item of its view
pub data Notice : Type 0 where
  -- an input that concerns it
  Received : (input : Input) → Notice
  -- a turn took up an event that it hears
  Arrived : (event : Event) → Notice
  -- the event finished by which its instance of this name was blocked
  Unblocked : (instance : Bytes) → Notice
  -- jobs came into force in place of those before: its file among them, or none
  Replaced : (files : List JobDef) → Notice

-- whether an instance is blocked by this event
abbrev pub is_blocked_by : (event : ℕ) → Option ℕ → Bool
is_blocked_by event None = false
is_blocked_by event (Some other) = other == event

-- those of some instances that wait for an event are unblocked by its finish
abbrev pub unblocked : (event : ℕ) → List Instance → Chronicle → List Notice
unblocked event [] c = []
unblocked event (instance ∷ instances) c = if is_blocked_by event (blocker instance.place c)
    then Unblocked instance.name ∷ unblocked event instances c else unblocked event instances c

-- an event that a turn took up arrives at a job that hears it
abbrev pub arrivals : Bytes → Configuration → Option Event → Chronicle → List Notice
arrivals job config None c = []
arrivals job config (Some event) c = if hears job config event.name c then Arrived event ∷ [] else []

-- what comes to a job's notice by an entry
abbrev pub notices : Bytes → Configuration → Entry → Chronicle → List Notice
notices job config (Given given) c = if concerns job given then Received given ∷ [] else []
notices job config (Handled event) c = arrivals job config (event_at event c) c
notices job config (Finished event) c = unblocked event (instances_of job c) c
notices job config (Loaded jobs) c = Replaced (jobs_called job jobs) ∷ []
notices job config entry c = []

-- the view in a run that started with a configuration: all that came to its notice, newest first
unfoldable pub view : Bytes → (start : Configuration) → Chronicle → List Notice
view job start [] = []
view job start (entry ∷ c) = notices job (in_force start c) entry c ++ view job start c

-- whether an instance, as it is known outside, is one of this job
abbrev pub is_of : Bytes → Option Who → Bool
is_of job None = false
is_of job (Some who) = bytes_eq who.job job

-- whether what was made at a place is an instance of this job
abbrev pub owns : Bytes → ℕ → Chronicle → Bool
owns job instance c = is_of job (made_at instance c)

-- whether what was given at a place is a request that names this job
abbrev pub was_asked : Bytes → Option RequestValue → Bool
was_asked job None = false
was_asked job (Some request) = asks job request

abbrev pub outputs_if : Bool → List Output → List Output
outputs_if true outputs = outputs
outputs_if false outputs = []

-- what a job does by an entry: the starts of its processes, the signals to them, the events of its instances,
-- and the answers to the requests that name it
abbrev pub deeds_by : Bytes → Entry → Chronicle → List Output
deeds_by job (Ordered instance its) c =
    outputs_if (owns job instance c) (order_of instance its c)
deeds_by job (Signalled instance signal by_timer) c =
    outputs_if (owns job instance c) (signal_of (made_at instance c) signal (pid_of instance Main c))
deeds_by job (Queued (Entering instance state) event) c =
    outputs_if (owns job instance c) (output.Emitted event ∷ [])
deeds_by job (Replied request answer) c =
    outputs_if (was_asked job (request_at request c)) (reply_of (id_at request c) answer)
deeds_by job entry c = []

-- the deeds: all that it did, oldest first
unfoldable pub deeds : Bytes → Chronicle → List Output
deeds job [] = []
deeds job (entry ∷ c) = deeds job c ++ deeds_by job entry c

-- what it did in the last step
unfoldable pub deeds_in : Bytes → Chronicle → List Output
deeds_in job [] = []
deeds_in job (Given given ∷ c) = []
deeds_in job (entry ∷ c) = deeds_in job c ++ deeds_by job entry c

-- these are among those, in their order
abbrev pub AreAmong : List Output → List Output → Type 0
AreAmong [] others = ⊤
AreAmong (one ∷ outputs) [] = ⊥
AreAmong (one ∷ outputs) (other ∷ others) =
    ((one ≡ other) × AreAmong outputs others) ⊎ AreAmong (one ∷ outputs) others
