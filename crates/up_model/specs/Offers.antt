-- How the event of a turn is offered to the expressions, and what one does that fires (init(5), "start on" and "stop on").
-- Each of these is a list of entries to be put before the chronicle, newest first.
use Rattle.std.specs.Prelude.{ℕ, nat_lt, Bool, true, false, not, ◌||◌, ◌==◌, List, [], ◌∷◌, ◌++◌, Option, None, Some, if◌then◌else◌, length}
use Rattle.up_conf.specs.declared.job.JobDef.{JobDef}
use Rattle.up_model.specs.declared.event.Event.{Event}
use Rattle.up_model.specs.declared.state.Goal.TheVariants.{Start, Stop}
use Rattle.up_model.specs.declared.who.Who.{Who}
use Rattle.up_model.specs.Chronicle.{Chronicle, Entry, Given, Handled, Offered, Fired, Made, Aimed, StartOn, StopOn}
use Rattle.up_model.specs.Configuration.{Configuration, job_named}
use Rattle.up_model.specs.Environments.{env_of_job, start_base, instance_name}
use Rattle.up_model.specs.Events.{events_at, events_env, with_instance, stopped_by}
use Rattle.up_model.specs.Files.{names_in_order}
use Rattle.up_model.specs.Instances.{Instance, instances_of, instance_named}
use Rattle.up_model.specs.Readings.{goal}
use Rattle.up_model.specs.Replies.{releasing}
use Rattle.up_model.specs.Seen.{seen, holds, taken, was_offered}
use Rattle.up_model.specs.Predicates.{is_start, entries_if, or_else}
use Rattle.up_model.specs.Values.{Bytes, Bindings}

-- whether an instance was made in this step
abbrev pub is_newborn : ℕ → Chronicle → Bool
is_newborn instance [] = false
is_newborn instance (Given input ∷ c) = false
is_newborn instance (Made file name ∷ c) = if length c == instance then true else is_newborn instance c
is_newborn instance (entry ∷ c) = is_newborn instance c

-- the goal becomes stop, with this environment and these holders: what the instance held is released before
abbrev pub stop_of : ℕ → Bindings → (holders : List ℕ) → Chronicle → List Entry
stop_of instance environment holders c = Aimed instance Stop environment holders ∷ releasing instance false c

-- the goal becomes stop, by events that its expression took, if it is start
abbrev pub stop_by : ℕ → List ℕ → Chronicle → List Entry
stop_by instance events c =
    entries_if (is_start (goal instance c)) (stop_of instance (stopped_by (events_at events c)) events c)

-- an instance's `stop on` is offered the event, and fires if it is true then
abbrev pub stop_offer : Configuration → JobDef → ℕ → (event : ℕ) → Chronicle → List Entry
stop_offer config job instance event c =
    let offered = Offered (StopOn instance) event ∷ c in
    let sights = seen config (StopOn instance) offered in
    let events = taken job.stop_on sights in
    entries_if (holds job.stop_on sights) (stop_by instance events (Fired (StopOn instance) events ∷ offered)
    ++ Fired (StopOn instance) events ∷ [])
    ++ Offered (StopOn instance) event ∷ []

-- whether an instance's `stop on` is still to be offered the event of this step: an instance that it made isn't offered it
abbrev pub is_open : ℕ → Chronicle → Bool
is_open instance c = not (is_newborn instance c || was_offered (StopOn instance) c)

-- the event is offered to the `stop on`, by its file, of the first of these instances that it is still to be offered to
abbrev pub stop_offer_in : Configuration → List Instance → (event : ℕ) → Chronicle → List Entry
stop_offer_in config [] event c = []
stop_offer_in config (instance ∷ instances) event c =
    or_else (entries_if (is_open instance.place c) (stop_offer config instance.file instance.place event c))
    (stop_offer_in config instances event c)

-- how many instances a job may have
abbrev pub max_instances : ℕ
max_instances = 1024

-- the goal becomes start, with this environment and these holders: of the instance, if its goal is stop, or of a new one by this file,
-- if the job may have one more
abbrev pub start_of : JobDef → Who → Bindings → (holders : List ℕ) → Option ℕ → Chronicle → List Entry
start_of job who environment holders None c =
    entries_if (nat_lt (length (instances_of who.job c)) max_instances)
    (Aimed (length c) Start environment holders ∷ Made job who.instance ∷ [])
start_of job who environment holders (Some instance) c =
    entries_if (not (is_start (goal instance c))) (Aimed instance Start environment holders
    ∷ releasing instance false c)

-- the instance of a job that a start or a command concerns, if its name expands
abbrev pub who_called : (job : Bytes) → Option Bytes → Option Who
who_called job None = None
who_called job (Some name) = Some (record { job = job; instance = name })

abbrev pub start_who : JobDef → Bindings → (holders : List ℕ) → Option Who → Chronicle → List Entry
start_who job environment holders None c = []
start_who job environment holders (Some who) c =
    start_of job who (with_instance who environment) holders (instance_named who c) c

-- the environment of a start by these events
abbrev pub start_env : Configuration → Option Who → List Event → Chronicle → Bindings
start_env config None events c = []
start_env config (Some who) events c = events_env (start_base config who c) events

-- a start by events that the job's expression took: the instance's name expands by the job's file in force
abbrev pub start_by : Configuration → JobDef → List ℕ → Chronicle → List Entry
start_by config job events c =
    let those = events_at events c in
    let name = instance_name job (events_env (env_of_job config job.name) those) in
    let who = who_called job.name name in
    start_who job (start_env config who those c) events who c

-- a job's `start on` is offered the event, and fires if it is true then
abbrev pub start_offer : Configuration → JobDef → (event : ℕ) → Chronicle → List Entry
start_offer config job event c =
    let offered = Offered (StartOn job.name) event ∷ c in
    let sights = seen config (StartOn job.name) offered in
    let events = taken job.start_on sights in
    let fired = Fired (StartOn job.name) events ∷ offered in
    entries_if (holds job.start_on sights)
    (start_by config job events fired ++ Fired (StartOn job.name) events ∷ [])
    ++ Offered (StartOn job.name) event ∷ []

abbrev pub start_offer_by : Configuration → Option JobDef → (event : ℕ) → Chronicle → List Entry
start_offer_by config None event c = []
start_offer_by config (Some job) event c = start_offer config job event c

-- the event is offered to the first expression of a job that it is still to be offered to: of each instance the `stop on`, then the
-- `start on` of the job
abbrev pub offer_in : Configuration → (name : Bytes) → (event : ℕ) → Chronicle → List Entry
offer_in config name event c =
    or_else (stop_offer_in config (instances_of name c) event c)
    (entries_if (not (was_offered (StartOn name) c))
    (start_offer_by config (job_named name config.jobs) event c))

-- the same of the jobs of these names
abbrev pub offer_first : Configuration → (names : List Bytes) → (event : ℕ) → Chronicle → List Entry
offer_first config [] event c = []
offer_first config (name ∷ names) event c =
    or_else (offer_in config name event c) (offer_first config names event c)

-- the event that this step handles
abbrev pub offering : Chronicle → Option ℕ
offering [] = None
offering (Given input ∷ c) = None
offering (Handled event ∷ c) = Some event
offering (entry ∷ c) = offering c

-- what is left to be offered of the event that this step handles
abbrev pub offer_next : Configuration → Option ℕ → Chronicle → List Entry
offer_next config None c = []
offer_next config (Some event) c = offer_first config (names_in_order config c) event c
