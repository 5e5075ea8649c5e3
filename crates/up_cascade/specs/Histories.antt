-- What is said of each history for which a book stands, and of those who hold an instance in it.
use Rattle.std.specs.Prelude.{◌≡◌, ℕ, List, ◌∷◌, ◌++◌, map, None, Some}
use Rattle.up_book.specs.declared.holders.Holders.{Holders}
use Rattle.up_book.specs.Histories.{HoldersAt, adding}
use Rattle.up_book.specs.Keys.{Mode, called, job_at}
use Rattle.up_book.specs.Views.{Places}
use Rattle.up_conf.specs.declared.job.JobDef.{JobDef}
use Rattle.up_model.specs.declared.event_id.EventId.{EventId}
use Rattle.up_model.specs.declared.input.Input.TheVariants.{Turn}
use Rattle.up_model.specs.declared.life.EntryActions.{EntryActions}
use Rattle.up_model.specs.declared.state.State.{State}
use Rattle.up_model.specs.Chronicle.{Chronicle, Entry, Entered, Given, Handled}
use Rattle.up_model.specs.Configuration.{Configuration}
use Rattle.up_model.specs.Environments.{env_of_job, start_base}
use Rattle.up_model.specs.Events.{events_at, events_env}
use Rattle.up_model.specs.Instances.{Instance, instance_named}
use Rattle.up_model.specs.Moves.{emitting, ordering, who_of}
use Rattle.up_model.specs.Offers as offers
use Rattle.up_model.specs.Values.{Bytes, Bindings}
use Rattle.up_text.specs.Bindings.{set_all}

-- what is said of a history, and of the places of holders that an instance of the job at an index of the table may get, holds of each for which a
-- book stands
abbrev pub OfStarted : (Configuration → Chronicle → Type 0) → (events : Chronicle → Places) → Configuration → (index : ℕ) → JobDef → Holders
    → (Chronicle → (places : List ℕ) → Type 0) → Type 0
OfStarted stands events config index job holders says = (c : Chronicle) (places : List ℕ) → stands config c
    → job_at config index ≡ Some job → HoldersAt events holders places c → says c places

-- the same of the job at an index of the table, and of the places at which these events were queued
abbrev pub OfEvents : (Mode → Configuration → Chronicle → Type 0) → (events : Chronicle → Places) → Configuration → (index : ℕ) → List EventId
    → (Chronicle → JobDef → (places : List ℕ) → Type 0) → Type 0
OfEvents stands events config index keys says = (mode : Mode) (c : Chronicle) (job : JobDef) (places : List ℕ) → stands mode config c
    → job_at config index ≡ Some job → map (events c) keys ≡ map Some places → says c job places

-- the environment of a job, and that of a start of its instance of a name, by the events that were queued at these places
abbrev pub job_env_by : Configuration → JobDef → (places : List ℕ) → Chronicle → Bindings
job_env_by config job places c = events_env (env_of_job config job.name) (events_at places c)

abbrev pub start_env_by : Configuration → JobDef → (name : Bytes) → (places : List ℕ) → Chronicle → Bindings
start_env_by config job name places c = offers.start_env config (offers.who_called job.name (Some name)) (events_at places c) c

-- and that of a start by a request with these variables
abbrev pub request_env_by : Configuration → JobDef → (name : Bytes) → (vars : Bindings) → Chronicle → Bindings
request_env_by config job name vars c = set_all (start_base config (called job.name name) c) vars

-- what comes of the start, in this environment, of the instance of a name, which is still to be made
abbrev pub start_made : JobDef → (name : Bytes) → Bindings → (places : List ℕ) → Chronicle → List Entry
start_made job name environment places c = offers.start_of job (called job.name name) environment places None c

-- and of one that is made if it doesn't exist
abbrev pub start_named : JobDef → (name : Bytes) → Bindings → (places : List ℕ) → Chronicle → List Entry
start_named job name environment places c =
    offers.start_of job (called job.name name) environment places (instance_named (called job.name name) c) c

-- the history after an instance has entered a state, and has ordered the process and emitted the event of its table entry
abbrev pub after_entering : JobDef → Instance → State → EntryActions → Chronicle → Chronicle
after_entering job its to table c =
    adding (emitting job (who_of job its) its.place to table.emits) (ordering job its.place table.orders ++ Entered its.place to ∷ c)

-- and after a turn has taken an event up
abbrev pub taken_up : (event : ℕ) → Chronicle → Chronicle
taken_up event c = Handled event ∷ Given Turn ∷ c
