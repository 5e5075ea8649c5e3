-- What each request does (initctl(8)). Its refusals are tried in the order in which they stand, and change nothing.
use Rattle.std.specs.Prelude.{ℕ, nat_lt, Bool, true, false, ◌&&◌, List, [], ◌∷◌, ◌++◌, Option, None, Some, codes, if◌then◌else◌, length}
use Rattle.up_conf.specs.declared.job.JobDef.{JobDef}
use Rattle.up_text.specs.Bindings.{set_all}
use Rattle.up_text.specs.Expansion.{Expansion, Expands, Lacks, Malformed, expand}
use Rattle.up_text.specs.Scripts.{is_filled}
use Rattle.up_stanza.specs.declared.process.Process.TheVariants.{Main}
use Rattle.up_model.specs.declared.request.Command.{Command}
use Rattle.up_model.specs.declared.request.Command.TheVariants as command
use Rattle.up_model.specs.declared.state.State.{State}
use Rattle.up_model.specs.declared.state.State.TheVariants as state
use Rattle.up_model.specs.declared.who.Who.{Who}
use Rattle.up_model.specs.Chronicle.{Chronicle, Entry, Queued, Restarted, Signalled, Replied, Outside}
use Rattle.up_model.specs.Configuration.{Configuration, is_removed}
use Rattle.up_model.specs.Environments.{env_of_job, start_base}
use Rattle.up_model.specs.Events.{with_instance}
use Rattle.up_model.specs.Files.{file_in_force, known_file, own_file, names_in_order}
use Rattle.up_model.specs.Instances.{Instance, instances_of, instance_named}
use Rattle.up_model.specs.Offers.{max_instances, start_of, stop_of}
use Rattle.up_model.specs.Queue.{queue}
use Rattle.up_model.specs.Readings.{goal, state_of, lives}
use Rattle.up_model.specs.Replies.{status_of, releasing}
use Rattle.up_model.specs.Requests.{RequestValue, not_supported}
use Rattle.up_model.specs.Status.{who_name}
use Rattle.up_model.specs.Predicates.{is_start}
use Rattle.up_model.specs.Values.{Bytes, Bindings}

-- what comes of a request
pub data Outcome : Type 0 where
  -- it is refused with this text
  Refused : (text : Bytes) → Outcome
  -- it is told this text at once
  Told : (text : Bytes) → Outcome
  -- it is taken, with these entries, newest first
  Done : (entries : List Entry) → Outcome

-- whom a request names
pub data Target : Type 0 where
  -- nobody, which this text says
  Nobody : (text : Bytes) → Target
  -- an instance of a job that there may be, and the environment that a start would give it
  Concerns : (job : JobDef) → (who : Who) → (environment : Bindings) → Target

-- the environment of a start by a request: that of the instance's file, and the request's variables (init(5), "Job environment")
abbrev pub target_as : Configuration → JobDef → (vars : Bindings) → Expansion → Chronicle → Target
target_as config job vars (Expands name) c =
    let who : Who = record { job = job.name; instance = name } in
    Concerns job who (set_all (start_base config who c) vars)
target_as config job vars (Lacks key) c = Nobody (codes "Unknown parameter: " ++ key)
target_as config job vars Malformed c = Nobody (codes "Unknown parameter: " ++ job.instance)

-- the environment by which an instance's name expands: that of the job's file in force, and the request's variables
abbrev pub request_env : Configuration → JobDef → (vars : Bindings) → Bindings
request_env config job vars = set_all (env_of_job config job.name) vars

abbrev pub target_in : Configuration → (name : Bytes) → Option JobDef → (vars : Bindings) → Chronicle → Target
target_in config name None vars c = Nobody (codes "Unknown job: " ++ name)
target_in config name (Some job) vars c =
    target_as config job vars (expand job.instance (request_env config job vars)) c

-- the job of this name, and the instance whose name these variables give
abbrev pub target_of : Configuration → (name : Bytes) → (vars : Bindings) → Chronicle → Target
target_of config name vars c = target_in config name (file_in_force config name c) vars c

-- the same for a request that starts nothing
abbrev pub known_target : Configuration → (name : Bytes) → (vars : Bindings) → Chronicle → Target
known_target config name vars c = target_in config name (known_file config name c) vars c

-- a refusal that names an instance
abbrev pub refusal : Bytes → Who → Outcome
refusal text who = Refused (text ++ who_name who)

-- `start`: an instance whose goal is stop, or a new one if the job may have one more, gets the goal start
abbrev pub start_at : (holders : List ℕ) → JobDef → Who → Bindings → Option ℕ → Chronicle → Outcome
start_at holders job who environment None c =
    if nat_lt (length (instances_of who.job c)) max_instances
    then Done (start_of job who environment holders None c)
    else Refused (codes "Too many instances: " ++ who.job)
start_at holders job who environment (Some instance) c =
    if is_start (goal instance c) then refusal (codes "Job is already running: ") who
    else Done (start_of job who environment holders (Some instance) c)

abbrev pub start : (holders : List ℕ) → Target → Chronicle → Outcome
start holders (Nobody text) c = Refused text
start holders (Concerns job who environment) c =
    start_at holders job who (with_instance who environment) (instance_named who c) c

-- `stop`: an instance whose goal is start gets the goal stop, with the request's variables for pre-stop and post-stop
abbrev pub stop_at : (holders : List ℕ) → (vars : Bindings) → Who → Option ℕ → Chronicle → Outcome
stop_at holders vars who None c = refusal (codes "Unknown instance: ") who
stop_at holders vars who (Some instance) c =
    if is_start (goal instance c) then Done (stop_of instance vars holders c)
    else refusal (codes "Job has already been stopped: ") who

abbrev pub stop : (holders : List ℕ) → (vars : Bindings) → Target → Chronicle → Outcome
stop holders vars (Nobody text) c = Refused text
stop holders vars (Concerns job who environment) c = stop_at holders vars who (instance_named who c) c

abbrev pub is_running : State → Bool
is_running state.Running = true
is_running other = false

-- `restart`: an instance that runs lets its holders go, and leaves running; its goal and its environment stay
abbrev pub restart_at : (holders : List ℕ) → Who → Option ℕ → Chronicle → Outcome
restart_at holders who None c = refusal (codes "Unknown instance: ") who
restart_at holders who (Some instance) c =
    if is_running (state_of instance c) then Done (Restarted instance holders ∷ releasing instance false c)
    else refusal (codes "Job is not running: ") who

abbrev pub restart : (holders : List ℕ) → Target → Chronicle → Outcome
restart holders (Nobody text) c = Refused text
restart holders (Concerns job who environment) c = restart_at holders who (instance_named who c) c

-- main gets a signal, and then the client its reply
abbrev pub reloading : (given : ℕ) → (instance signal : ℕ) → List Entry
reloading given instance signal =
    Replied given (record { ok = true; text = [] }) ∷ Signalled instance signal false ∷ []

-- `reload`: main of an instance that runs gets its file's reload signal, if it lives
abbrev pub reload_at : (given : ℕ) → Option JobDef → Who → Option ℕ → Chronicle → Outcome
reload_at given file who None c = refusal (codes "Unknown instance: ") who
reload_at given None who (Some instance) c = refusal (codes "Unknown instance: ") who
reload_at given (Some job) who (Some instance) c =
    if is_running (state_of instance c) && lives instance Main c
    then Done (reloading given instance job.reload_signal)
    else refusal (codes "Job is not running: ") who

abbrev pub reload : (given : ℕ) → Target → Chronicle → Outcome
reload given (Nobody text) c = Refused text
reload given (Concerns job who environment) c =
    reload_at given (own_file who c) who (instance_named who c) c

-- the status text of a job without an instance
abbrev pub stopped_text : (job : Bytes) → Bytes
stopped_text job = job ++ codes " stop/waiting"

-- `status`: the status text of an instance; a job that has no `instance` stanza is told of without one
abbrev pub status_at : JobDef → Who → Option ℕ → Chronicle → Outcome
status_at job who None c = if is_filled job.instance then refusal (codes "Unknown instance: ") who
    else Told (stopped_text job.name)
status_at job who (Some instance) c = Told (status_of instance c)

abbrev pub status : Target → Chronicle → Outcome
status (Nobody text) c = Refused text
status (Concerns job who environment) c = status_at job who (instance_named who c) c

-- the status texts of these instances
abbrev pub statuses : List Instance → Chronicle → List Bytes
statuses [] c = []
statuses (instance ∷ instances) c = status_of instance.place c ∷ statuses instances c

-- the lines about a job: one that was removed has none without an instance
abbrev pub job_lines : (job : Bytes) → (removed : Bool) → List Instance → Chronicle → List Bytes
job_lines job removed [] c = if removed then [] else stopped_text job ∷ []
job_lines job removed (instance ∷ instances) c = statuses (instance ∷ instances) c

abbrev pub list_lines : Configuration → (names : List Bytes) → Chronicle → List Bytes
list_lines config [] c = []
list_lines config (name ∷ names) c =
    job_lines name (is_removed config name) (instances_of name c) c ++ list_lines config names c

-- further lines, each after a line end
abbrev pub more_lines : List Bytes → Bytes
more_lines [] = []
more_lines (line ∷ lines) = 10 ∷ line ++ more_lines lines

abbrev pub joined_lines : List Bytes → Bytes
joined_lines [] = []
joined_lines (line ∷ lines) = line ++ more_lines lines

-- `list`: a line for each instance, and for each job in force without one, job by job
abbrev pub listing : Configuration → Chronicle → Bytes
listing config c = joined_lines (list_lines config (names_in_order config c) c)

-- how many events may be in the queue before one more is refused to a client
abbrev pub max_events : ℕ
max_events = 32768

-- `emit`: an event goes to the end of the queue
abbrev pub emit : (given : ℕ) → RequestValue → Chronicle → Outcome
emit given request c =
    if nat_lt (length (queue c)) max_events
    then Done (Queued (Outside given) (record { name = request.name; vars = request.vars }) ∷ [])
    else Refused (codes "Too many events")

-- what a version is told as
abbrev pub version_text : Bytes
version_text = codes "init (upstart profile 1)"

-- a client that waits is a holder of the instance that it acts on
abbrev pub holders_of : (given : ℕ) → (wait : Bool) → List ℕ
holders_of given true = given ∷ []
holders_of given false = []

-- what comes of a request that is given at a place
abbrev pub outcome_by : Command → Configuration → (given : ℕ) → RequestValue → Chronicle → Outcome
outcome_by command.Start config given request c =
    start (holders_of given request.wait) (target_of config request.name request.vars c) c
outcome_by command.Stop config given request c =
    stop (holders_of given request.wait) request.vars (known_target config request.name request.vars c) c
outcome_by command.Restart config given request c =
    restart (holders_of given request.wait) (target_of config request.name request.vars c) c
outcome_by command.Status config given request c = status (known_target config request.name request.vars c) c
outcome_by command.List config given request c = Told (listing config c)
outcome_by command.Emit config given request c = emit given request c
outcome_by command.Version config given request c = Told version_text
outcome_by command.Reload config given request c =
    reload given (known_target config request.name request.vars c) c
outcome_by command.ReloadConfiguration config given request c =
    Refused (not_supported command.ReloadConfiguration)

abbrev pub outcome_of : Configuration → (given : ℕ) → RequestValue → Chronicle → Outcome
outcome_of config given request c = outcome_by request.command config given request c

-- the entries of an outcome: an answer, or what the request does
abbrev pub entries_of : (given : ℕ) → Outcome → List Entry
entries_of given (Refused text) = Replied given (record { ok = false; text = text }) ∷ []
entries_of given (Told text) = Replied given (record { ok = true; text = text }) ∷ []
entries_of given (Done entries) = entries
