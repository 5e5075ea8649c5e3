-- Which job the stanzas of its files define (init(5)).
use Rattle.std.specs.Prelude.{ℕ, Bool, true, false, if◌then◌else◌, List, [], ◌∷◌, ◌++◌, Option, None, Some, unwrap_or}
use Rattle.std.specs.List.{list_any}
use Rattle.std.specs.Str.{bytes_eq}
use Rattle.up_value.specs.Values.{Bytes}
use Rattle.up_expr.specs.Trees.{Tree}
use Rattle.up_stanza.specs.declared.action.Action.{Action}
use Rattle.up_stanza.specs.declared.exit.Exit.{Exit}
use Rattle.up_conf.specs.declared.job.JobDef.{JobDef}
use Rattle.up_stanza.specs.declared.limit.Limit.{Limit}
use Rattle.up_stanza.specs.declared.process.Process.TheVariants.{Main, PreStart, PostStart, PreStop, PostStop}
use Rattle.up_stanza.specs.declared.setting.Setting.{Setting}
use Rattle.up_stanza.specs.declared.stanza.Console as consoles
use Rattle.up_stanza.specs.declared.stanza.Console.TheVariants as console
use Rattle.up_stanza.specs.declared.stanza.Stanza.{Stanza}
use Rattle.up_stanza.specs.Exits.{same_exit}
use Rattle.up_stanza.specs.Signals.{hup, term}
use Rattle.up_stanza.specs.declared.stanza.Stanza.TheVariants.{Env, Export, Task, Manual, Respawn, RespawnLimit, NormalExit, KillTimeout, KillSignal, ReloadSignal, Instance, Console, Chdir, Runs, StartOn, StopOn}

-- the last that stanzas say of something, or else this
abbrev pub last_or : {X : Type 0} → X → (Stanza → Option X) → List Stanza → X
last_or x says [] = x
last_or x says (stanza ∷ stanzas) = last_or (unwrap_or (says stanza) x) says stanzas

-- all that stanzas say of something, after this
abbrev pub fold_stanzas : {X : Type 0} → (X → Stanza → X) → X → List Stanza → X
fold_stanzas with x [] = x
fold_stanzas with x (stanza ∷ stanzas) = fold_stanzas with (with x stanza) stanzas

abbrev pub task_in : Stanza → Option Bool
task_in Task = Some true
task_in stanza = None

abbrev pub respawn_in : Stanza → Option Bool
respawn_in Respawn = Some true
respawn_in stanza = None

abbrev pub is_silent : consoles.Console → Bool
is_silent console.None = true
is_silent other = false

abbrev pub silent_in : Stanza → Option Bool
silent_in (Console kind) = Some (is_silent kind)
silent_in stanza = None

abbrev pub instance_in : Stanza → Option Bytes
instance_in (Instance name) = Some name
instance_in stanza = None

abbrev pub dir_in : Stanza → Option Bytes
dir_in (Chdir dir) = Some dir
dir_in stanza = None

abbrev pub limit_in : Stanza → Option Limit
limit_in (RespawnLimit limit) = Some limit
limit_in stanza = None

abbrev pub kill_signal_in : Stanza → Option ℕ
kill_signal_in (KillSignal signal) = Some signal
kill_signal_in stanza = None

abbrev pub kill_timeout_in : Stanza → Option ℕ
kill_timeout_in (KillTimeout seconds) = Some seconds
kill_timeout_in stanza = None

abbrev pub reload_signal_in : Stanza → Option ℕ
reload_signal_in (ReloadSignal signal) = Some signal
reload_signal_in stanza = None

-- what each process runs
abbrev pub main_in : Stanza → Option (Option Action)
main_in (Runs Main action) = Some (Some action)
main_in stanza = None

abbrev pub pre_start_in : Stanza → Option (Option Action)
pre_start_in (Runs PreStart action) = Some (Some action)
pre_start_in stanza = None

abbrev pub post_start_in : Stanza → Option (Option Action)
post_start_in (Runs PostStart action) = Some (Some action)
post_start_in stanza = None

abbrev pub pre_stop_in : Stanza → Option (Option Action)
pre_stop_in (Runs PreStop action) = Some (Some action)
pre_stop_in stanza = None

abbrev pub post_stop_in : Stanza → Option (Option Action)
post_stop_in (Runs PostStop action) = Some (Some action)
post_stop_in stanza = None

-- `manual` drops each `start on` before it
abbrev pub start_in : Stanza → Option (Option Tree)
start_in (StartOn tree) = Some (Some tree)
start_in Manual = Some None
start_in stanza = None

abbrev pub stop_in : Stanza → Option (Option Tree)
stop_in (StopOn tree) = Some (Some tree)
stop_in stanza = None

-- a key that is set again keeps its place and takes the new form
abbrev pub put : Setting → List Setting → List Setting
put setting [] = setting ∷ []
put setting (other ∷ others) = if bytes_eq other.key setting.key then setting ∷ others
    else other ∷ put setting others

abbrev pub env_with : List Setting → Stanza → List Setting
env_with settings (Env setting) = put setting settings
env_with settings stanza = settings

-- an item that isn't there yet goes last
abbrev pub with_new_item : {X : Type 0} → (X → X → Bool) → List X → X → List X
with_new_item same xs x = if list_any (same x) xs then xs else xs ++ x ∷ []

abbrev pub with_new_items : {X : Type 0} → (X → X → Bool) → List X → List X → List X
with_new_items same xs [] = xs
with_new_items same xs (y ∷ ys) = with_new_items same (with_new_item same xs y) ys

abbrev pub export_with : List Bytes → Stanza → List Bytes
export_with keys (Export others) = with_new_items bytes_eq keys others
export_with keys stanza = keys

abbrev pub normal_with : List Exit → Stanza → List Exit
normal_with exits (NormalExit others) = with_new_items same_exit exits others
normal_with exits stanza = exits

-- what stanzas make of a job
abbrev pub job_after : JobDef → List Stanza → JobDef
job_after job stanzas = record {
  name = job.name;
  task = last_or job.task task_in stanzas;
  respawn = last_or job.respawn respawn_in stanzas;
  silent = last_or job.silent silent_in stanzas;
  instance = last_or job.instance instance_in stanzas;
  dir = last_or job.dir dir_in stanzas;
  limit = last_or job.limit limit_in stanzas;
  kill_signal = last_or job.kill_signal kill_signal_in stanzas;
  kill_timeout = last_or job.kill_timeout kill_timeout_in stanzas;
  reload_signal = last_or job.reload_signal reload_signal_in stanzas;
  env = fold_stanzas env_with job.env stanzas;
  export = fold_stanzas export_with job.export stanzas;
  normal = fold_stanzas normal_with job.normal stanzas;
  main = last_or job.main main_in stanzas;
  pre_start = last_or job.pre_start pre_start_in stanzas;
  post_start = last_or job.post_start post_start_in stanzas;
  pre_stop = last_or job.pre_stop pre_stop_in stanzas;
  post_stop = last_or job.post_stop post_stop_in stanzas;
  start_on = last_or job.start_on start_in stanzas;
  stop_on = last_or job.stop_on stop_in stanzas;
}

-- a job without stanzas: TERM, 5 seconds to the kill, HUP, 10 respawns in 5 seconds
abbrev pub plain_job : Bytes → JobDef
plain_job name = record {
  name = name;
  task = false;
  respawn = false;
  silent = false;
  instance = [];
  dir = [];
  limit = record { count = 10; interval = 5 };
  kill_signal = term;
  kill_timeout = 5;
  reload_signal = hup;
  env = [];
  export = [];
  normal = [];
  main = None;
  pre_start = None;
  post_start = None;
  pre_stop = None;
  post_stop = None;
  start_on = None;
  stop_on = None;
}

-- the job of this name that stanzas define
unfoldable pub job_of : Bytes → List Stanza → JobDef
job_of name stanzas = job_after (plain_job name) stanzas
