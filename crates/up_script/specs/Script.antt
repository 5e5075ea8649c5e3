-- What the lines of a script say.
use Rattle.std.specs.Prelude.{ℕ, Bool, true, false, List, [], ◌∷◌, drop, replicate, Option, None, Some, option_map, option_and_then, slice_get, if◌then◌else◌, codes}
use Rattle.std.specs.Str.{bytes_eq}
use Rattle.up_text.specs.Names.{is_name}
use Rattle.up_model.specs.declared.input.Input.{Input}
use Rattle.up_model.specs.declared.input.Input.TheVariants as input
use Rattle.up_model.specs.declared.loaded.Loaded.{Loaded}
use Rattle.up_model.specs.declared.loaded.Loaded.TheVariants as loaded
use Rattle.up_conf.specs.declared.job.JobDef.{JobDef}
use Rattle.up_stanza.specs.declared.process.Process.{Process}
use Rattle.up_stanza.specs.declared.process.Process.TheVariants as process
use Rattle.up_model.specs.declared.process.How.{How}
use Rattle.up_model.specs.declared.process.How.TheVariants as how
use Rattle.up_model.specs.declared.who.Who.{Who}
use Rattle.up_conf.specs.Numbers.{number_in}
use Rattle.up_script.specs.Requests.{request_of}
use Rattle.up_script.specs.Variables.{vars_of, name_in}
use Rattle.up_conf.specs.Signals.{signal_in}

-- an instance by the name of its job and its own, which may be empty
abbrev pub who_named : List ℕ → List ℕ → Option Who
who_named job instance = if is_name job then Some (record { job = job; instance = instance }) else None

-- a process by its name
abbrev pub process_of : List ℕ → Option Process
process_of name =
    if bytes_eq name (codes "main") then Some process.Main
    else (if bytes_eq name (codes "pre-start") then Some process.PreStart
    else (if bytes_eq name (codes "post-start") then Some process.PostStart
    else (if bytes_eq name (codes "pre-stop") then Some process.PreStop
    else (if bytes_eq name (codes "post-stop") then Some process.PostStop
    else None))))

-- how a process ended: `exit CODE` or `signal SIGNAL`
abbrev pub how_of : List ℕ → List ℕ → Option How
how_of kind text =
    if bytes_eq kind (codes "exit") then option_map how.Exit (number_in 0 255 text)
    else (if bytes_eq kind (codes "signal") then option_map how.Signal (signal_in text)
    else None)

-- NAME [KEY=VALUE]..
abbrev pub emit_of : List (List ℕ) → Option Input
emit_of [] = None
emit_of (name ∷ words) =
    option_and_then (λ event. option_map (λ vars. input.Emit (record { name = event; vars = vars }))
    (vars_of [] words)) (name_in name)

-- JOB INSTANCE PROCESS PID
abbrev pub spawned_of : List (List ℕ) → Option Input
spawned_of (job ∷ instance ∷ name ∷ pid ∷ []) =
    option_and_then (λ who. option_and_then (λ its. option_map (input.Spawned who its)
    (number_in 0 4294967295 pid)) (process_of name)) (who_named job instance)
spawned_of words = None

-- JOB INSTANCE PROCESS
abbrev pub refused_of : List (List ℕ) → Option Input
refused_of (job ∷ instance ∷ name ∷ []) = option_and_then
    (λ who. option_map (input.Refused who) (process_of name)) (who_named job instance)
refused_of words = None

-- JOB INSTANCE PROCESS exit CODE, or JOB INSTANCE PROCESS signal SIGNAL
abbrev pub ended_of : List (List ℕ) → Option Input
ended_of (job ∷ instance ∷ name ∷ kind ∷ text ∷ []) =
    option_and_then (λ who. option_and_then (λ its. option_map (input.Ended who its) (how_of kind text))
    (process_of name)) (who_named job instance)
ended_of words = None

-- MS
abbrev pub clock_of : List (List ℕ) → Option Input
clock_of (reading ∷ []) = option_map input.Clock (number_in 0 18446744073709551615 reading)
clock_of words = None

-- what a load loads: the first of these tables, if there is one, or nothing, since it was refused or not read
abbrev pub loaded_of : List (List JobDef) → List (List ℕ) → Option Loaded
loaded_of tables [] = option_map loaded.Files (slice_get tables 0)
loaded_of tables (word ∷ []) = if bytes_eq word (codes "unread") then Some loaded.Unread else None
loaded_of tables (word ∷ code ∷ []) =
    if bytes_eq word (codes "refused") then option_map loaded.Refused (number_in 0 255 code) else None
loaded_of tables words = None

-- ID, or ID refused CODE, or ID unread
abbrev pub load_of : List (List JobDef) → List (List ℕ) → Option Input
load_of tables [] = None
load_of tables (id ∷ words) =
    option_and_then (λ number. option_map (input.Load number) (loaded_of tables words))
    (number_in 0 18446744073709551615 id)

-- the one input of a line by its first word and the others, where these tables are left for loads
abbrev pub input_of : List (List JobDef) → List ℕ → List (List ℕ) → Option Input
input_of tables kind words =
    if bytes_eq kind (codes "emit") then emit_of words
    else (if bytes_eq kind (codes "request") then request_of words
    else (if bytes_eq kind (codes "spawned") then spawned_of words
    else (if bytes_eq kind (codes "refused") then refused_of words
    else (if bytes_eq kind (codes "ended") then ended_of words
    else (if bytes_eq kind (codes "clock") then clock_of words
    else (if bytes_eq kind (codes "load") then load_of tables words
    else None))))))

-- [N]: so many turns, or one
abbrev pub turns_of : List (List ℕ) → Option (List Input)
turns_of [] = Some (input.Turn ∷ [])
turns_of (count ∷ []) = option_map (λ n. replicate n input.Turn) (number_in 1 1000000 count)
turns_of words = None

-- the inputs of a line by its words, where these tables are left for loads; a line without words has none
abbrev pub inputs_of : List (List JobDef) → List (List ℕ) → Option (List Input)
inputs_of tables [] = Some []
inputs_of tables (kind ∷ words) = if bytes_eq kind (codes "turn") then turns_of words else option_map
    (λ one. one ∷ []) (input_of tables kind words)

-- whether jobs were loaded
abbrev pub has_jobs : Loaded → Bool
has_jobs (loaded.Files jobs) = true
has_jobs (loaded.Refused code) = false
has_jobs loaded.Unread = false

-- whether an input loads jobs, as only a script with tables can
abbrev pub loads_jobs : Input → Bool
loads_jobs (input.Load id its) = has_jobs its
loads_jobs given = false

-- the tables that a load leaves: it takes the first if nothing is said of what it loads
abbrev pub left_by_loaded : List (List JobDef) → List (List ℕ) → List (List JobDef)
left_by_loaded tables [] = drop 1 tables
left_by_loaded tables (word ∷ words) = tables

abbrev pub left_by_load : List (List JobDef) → List (List ℕ) → List (List JobDef)
left_by_load tables [] = tables
left_by_load tables (id ∷ words) = left_by_loaded tables words

-- the tables that a line leaves by its first word and the others
abbrev pub left_by : List (List JobDef) → List ℕ → List (List ℕ) → List (List JobDef)
left_by tables kind words = if bytes_eq kind (codes "load") then left_by_load tables words else tables

-- the tables that a line leaves by its words, if they are whole
abbrev pub left_after : List (List JobDef) → Option (List (List ℕ)) → List (List JobDef)
left_after tables None = tables
left_after tables (Some []) = tables
left_after tables (Some (kind ∷ words)) = left_by tables kind words
