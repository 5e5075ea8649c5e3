-- Which events may not finish yet, and which were spoilt (starting(7), the Upstart Cookbook on blocking events).
use Rattle.std.specs.Prelude.{ℕ, Bool, true, false, ◌==◌, List, [], ◌∷◌, ◌++◌, Option, None, Some, if◌then◌else◌}
use Rattle.std.specs.List.{list_any}
use Rattle.up_conf.specs.declared.job.JobDef.{JobDef}
use Rattle.up_expr.specs.Trees.{Tree}
use Rattle.up_model.specs.Chronicle.{Chronicle, Released, StartOn, StopOn}
use Rattle.up_model.specs.Configuration.{Configuration, job_named}
use Rattle.up_model.specs.Files.{names_in_order}
use Rattle.up_model.specs.Instances.{Instance, instances_of}
use Rattle.up_model.specs.Readings.{holders}
use Rattle.up_model.specs.Seen.{seen, kept}
use Rattle.up_model.specs.Values.{Bytes}

abbrev pub start_on_of : Option JobDef → Option Tree
start_on_of None = None
start_on_of (Some job) = job.start_on

-- what an instance holds: the events that the `stop on` of its file keeps, and what started or stopped it
abbrev pub held_by : Configuration → Instance → Chronicle → List ℕ
held_by config instance c =
    kept instance.file.stop_on (seen config (StopOn instance.place) c) ++ holders instance.place c

-- the same of several instances
abbrev pub held_by_instances : Configuration → List Instance → Chronicle → List ℕ
held_by_instances config [] c = []
held_by_instances config (instance ∷ instances) c =
    held_by config instance c ++ held_by_instances config instances c

-- what a job holds: the events that its `start on` keeps, and what its instances hold
abbrev pub held_by_job : Configuration → (name : Bytes) → Chronicle → List ℕ
held_by_job config name c =
    kept (start_on_of (job_named name config.jobs)) (seen config (StartOn name) c)
    ++ held_by_instances config (instances_of name c) c

-- what the jobs of these names hold, each event as often as it is held
abbrev pub held_by_jobs : Configuration → (names : List Bytes) → Chronicle → List ℕ
held_by_jobs config [] c = []
held_by_jobs config (name ∷ names) c = held_by_job config name c ++ held_by_jobs config names c

-- whether an event is among these
abbrev pub has : ℕ → List ℕ → Bool
has event places = list_any (λ place. place == event) places

abbrev pub is_held : Configuration → ℕ → Chronicle → Bool
is_held config event c = has event (held_by_jobs config (names_in_order config c) c)

-- whether an instance that held an event let it go as failed
abbrev pub is_spoilt : ℕ → Chronicle → Bool
is_spoilt event [] = false
is_spoilt event (Released instance true ∷ c) =
    if has event (holders instance c) then true else is_spoilt event c
is_spoilt event (entry ∷ c) = is_spoilt event c
