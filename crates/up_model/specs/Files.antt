-- Which job file a name and an instance go by.
use Rattle.std.specs.Prelude.{ℕ, List, [], ◌∷◌, Option, None, Some, not, ◌&&◌, if◌then◌else◌}
use Rattle.up_conf.specs.declared.job.JobDef.{JobDef}
use Rattle.up_model.specs.declared.who.Who.{Who}
use Rattle.up_model.specs.Chronicle.{Chronicle}
use Rattle.up_model.specs.Configuration.{Configuration, job_named, is_removed}
use Rattle.up_model.specs.Instances.{instance_named, instances_of}
use Rattle.up_model.specs.Readings.{file_of}
use Rattle.up_model.specs.Values.{Bytes}
use Rattle.up_text.specs.Scripts.{is_filled}

-- the file in force of a job, by its name
abbrev pub file_in_force : Configuration → (name : Bytes) → Chronicle → Option JobDef
file_in_force config name c = if is_removed config name then None else job_named name config.jobs

-- the file by which requests know a job that start nothing: a job that was removed is known while it has an instance
abbrev pub known_file : Configuration → (name : Bytes) → Chronicle → Option JobDef
known_file config name c =
    if is_removed config name && not (is_filled (instances_of name c)) then None
    else job_named name config.jobs

abbrev pub file_at : Option ℕ → Chronicle → Option JobDef
file_at None c = None
file_at (Some instance) c = file_of instance c

-- the file of the instance that is known outside by these names, if it exists
abbrev pub own_file : Who → Chronicle → Option JobDef
own_file who c = file_at (instance_named who c) c

abbrev pub start_file_at : Configuration → Who → Option ℕ → Chronicle → Option JobDef
start_file_at config who None c = job_named who.job config.jobs
start_file_at config who (Some instance) c = file_of instance c

-- the file by which it starts: its own if it exists, else that of its job
abbrev pub start_file : Configuration → Who → Chronicle → Option JobDef
start_file config who c = start_file_at config who (instance_named who c) c

abbrev pub job_names : List JobDef → List Bytes
job_names [] = []
job_names (job ∷ jobs) = job.name ∷ job_names jobs

-- the names of all jobs, in the order in which they are gone through
abbrev pub names_in_order : Configuration → Chronicle → List Bytes
names_in_order config c = job_names config.jobs
