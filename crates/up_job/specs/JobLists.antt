-- The instances of all jobs, as contracts see them: a list of jobs in byte order of their names.
use Rattle.std.specs.Prelude.{◌≡◌, ℕ, suc, false, List, [], ◌∷◌, ◌++◌, Option, None, Some, map, option_map, if◌then◌else◌}
use Rattle.std.specs.Str.{bytes_eq}
use Rattle.up_conf.specs.declared.job.JobDef.{JobDef}
use Rattle.up_image.specs.declared.index.Place.{Place}
use Rattle.up_image.specs.Index.{places_in}
use Rattle.up_job.specs.declared.instance.Instance.{Instance}
use Rattle.up_job.specs.declared.instance_key.InstanceKey.{InstanceKey}
use Rattle.up_job.specs.declared.instances.JobInstances.{JobInstances}
use Rattle.up_job.specs.Lists.{nth, with_at, without_at, with_named, position_in}
use Rattle.up_job.specs.InstanceLists.{name_of}
use Rattle.up_job.specs.Named.{named, place_of}
use Rattle.up_model.specs.Values.{Bytes}

abbrev pub job_of : JobInstances → Bytes
job_of job = job.name

abbrev pub list_of : Option JobInstances → List Instance
list_of None = []
list_of (Some job) = job.instances

-- a job without an instance
abbrev pub new_job : JobDef → JobInstances
new_job job = record { name = job.name; instances = [] }

abbrev pub file_name : JobDef → Bytes
file_name job = job.name

-- by name

-- the instances of a job
abbrev pub instances_in : Bytes → List JobInstances → List Instance
instances_in job jobs = list_of (named job_of job jobs)

-- a job of this file, with the instances of the one of its name
abbrev pub kept_job : List JobInstances → JobDef → JobInstances
kept_job jobs job = record { name = job.name; instances = instances_in job.name jobs }

-- the instances of one job changed so, and those of no other job
abbrev pub Changes : Bytes → (List Instance → List Instance) → List JobInstances → List JobInstances → Type 0
Changes job change old new =
    (other : Bytes) → instances_in other new
    ≡ (if bytes_eq job other then change (instances_in other old) else instances_in other old)

-- the leaves of the `stop on` of instances, by their own files, as those of the job with this number
abbrev pub stops_of : (number : ℕ) → List Instance → List Place
stops_of number [] = []
stops_of number (instance ∷ instances) = places_in number false instance.file.stop_on ++ stops_of number instances

-- and those of all, job by job
abbrev pub stop_places : (number : ℕ) → List JobInstances → List Place
stop_places number [] = []
stop_places number (job ∷ jobs) = stops_of number job.instances ++ stop_places (suc number) jobs

-- by position

-- the instances of the job at a place
abbrev pub instances_at : ℕ → List JobInstances → List Instance
instances_at job jobs = list_of (nth job jobs)

-- the instance of a key
abbrev pub instance_at : InstanceKey → List JobInstances → Option Instance
instance_at key jobs = nth key.at (instances_at key.job jobs)

-- the key of the instance of a job that has this name
abbrev pub key_of : ℕ → Bytes → List JobInstances → Option InstanceKey
key_of job name jobs =
    option_map (λ at. record { job = job; at = at }) (place_of name_of name (instances_at job jobs))

-- one instance of a job changes
abbrev pub changed_in : ℕ → (Instance → Instance) → JobInstances → JobInstances
changed_in at f job = record job { instances = with_at at f job.instances }

abbrev pub changed_at : InstanceKey → (Instance → Instance) → List JobInstances → List JobInstances
changed_at key f jobs = with_at key.job (changed_in key.at f) jobs

-- a job with one instance less
abbrev pub removed_in : ℕ → JobInstances → JobInstances
removed_in at job = record job { instances = without_at at job.instances }

abbrev pub removed_at : InstanceKey → List JobInstances → List JobInstances
removed_at key jobs = with_at key.job (removed_in key.at) jobs

-- a job with one instance more, in byte order of names
abbrev pub with_made : Instance → JobInstances → JobInstances
with_made instance job = record job { instances = with_named (λ i. i.name) instance job.instances }

-- where a name belongs among the instances of a job
abbrev pub position_at : Bytes → ℕ → List JobInstances → ℕ
position_at name place jobs = position_in name (map (λ i. i.name) (instances_at place jobs))
