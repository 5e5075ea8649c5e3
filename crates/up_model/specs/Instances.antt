-- The instances that exist: each from where it was made until it has entered waiting (init(5), "instance").
use Rattle.std.specs.Prelude.{ℕ, Bool, ◌==◌, List, [], ◌∷◌, Option, None, Some, if◌then◌else◌, length}
use Rattle.std.specs.Str.{bytes_eq}
use Rattle.up_conf.specs.declared.job.JobDef.{JobDef}
use Rattle.up_conf.specs.Order.{is_below, put_by}
use Rattle.up_model.specs.declared.state.State.TheVariants as state
use Rattle.up_model.specs.declared.who.Who.{Who}
use Rattle.up_model.specs.Chronicle.{Chronicle, Made, Entered}
use Rattle.up_model.specs.Values.{Bytes}

-- an instance: where it was made, its name, and the job file by which it was made
pub record Instance : Type 0 where
  pub place : ℕ
  pub name : Bytes
  pub file : JobDef

abbrev pub is_before : Instance → Instance → Bool
is_before instance other = is_below instance.name other.name

-- one instance more, in byte order of names
abbrev pub with_instance : Instance → List Instance → List Instance
with_instance instance instances = put_by is_before instance instances

-- the instances but the one that was made at a place
abbrev pub without_instance : ℕ → List Instance → List Instance
without_instance place [] = []
without_instance place (instance ∷ instances) =
    if instance.place == place then without_instance place instances
    else instance ∷ without_instance place instances

-- the instances of a job, in byte order of their names
abbrev pub instances_of : Bytes → Chronicle → List Instance
instances_of job [] = []
instances_of job (Made file name ∷ c) =
    if bytes_eq file.name job then with_instance (record { place = length c; name = name; file = file }) (instances_of job c)
    else instances_of job c
instances_of job (Entered instance state.Waiting ∷ c) = without_instance instance (instances_of job c)
instances_of job (entry ∷ c) = instances_of job c

-- the instances of all jobs, newest first
abbrev pub all_instances : Chronicle → List Instance
all_instances [] = []
all_instances (Made file name ∷ c) = record { place = length c; name = name; file = file } ∷ all_instances c
all_instances (Entered instance state.Waiting ∷ c) = without_instance instance (all_instances c)
all_instances (entry ∷ c) = all_instances c

-- where the one of this name was made
abbrev pub place_named : Bytes → List Instance → Option ℕ
place_named name [] = None
place_named name (instance ∷ instances) =
    if bytes_eq instance.name name then Some instance.place else place_named name instances

-- where the instance that is known outside by these names was made, if it exists
abbrev pub instance_named : Who → Chronicle → Option ℕ
instance_named who c = place_named who.instance (instances_of who.job c)
