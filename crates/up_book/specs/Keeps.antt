-- What the book stands for.
use Rattle.std.specs.Prelude.{◌≡◌, ◌<◌, ◌≤◌, ℕ, false, List, [], ◌∷◌, Option, None, Some, map, option_map, length}
use Rattle.up_job.specs.Lists.{nth}
use Rattle.std.specs.Str.{bytes_eq}
use Rattle.std.specs.List.{AllByRecursion}
use Rattle.up_model.specs.Chronicle.{Chronicle}
use Rattle.up_model.specs.Configuration.{Configuration}
use Rattle.up_model.specs.Instances.{Instance, instances_of}
use Rattle.up_model.specs.Readings.{holders}
use Rattle.up_conf.specs.declared.job.JobDef.{JobDef}
use Rattle.up_job.specs.declared.instance_key.InstanceKey.{InstanceKey}
use Rattle.up_job.specs.declared.instances.JobInstances.{JobInstances}
use Rattle.up_book.specs.Summaries.{summary, job_summary, blank}
use Rattle.up_book.specs.Views.{Places, job_view}

abbrev pub AreOlder : ℕ → List ℕ → Type 0
AreOlder n places = AllByRecursion (λ place. place < n) places

-- an instance holds what is older
abbrev pub HoldsOlder : ℕ → Chronicle → Type 0
HoldsOlder instance c = AreOlder (length c) (holders instance c)

-- no two jobs have one name
abbrev pub AreDistinct : List JobDef → Type 0
AreDistinct [] = Unit {0}
AreDistinct (job ∷ jobs) = AllByRecursion (λ other. bytes_eq other.name job.name ≡ false) jobs × AreDistinct jobs

-- by where events were queued
abbrev pub KeepsJobs : Places → List JobInstances → Configuration → Chronicle → Type 0
KeepsJobs places jobs config c = map (job_view places) jobs ≡ map (job_summary c) config.jobs

pub record Keeps (places : Places) (book : List JobInstances) (config : Configuration) (c : Chronicle) : Type 0 where
  pub jobs : KeepsJobs places book config c
  pub older : (i : ℕ) → HoldsOlder i c
  -- nothing is known of what is to come
  pub later : (its : Instance) → length c ≤ its.place → summary c its ≡ blank its.file its.name
  pub distinct : AreDistinct config.jobs

abbrev pub instance_in : ℕ → Option JobInstances → Chronicle → Option Instance
instance_in at None c = None
instance_in at (Some job) c = nth at (instances_of job.name c)

-- where the instance of a key was made
abbrev pub place_at : List JobInstances → Chronicle → InstanceKey → Option ℕ
place_at jobs c key = option_map {T = Instance} (λ its. its.place) (instance_in key.at (nth key.job jobs) c)
