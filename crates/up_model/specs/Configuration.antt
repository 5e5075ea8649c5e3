-- What a run stands on.
use Rattle.std.specs.Prelude.{◌≡◌, List, [], ◌∷◌, Bool, false, Option, None, Some, if◌then◌else◌}
use Rattle.std.specs.List.{AllByRecursion, list_any}
use Rattle.std.specs.Str.{bytes_eq}
use Rattle.up_conf.specs.declared.job.JobDef.{JobDef}
use Rattle.up_model.specs.Values.{Bytes, Bindings}

-- The environment that init was started with, and in byte order of names the jobs in force, and those that a load removed while they had
-- instances: these by the last file of them that was in force, but without its `start on`. They are named too.
pub record Configuration : Type 0 where
  pub base : Bindings
  pub jobs : List JobDef
  pub removed : List Bytes

-- that of a start with the jobs of a folder
abbrev pub started_with : (base : Bindings) → (jobs : List JobDef) → Configuration
started_with base jobs = record { base = base; jobs = jobs; removed = [] }

-- no two jobs have one name
abbrev pub AreDistinct : List JobDef → Type 0
AreDistinct [] = Unit {0}
AreDistinct (job ∷ jobs) = AllByRecursion (λ other. bytes_eq other.name job.name ≡ false) jobs × AreDistinct jobs

-- the job of this name
abbrev pub job_named : Bytes → List JobDef → Option JobDef
job_named name [] = None
job_named name (job ∷ jobs) = if bytes_eq job.name name then Some job else job_named name jobs

-- whether a load removed the job of this name
abbrev pub is_removed : Configuration → (name : Bytes) → Bool
is_removed config name = list_any (λ other. bytes_eq other name) config.removed
