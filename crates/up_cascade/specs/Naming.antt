-- Jobs by their names.
use Rattle.std.specs.Prelude.{◌≡◌, List, None}
use Rattle.std.specs.List.{AllByRecursion}
use Rattle.up_conf.specs.declared.job.JobDef.{JobDef}
use Rattle.up_model.specs.Configuration.{job_named}
use Rattle.up_model.specs.Values.{Bytes}

abbrev pub name_of : JobDef → Bytes
name_of job = job.name

-- none of these has the name of one of those
abbrev pub AreOthers : (jobs others : List JobDef) → Type 0
AreOthers jobs others = AllByRecursion (λ other. job_named other.name jobs ≡ None) others
