-- What holds of a chronicle that a run brings about.
use Rattle.std.specs.Prelude.{◌≡◌, ◌<◌, ◌≤◌, ℕ, true, false, [], ◌∷◌, None, Some, length}
use Rattle.std.specs.List.{AllByRecursion}
use Rattle.up_model.specs.Chronicle.{Chronicle, Entry, Queued, Outside, Made, Released, Respawned}
use Rattle.up_model.specs.Clock.{now}
use Rattle.up_model.specs.Configuration.{Configuration, job_named}
use Rattle.up_model.specs.Held.{is_spoilt}
use Rattle.up_model.specs.Instances.{instances_of, instance_named}
use Rattle.up_model.specs.Readings.{holders}
use Rattle.up_model.specs.Values.{Bytes}
use Rattle.up_model.proofs.NameLaws.{Singles}
use Rattle.up_job.specs.Moments.{moments_of, Falls}
use Rattle.up_book.specs.Keys.{called}

-- events from outside come from what was given before them
abbrev pub AreOlderOrigins : Chronicle → Type 0
AreOlderOrigins [] = Unit {0}
AreOlderOrigins (Queued (Outside given) event ∷ c) = (given < length c) × AreOlderOrigins c
AreOlderOrigins (entry ∷ c) = AreOlderOrigins c

pub record IsRegular (config : Configuration) (c : Chronicle) : Type 0 where
  pub origins : AreOlderOrigins c
  pub unspoilt : (event : ℕ) → length c ≤ event → is_spoilt event c ≡ false
  pub singles : Singles c
  -- no job but those of the table has instances
  pub known : (job : Bytes) → job_named job config.jobs ≡ None → instances_of job c ≡ []
  pub falling : (instance : ℕ) → Falls (now c) (moments_of instance c)

-- what may be the next entry of one
abbrev pub MayFollow : Configuration → Chronicle → Entry → Type 0
MayFollow config c (Queued (Outside given) event) = given < length c
MayFollow config c (Made file name) = (instance_named (called file.name name) c ≡ None) × (job_named file.name config.jobs ≡ Some file)
MayFollow config c (Released instance true) = AllByRecursion (λ place. place < length c) (holders instance c)
MayFollow config c (Respawned instance moment) = moment ≡ now c
MayFollow config c entry = Unit {0}
