-- What holds between two steps: nothing is left to do, and no expression in force is true, since one that comes true fires at once.
use Rattle.std.specs.Prelude.{◌≡◌, ◌≤◌, ℕ, false, [], length, Some}
use Rattle.up_book.specs.Keys.{job_at}
use Rattle.up_conf.specs.declared.job.JobDef.{JobDef}
use Rattle.up_model.specs.Chronicle.{Chronicle, StartOn, StopOn}
use Rattle.up_model.specs.Configuration.{Configuration}
use Rattle.up_model.specs.Due.{due}
use Rattle.up_model.specs.Readings.{file_of}
use Rattle.up_model.specs.Seen.{seen, holds}

pub record NoneHolds (config : Configuration) (c : Chronicle) : Type 0 where
  pub starts : (n : ℕ) (job : JobDef) → job_at config n ≡ Some job → holds job.start_on (seen config (StartOn job.name) c) ≡ false
  -- an instance goes by the file by which it was made
  pub stops : (i : ℕ) (file : JobDef) → file_of i c ≡ Some file → holds file.stop_on (seen config (StopOn i) c) ≡ false
  -- an instance that is still to be made has seen nothing
  pub unborn : (i : ℕ) → length c ≤ i → seen config (StopOn i) c ≡ []

-- nothing is left to do, and none of them is true
pub record IsAtRest (config : Configuration) (c : Chronicle) : Type 0 where
  pub rested : due config c ≡ []
  pub untrue : NoneHolds config c
