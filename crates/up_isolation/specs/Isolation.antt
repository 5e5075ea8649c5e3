-- That a job does what it does by what comes to its notice alone.
use Rattle.std.specs.Prelude.{◌≡◌, ◌≤◌, ◌⊎◌, List, ◌∷◌, length, filter}
use Rattle.std.specs.Str.{bytes_eq}
use Rattle.up_model.specs.Configuration.{Configuration}
use Rattle.up_model.specs.Values.{Bytes}
use Rattle.up_isolation.specs.Views.{Notice, jobs_called}

-- where this name stands in a list
abbrev pub names_called : Bytes → List Bytes → List Bytes
names_called job names = filter (λ name. bytes_eq name job) names

-- two configurations mean the same by a job: the base is one, and its file says the same, or neither has it; and it is removed in both, or
-- in neither, as is so at a start
abbrev pub MeanTheSame : Bytes → Configuration → Configuration → Type 0
MeanTheSame job first second =
    (first.base ≡ second.base) × (jobs_called job first.jobs ≡ jobs_called job second.jobs)
    × (names_called job first.removed ≡ names_called job second.removed)

-- the job's view grows by at most one
abbrev pub GrowsByAtMostOne : (before after : List Notice) → Type 0
GrowsByAtMostOne before after = (after ≡ before) ⊎ ((notice : Notice) × (after ≡ notice ∷ before))

-- at most one job has this name, as is so in a compiled folder
abbrev pub IsUnique : Bytes → Configuration → Type 0
IsUnique job config = length (jobs_called job config.jobs) ≤ 1
