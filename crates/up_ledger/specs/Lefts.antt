-- How many processes may still be ordered, by what is kept.
use Rattle.std.specs.Prelude.{ℕ, ◌+◌, List, [], ◌∷◌, is_some}
use Rattle.up_model.specs.Left.{left_in}
use Rattle.up_job.specs.declared.instances.JobInstances.{JobInstances}
use Rattle.up_job.specs.declared.instance.Instance.{Instance as Kept}

abbrev pub left_of_kept : Kept → ℕ
left_of_kept kept = left_in kept.goal kept.state (is_some kept.blocker)

abbrev pub left_of_all : List Kept → ℕ
left_of_all [] = 0
left_of_all (kept ∷ its) = left_of_kept kept + left_of_all its

-- of all jobs
abbrev pub left_of_jobs : List JobInstances → ℕ
left_of_jobs [] = 0
left_of_jobs (job ∷ jobs) = left_of_all job.instances + left_of_jobs jobs
