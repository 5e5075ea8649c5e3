-- What each expression in force remembers of what it has seen.
use Rattle.std.specs.Prelude.{◌≡◌, ◌≤◌, ℕ, List, [], ◌∷◌, Option, length}
use Rattle.up_conf.specs.declared.job.JobDef.{JobDef}
use Rattle.up_marks.specs.declared.mark.Mark.{Mark}
use Rattle.up_marks.specs.Triggers.{Remembers}
use Rattle.up_model.specs.Chronicle.{Chronicle, StartOn, StopOn}
use Rattle.up_model.specs.Configuration.{Configuration}
use Rattle.up_model.specs.Instances.{Instance, instances_of}
use Rattle.up_model.specs.Seen.{seen}
use Rattle.up_job.specs.declared.instances.JobInstances.{JobInstances}
use Rattle.up_job.specs.declared.instance.Instance.{Instance as Kept}
use Rattle.up_book.specs.Views.{Places}

-- each of these instances, of the `stop on` of its file
abbrev pub InstancesRemember : Places → Configuration → Chronicle → List Kept → List Instance → Type 0
InstancesRemember places config c [] [] = Unit {0}
InstancesRemember places config c (kept ∷ its) (x ∷ xs) =
    Remembers places kept.stop_on x.file.stop_on (seen config (StopOn x.place) c) × InstancesRemember places config c its xs
InstancesRemember places config c [] (x ∷ xs) = ⊥
InstancesRemember places config c (kept ∷ its) [] = ⊥

-- those of all jobs
abbrev pub StopsRemember : Places → Configuration → Chronicle → List JobInstances → List JobDef → Type 0
StopsRemember places config c [] [] = Unit {0}
StopsRemember places config c (kept ∷ its) (job ∷ jobs) =
    InstancesRemember places config c kept.instances (instances_of job.name c) × StopsRemember places config c its jobs
StopsRemember places config c [] (job ∷ jobs) = ⊥
StopsRemember places config c (kept ∷ its) [] = ⊥

-- each job, of its `start on`
abbrev pub StartsRemember : Places → Configuration → Chronicle → List (Option (List Mark)) → List JobDef → Type 0
StartsRemember places config c [] [] = Unit {0}
StartsRemember places config c (trigger ∷ triggers) (job ∷ jobs) =
    Remembers places trigger job.start_on (seen config (StartOn job.name) c) × StartsRemember places config c triggers jobs
StartsRemember places config c [] (job ∷ jobs) = ⊥
StartsRemember places config c (trigger ∷ triggers) [] = ⊥

-- an instance that is still to be made has seen nothing
abbrev pub AreUnborn : Configuration → Chronicle → Type 0
AreUnborn config c = (instance : ℕ) → length c ≤ instance → seen config (StopOn instance) c ≡ []

pub record Remembered (places : Places) (its : List JobInstances) (triggers : List (Option (List Mark))) (config : Configuration) (c : Chronicle) : Type 0 where
  pub stops : StopsRemember places config c its config.jobs
  pub starts : StartsRemember places config c triggers config.jobs
  pub unborn : AreUnborn config c
