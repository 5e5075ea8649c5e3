-- What doing what is due comes to, one instance after another.
use Rattle.std.specs.Prelude.{◌≡◌, ℕ, zero, suc, Bool, true, false, List, [], ◌∷◌, ◌++◌, if◌then◌else◌}
use Rattle.up_conf.specs.declared.job.JobDef.{JobDef}
use Rattle.up_model.specs.Chronicle.{Chronicle}
use Rattle.up_model.specs.Configuration.{Configuration}
use Rattle.up_model.specs.Due.{effect}
use Rattle.up_model.specs.Instances.{Instance, without_instance, instances_of}
use Rattle.up_model.specs.Moves.{may_leave, move}
use Rattle.up_model.specs.Offers.{stop_offer, start_offer}
use Rattle.up_model.specs.Values.{Bytes}
use Rattle.up_model.specs.Work.{work, settle}
use Rattle.up_model.specs.declared.input.Input.{Input}

-- an instance moves as long as it may, so many times at most
abbrev pub settle_one : ℕ → JobDef → Instance → Chronicle → Chronicle
settle_one zero job x c = c
settle_one (suc n) job x c = if may_leave job x.place c then settle_one n job x (move job x c ++ c) else c

-- these instances do, one after another, each by its own file; none moves more than five times
abbrev pub settle_each : List Instance → Chronicle → Chronicle
settle_each [] c = c
settle_each (x ∷ its) c = settle_each its (settle_one 5 x.file x c)

-- all instances do, job by job
abbrev pub settle_all : List JobDef → Chronicle → Chronicle
settle_all [] c = c
settle_all (job ∷ jobs) c = settle_all jobs (settle_each (instances_of job.name c) c)

-- the instances after the moves of one, which is still there, or has gone
abbrev pub ListsAfter : (stays : Bool) → Instance → Chronicle → Chronicle → Type 0
ListsAfter true x c d = (job : Bytes) → instances_of job d ≡ instances_of job c
ListsAfter false x c d = (job : Bytes) → instances_of job d ≡ without_instance x.place (instances_of job c)

-- the event is offered to the `stop on` of each of these instances, by its own file, and it then moves as long as it may
abbrev pub hear_stops : Configuration → List Instance → (event : ℕ) → Chronicle → Chronicle
hear_stops config [] event c = c
hear_stops config (x ∷ its) event c =
    hear_stops config its event (settle_one 5 x.file x (stop_offer config x.file x.place event c ++ c))

-- it is offered to the job's `start on`, and the job's instances move as long as they may
abbrev pub hear_start : Configuration → JobDef → (event : ℕ) → Chronicle → Chronicle
hear_start config job event c =
    let d = start_offer config job event c ++ c in
    settle_each (instances_of job.name d) d

abbrev pub hear : Configuration → JobDef → (event : ℕ) → Chronicle → Chronicle
hear config job event c =
    hear_start config job event (hear_stops config (instances_of job.name c) event c)

-- each job hears of the event
abbrev pub hear_all : Configuration → List JobDef → (event : ℕ) → Chronicle → Chronicle
hear_all config [] event c = c
hear_all config (job ∷ jobs) event c = hear_all config jobs event (hear config job event c)

-- the chronicle after an input that leaves the configuration as it is: its effect, and then what is due until nothing is
unfoldable pub after_in : Configuration → Chronicle → Input → Chronicle
after_in config c given = let d = effect config given c ++ c in settle (work config d) config d
