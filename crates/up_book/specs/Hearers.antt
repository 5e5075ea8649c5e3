-- Which jobs hear of an event.
use Rattle.std.specs.Prelude.{map, ◌≡◌, ◌<◌, ◌≤◌, ◌==◌, nat_le, ℕ, Bool, true, false, ◌&&◌, ◌||◌, ◌⊎◌, List, [], ◌∷◌, Option, None, Some, if◌then◌else◌}
use Rattle.std.specs.List.{AllByRecursion, list_any}
use Rattle.up_conf.specs.declared.job.JobDef.{JobDef}
use Rattle.up_image.specs.declared.index.Place.{Place}
use Rattle.up_expr.specs.Trees.{Tree}
use Rattle.up_image.specs.Index.{named}
use Rattle.up_job.specs.JobLists.{instances_at}
use Rattle.up_job.specs.declared.instance.Instance.{Instance as Kept}
use Rattle.up_job.specs.declared.instances.JobInstances.{JobInstances}
use Rattle.up_marks.specs.Naming.{naming_in, of_expression}
use Rattle.up_marks.specs.Ruling.{may_hear, may_match_in}
use Rattle.up_model.specs.Chronicle.{Chronicle}
use Rattle.up_model.specs.Configuration.{Configuration}
use Rattle.up_model.specs.Instances.{Instance, instances_of}
use Rattle.up_model.specs.Values.{Bytes}
use Rattle.up_model.specs.declared.event.Event.{Event}
use Rattle.up_book.specs.Keys.{job_at}
use Rattle.up_job.specs.Lists.{nth}

-- whether a leaf of one of a job's expressions names an event, and doesn't rule it out by a literal value
abbrev pub hears : JobDef → Option Event → Bool
hears job event = may_hear job.start_on event || may_hear job.stop_on event

-- no `stop on` of these instances, each by its own file, may match an event
abbrev pub AreDeaf : Option Event → List Instance → Type 0
AreDeaf event its = AllByRecursion (λ x. may_hear x.file.stop_on event ≡ false) its

-- whether one of them may
abbrev pub one_hears : Option Event → List Instance → Bool
one_hears event its = list_any (λ x. may_hear x.file.stop_on event) its

-- an event can't match an expression in force of a job: its `start on`, or the `stop on` of one of its instances
abbrev pub IsDeaf : JobDef → Option Event → Chronicle → Type 0
IsDeaf job event c = (may_hear job.start_on event ≡ false) × AreDeaf event (instances_of job.name c)

-- the first job of a table, from an index on, that hears of an event: its index, or none
abbrev pub IsNextHearer : Configuration → Option Event → Chronicle → (from : ℕ) → Option ℕ → Type 0
IsNextHearer config event c from None = (n : ℕ) (job : JobDef) → from ≤ n → job_at config n ≡ Some job → IsDeaf job event c
IsNextHearer config event c from (Some next) = (from ≤ next)
    × ((n : ℕ) (job : JobDef) → from ≤ n → n < next → job_at config n ≡ Some job → IsDeaf job event c)
    × ((job : JobDef) → job_at config next ≡ Some job → (hears job event || one_hears event (instances_of job.name c)) ≡ true)

-- the job of the first of these places that isn't below another job's, and that a test admits
abbrev pub first_from : (admits : Place → Bool) → (from : ℕ) → List Place → Option ℕ
first_from admits from [] = None
first_from admits from (place ∷ places) =
    if nat_le from place.job && admits place then Some place.job else first_from admits from places

-- whether an event may match the `stop on` of one of these instances, as they are kept
abbrev pub one_stops : Event → List Kept → Bool
one_stops event its = list_any (λ k. may_match_in k.file.stop_on event.name event.vars) its

-- the same of the job of a place
abbrev pub has_stop : List JobInstances → Event → Place → Bool
has_stop jobs event place = one_stops event (instances_at place.job jobs)

-- the leaves of an expression in an index are those that name an event
abbrev pub HasLeaves : List Place → (job : ℕ) → (start : Bool) → Option Tree → Type 0
HasLeaves index job start condition =
    (name : Bytes) → map (λ place. place.node) (of_expression job start (named name index)) ≡ naming_in condition name

-- an index has the leaves of each of these jobs' expressions
pub record HasIndex (index : List Place) (jobs : List JobDef) : Type 0 where
  pub stops : (n : ℕ) (job : JobDef) → nth n jobs ≡ Some job → HasLeaves index n false job.stop_on
  pub starts : (n : ℕ) (job : JobDef) → nth n jobs ≡ Some job → HasLeaves index n true job.start_on

-- each event that an expression names has a place of a job among these
abbrev pub has_place : (job : ℕ) → List Place → Bool
has_place job places = list_any (λ place. place.job == job) places

abbrev pub IsCovered : List Place → (job : ℕ) → Option Tree → Type 0
IsCovered places job condition = (name : Bytes) → (naming_in condition name ≡ []) ⊎ (has_place job (named name places) ≡ true)

-- the `stop on` of an instance of a job is the one that the table has, or is among the others
abbrev pub IsFound : (others : List Place) → (n : ℕ) → JobDef → Instance → Type 0
IsFound others n job x = (x.file.stop_on ≡ job.stop_on) ⊎ IsCovered others n x.file.stop_on

pub record AreFound (others : List Place) (config : Configuration) (c : Chronicle) : Type 0 where
  pub each : (n : ℕ) (job : JobDef) → job_at config n ≡ Some job → AllByRecursion (IsFound others n job) (instances_of job.name c)
