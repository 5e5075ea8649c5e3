-- Which value a leaf wants of an event, and which job is the first with a leaf that may match one.
use Rattle.std.specs.Prelude.{◌≡◌, ◌≤◌, ◌<◌, ◌==◌, ℕ, Bool, true, false, ◌&&◌, ◌||◌, nat_lt, List, [], ◌∷◌, filter, map, Option, None, Some, if◌then◌else◌}
use Rattle.std.specs.Cmp.Lexicographic.{slice_cmp}
use Rattle.std.specs.List.{list_any}
use Rattle.std.specs.List.Sorted.{IsPermutation, IsSortedBy}
use Rattle.std.specs.Ordering.{is_lt, nat_cmp, on, then_cmp}
use Rattle.std.specs.Str.{bytes_eq}
use Rattle.std.specs.declared.cmp.Ordering.{Ordering}
use Rattle.up_conf.specs.declared.job.JobDef.{JobDef}
use Rattle.up_expr.specs.declared.expr.Leaf.{Leaf}
use Rattle.up_expr.specs.declared.expr.Test.{Test}
use Rattle.up_expr.specs.declared.expr.Test.TheVariants as test
use Rattle.up_image.specs.declared.index.Place.{Place}
use Rattle.up_image.specs.Index.{places_of}
use Rattle.up_value.specs.Values.{Bytes, Bindings}
use Rattle.up_marks.specs.Ruling.{is_literal, leaf_at}
use Rattle.up_marks.specs.declared.wanted.Wanted.{Wanted}

-- the least number, not below another, for which a test holds, or none
abbrev pub IsLeastFrom : (test : ℕ → Bool) → (from : ℕ) → Option ℕ → Type 0
IsLeastFrom test from None = (n : ℕ) → from ≤ n → test n ≡ false
IsLeastFrom test from (Some next) = (from ≤ next)
    × ((n : ℕ) → from ≤ n → n < next → test n ≡ false)
    × (test next ≡ true)

-- the lesser of two, if there are two
abbrev pub lesser : Option ℕ → Option ℕ → Option ℕ
lesser None other = other
lesser (Some one) None = Some one
lesser (Some one) (Some other) = if nat_lt other one then Some other else Some one

-- whether a test admits one of these places that is of a job
abbrev pub has_job : (admits : Place → Bool) → ℕ → List Place → Bool
has_job admits job places = list_any (λ place. (place.job == job) && admits place) places

-- the least job, not below another, of those of these places that a test admits
abbrev pub IsNextJob : (admits : Place → Bool) → (from : ℕ) → List Place → Option ℕ → Type 0
IsNextJob admits from places = IsLeastFrom (λ job. has_job admits job places) from

-- the value of a test, if it stands for itself alone: then a variable of the event must have it
abbrev pub literal_of : Bytes → Option Bytes
literal_of value = if is_literal value then Some value else None

abbrev pub literal_in : Test → Option Bytes
literal_in (test.Place value) = literal_of value
literal_in (test.Same key value) = literal_of value
literal_in (test.Differs key value) = None

-- the first such value of a leaf; an empty one if it has none
abbrev pub or_wanted : Option Bytes → Bytes → Bytes
or_wanted None wanted = wanted
or_wanted (Some value) wanted = value

abbrev pub wanted_in : List Test → Bytes
wanted_in [] = []
wanted_in (its ∷ tests) = or_wanted (literal_in its) (wanted_in tests)

abbrev pub wanted_by : Option Leaf → Bytes
wanted_by None = []
wanted_by (Some leaf) = wanted_in leaf.values

abbrev pub wanting : List JobDef → Place → Wanted
wanting jobs place = record { value = wanted_by (leaf_at jobs place); place = place }

-- leaves in order: by their events, then by the values that they want, and then by their jobs
abbrev pub Key : Type 0
Key = Bytes × Bytes × ℕ

abbrev pub key_of : Wanted → Key
key_of leaf = (leaf.place.event, leaf.value, leaf.place.job)

abbrev pub compare_texts : Key → Key → Ordering
compare_texts = then_cmp (on (λ key. key.0) (slice_cmp nat_cmp)) (on (λ key. key.1) (slice_cmp nat_cmp))

abbrev pub compare : Key → Key → Ordering
compare = then_cmp compare_texts (on (λ key. key.2) nat_cmp)

abbrev pub is_before : Key → Key → Bool
is_before key other = is_lt (compare key other)

abbrev pub AreOrdered : List Wanted → Type 0
AreOrdered leaves = IsSortedBy (λ leaf other. is_before (key_of leaf) (key_of other)) leaves

-- these are the leaves of jobs, each with the value that it wants
abbrev pub Finds : List Wanted → List JobDef → Type 0
Finds leaves jobs = IsPermutation (map (wanting jobs) (places_of 0 jobs)) leaves

-- those that name an event
abbrev pub names : (name : Bytes) → Wanted → Bool
names name leaf = bytes_eq leaf.place.event name

abbrev pub of_event : (name : Bytes) → List Wanted → List Wanted
of_event name leaves = filter (names name) leaves

-- whether a leaf comes before those of its event that want a value and are of this job or a later one
abbrev pub is_early : (value : Bytes) → (job : ℕ) → Wanted → Bool
is_early value job leaf = is_before (key_of leaf) (leaf.place.event, value, job)

-- whether a leaf names an event and wants this value of it
abbrev pub wants : (name value : Bytes) → Wanted → Bool
wants name value leaf = bytes_eq leaf.place.event name && bytes_eq leaf.value value

-- whether a test admits one of the leaves of a job that do
abbrev pub has_wanting : (admits : Place → Bool) → (name value : Bytes) → List Wanted → (job : ℕ) → Bool
has_wanting admits name value leaves job =
    list_any (λ leaf. wants name value leaf && ((leaf.place.job == job) && admits leaf.place)) leaves

-- the same of leaves that want nothing, or the value of one of these variables
abbrev pub has_wanted : (admits : Place → Bool) → (name : Bytes) → (vars : Bindings) → List Wanted → (job : ℕ) → Bool
has_wanted admits name vars leaves job =
    list_any (λ pair. has_wanting admits name pair.1 leaves job) vars || has_wanting admits name [] leaves job

-- among leaves in order, the job of the first of those that want a value, from the first leaf on, that a test admits
abbrev pub first_wanting : (admits : Place → Bool) → (name value : Bytes) → List Wanted → Option ℕ
first_wanting admits name value [] = None
first_wanting admits name value (leaf ∷ leaves) =
    if wants name value leaf
    then (if admits leaf.place then Some leaf.place.job else first_wanting admits name value leaves) else None
