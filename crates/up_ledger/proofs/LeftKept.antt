-- The processes that may still be ordered are counted by what is kept.
use Rattle.std.proofs.Common.{◌≡◌, ℕ, zero, ◌+◌, ◌==◌, Bool, true, false, List, [], ◌∷◌, length, map, Option, None, Some, is_some, option_map, bytes_eq, if◌then◌else◌, refl, sym, ◌∙◌, ap, subst, arith}
use Rattle.std.specs.List.{AllByRecursion}
use Rattle.up_conf.specs.declared.job.JobDef.{JobDef}
use Rattle.up_model.specs.declared.state.State.TheVariants as state
use Rattle.up_model.specs.Chronicle.{Chronicle, Made, Entered}
use Rattle.up_model.specs.Configuration.{Configuration, job_named}
use Rattle.up_model.specs.Instances.{Instance, is_before, with_instance, without_instance, instances_of, all_instances}
use Rattle.up_model.specs.Left.{left_in, left_at, left_among, left}
use Rattle.up_model.specs.Readings.{blocker}
use Rattle.up_model.specs.Values.{Bytes}
use Rattle.up_model.proofs.Places.{bytes_same, bytes_refl}
use Rattle.up_job.specs.declared.instances.JobInstances.{JobInstances}
use Rattle.up_job.specs.declared.instance.Instance.{Instance as Kept}
use Rattle.up_book.specs.Keeps.{AreDistinct, KeepsJobs}
use Rattle.up_book.specs.Summaries.{Summary, JobSummary, summary, job_summary}
use Rattle.up_book.specs.Views.{Places, view, job_view}
use Rattle.up_ledger.specs.Lefts.{left_of_all, left_of_jobs}

-- a sum over instances
abbrev pub sum : (ℕ → ℕ) → List Instance → ℕ
sum f [] = 0
sum f (x ∷ xs) = f x.place + sum f xs

abbrev pub but : ℕ → (ℕ → ℕ) → ℕ → ℕ
but i f place = if place == i then 0 else f place

sum-without : (f : ℕ → ℕ) (i : ℕ) (xs : List Instance) → sum f (without_instance i xs) ≡ sum (but i f) xs
sum-without f i [] = refl
sum-without f i (x ∷ xs) = by_case (x.place == i) (sum-without f i xs)
  where
    by_case : (b : Bool) → sum f (without_instance i xs) ≡ sum (but i f) xs
        → sum f (if b then without_instance i xs else x ∷ without_instance i xs) ≡ (if b then 0 else f x.place) + sum (but i f) xs
    by_case true ih = omega (arith, ih)
    by_case false ih = omega (arith, ih)

sum-with : (f : ℕ → ℕ) (x : Instance) (xs : List Instance) → sum f (with_instance x xs) ≡ f x.place + sum f xs
sum-with f x [] = refl
sum-with f x (y ∷ ys) = by_case (is_before y x) (sum-with f x ys)
  where
    by_case : (b : Bool) → sum f (with_instance x ys) ≡ f x.place + sum f ys
        → sum f (if b then y ∷ with_instance x ys else x ∷ y ∷ ys) ≡ f x.place + (f y.place + sum f ys)
    by_case true ih = omega (arith, ih)
    by_case false ih = refl

-- over the instances of jobs
abbrev pub job_sums : (ℕ → ℕ) → List JobDef → Chronicle → ℕ
job_sums f [] c = 0
job_sums f (job ∷ jobs) c = sum f (instances_of job.name c) + job_sums f jobs c

sums-none : (f : ℕ → ℕ) (jobs : List JobDef) → job_sums f jobs [] ≡ 0
sums-none f [] = refl
sums-none f (job ∷ jobs) = omega (arith, sums-none f jobs)

sums-same : (f : ℕ → ℕ) (jobs : List JobDef) (c d : Chronicle) → ((name : Bytes) → instances_of name d ≡ instances_of name c) → job_sums f jobs d ≡ job_sums f jobs c
sums-same f [] c d same = refl
sums-same f (job ∷ jobs) c d same = rw (same job.name, sums-same f jobs c d same) refl

sums-left : (f : ℕ → ℕ) (i : ℕ) (jobs : List JobDef) (c : Chronicle) → job_sums f jobs (Entered i state.Waiting ∷ c) ≡ job_sums (but i f) jobs c
sums-left f i [] c = refl
sums-left f i (job ∷ jobs) c = rw (sum-without f i (instances_of job.name c), sums-left f i jobs c) refl

back : (x y : Bytes) → bytes_eq x y ≡ false → bytes_eq y x ≡ false
back x y apart = by_case (bytes_eq y x) refl
  where
    by_case : (b : Bool) → bytes_eq y x ≡ b → b ≡ false
    by_case true same =
        let yes : bytes_eq x y ≡ true = ap (λ z. bytes_eq x z) (bytes_same y x same) ∙ bytes_refl x in
        absurd cc
    by_case false differs = refl

sums-past : (f : ℕ → ℕ) (jobs : List JobDef) (file : JobDef) (name : Bytes) (c : Chronicle) → AllByRecursion (λ other. bytes_eq other.name file.name ≡ false) jobs → job_sums f jobs (Made file name ∷ c) ≡ job_sums f jobs c
sums-past f [] file name c apart = refl
sums-past f (job ∷ jobs) file name c apart = rw (back job.name file.name apart.0, sums-past f jobs file name c apart.1) refl

sums-made : (f : ℕ → ℕ) (jobs : List JobDef) (file : JobDef) (name : Bytes) (c : Chronicle) → AreDistinct jobs → is_some (job_named file.name jobs) ≡ true
    → job_sums f jobs (Made file name ∷ c) ≡ f (length c) + job_sums f jobs c
sums-made f [] file name c distinct some = absurd cc
sums-made f (job ∷ jobs) file name c distinct some = by_case (bytes_eq job.name file.name) refl some (sums-made f jobs file name c distinct.1)
  where
    new : Instance
    new = record { place = length c; name = name; file = file }

    by_case : (b : Bool) → bytes_eq job.name file.name ≡ b → is_some (if b then Some job else job_named file.name jobs) ≡ true
        → (is_some (job_named file.name jobs) ≡ true → job_sums f jobs (Made file name ∷ c) ≡ f (length c) + job_sums f jobs c)
        → job_sums f (job ∷ jobs) (Made file name ∷ c) ≡ f (length c) + job_sums f (job ∷ jobs) c
    by_case true same some ih =
        let names : job.name ≡ file.name = bytes_same job.name file.name same in
        let here : bytes_eq file.name job.name ≡ true = ap (λ n. bytes_eq file.name n) names ∙ bytes_refl file.name in
        let past = sums-past f jobs file name c (subst (λ n. AllByRecursion (λ (other : JobDef). bytes_eq other.name n ≡ false) jobs) names distinct.0) in
        rw (here, past) (omega (arith, sum-with f new (instances_of job.name c)))
    by_case false differs some ih =
        let rest = ih some in
        rw (back job.name file.name differs) (omega (arith, rest))

-- over those that are of these jobs
abbrev sum_in : (ℕ → ℕ) → List JobDef → List Instance → ℕ
sum_in f jobs [] = 0
sum_in f jobs (x ∷ xs) = (if is_some (job_named x.file.name jobs) then f x.place else 0) + sum_in f jobs xs

none-if : (b : Bool) → (if b then zero else zero) ≡ 0
none-if true = refl
none-if false = refl

in-without : (f : ℕ → ℕ) (i : ℕ) (jobs : List JobDef) (xs : List Instance) → sum_in f jobs (without_instance i xs) ≡ sum_in (but i f) jobs xs
in-without f i jobs [] = refl
in-without f i jobs (x ∷ xs) = by_case (x.place == i) (in-without f i jobs xs)
  where
    some : Bool
    some = is_some (job_named x.file.name jobs)

    by_case : (b : Bool) → sum_in f jobs (without_instance i xs) ≡ sum_in (but i f) jobs xs
        → sum_in f jobs (if b then without_instance i xs else x ∷ without_instance i xs) ≡ (if some then (if b then 0 else f x.place) else 0) + sum_in (but i f) jobs xs
    by_case true ih = omega (arith, ih, none-if some)
    by_case false ih = omega (arith, ih)

none-named : (name : Bytes) (jobs : List JobDef) → is_some (job_named name jobs) ≡ false → AllByRecursion (λ other. bytes_eq other.name name ≡ false) jobs
none-named name [] none = tt
none-named name (job ∷ jobs) none = by_case (bytes_eq job.name name) refl none (none-named name jobs)
  where
    by_case : (b : Bool) → bytes_eq job.name name ≡ b → is_some (if b then Some job else job_named name jobs) ≡ false
        → (is_some (job_named name jobs) ≡ false → AllByRecursion (λ other. bytes_eq other.name name ≡ false) jobs)
        → (bytes_eq job.name name ≡ false) × AllByRecursion (λ other. bytes_eq other.name name ≡ false) jobs
    by_case true same none ih = absurd cc
    by_case false differs none ih = (differs, ih none)

in-jobs : (f : ℕ → ℕ) (jobs : List JobDef) (c : Chronicle) → AreDistinct jobs → sum_in f jobs (all_instances c) ≡ job_sums f jobs c
in-jobs f jobs [] distinct = sym (sums-none f jobs)
in-jobs f jobs (Made file name ∷ c) distinct = by_case (is_some (job_named file.name jobs)) refl (in-jobs f jobs c distinct)
  where
    by_case : (b : Bool) → is_some (job_named file.name jobs) ≡ b → sum_in f jobs (all_instances c) ≡ job_sums f jobs c
        → (if b then f (length c) else 0) + sum_in f jobs (all_instances c) ≡ job_sums f jobs (Made file name ∷ c)
    by_case true some ih = omega (arith, ih, sums-made f jobs file name c distinct some)
    by_case false none ih = omega (arith, ih, sums-past f jobs file name c (none-named file.name jobs none))
in-jobs f jobs (Entered i state.Waiting ∷ c) distinct =
    in-without f i jobs (all_instances c) ∙ in-jobs (but i f) jobs c distinct ∙ sym (sums-left f i jobs c)
in-jobs f jobs (entry ∷ c) distinct = in-jobs f jobs c distinct ∙ sym (sums-same f jobs c (entry ∷ c) (λ name. refl))

-- where a job that isn't among these has none
abbrev one : ℕ → ℕ
one place = 1

all-named : (f : ℕ → ℕ) (jobs : List JobDef) (xs : List Instance) → ((file : JobDef) → job_named file.name jobs ≡ None → sum_in one (file ∷ []) xs ≡ 0) → sum_in f jobs xs ≡ sum f xs
all-named f jobs [] none = refl
all-named f jobs (x ∷ xs) none = by_case (job_named x.file.name jobs) refl (all-named f jobs xs (λ file unnamed. omega (arith, none file unnamed)))
  where
    by_case : (o : Option JobDef) → job_named x.file.name jobs ≡ o → sum_in f jobs xs ≡ sum f xs → (if is_some o then f x.place else 0) + sum_in f jobs xs ≡ f x.place + sum f xs
    by_case (Some job) is ih = omega (arith, ih)
    by_case None is ih =
        let mine : is_some (if bytes_eq x.file.name x.file.name then Some x.file else None) ≡ true = ap (λ (b : Bool). is_some (if b then Some x.file else None)) (bytes_refl x.file.name) in
        let some : 1 + sum_in one (x.file ∷ []) xs ≡ 0 = ap (λ (b : Bool). (if b then 1 else 0) + sum_in one (x.file ∷ []) xs) (sym mine) ∙ none x.file is in
        absurd (omega arith)

-- a sum over all instances is one over the jobs
pub sum-all : (f : ℕ → ℕ) (jobs : List JobDef) (c : Chronicle) → AreDistinct jobs → ((job : Bytes) → job_named job jobs ≡ None → instances_of job c ≡ []) → sum f (all_instances c) ≡ job_sums f jobs c
sum-all f jobs c distinct known =
    sym (all-named f jobs (all_instances c) (λ file none. in-jobs one (file ∷ []) c (tt, tt) ∙ ap (λ xs. sum one xs + 0) (known file.name none))) ∙ in-jobs f jobs c distinct

-- by summaries
abbrev left_by : Summary → ℕ
left_by s = left_in s.goal s.state (is_some s.blocker)

abbrev left_by_all : List Summary → ℕ
left_by_all [] = 0
left_by_all (s ∷ its) = left_by s + left_by_all its

abbrev left_by_jobs : List JobSummary → ℕ
left_by_jobs [] = 0
left_by_jobs (job ∷ jobs) = left_by_all job.instances + left_by_jobs jobs

is_some-map : {X Y : Type 0} (f : X → Y) (its : Option X) → is_some (option_map f its) ≡ is_some its
is_some-map f None = refl
is_some-map f (Some x) = refl

kept-by : (places : Places) (its : List Kept) → left_by_all (map (view places) its) ≡ left_of_all its
kept-by places [] = refl
kept-by places (kept ∷ its) = rw (is_some-map places kept.blocker, kept-by places its) refl

jobs-by : (places : Places) (jobs : List JobInstances) → left_by_jobs (map (job_view places) jobs) ≡ left_of_jobs jobs
jobs-by places [] = refl
jobs-by places (job ∷ jobs) = rw (kept-by places job.instances, jobs-by places jobs) refl

seen-by : (config : Configuration) (job : JobDef) (c : Chronicle) (its : List Instance) → left_by_all (map (summary c) its) ≡ sum (λ p. left_at p c) its
seen-by config job c [] = refl
seen-by config job c (x ∷ its) = rw (is_some-map Some (blocker x.place c), seen-by config job c its) refl

summed-by : (config : Configuration) (c : Chronicle) (jobs : List JobDef) → left_by_jobs (map (job_summary c) jobs) ≡ job_sums (λ p. left_at p c) jobs c
summed-by config c [] = refl
summed-by config c (job ∷ jobs) = rw (seen-by config job c (instances_of job.name c), summed-by config c jobs) refl

among : (xs : List Instance) (c : Chronicle) → left_among xs c ≡ sum (λ p. left_at p c) xs
among [] c = refl
among (x ∷ xs) c = rw (among xs c) refl

-- what is kept counts what may still be ordered
pub left-kept : (places : Places) (jobs : List JobInstances) (config : Configuration) (c : Chronicle) → KeepsJobs places jobs config c → AreDistinct config.jobs
    → ((job : Bytes) → job_named job config.jobs ≡ None → instances_of job c ≡ []) → left_of_jobs jobs ≡ left c
unfolding left
left-kept places jobs config c keeps distinct known =
    sym (jobs-by places jobs) ∙ ap left_by_jobs keeps ∙ summed-by config c config.jobs ∙ sym (sum-all (λ p. left_at p c) config.jobs c distinct known) ∙ sym (among (all_instances c) c)
