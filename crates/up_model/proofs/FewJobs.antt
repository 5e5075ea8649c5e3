-- After a load there are as many jobs as the new ones, and at most one more for each instance that exists.
use Rattle.up_model.proofs.Names.{◌≡◌, ℕ, Bool, true, false, not, List, [], ◌∷◌, ◌++◌, length, if◌then◌else◌, refl, ◌∙◌, ap}
use Rattle.up_model.proofs.Names.{◌&&◌, bytes_eq, filter, AllByRecursion, JobDef, is_filled, Chronicle, Configuration, job_named, Instance, instances_of}
use Rattle.std.proofs.Common.{◌+◌, ◌≤◌, ◌==◌, map, is_some, arith, length-append}
use Rattle.up_conf.specs.Order.{put_by, sort_by_order, is_below}
use Rattle.up_model.specs.Chronicle.{Made, Entered}
use Rattle.up_model.specs.Instances.{all_instances, is_before, with_instance, without_instance}
use Rattle.up_model.specs.Loads.{goes_on, going_on, with_jobs, without_start}
use Rattle.up_model.specs.declared.state.State.TheVariants as state
use Rattle.up_model.specs.Configuration.{AreDistinct}
use Rattle.up_model.proofs.Places.{bytes_same, bytes_refl}
use Rattle.up_model.specs.Values.{Bytes}

-- instances, by what each weighs
abbrev weigh : (Instance → ℕ) → List Instance → ℕ
weigh w [] = 0
weigh w (x ∷ xs) = w x + weigh w xs

-- the same but for the one that was made at a place
abbrev spare : ℕ → (Instance → ℕ) → Instance → ℕ
spare i w x = if x.place == i then 0 else w x

weigh-put : (w : Instance → ℕ) (x : Instance) (xs : List Instance) → weigh w (put_by is_before x xs) ≡ w x + weigh w xs
weigh-put w x [] = refl
weigh-put w x (y ∷ ys) = by_case (is_before y x) (weigh-put w x ys)
  where
    by_case : (b : Bool) → weigh w (put_by is_before x ys) ≡ w x + weigh w ys
        → weigh w (if b then y ∷ put_by is_before x ys else x ∷ y ∷ ys) ≡ w x + (w y + weigh w ys)
    by_case true rest = omega (arith, rest)
    by_case false rest = refl

weigh-without : (w : Instance → ℕ) (i : ℕ) (xs : List Instance) → weigh w (without_instance i xs) ≡ weigh (spare i w) xs
weigh-without w i [] = refl
weigh-without w i (x ∷ xs) = by_case (x.place == i) (weigh-without w i xs)
  where
    by_case : (b : Bool) → weigh w (without_instance i xs) ≡ weigh (spare i w) xs
        → weigh w (if b then without_instance i xs else x ∷ without_instance i xs) ≡ (if b then 0 else w x) + weigh (spare i w) xs
    by_case true rest = omega (arith, rest)
    by_case false rest = omega (arith, rest)

-- the instances of these jobs
abbrev total : (Instance → ℕ) → Chronicle → List JobDef → ℕ
total w c [] = 0
total w c (job ∷ jobs) = weigh w (instances_of job.name c) + total w c jobs

total-same : (w : Instance → ℕ) (c d : Chronicle) (jobs : List JobDef) → ((name : Bytes) → instances_of name d ≡ instances_of name c) → total w d jobs ≡ total w c jobs
total-same w c d [] same = refl
total-same w c d (job ∷ jobs) same = omega (arith, ap (weigh w) (same job.name), total-same w c d jobs same)

total-none : (w : Instance → ℕ) (jobs : List JobDef) → total w [] jobs ≡ 0
total-none w [] = refl
total-none w (job ∷ jobs) = omega (arith, total-none w jobs)

total-without : (w : Instance → ℕ) (i : ℕ) (c : Chronicle) (jobs : List JobDef) → total w (Entered i state.Waiting ∷ c) jobs ≡ total (spare i w) c jobs
total-without w i c [] = refl
total-without w i c (job ∷ jobs) = omega (arith, weigh-without w i (instances_of job.name c), total-without w i c jobs)

-- of jobs that have another name none has an instance more
total-others : (w : Instance → ℕ) (file : JobDef) (name : Bytes) (c : Chronicle) (jobs : List JobDef) → AllByRecursion (λ other. bytes_eq other.name file.name ≡ false) jobs
    → total w (Made file name ∷ c) jobs ≡ total w c jobs
total-others w file name c [] others = refl
total-others w file name c (job ∷ jobs) others = by_case (bytes_eq file.name job.name) refl (total-others w file name c jobs others.1)
  where
    x : Instance
    x = record { place = length c; name = name; file = file }

    by_case : (b : Bool) → bytes_eq file.name job.name ≡ b → total w (Made file name ∷ c) jobs ≡ total w c jobs
        → weigh w (if b then with_instance x (instances_of job.name c) else instances_of job.name c) + total w (Made file name ∷ c) jobs
        ≡ weigh w (instances_of job.name c) + total w c jobs
    by_case true same rest =
        let again : bytes_eq job.name file.name ≡ true = ap (bytes_eq job.name) (bytes_same file.name job.name same) ∙ bytes_refl job.name in
        absurd cc
    by_case false apart rest = omega (arith, rest)

-- of jobs with different names one has, at most
total-made : (w : Instance → ℕ) (file : JobDef) (name : Bytes) (c : Chronicle) (jobs : List JobDef) → AreDistinct jobs
    → total w (Made file name ∷ c) jobs ≤ w (record { place = length c; name = name; file = file }) + total w c jobs
total-made w file name c [] distinct = omega arith
total-made w file name c (job ∷ jobs) distinct = by_case (bytes_eq file.name job.name) refl (total-made w file name c jobs distinct.1)
  where
    x : Instance
    x = record { place = length c; name = name; file = file }

    named : bytes_eq file.name job.name ≡ true → (others : List JobDef) → AllByRecursion (λ other. bytes_eq other.name job.name ≡ false) others
        → AllByRecursion (λ other. bytes_eq other.name file.name ≡ false) others
    named same [] apart = tt
    named same (other ∷ others) apart = (ap (bytes_eq other.name) (bytes_same file.name job.name same) ∙ apart.0, named same others apart.1)

    by_case : (b : Bool) → bytes_eq file.name job.name ≡ b → total w (Made file name ∷ c) jobs ≤ w x + total w c jobs
        → weigh w (if b then with_instance x (instances_of job.name c) else instances_of job.name c) + total w (Made file name ∷ c) jobs
        ≤ w x + (weigh w (instances_of job.name c) + total w c jobs)
    by_case true same more =
        let put = weigh-put w x (instances_of job.name c) in
        let rest = total-others w file name c jobs (named same jobs distinct.0) in
        omega (arith, put, rest)
    by_case false apart more = omega (arith, more)

-- each instance is that of one job
bounded : (w : Instance → ℕ) (c : Chronicle) (jobs : List JobDef) → AreDistinct jobs → total w c jobs ≤ weigh w (all_instances c)
bounded w [] jobs distinct = omega (arith, total-none w jobs)
bounded w (Made file name ∷ c) jobs distinct = omega (arith, total-made w file name c jobs distinct, bounded w c jobs distinct)
bounded w (Entered i state.Waiting ∷ c) jobs distinct =
    omega (arith, total-without w i c jobs, weigh-without w i (all_instances c), bounded (spare i w) c jobs distinct)
bounded w (e ∷ c) jobs distinct = omega (arith, total-same w c (e ∷ c) jobs (λ name. refl), bounded w c jobs distinct)

-- a job that goes on has one
weigh-ones : (xs : List Instance) → weigh (λ x. 1) xs ≡ length xs
weigh-ones [] = refl
weigh-ones (x ∷ xs) = omega (arith, weigh-ones xs)

going-few : (new old : List JobDef) (c : Chronicle) → length (filter (goes_on new c) old) ≤ total (λ x. 1) c old
going-few new [] c = omega arith
going-few new (job ∷ old) c = by_case (not (is_some (job_named job.name new))) (instances_of job.name c) (going-few new old c)
  where
    by_case : (b : Bool) (its : List Instance) → length (filter (goes_on new c) old) ≤ total (λ x. 1) c old
        → length (if b && is_filled its then job ∷ filter (goes_on new c) old else filter (goes_on new c) old) ≤ weigh (λ x. 1) its + total (λ x. 1) c old
    by_case true [] rest = omega (arith, rest)
    by_case true (x ∷ its) rest = omega (arith, rest)
    by_case false its rest = omega (arith, rest)

length-map : (xs : List JobDef) → length (map without_start xs) ≡ length xs
length-map [] = refl
length-map (x ∷ xs) = omega (arith, length-map xs)

length-put : (less : JobDef → JobDef → Bool) (x : JobDef) (xs : List JobDef) → length (put_by less x xs) ≡ length xs + 1
length-put less x [] = refl
length-put less x (y ∷ ys) = by_case (less y x) (length-put less x ys)
  where
    by_case : (b : Bool) → length (put_by less x ys) ≡ length ys + 1 → length (if b then y ∷ put_by less x ys else x ∷ y ∷ ys) ≡ length (y ∷ ys) + 1
    by_case true rest = omega (arith, rest)
    by_case false rest = omega arith

length-sort : (less : JobDef → JobDef → Bool) (xs : List JobDef) → length (sort_by_order less xs) ≡ length xs
length-sort less [] = refl
length-sort less (x ∷ xs) = omega (arith, length-put less x (sort_by_order less xs), length-sort less xs)

pub few-jobs : (new : List JobDef) (config : Configuration) (c : Chronicle) → AreDistinct config.jobs → length (with_jobs new config c).jobs ≤ length new + length (all_instances c)
few-jobs new config c distinct =
    let sorted = length-sort (λ x y. is_below x.name y.name) (new ++ going_on new config.jobs c) in
    let both = length-append new (going_on new config.jobs c) in
    let going = length-map (filter (goes_on new c) config.jobs) in
    omega (arith, sorted, both, going, going-few new config.jobs c, bounded (λ x. 1) c config.jobs distinct, weigh-ones (all_instances c))
