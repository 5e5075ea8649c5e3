-- Instances by their names: each stands where it was made, and if each is found by its name, that stays so.
use Rattle.std.proofs.Common.{◌≡◌, ℕ, ◌<◌, ◌==◌, Bool, true, false, List, [], ◌∷◌, length, None, Some, if◌then◌else◌, bytes_eq, refl, sym, ◌∙◌, ap, subst, arith, eq-eqb}
use Rattle.std.specs.List.{AllByRecursion}
use Rattle.up_conf.specs.declared.job.JobDef.{JobDef}
use Rattle.up_model.specs.declared.state.State.{State}
use Rattle.up_model.specs.declared.state.State.TheVariants as state
use Rattle.up_model.specs.declared.who.Who.{Who}
use Rattle.up_model.specs.Chronicle.{Chronicle, Entry, Made, Entered}
use Rattle.up_model.specs.Instances.{Instance, is_before, with_instance, without_instance, instances_of, place_named, instance_named}
use Rattle.up_model.specs.Readings.{made_at}
use Rattle.up_model.specs.Values.{Bytes}
use Rattle.up_model.proofs.Places.{bytes_same, bytes_refl, older-other, all-without}

-- an instance of this name
abbrev pub called : Bytes → Bytes → Who
called job name = record { job = job; instance = name }

-- an instance that was made at its place, under its name
abbrev pub IsKnown : Bytes → Chronicle → Instance → Type 0
IsKnown job c x = (x.place < length c) × (made_at x.place c ≡ Some (called job x.name))

-- it stays so
known-later : (job : Bytes) (e : Entry) (c : Chronicle) (xs : List Instance) → AllByRecursion (IsKnown job c) xs → AllByRecursion (IsKnown job (e ∷ c)) xs
known-later job e c [] all = tt
known-later job e c (x ∷ xs) all = ((omega (arith, all.0.0), rw (older-other (length c) x.place all.0.0) all.0.1), known-later job e c xs all.1)

-- what holds of an instance and of others holds of them together
pub all-with : (P : Instance → Type 0) (y : Instance) (ys : List Instance) → P y → AllByRecursion P ys → AllByRecursion P (with_instance y ys)
all-with P y [] h all = (h, tt)
all-with P y (z ∷ zs) h all = by_case (is_before z y) (all-with P y zs h all.1)
  where
    by_case : (b : Bool) → AllByRecursion P (with_instance y zs) → AllByRecursion P (if b then z ∷ with_instance y zs else y ∷ z ∷ zs)
    by_case true ih = (all.0, ih)
    by_case false ih = (h, all)

-- each instance of a job is known
pub known : (job : Bytes) (c : Chronicle) → AllByRecursion (IsKnown job c) (instances_of job c)
known job [] = tt
known job (Made file name ∷ c) = by_case (bytes_eq file.name job) refl (known-later job (Made file name) c (instances_of job c) (known job c))
  where
    d : Chronicle
    d = Made file name ∷ c

    made : Instance
    made = record { place = length c; name = name; file = file }

    by_case : (b : Bool) → bytes_eq file.name job ≡ b → AllByRecursion (IsKnown job d) (instances_of job c)
        → AllByRecursion (IsKnown job d) (if b then with_instance made (instances_of job c) else instances_of job c)
    by_case true same rest =
        all-with (IsKnown job d) made (instances_of job c) (omega arith, rw (eq-eqb (length c) (length c) refl) (ap (λ its. Some (called its name)) (bytes_same file.name job same))) rest
    by_case false differs rest = rest
known job (Entered i state.Waiting ∷ c) = known-later job (Entered i state.Waiting) c (without_instance i (instances_of job c)) (all-without (IsKnown job c) i (instances_of job c) (known job c))
known job (entry ∷ c) = known-later job entry c (instances_of job c) (known job c)

-- what holds of instances by place and name holds of the one that a name finds
of-named : (Q : ℕ → Bytes → Type 0) (name : Bytes) (p : ℕ) (xs : List Instance) → AllByRecursion (λ x. Q x.place x.name) xs → place_named name xs ≡ Some p → Q p name
of-named Q name p [] all found = cc
of-named Q name p (x ∷ xs) all found = by_case (bytes_eq x.name name) refl found (of-named Q name p xs all.1)
  where
    by_case : (b : Bool) → bytes_eq x.name name ≡ b → (if b then Some x.place else place_named name xs) ≡ Some p → (place_named name xs ≡ Some p → Q p name) → Q p name
    by_case true same found ih =
        let place : x.place ≡ p = cc in
        subst (λ its. Q its name) place (subst (λ its. Q x.place its) (bytes_same x.name name same) all.0)
    by_case false differs found ih = ih found

-- so an instance that is found stands where it was made, under its name
pub made-named : (who : Who) (p : ℕ) (c : Chronicle) → instance_named who c ≡ Some p → (p < length c) × (made_at p c ≡ Some who)
made-named who p c found =
    of-named (λ place name. (place < length c) × (made_at place c ≡ Some (called who.job name))) who.instance p (instances_of who.job c) (known who.job c) found

-- these instances are found by their names
abbrev pub AreSingle : (all xs : List Instance) → Type 0
AreSingle all xs = AllByRecursion (λ x. place_named x.name all ≡ Some x.place) xs

-- the instance that is found without another is found with it
named-without : (p q : ℕ) (name : Bytes) (all xs : List Instance) → AreSingle all xs → place_named name (without_instance p xs) ≡ Some q → place_named name all ≡ Some q
named-without p q name all [] single found = cc
named-without p q name all (x ∷ xs) single found = by_case (x.place == p) found (named-without p q name all xs single.1)
  where
    by_name : (b : Bool) → bytes_eq x.name name ≡ b → (if b then Some x.place else place_named name (without_instance p xs)) ≡ Some q
        → (place_named name (without_instance p xs) ≡ Some q → place_named name all ≡ Some q) → place_named name all ≡ Some q
    by_name true same found ih = subst (λ its. place_named its all ≡ Some x.place) (bytes_same x.name name same) single.0 ∙ found
    by_name false differs found ih = ih found

    by_case : (b : Bool) → place_named name (if b then without_instance p xs else x ∷ without_instance p xs) ≡ Some q
        → (place_named name (without_instance p xs) ≡ Some q → place_named name all ≡ Some q) → place_named name all ≡ Some q
    by_case true found ih = ih found
    by_case false found ih = by_name (bytes_eq x.name name) refl found ih

-- one that is found is found without another
stays-without : (p q : ℕ) (name : Bytes) (ys : List Instance) → (q == p) ≡ false → place_named name ys ≡ Some q → place_named name (without_instance p ys) ≡ Some q
stays-without p q name [] apart found = cc
stays-without p q name (y ∷ ys) apart found = by_case (y.place == p) refl (bytes_eq y.name name) refl found (stays-without p q name ys apart)
  where
    by_case : (b : Bool) → (y.place == p) ≡ b → (its : Bool) → bytes_eq y.name name ≡ its → (if its then Some y.place else place_named name ys) ≡ Some q
        → (place_named name ys ≡ Some q → place_named name (without_instance p ys) ≡ Some q)
        → place_named name (if b then without_instance p ys else y ∷ without_instance p ys) ≡ Some q
    by_case true here true same found ih =
        let place : y.place ≡ q = cc in
        let there : (q == p) ≡ true = subst (λ its. (its == p) ≡ true) place here in
        absurd (cc)
    by_case true here false differs found ih = ih found
    by_case false there true same found ih = rw same found
    by_case false there false differs found ih = rw differs (ih found)

single-without : (p : ℕ) (all xs : List Instance) → AreSingle all xs → AreSingle (without_instance p all) (without_instance p xs)
single-without p all [] single = tt
single-without p all (x ∷ xs) single = by_case (x.place == p) refl (single-without p all xs single.1)
  where
    by_case : (b : Bool) → (x.place == p) ≡ b → AreSingle (without_instance p all) (without_instance p xs)
        → AreSingle (without_instance p all) (if b then without_instance p xs else x ∷ without_instance p xs)
    by_case true here rest = rest
    by_case false there rest = (stays-without p x.place x.name all there single.0, rest)

-- one more instance leaves other names alone
other-with : (name : Bytes) (y : Instance) (ys : List Instance) → bytes_eq y.name name ≡ false → place_named name (with_instance y ys) ≡ place_named name ys
other-with name y [] differs = rw differs refl
other-with name y (z ∷ zs) differs = by_case (is_before z y) (other-with name y zs differs)
  where
    by_case : (b : Bool) → place_named name (with_instance y zs) ≡ place_named name zs
        → place_named name (if b then z ∷ with_instance y zs else y ∷ z ∷ zs) ≡ (if bytes_eq z.name name then Some z.place else place_named name zs)
    by_case true ih = ap (λ rest. if bytes_eq z.name name then Some z.place else rest) ih
    by_case false ih = rw differs refl

-- and is found if its name is new
pub new-with : (y : Instance) (ys : List Instance) → place_named y.name ys ≡ None → place_named y.name (with_instance y ys) ≡ Some y.place
new-with y [] none = rw (bytes_refl y.name) refl
new-with y (z ∷ zs) none = by_case (is_before z y) (bytes_eq z.name y.name) refl none (new-with y zs)
  where
    by_case : (b its : Bool) → bytes_eq z.name y.name ≡ its → (if its then Some z.place else place_named y.name zs) ≡ None
        → (place_named y.name zs ≡ None → place_named y.name (with_instance y zs) ≡ Some y.place)
        → place_named y.name (if b then z ∷ with_instance y zs else y ∷ z ∷ zs) ≡ Some y.place
    by_case true true same none ih = cc
    by_case true false differs none ih = rw differs (ih none)
    by_case false its e none ih = rw (bytes_refl y.name) refl

single-beside : (y : Instance) (all xs : List Instance) → place_named y.name all ≡ None → AreSingle all xs → AreSingle (with_instance y all) xs
single-beside y all [] none single = tt
single-beside y all (x ∷ xs) none single = (other-with x.name y all (by_case (bytes_eq y.name x.name) refl) ∙ single.0, single-beside y all xs none single.1)
  where
    by_case : (b : Bool) → bytes_eq y.name x.name ≡ b → b ≡ false
    by_case true same =
        let found : place_named y.name all ≡ Some x.place = subst (λ its. place_named its all ≡ Some x.place) (sym (bytes_same y.name x.name same)) single.0 in
        absurd (cc)
    by_case false differs = refl

single-with : (y : Instance) (ys : List Instance) → place_named y.name ys ≡ None → AreSingle ys ys → AreSingle (with_instance y ys) (with_instance y ys)
single-with y ys none single =
    all-with (λ x. place_named x.name (with_instance y ys) ≡ Some x.place) y ys (new-with y ys none) (single-beside y ys ys none single)

-- one that is found with another was found without it
named-with : (q : ℕ) (name : Bytes) (y : Instance) (ys : List Instance) → (y.place == q) ≡ false → place_named name (with_instance y ys) ≡ Some q → place_named name ys ≡ Some q
named-with q name y ys apart found = by_list ys found
  where
    in-front : (rest : List Instance) (b : Bool) → (if b then Some y.place else place_named name rest) ≡ Some q → place_named name rest ≡ Some q
    in-front rest true found =
        let place : y.place ≡ q = cc in
        let here : (y.place == q) ≡ true = eq-eqb y.place q place in
        absurd (cc)
    in-front rest false found = found

    by_list : (zs : List Instance) → place_named name (with_instance y zs) ≡ Some q → place_named name zs ≡ Some q
    by_list [] found = in-front [] (bytes_eq y.name name) found
    by_list (z ∷ zs) found = by_case (is_before z y) found (by_list zs)
      where
        by_name : (b : Bool) → (if b then Some z.place else place_named name (with_instance y zs)) ≡ Some q
            → (place_named name (with_instance y zs) ≡ Some q → place_named name zs ≡ Some q) → (if b then Some z.place else place_named name zs) ≡ Some q
        by_name true found ih = found
        by_name false found ih = ih found

        by_case : (b : Bool) → place_named name (if b then z ∷ with_instance y zs else y ∷ z ∷ zs) ≡ Some q
            → (place_named name (with_instance y zs) ≡ Some q → place_named name zs ≡ Some q) → place_named name (z ∷ zs) ≡ Some q
        by_case true found ih = by_name (bytes_eq z.name name) found ih
        by_case false found ih = in-front (z ∷ zs) (bytes_eq y.name name) found

-- the instances of each job are found by their names
abbrev pub Singles : Chronicle → Type 0
Singles c = (job : Bytes) → AreSingle (instances_of job c) (instances_of job c)

-- that stays so when an instance enters a state
pub entered-singles : (p : ℕ) (to : State) (c : Chronicle) → Singles c → Singles (Entered p to ∷ c)
entered-singles p state.Waiting c single = λ job. single-without p (instances_of job c) (instances_of job c) (single job)
entered-singles p to c single = single

-- and one that is found then was found before
pub entered-named : (who : Who) (p q : ℕ) (to : State) (c : Chronicle) → Singles c → instance_named who (Entered p to ∷ c) ≡ Some q → instance_named who c ≡ Some q
entered-named who p q state.Waiting c single found = named-without p q who.instance (instances_of who.job c) (instances_of who.job c) (single who.job) found
entered-named who p q to c single found = found

-- it stays so when an instance of a new name is made
pub made-singles : (file : JobDef) (name : Bytes) (c : Chronicle) → instance_named (called file.name name) c ≡ None → Singles c → Singles (Made file name ∷ c)
made-singles file name c none single = λ other. by_case other (bytes_eq file.name other) refl
  where
    made : Instance
    made = record { place = length c; name = name; file = file }

    by_case : (other : Bytes) (b : Bool) → bytes_eq file.name other ≡ b
        → AreSingle (if b then with_instance made (instances_of other c) else instances_of other c) (if b then with_instance made (instances_of other c) else instances_of other c)
    by_case other true same =
        single-with made (instances_of other c) (subst (λ its. place_named name (instances_of its c) ≡ None) (bytes_same file.name other same) none) (single other)
    by_case other false differs = single other

-- and one that is found then is that, or was found before
pub made-found : (who : Who) (file : JobDef) (name : Bytes) (q : ℕ) (c : Chronicle) → (length c == q) ≡ false → instance_named who (Made file name ∷ c) ≡ Some q → instance_named who c ≡ Some q
made-found who file name q c apart found = by_case (bytes_eq file.name who.job) found
  where
    made : Instance
    made = record { place = length c; name = name; file = file }

    by_case : (b : Bool) → place_named who.instance (if b then with_instance made (instances_of who.job c) else instances_of who.job c) ≡ Some q → instance_named who c ≡ Some q
    by_case true found = named-with q who.instance made (instances_of who.job c) apart found
    by_case false found = found
