-- The instances that exist: each is older than the end of the chronicle, and stands in the list once.
use Rattle.std.proofs.Common.{◌≡◌, ℕ, suc, ◌+◌, ◌<◌, ◌≤◌, ◌==◌, Bool, true, false, List, [], ◌∷◌, length, if◌then◌else◌, bytes_eq, refl, sym, ◌∙◌, ap, arith, eqb-true, eq-eqb, ne_eqb}
use Rattle.std.proofs.lemmas.Bool.{eqb-false}
use Rattle.std.proofs.lemmas.Slice.Eq.{bytes_eq-Decides}
use Rattle.std.specs.List.{AllByRecursion}
use Rattle.up_model.specs.declared.state.State.TheVariants as state
use Rattle.up_model.specs.Chronicle.{Chronicle, Made, Entered}
use Rattle.up_model.specs.Instances.{Instance, is_before, with_instance, without_instance, instances_of, all_instances}
use Rattle.up_model.specs.Values.{Bytes}

-- equal texts
pub bytes_same : (x y : Bytes) → bytes_eq x y ≡ true → x ≡ y
bytes_same x y e = (bytes_eq-Decides x y).0 e

pub bytes_refl : (x : Bytes) → bytes_eq x x ≡ true
bytes_refl x = (bytes_eq-Decides x x).1 refl

-- an older place is another place
pub older-other : (p q : ℕ) → q < p → (p == q) ≡ false
older-other p q h = ne_eqb p q (λ e. omega arith)

abbrev pub one_if : Bool → ℕ
one_if true = 1
one_if false = 0

-- how many of the instances were made at a place
abbrev pub count : ℕ → List Instance → ℕ
count p [] = 0
count p (x ∷ xs) = one_if (x.place == p) + count p xs

count-with : (p : ℕ) (x : Instance) (xs : List Instance) → count p (with_instance x xs) ≡ one_if (x.place == p) + count p xs
count-with p x [] = refl
count-with p x (y ∷ ys) = by_case (is_before y x) (count-with p x ys)
  where
    by_case : (b : Bool) → count p (with_instance x ys) ≡ one_if (x.place == p) + count p ys
        → count p (if b then y ∷ with_instance x ys else x ∷ y ∷ ys) ≡ one_if (x.place == p) + (one_if (y.place == p) + count p ys)
    by_case true ih = omega (arith, ih)
    by_case false ih = refl

count-without : (p i : ℕ) (xs : List Instance) → count p (without_instance i xs) ≤ count p xs
count-without p i [] = omega arith
count-without p i (x ∷ xs) = by_case (x.place == i) (count-without p i xs)
  where
    by_case : (b : Bool) → count p (without_instance i xs) ≤ count p xs
        → count p (if b then without_instance i xs else x ∷ without_instance i xs) ≤ one_if (x.place == p) + count p xs
    by_case true ih = omega arith
    by_case false ih = omega arith

count-gone : (p i : ℕ) (xs : List Instance) → p ≡ i → count p (without_instance i xs) ≡ 0
count-gone p i [] e = refl
count-gone p i (x ∷ xs) e = by_case (x.place == i) refl (count-gone p i xs e)
  where
    by_case : (b : Bool) → (x.place == i) ≡ b → count p (without_instance i xs) ≡ 0 → count p (if b then without_instance i xs else x ∷ without_instance i xs) ≡ 0
    by_case true same ih = ih
    by_case false differs ih =
        let other : one_if (x.place == p) ≡ 0 = ap (λ place. one_if (x.place == place)) e ∙ ap one_if differs in
        omega (arith, other, ih)

count-stays : (p i : ℕ) (xs : List Instance) → (p == i) ≡ false → count p (without_instance i xs) ≡ count p xs
count-stays p i [] e = refl
count-stays p i (x ∷ xs) e = by_case (x.place == i) refl (count-stays p i xs e)
  where
    by_case : (b : Bool) → (x.place == i) ≡ b → count p (without_instance i xs) ≡ count p xs
        → count p (if b then without_instance i xs else x ∷ without_instance i xs) ≡ one_if (x.place == p) + count p xs
    by_case true same ih =
        let other : one_if (x.place == p) ≡ 0 = ap one_if (ne_eqb x.place p (λ f. eqb-false p i e (sym f ∙ eqb-true x.place i same))) in
        omega (arith, other, ih)
    by_case false differs ih = omega (arith, ih)

fewer : (i : ℕ) (xs : List Instance) → length (without_instance i xs) ≤ length xs
fewer i [] = omega arith
fewer i (x ∷ xs) = by_case (x.place == i) (fewer i xs)
  where
    by_case : (b : Bool) → length (without_instance i xs) ≤ length xs → length (if b then without_instance i xs else x ∷ without_instance i xs) ≤ suc (length xs)
    by_case true ih = omega (arith, ih)
    by_case false ih = omega (arith, ih)

-- what holds of some instances holds of those but one
pub all-without : (P : Instance → Type 0) (i : ℕ) (xs : List Instance) → AllByRecursion P xs → AllByRecursion P (without_instance i xs)
all-without P i [] all = tt
all-without P i (x ∷ xs) all = by_case (x.place == i) (all-without P i xs all.1)
  where
    by_case : (b : Bool) → AllByRecursion P (without_instance i xs) → AllByRecursion P (if b then without_instance i xs else x ∷ without_instance i xs)
    by_case true rest = rest
    by_case false rest = (all.0, rest)

-- older than a place
abbrev pub AreOlder : ℕ → List Instance → Type 0
AreOlder n xs = AllByRecursion (λ x. x.place < n) xs

older-suc : (n : ℕ) (xs : List Instance) → AreOlder n xs → AreOlder (suc n) xs
older-suc n [] all = tt
older-suc n (x ∷ xs) all = (omega (arith, all.0), older-suc n xs all.1)

-- instances are older than the end of the chronicle
pub all_instances-older : (c : Chronicle) → AreOlder (length c) (all_instances c)
all_instances-older [] = tt
all_instances-older (Made file name ∷ c) = (omega arith, older-suc (length c) (all_instances c) (all_instances-older c))
all_instances-older (Entered i state.Waiting ∷ c) =
    older-suc (length c) (without_instance i (all_instances c)) (all-without (λ x. x.place < length c) i (all_instances c) (all_instances-older c))
all_instances-older (entry ∷ c) = older-suc (length c) (all_instances c) (all_instances-older c)

-- a younger place isn't among them
pub count-older : (p n : ℕ) (xs : List Instance) → AreOlder n xs → n ≤ p → count p xs ≡ 0
count-older p n [] all h = refl
count-older p n (x ∷ xs) all h =
    let other : (x.place == p) ≡ false = ne_eqb x.place p (λ e. omega (arith, all.0)) in
    let rest = count-older p n xs all.1 h in
    rw other (omega (arith, rest))

-- so each stands there once
pub all_instances-once : (p : ℕ) (c : Chronicle) → count p (all_instances c) ≤ 1
all_instances-once p [] = omega arith
all_instances-once p (Made file name ∷ c) = by_case (length c == p) refl (all_instances-once p c)
  where
    by_case : (here : Bool) → (length c == p) ≡ here → count p (all_instances c) ≤ 1 → one_if here + count p (all_instances c) ≤ 1
    by_case true e once =
        let none = count-older p (length c) (all_instances c) (all_instances-older c) (omega (arith, eqb-true (length c) p e)) in
        omega (arith, none)
    by_case false e once = omega (arith, once)
all_instances-once p (Entered i state.Waiting ∷ c) = omega (arith, count-without p i (all_instances c), all_instances-once p c)
all_instances-once p (entry ∷ c) = all_instances-once p c

-- those of a list that stand in another still do without one
count-both : (p i : ℕ) (xs ys : List Instance) → count p xs ≤ count p ys → count p (without_instance i xs) ≤ count p (without_instance i ys)
count-both p i xs ys h = by_case (p == i) refl
  where
    by_case : (b : Bool) → (p == i) ≡ b → count p (without_instance i xs) ≤ count p (without_instance i ys)
    by_case true e = omega (arith, count-gone p i xs (eqb-true p i e))
    by_case false e = omega (arith, h, count-stays p i xs e, count-stays p i ys e)

-- the instances of a job exist
pub instances-exist : (p : ℕ) (job : Bytes) (c : Chronicle) → count p (instances_of job c) ≤ count p (all_instances c)
instances-exist p job [] = omega arith
instances-exist p job (Made file name ∷ c) = by_case (bytes_eq file.name job) (instances-exist p job c)
  where
    made : Instance
    made = record { place = length c; name = name; file = file }

    by_case : (b : Bool) → count p (instances_of job c) ≤ count p (all_instances c)
        → count p (if b then with_instance made (instances_of job c) else instances_of job c) ≤ one_if (length c == p) + count p (all_instances c)
    by_case true ih = omega (arith, count-with p made (instances_of job c), ih)
    by_case false ih = omega (arith, ih)
instances-exist p job (Entered i state.Waiting ∷ c) = count-both p i (instances_of job c) (all_instances c) (instances-exist p job c)
instances-exist p job (entry ∷ c) = instances-exist p job c

-- there are no more than entries
pub all_instances-few : (c : Chronicle) → length (all_instances c) ≤ length c
all_instances-few [] = omega arith
all_instances-few (Made file name ∷ c) = omega (arith, all_instances-few c)
all_instances-few (Entered i state.Waiting ∷ c) = omega (arith, fewer i (all_instances c), all_instances-few c)
all_instances-few (entry ∷ c) = omega (arith, all_instances-few c)

-- each instance of a list is counted there
counted : (xs all : List Instance) → ((p : ℕ) → count p xs ≤ count p all) → AllByRecursion (λ x. 0 < count x.place all) xs
counted [] all within = tt
counted (x ∷ xs) all within = (here, counted xs all (λ p. omega (arith, within p)))
  where
    one : one_if (x.place == x.place) ≡ 1
    one = ap one_if (eq-eqb x.place x.place refl)

    here : 0 < count x.place all
    here = omega (arith, within x.place, one)

pub all-counted : (xs : List Instance) → AllByRecursion (λ x. 0 < count x.place xs) xs
all-counted xs = counted xs xs (λ p. omega arith)
