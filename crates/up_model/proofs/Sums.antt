-- The work of a list of instances, when that of one of them changes.
use Rattle.std.proofs.Common.{◌≡◌, ℕ, ◌+◌, ◌<◌, ◌≤◌, ◌==◌, Bool, true, false, List, [], ◌∷◌, length, if◌then◌else◌, refl, ap, arith, eqb-true}
use Rattle.up_model.specs.Chronicle.{Chronicle}
use Rattle.up_model.specs.Instances.{Instance, without_instance}
use Rattle.up_model.specs.Work.{instance_work, work_in}
use Rattle.up_model.proofs.Places.{one_if, count, AreOlder}

-- between two chronicles the work of an instance that isn't at a place stays
abbrev pub IsSpared : Bool → ℕ → Chronicle → Chronicle → Type 0
IsSpared offers p c d = (q : ℕ) → (q == p) ≡ false → q < length c → instance_work offers q d ≡ instance_work offers q c

-- the work of an instance that is at the place
at : (offers : Bool) (p q : ℕ) (c : Chronicle) → (q == p) ≡ true → instance_work offers q c ≡ instance_work offers p c
at offers p q c e = ap (λ place. instance_work offers place c) (eqb-true q p e)

-- where none is at the place the work stays
pub sum-same : (offers : Bool) (p : ℕ) (c d : Chronicle) (xs : List Instance) → IsSpared offers p c d → AreOlder (length c) xs → count p xs ≡ 0
    → work_in offers xs d ≡ work_in offers xs c
sum-same offers p c d [] spared older none = refl
sum-same offers p c d (x ∷ xs) spared older none = by_case (x.place == p) refl none (sum-same offers p c d xs spared older.1)
  where
    by_case : (b : Bool) → (x.place == p) ≡ b → one_if b + count p xs ≡ 0 → (count p xs ≡ 0 → work_in offers xs d ≡ work_in offers xs c)
        → work_in offers (x ∷ xs) d ≡ work_in offers (x ∷ xs) c
    by_case true e none ih = absurd (omega arith)
    by_case false e none ih =
        let here = spared x.place e older.0 in
        let rest = ih (omega (arith, none)) in
        omega (arith, here, rest)

-- if the one at the place has less work, there is no more
pub sum-no_more : (offers : Bool) (p : ℕ) (c d : Chronicle) (xs : List Instance) → IsSpared offers p c d → AreOlder (length c) xs
    → instance_work offers p d < instance_work offers p c → work_in offers xs d ≤ work_in offers xs c
sum-no_more offers p c d [] spared older fewer = omega arith
sum-no_more offers p c d (x ∷ xs) spared older fewer = by_case (x.place == p) refl (sum-no_more offers p c d xs spared older.1 fewer)
  where
    by_case : (b : Bool) → (x.place == p) ≡ b → work_in offers xs d ≤ work_in offers xs c → work_in offers (x ∷ xs) d ≤ work_in offers (x ∷ xs) c
    by_case true e rest = omega (arith, at offers p x.place c e, at offers p x.place d e, rest)
    by_case false e rest = omega (arith, spared x.place e older.0, rest)

-- and less where it stands in the list
pub sum-less : (offers : Bool) (p : ℕ) (c d : Chronicle) (xs : List Instance) → IsSpared offers p c d → AreOlder (length c) xs
    → instance_work offers p d < instance_work offers p c → 0 < count p xs → work_in offers xs d < work_in offers xs c
sum-less offers p c d [] spared older fewer some = absurd (omega arith)
sum-less offers p c d (x ∷ xs) spared older fewer some =
    by_case (x.place == p) refl some (sum-no_more offers p c d xs spared older.1 fewer) (sum-less offers p c d xs spared older.1 fewer)
  where
    by_case : (b : Bool) → (x.place == p) ≡ b → 0 < one_if b + count p xs → work_in offers xs d ≤ work_in offers xs c
        → (0 < count p xs → work_in offers xs d < work_in offers xs c) → work_in offers (x ∷ xs) d < work_in offers (x ∷ xs) c
    by_case true e some rest ih = omega (arith, at offers p x.place c e, at offers p x.place d e, rest)
    by_case false e some rest ih = omega (arith, spared x.place e older.0, ih (omega (arith, some)))

-- if the one at the place is gone, there is no more
pub gone-no_more : (offers : Bool) (p : ℕ) (c d : Chronicle) (xs : List Instance) → IsSpared offers p c d → AreOlder (length c) xs
    → work_in offers (without_instance p xs) d ≤ work_in offers xs c
gone-no_more offers p c d [] spared older = omega arith
gone-no_more offers p c d (x ∷ xs) spared older = by_case (x.place == p) refl (gone-no_more offers p c d xs spared older.1)
  where
    by_case : (b : Bool) → (x.place == p) ≡ b → work_in offers (without_instance p xs) d ≤ work_in offers xs c
        → work_in offers (if b then without_instance p xs else x ∷ without_instance p xs) d ≤ work_in offers (x ∷ xs) c
    by_case true e rest = omega (arith, rest)
    by_case false e rest = omega (arith, spared x.place e older.0, rest)

-- and less if it stood in the list and had work
pub gone-less : (offers : Bool) (p : ℕ) (c d : Chronicle) (xs : List Instance) → IsSpared offers p c d → AreOlder (length c) xs
    → 0 < instance_work offers p c → 0 < count p xs → work_in offers (without_instance p xs) d < work_in offers xs c
gone-less offers p c d [] spared older some there = absurd (omega arith)
gone-less offers p c d (x ∷ xs) spared older some there =
    by_case (x.place == p) refl there (gone-no_more offers p c d xs spared older.1) (gone-less offers p c d xs spared older.1 some)
  where
    by_case : (b : Bool) → (x.place == p) ≡ b → 0 < one_if b + count p xs → work_in offers (without_instance p xs) d ≤ work_in offers xs c
        → (0 < count p xs → work_in offers (without_instance p xs) d < work_in offers xs c)
        → work_in offers (if b then without_instance p xs else x ∷ without_instance p xs) d < work_in offers (x ∷ xs) c
    by_case true e there rest ih = omega (arith, at offers p x.place c e, rest)
    by_case false e there rest ih = omega (arith, spared x.place e older.0, ih (omega (arith, there)))

-- if the one at the place has less than six more, the whole has
pub sum-more : (offers : Bool) (p : ℕ) (c d : Chronicle) (xs : List Instance) → IsSpared offers p c d → AreOlder (length c) xs
    → instance_work offers p d < instance_work offers p c + 6 → count p xs ≤ 1 → work_in offers xs d < work_in offers xs c + 6
sum-more offers p c d [] spared older few once = omega arith
sum-more offers p c d (x ∷ xs) spared older few once =
    by_case (x.place == p) refl once (sum-same offers p c d xs spared older.1) (sum-more offers p c d xs spared older.1 few)
  where
    by_case : (b : Bool) → (x.place == p) ≡ b → one_if b + count p xs ≤ 1 → (count p xs ≡ 0 → work_in offers xs d ≡ work_in offers xs c)
        → (count p xs ≤ 1 → work_in offers xs d < work_in offers xs c + 6) → work_in offers (x ∷ xs) d < work_in offers (x ∷ xs) c + 6
    by_case true e once same ih =
        let rest = same (omega (arith, once)) in
        omega (arith, at offers p x.place c e, at offers p x.place d e, rest)
    by_case false e once same ih = omega (arith, spared x.place e older.0, ih (omega (arith, once)))
