-- What a list of instances can still order, when one of them moves.
use Rattle.std.proofs.Common.{◌≡◌, ℕ, ◌+◌, ◌<◌, ◌≤◌, ◌==◌, Bool, true, false, List, [], ◌∷◌, if◌then◌else◌, refl, ap, arith, eqb-true}
use Rattle.up_model.specs.Chronicle.{Chronicle}
use Rattle.up_model.specs.Instances.{Instance, without_instance}
use Rattle.up_model.specs.Left.{left_at, left_among}
use Rattle.up_model.proofs.Places.{one_if, count}

-- between two chronicles an instance that isn't at a place can order as many
abbrev pub IsKept : ℕ → Chronicle → Chronicle → Type 0
IsKept p c d = (q : ℕ) → (q == p) ≡ false → left_at q d ≡ left_at q c

-- an instance that is at the place
at : (p q : ℕ) (c : Chronicle) → (q == p) ≡ true → left_at q c ≡ left_at p c
at p q c e = ap (λ place. left_at place c) (eqb-true q p e)

-- where none can order more, the list can't
pub among-no_more : (c d : Chronicle) (xs : List Instance) → ((q : ℕ) → left_at q d ≤ left_at q c) → left_among xs d ≤ left_among xs c
among-no_more c d [] each = omega arith
among-no_more c d (x ∷ xs) each = omega (arith, each x.place, among-no_more c d xs each)

-- nor where the one at the place can order fewer
kept-no_more : (k p : ℕ) (c d : Chronicle) (xs : List Instance) → IsKept p c d → left_at p d + k ≤ left_at p c → left_among xs d ≤ left_among xs c
kept-no_more k p c d [] kept fewer = omega arith
kept-no_more k p c d (x ∷ xs) kept fewer = by_case (x.place == p) refl (kept-no_more k p c d xs kept fewer)
  where
    by_case : (b : Bool) → (x.place == p) ≡ b → left_among xs d ≤ left_among xs c → left_among (x ∷ xs) d ≤ left_among (x ∷ xs) c
    by_case true e rest = omega (arith, at p x.place c e, at p x.place d e, fewer, rest)
    by_case false e rest = omega (arith, kept x.place e, rest)

-- and the list can order as many fewer if that one stands in it
pub kept-fewer : (k p : ℕ) (c d : Chronicle) (xs : List Instance) → IsKept p c d → left_at p d + k ≤ left_at p c → 0 < count p xs
    → left_among xs d + k ≤ left_among xs c
kept-fewer k p c d [] kept fewer there = absurd (omega arith)
kept-fewer k p c d (x ∷ xs) kept fewer there =
    by_case (x.place == p) refl there (kept-no_more k p c d xs kept fewer) (kept-fewer k p c d xs kept fewer)
  where
    by_case : (b : Bool) → (x.place == p) ≡ b → 0 < one_if b + count p xs → left_among xs d ≤ left_among xs c
        → (0 < count p xs → left_among xs d + k ≤ left_among xs c) → left_among (x ∷ xs) d + k ≤ left_among (x ∷ xs) c
    by_case true e there rest ih = omega (arith, at p x.place c e, at p x.place d e, fewer, rest)
    by_case false e there rest ih = omega (arith, kept x.place e, ih (omega (arith, there)))

-- if the one at the place is gone, the list can't order more
pub gone-no_more : (p : ℕ) (c d : Chronicle) (xs : List Instance) → IsKept p c d → left_among (without_instance p xs) d ≤ left_among xs c
gone-no_more p c d [] kept = omega arith
gone-no_more p c d (x ∷ xs) kept = by_case (x.place == p) refl (gone-no_more p c d xs kept)
  where
    by_case : (b : Bool) → (x.place == p) ≡ b → left_among (without_instance p xs) d ≤ left_among xs c
        → left_among (if b then without_instance p xs else x ∷ without_instance p xs) d ≤ left_among (x ∷ xs) c
    by_case true e rest = omega (arith, rest)
    by_case false e rest = omega (arith, kept x.place e, rest)
