-- The bindings of an environment, one after another.
use Rattle.std.proofs.Common.{◌≡◌, ℕ, ◌+◌, zero, suc, List, [], ◌∷◌, ◌++◌, Option, None, Some, take, slice_get, refl, add-one, append_assoc, append-nil, arith, rules}
use Rattle.std.specs.List.{flat_map}

-- what a binding is printed as, if there is one
abbrev pub of_found : (List ℕ × List ℕ → List ℕ) → Option (List ℕ × List ℕ) → List ℕ
of_found f None = []
of_found f (Some pair) = f pair

pub one_more_suc : (f : List ℕ × List ℕ → List ℕ) (xs : List (List ℕ × List ℕ)) (i : ℕ) → flat_map f (take (suc i) xs) ≡ flat_map f (take i xs) ++ of_found f (slice_get xs i)
one_more_suc f [] zero = refl
one_more_suc f [] (suc i) = refl
one_more_suc f (x ∷ xs) zero = grind (arith, append-nil)
one_more_suc f (x ∷ xs) (suc i) = rw (one_more_suc f xs i) (search (rules, append_assoc))

pub one_more : (f : List ℕ × List ℕ → List ℕ) (xs : List (List ℕ × List ℕ)) (i : ℕ) → flat_map f (take (i + 1) xs) ≡ flat_map f (take i xs) ++ of_found f (slice_get xs i)
one_more f xs i = rw add-one (one_more_suc f xs i)
