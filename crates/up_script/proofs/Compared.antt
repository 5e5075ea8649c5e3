-- Lists that are the same as far as they were compared.
use Rattle.std.proofs.Common.{◌≡◌, ℕ, ◌+◌, ◌≤◌, List, length, Some, take, slice_get, refl, sym, ◌∙◌, add-one, arith}
use Rattle.std.proofs.Math.Seq.{take-suc}
use Rattle.std.proofs.lemmas.List.{take_all}
use Rattle.std.proofs.lemmas.Option.{slice_get_within, get_or_from_slice_get}

-- one item more is the same
pub one_further : {X : Type 0} (xs ys : List X) (i : ℕ) (x : X) → take i xs ≡ take i ys → slice_get xs i ≡ Some x → slice_get ys i ≡ Some x → take (i + 1) xs ≡ take (i + 1) ys
one_further xs ys i x same one other =
    let first = take-suc xs i x (slice_get_within xs i x one) in
    let second = take-suc ys i x (slice_get_within ys i x other) in
    rw add-one (rw first (rw second (rw (same, get_or_from_slice_get xs i x x one, get_or_from_slice_get ys i x x other) refl)))

-- one item more is found in both
pub found_further : {X : Type 0} (xs ys : List X) (i : ℕ) → take i xs ≡ take i ys → ((x : X) × (slice_get xs i ≡ Some x) × (slice_get ys i ≡ Some x)) → take (i + 1) xs ≡ take (i + 1) ys
found_further xs ys i same found = one_further xs ys i found.0 same found.1 found.2

-- all items are the same
pub all_same : {X : Type 0} (xs ys : List X) (n : ℕ) → n ≡ length xs → length xs ≡ length ys → take n xs ≡ take n ys → xs ≡ ys
all_same xs ys n count lengths same =
    let some : length xs ≤ n = omega arith in
    let others : length ys ≤ n = omega arith in
    sym (take_all n xs some) ∙ same ∙ take_all n ys others
