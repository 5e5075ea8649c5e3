-- Lists that a test parts: all pass if the last does, and none if the first doesn't.
use Rattle.std.proofs.Common.{◌≡◌, ◌-◌, ◌<◌, ℕ, zero, suc, Bool, true, false, List, [], ◌∷◌, length, get_or, slice_get, Some, refl, sym, ◌∙◌, ap, arith, true≢false}
use Rattle.std.specs.List.Sorted.{IsPartitionPoint, IsPartitionedBy}

got : {X : Type 0} (xs : List X) (i : ℕ) (x d : X) → slice_get xs i ≡ Some x → get_or xs i d ≡ x
got [] i x d there = absurd (cc)
got (y ∷ xs) zero x d there = cc
got (y ∷ xs) (suc i) x d there = got xs i x d there

pub all-by_last : {X : Type 0} (p : X → Bool) (xs : List X) (last : X) → IsPartitionedBy p xs → slice_get xs (length xs - 1) ≡ Some last → p last ≡ true
    → IsPartitionPoint (λ x. p x ≡ true) (λ x. p x ≡ false) xs (length xs)
all-by_last p xs last parted there passes = (
  (λ k d low high. parted k (length xs - 1) d (omega (arith, high)) (omega (arith, high)) (ap p (got xs (length xs - 1) last d there) ∙ passes)),
  (λ k d low high. absurd (omega (arith, low, high))),
)

pub none-by_first : {X : Type 0} (p : X → Bool) (xs : List X) (first : X) → IsPartitionedBy p xs → slice_get xs 0 ≡ Some first → p first ≡ false
    → IsPartitionPoint (λ x. p x ≡ true) (λ x. p x ≡ false) xs 0
none-by_first {X} p xs first parted there fails =
    ((λ k d low high. absurd (omega (arith, high))), (λ k d low high. by_case k d high (p (get_or xs k d)) refl))
  where
    by_case : (k : ℕ) (d : X) → k < length xs → (b : Bool) → p (get_or xs k d) ≡ b → p (get_or xs k d) ≡ false
    by_case k d high false is = is
    by_case k d high true is = absurd (true≢false (sym (parted 0 k d (omega arith) high is) ∙ ap p (got xs 0 first d there) ∙ fails))
