-- Texts to which one piece is appended after another.
use Rattle.std.proofs.Common.{◌≡◌, ◌++◌, ◌∙◌, OnOk, Result, Ok, Err, List, ℕ, append_assoc, ap}

-- what holds of a success
pub success : {A E : Type 0} (r : Result A E) {P Q : Type 0} → (P → Q) → OnOk r P → OnOk r Q
success (Ok v) f p = f p
success (Err e) f p = p

-- two pieces
pub both : {A E : Type 0} (r : Result A E) (old middle new first second : List ℕ) → middle ≡ old ++ first
    → OnOk r (new ≡ middle ++ second) → OnOk r (new ≡ old ++ (first ++ second))
both r old middle new first second is-first =
    success r (λ is-second. is-second ∙ ap (λ it. it ++ second) is-first ∙ append_assoc old first second)

-- three
pub all_three : {A E : Type 0} (r : Result A E) (old one two new first second third : List ℕ) → one ≡ old ++ first → two ≡ one ++ second
    → OnOk r (new ≡ two ++ third) → OnOk r (new ≡ old ++ (first ++ second ++ third))
all_three r old one two new first second third is-first is-second =
    both r old two new (first ++ second) third (is-second ∙ ap (λ it. it ++ second) is-first ∙ append_assoc old first second)
