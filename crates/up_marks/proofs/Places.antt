-- What holds of each item of a list, by its place.
use Rattle.std.proofs.Common.{◌≡◌, ℕ, zero, suc, ◌+◌, ◌<◌, ◌≤◌, List, [], ◌∷◌, ◌++◌, Some, length, length-append, slice_get, refl, sym, subst, arith}

-- it holds of each item, the first of which has this place
abbrev pub Each : {X : Type 0} → (ℕ → X → Type 0) → ℕ → List X → Type 0
Each P at [] = Unit {0}
Each P at (x ∷ xs) = P at x × Each P (at + 1) xs

each_join : {X : Type 0} (P : ℕ → X → Type 0) (at : ℕ) (xs ys : List X) → Each P at xs → Each P (at + length xs) ys → Each P at (xs ++ ys)
each_join P at [] ys p q = let e : at + 0 ≡ at = omega arith in subst (λ n. Each P n ys) e q
each_join P at (x ∷ xs) ys p q =
    let e : at + length (x ∷ xs) ≡ at + 1 + length xs = omega arith in
    (p.0, each_join P (at + 1) xs ys p.1 (subst (λ n. Each P n ys) e q))

each_front : {X : Type 0} (P : ℕ → X → Type 0) (at : ℕ) (xs ys : List X) → Each P at (xs ++ ys) → Each P at xs
each_front P at [] ys p = tt
each_front P at (x ∷ xs) ys p = (p.0, each_front P (at + 1) xs ys p.1)

each_back : {X : Type 0} (P : ℕ → X → Type 0) (at : ℕ) (xs ys : List X) → Each P at (xs ++ ys) → Each P (at + length xs) ys
each_back P at [] ys p = let e : at ≡ at + 0 = omega arith in subst (λ n. Each P n ys) e p
each_back P at (x ∷ xs) ys p =
    let e : at + 1 + length xs ≡ at + length (x ∷ xs) = omega arith in
    subst (λ n. Each P n ys) e (each_back P (at + 1) xs ys p.1)

-- two lists and an item, one after another
pub three_join : {X : Type 0} (P : ℕ → X → Type 0) (at n m : ℕ) (xs ys : List X) (z : X) → length xs ≡ n → length ys ≡ m
    → Each P at xs → Each P (at + n) ys → P (at + n + m) z → Each P at (xs ++ ys ++ z ∷ [])
three_join P at n m xs ys z long more p q r =
    let e : at + n + m ≡ at + length (xs ++ ys) = omega (arith, long, more, length-append xs ys) in
    each_join P at (xs ++ ys) (z ∷ []) (each_join P at xs ys p (subst (λ k. Each P (at + k) ys) (sym long) q)) (subst (λ k. P k z) e r, tt)

pub three_split : {X : Type 0} (P : ℕ → X → Type 0) (at n m : ℕ) (xs ys : List X) (z : X) → length xs ≡ n → length ys ≡ m
    → Each P at (xs ++ ys ++ z ∷ []) → Each P at xs × Each P (at + n) ys × P (at + n + m) z
three_split P at n m xs ys z long more p =
    let e : at + length (xs ++ ys) ≡ at + n + m = omega (arith, long, more, length-append xs ys) in
    let both = each_front P at (xs ++ ys) (z ∷ []) p in
    (each_front P at xs ys both, subst (λ k. Each P (at + k) ys) long (each_back P at xs ys both), subst (λ k. P k z) e (each_back P at (xs ++ ys) (z ∷ []) p).0)

pub each_at : {X : Type 0} (P : ℕ → X → Type 0) (at : ℕ) (xs : List X) (k : ℕ) (x : X) → slice_get xs k ≡ Some x → Each P at xs → P (at + k) x
each_at P at [] k x there p = absurd (cc)
each_at P at (y ∷ xs) zero x there p =
    let same : y ≡ x = cc in
    let e : at ≡ at + 0 = omega arith in
    subst (λ n. P n x) e (subst (λ z. P at z) same p.0)
each_at P at (y ∷ xs) (suc k) x there p =
    let e : at + 1 + k ≡ at + suc k = omega arith in
    subst (λ n. P n x) e (each_at P (at + 1) xs k x there p.1)

pub each_here : {X : Type 0} (P : ℕ → X → Type 0) (xs : List X) (k : ℕ) (x : X) → slice_get xs k ≡ Some x → Each P 0 xs → P k x
each_here P xs k x there p = let e : 0 + k ≡ k = omega arith in subst (λ n. P n x) e (each_at P 0 xs k x there p)

each_from : {X : Type 0} (P : ℕ → X → Type 0) (at : ℕ) (xs : List X) → ((k : ℕ) (x : X) → slice_get xs k ≡ Some x → P (at + k) x) → Each P at xs
each_from P at [] all = tt
each_from P at (x ∷ xs) all = (
  (let e : at + 0 ≡ at = omega arith in subst (λ n. P n x) e (all zero x refl)),
  each_from P (at + 1) xs (λ k y there. let e : at + suc k ≡ at + 1 + k = omega arith in subst (λ n. P n y) e (all (suc k) y there)),
)

pub each_all : {X : Type 0} (P : ℕ → X → Type 0) (xs : List X) → ((k : ℕ) (x : X) → slice_get xs k ≡ Some x → P k x) → Each P 0 xs
each_all P xs all = each_from P 0 xs (λ k x there. let e : k ≡ 0 + k = omega arith in subst (λ n. P n x) e (all k x there))

-- what follows of each, within the list's bounds
pub each_map : {X : Type 0} (P Q : ℕ → X → Type 0) (at : ℕ) (xs : List X) → ((i : ℕ) (x : X) → at ≤ i → i < at + length xs → P i x → Q i x) → Each P at xs → Each Q at xs
each_map P Q at [] more p = tt
each_map P Q at (x ∷ xs) more p =
    (more at x (omega arith) (omega arith) p.0, each_map P Q (at + 1) xs (λ i y low high. more i y (omega (arith, low)) (omega (arith, high))) p.1)
