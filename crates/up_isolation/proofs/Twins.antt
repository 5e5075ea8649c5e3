-- Two lists of instances side by side.
use Rattle.std.proofs.Common.{◌≡◌, ℕ, ◌+◌, ◌<◌, ◌≤◌, ◌==◌, ◌⊎◌, inl, inr, Bool, true, false, List, [], ◌∷◌}
use Rattle.std.proofs.Common.{refl, sym, ◌∙◌, ap, subst, arith, eq-eqb}
use Rattle.up_model.specs.Instances.{Instance}
use Rattle.up_model.proofs.Places.{one_if, count}

-- in two lists, each of the one and the one that stands in its place in the other
abbrev pub Twins : (R : Instance → Instance → Type 0) → List Instance → List Instance → Type 0
Twins R [] [] = Unit {0}
Twins R (x ∷ xs) (y ∷ ys) = R x y × Twins R xs ys
Twins R [] (y ∷ ys) = ⊥
Twins R (x ∷ xs) [] = ⊥

pub twins_map : (R S : Instance → Instance → Type 0) → ((x y : Instance) → R x y → S x y)
    → (xs ys : List Instance) → Twins R xs ys → Twins S xs ys
twins_map R S f [] [] all = tt
twins_map R S f (x ∷ xs) (y ∷ ys) all = (f x y all.0, twins_map R S f xs ys all.1)
twins_map R S f [] (y ∷ ys) all = all
twins_map R S f (x ∷ xs) [] all = all

pub twins_both : (R S : Instance → Instance → Type 0) (xs ys : List Instance) → Twins R xs ys → Twins S xs ys
    → Twins (λ x y. R x y × S x y) xs ys
twins_both R S [] [] all other = tt
twins_both R S (x ∷ xs) (y ∷ ys) all other = ((all.0, other.0), twins_both R S xs ys all.1 other.1)
twins_both R S [] (y ∷ ys) all other = all
twins_both R S (x ∷ xs) [] all other = all

-- two that stand side by side
abbrev pub At : Instance → Instance → List Instance → List Instance → Type 0
At x y (u ∷ us) (v ∷ vs) = ((u ≡ x) × (v ≡ y)) ⊎ At x y us vs
At x y [] vs = ⊥
At x y (u ∷ us) [] = ⊥

pub at-twins : (R : Instance → Instance → Type 0) (x y : Instance) (xs ys : List Instance) → At x y xs ys
    → Twins R xs ys → R x y
at-twins R x y (u ∷ us) (v ∷ vs) (inl here) all = subst (λ w. R x w) here.1 (subst (λ w. R w v) here.0 all.0)
at-twins R x y (u ∷ us) (v ∷ vs) (inr there) all = at-twins R x y us vs there all.1
at-twins R x y [] vs at all = absurd at
at-twins R x y (u ∷ us) [] at all = absurd at

-- one that stands somewhere is counted
at-left : (x y : Instance) (xs ys : List Instance) → At x y xs ys → 0 < count x.place xs
at-left x y (u ∷ us) (v ∷ vs) (inl here) =
    let one : one_if (u.place == x.place) ≡ 1 =
    ap one_if (eq-eqb u.place x.place (ap (λ w. w.place) here.0)) in
    omega (arith, one)
at-left x y (u ∷ us) (v ∷ vs) (inr there) = omega (arith, at-left x y us vs there)
at-left x y [] vs at = absurd at
at-left x y (u ∷ us) [] at = absurd at

at-right : (x y : Instance) (xs ys : List Instance) → At x y xs ys → 0 < count y.place ys
at-right x y (u ∷ us) (v ∷ vs) (inl here) =
    let one : one_if (v.place == y.place) ≡ 1 =
    ap one_if (eq-eqb v.place y.place (ap (λ w. w.place) here.1)) in
    omega (arith, one)
at-right x y (u ∷ us) (v ∷ vs) (inr there) = omega (arith, at-right x y us vs there)
at-right x y [] vs at = absurd at
at-right x y (u ∷ us) [] at = absurd at

-- whether both or neither of two that stand side by side were made at these places
abbrev pub Match : ℕ → ℕ → Instance → Instance → Type 0
Match i j u v = (u.place == i) ≡ (v.place == j)

not-one : (b : Bool) (n m : ℕ) → m ≤ 1 → m ≡ one_if b + n → 0 < n → b ≡ false
not-one true n m few is some = absurd (omega arith)
not-one false n m few is some = refl

zero-one : (b : Bool) (n : ℕ) → one_if b + n ≡ 0 → b ≡ false
zero-one true n none = absurd (omega arith)
zero-one false n none = refl

neither : (i j : ℕ) (xs ys : List Instance) → count i xs ≡ 0 → count j ys ≡ 0 → Twins (λ x y. Unit {0}) xs ys
    → Twins (Match i j) xs ys
neither i j [] [] none void all = tt
neither i j (x ∷ xs) (y ∷ ys) none void all = (
  zero-one (x.place == i) (count i xs) none ∙ sym (zero-one (y.place == j) (count j ys) void),
  neither i j xs ys (omega (arith, none)) (omega (arith, void)) all.1,
)
neither i j [] (y ∷ ys) none void all = all
neither i j (x ∷ xs) [] none void all = all

-- of lists without repeats, two that stand side by side are matched by no others
pub matched : (x y : Instance) (xs ys : List Instance) → At x y xs ys → ((p : ℕ) → count p xs ≤ 1)
    → ((p : ℕ) → count p ys ≤ 1) → Twins (λ u v. Unit {0}) xs ys
    → Twins (Match x.place y.place) xs ys
matched x y (u ∷ us) (v ∷ vs) (inl here) once same all =
    let i : (u.place == x.place) ≡ true = eq-eqb u.place x.place (ap (λ w. w.place) here.0) in
    let j : (v.place == y.place) ≡ true = eq-eqb v.place y.place (ap (λ w. w.place) here.1) in
    let n : one_if (u.place == x.place) ≡ 1 = ap one_if i in
    let m : one_if (v.place == y.place) ≡ 1 = ap one_if j in (
      i ∙ sym j,
      neither x.place y.place us vs (omega (arith, n, once x.place))
          (omega (arith, m, same y.place)) all.1,
    )
matched x y (u ∷ us) (v ∷ vs) (inr there) once same all = (
  not-one (u.place == x.place) (count x.place us) _ (once x.place) refl (at-left x y us vs there)
      ∙ sym (not-one (v.place == y.place) (count y.place vs) _ (same y.place) refl
      (at-right x y us vs there)),
  matched x y us vs there (λ p. omega (arith, once p)) (λ p. omega (arith, same p)) all.1,
)
matched x y [] vs at once same all = absurd at
matched x y (u ∷ us) [] at once same all = absurd at
