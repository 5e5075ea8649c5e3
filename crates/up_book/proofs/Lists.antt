-- Lists changed at one place.
use Rattle.std.proofs.Common.{◌≡◌, ℕ, zero, suc, ◌<◌, ◌≤◌, List, [], ◌∷◌, None, Some, map, length, set, get_or, refl, sym, ◌∙◌, ap, arith}
use Rattle.up_job.specs.Lists.{with_at, nth}

pub cons_same : {X : Type 0} {x y : X} {xs ys : List X} → x ≡ y → xs ≡ ys → x ∷ xs ≡ y ∷ ys
cons_same p q = cc

-- a change seen through a view of the items
pub with_at-map : {X Y : Type 0} (view : X → Y) (f : X → X) (g : Y → Y) → ((x : X) → view (f x) ≡ g (view x)) → (place : ℕ) (xs : List X)
    → map view (with_at place f xs) ≡ with_at place g (map view xs)
with_at-map view f g same place [] = refl
with_at-map view f g same zero (x ∷ xs) = cons_same (same x) refl
with_at-map view f g same (suc place) (x ∷ xs) = cons_same refl (with_at-map view f g same place xs)

-- two readings of a list that differ at one place alone
abbrev pub Elsewhere : {X Y : Type 0} → (X → Y) → (X → Y) → ℕ → List X → Type 0
Elsewhere old new place [] = Unit {0}
Elsewhere old new zero (x ∷ xs) = map new xs ≡ map old xs
Elsewhere old new (suc place) (x ∷ xs) = (new x ≡ old x) × Elsewhere old new place xs

pub with_at-read : {X Y : Type 0} (old new : X → Y) (g : Y → Y) (place : ℕ) (xs : List X) (x : X) → nth place xs ≡ Some x → new x ≡ g (old x)
    → Elsewhere old new place xs → map new xs ≡ with_at place g (map old xs)
with_at-read old new g place [] x there here others = absurd cc
with_at-read old new g zero (y ∷ ys) x there here others =
    let same : y ≡ x = cc in
    cons_same (ap new same ∙ here ∙ ap (λ z. g (old z)) (sym same)) others
with_at-read old new g (suc place) (y ∷ ys) x there here others = cons_same others.0 (with_at-read old new g place ys x there here others.1)

-- the item at a place of a list seen through a view
pub nth-map : {X Y : Type 0} (view : X → Y) (place : ℕ) (xs : List X) (y : Y) → nth place (map view xs) ≡ Some y → (x : X) × (nth place xs ≡ Some x) × (view x ≡ y)
nth-map view place [] y there = absurd cc
nth-map view zero (x ∷ xs) y there = (x, refl, cc)
nth-map view (suc place) (x ∷ xs) y there = nth-map view place xs y there

pub map-nth : {X Y : Type 0} (view : X → Y) (place : ℕ) (xs : List X) (x : X) → nth place xs ≡ Some x → nth place (map view xs) ≡ Some (view x)
map-nth view place [] x there = absurd cc
map-nth view zero (y ∷ ys) x there =
    let same : y ≡ x = cc in
    ap (λ z. Some (view z)) same
map-nth view (suc place) (y ∷ ys) x there = map-nth view place ys x there

-- a write of what stands there, changed
pub set_with_at : {X : Type 0} (f : X → X) (place : ℕ) (xs : List X) (x : X) → place < length xs → x ≡ get_or xs place x → set xs place (f x) ≡ with_at place f xs
set_with_at f place [] x within there = absurd (omega arith)
set_with_at f zero (y ∷ ys) x within there = cons_same (ap f there) refl
set_with_at f (suc place) (y ∷ ys) x within there = cons_same refl (set_with_at f place ys x (omega arith) there)

pub none_with_at : {X : Type 0} (f : X → X) (place : ℕ) (xs : List X) → length xs ≤ place → with_at place f xs ≡ xs
none_with_at f place [] past = refl
none_with_at f zero (y ∷ ys) past = absurd (omega arith)
none_with_at f (suc place) (y ∷ ys) past = cons_same refl (none_with_at f place ys (omega arith))

pub nth-get : {X : Type 0} (place : ℕ) (xs : List X) (x : X) → place < length xs → x ≡ get_or xs place x → nth place xs ≡ Some x
nth-get place [] x within there = absurd (omega arith)
nth-get zero (y ∷ ys) x within there = ap Some (sym there)
nth-get (suc place) (y ∷ ys) x within there = nth-get place ys x (omega arith) there

pub nth-past : {X : Type 0} (place : ℕ) (xs : List X) → length xs ≤ place → nth place xs ≡ None
nth-past place [] past = refl
nth-past zero (y ∷ ys) past = absurd (omega arith)
nth-past (suc place) (y ∷ ys) past = nth-past place ys (omega arith)

-- what stands at a place after a change there
pub nth-with : {X : Type 0} (f : X → X) (place : ℕ) (xs : List X) (x : X) → nth place xs ≡ Some x → nth place (with_at place f xs) ≡ Some (f x)
nth-with f place [] x there = absurd cc
nth-with f zero (y ∷ ys) x there =
    let same : y ≡ x = cc in
    ap (λ z. Some (f z)) same
nth-with f (suc place) (y ∷ ys) x there = nth-with f place ys x there

pub nth-set : {X : Type 0} (place : ℕ) (xs : List X) (x : X) → place < length xs → nth place (set xs place x) ≡ Some x
nth-set place [] x within = absurd (omega arith)
nth-set zero (y ∷ ys) x within = refl
nth-set (suc place) (y ∷ ys) x within = nth-set place ys x (omega arith)
