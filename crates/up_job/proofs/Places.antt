-- Lists changed at one place.
use Rattle.std.proofs.Common.{◌≡◌, ℕ, zero, suc, ◌+◌, ◌<◌, ◌≤◌, Bool, true, false, cond, List, [], ◌∷◌, Option, None, Some, IsSome, option_map, map, length, set, get_or, remove, bytes_eq, refl, sym, ◌∙◌, ap, arith, add-one, true≢false}
use Rattle.up_conf.specs.Order.{is_below}
use Rattle.up_model.specs.Values.{Bytes}
use Rattle.up_job.specs.Lists.{nth, position_in, with_at, without_at}
use Rattle.up_job.specs.Named.{named, place_of, position, AreInOrder, IsBelowAll}

pub cons_same : {X : Type 0} {x y : X} {xs ys : List X} → x ≡ y → xs ≡ ys → x ∷ xs ≡ y ∷ ys
cons_same p q = cc

-- a write of what stands there, changed
pub set_with_at : {X : Type 0} (f : X → X) (place : ℕ) (xs : List X) (x : X) → place < length xs → x ≡ get_or xs place x → set xs place (f x) ≡ with_at place f xs
set_with_at f place [] x within there = absurd (omega arith)
set_with_at f zero (y ∷ ys) x within there = cons_same (ap f there) refl
set_with_at f (suc place) (y ∷ ys) x within there = cons_same refl (set_with_at f place ys x (omega arith) there)

pub none_with_at : {X : Type 0} (f : X → X) (place : ℕ) (xs : List X) → length xs ≤ place → with_at place f xs ≡ xs
none_with_at f place [] past = refl
none_with_at f zero (y ∷ ys) past = absurd (omega arith)
none_with_at f (suc place) (y ∷ ys) past = cons_same refl (none_with_at f place ys (omega arith))

pub nth_get : {X : Type 0} (place : ℕ) (xs : List X) (x : X) → place < length xs → x ≡ get_or xs place x → nth place xs ≡ Some x
nth_get place [] x within there = absurd (omega arith)
nth_get zero (y ∷ ys) x within there = ap Some (sym there)
nth_get (suc place) (y ∷ ys) x within there = nth_get place ys x (omega arith) there

pub nth_none : {X : Type 0} (place : ℕ) (xs : List X) → length xs ≤ place → nth place xs ≡ None
nth_none place [] past = refl
nth_none zero (y ∷ ys) past = absurd (omega arith)
nth_none (suc place) (y ∷ ys) past = nth_none place ys (omega arith)

pub nth_within : {X : Type 0} (place : ℕ) (xs : List X) → IsSome (nth place xs) → place < length xs
nth_within place [] there = absurd (true≢false (sym there))
nth_within zero (x ∷ xs) there = omega arith
nth_within (suc place) (x ∷ xs) there = omega (arith, nth_within place xs there)

pub removed_at : {X : Type 0} (place : ℕ) (xs : List X) → place < length xs → remove xs place ≡ without_at place xs
removed_at place [] within = absurd (omega arith)
removed_at zero (x ∷ xs) within = refl
removed_at (suc place) (x ∷ xs) within = cons_same refl (removed_at place xs (omega arith))

pub none_without_at : {X : Type 0} (place : ℕ) (xs : List X) → length xs ≤ place → without_at place xs ≡ xs
none_without_at place [] past = refl
none_without_at zero (x ∷ xs) past = absurd (omega arith)
none_without_at (suc place) (x ∷ xs) past = cons_same refl (none_without_at place xs (omega arith))

-- a change that keeps what is read of the item
pub map-with_at : {X Y : Type 0} (view : X → Y) (f : X → X) → ((x : X) → view (f x) ≡ view x) → (place : ℕ) (xs : List X)
    → map view xs ≡ map view (with_at place f xs)
map-with_at view f same place [] = refl
map-with_at view f same zero (x ∷ xs) = cons_same (sym (same x)) refl
map-with_at view f same (suc place) (x ∷ xs) = cons_same refl (map-with_at view f same place xs)

pub length-without_at : {X : Type 0} (place : ℕ) (xs : List X) → length (without_at place xs) ≤ length xs
length-without_at place [] = omega arith
length-without_at zero (x ∷ xs) = omega arith
length-without_at (suc place) (x ∷ xs) = omega (arith, length-without_at place xs)

module _ {X : Type 0} (key : X → Bytes) where
  -- where a name belongs among the names
  pub position-map : (name : Bytes) (xs : List X) → position_in name (map key xs) ≡ position key name xs
  position-map name [] = refl
  position-map name (x ∷ xs) = ap (λ n. cond (is_below (key x) name) (n + 1) 0) (position-map name xs)

  below_all-without_at : (name : Bytes) (place : ℕ) (xs : List X) → IsBelowAll key name xs → IsBelowAll key name (without_at place xs)
  below_all-without_at name place [] b = tt
  below_all-without_at name zero (x ∷ xs) b = b.1
  below_all-without_at name (suc place) (x ∷ xs) b = (b.0, below_all-without_at name place xs b.1)

  pub order-without_at : (place : ℕ) (xs : List X) → AreInOrder key xs → AreInOrder key (without_at place xs)
  order-without_at place [] order = tt
  order-without_at zero (x ∷ xs) order = order.1
  order-without_at (suc place) (x ∷ xs) order = (below_all-without_at (key x) place xs order.0, order-without_at place xs order.1)

  -- what stands at the place of a name has that name
  pub nth-place : (name : Bytes) (xs : List X) (at : ℕ) → place_of key name xs ≡ Some at → nth at xs ≡ named key name xs
  nth-place name [] at found = absurd cc
  nth-place name (x ∷ xs) at found = by_case (nth-place name xs) (bytes_eq (key x) name) (place_of key name xs) refl at found
    where
      by_case : ((m : ℕ) → place_of key name xs ≡ Some m → nth m xs ≡ named key name xs) → (e : Bool) (o : Option ℕ) → place_of key name xs ≡ o → (n : ℕ) → cond e (Some 0) (option_map (λ m. m + 1) o) ≡ Some n → nth n (x ∷ xs) ≡ cond e (Some x) (named key name xs)
      by_case ih true o its n same =
          let first : n ≡ 0 = cc in
          ap (λ m. nth m (x ∷ xs)) first
      by_case ih false None its n same = absurd cc
      by_case ih false (Some m) its n same =
          let next : n ≡ m + 1 = cc in
          ap (λ k. nth k (x ∷ xs)) (next ∙ add-one m) ∙ ih m its
