-- Lists in byte order of names.
use Rattle.std.proofs.Common.{◌≡◌, ℕ, zero, suc, ◌+◌, ◌<◌, ◌≤◌, Bool, true, false, cond, List, [], ◌∷◌, map, Some, length, insert, remove, if◌then◌else◌, refl, ap, arith, add-one}
use Rattle.up_job.specs.Lists.{nth, with_named, without_at, position_in}
use Rattle.up_conf.specs.Order.{is_below}
use Rattle.up_model.specs.Values.{Bytes}
use Rattle.up_job.specs.declared.instance.Instance.{Instance as Kept}
use Rattle.up_book.proofs.Lists.{cons_same}

pub position_within : (name : Bytes) (names : List Bytes) → position_in name names ≤ length names
position_within name [] = omega arith
position_within name (other ∷ names) = by_case (is_below other name) (position_within name names)
  where
    by_case : (b : Bool) → position_in name names ≤ length names → cond b (position_in name names + 1) 0 ≤ length (other ∷ names)
    by_case true h = omega arith
    by_case false h = omega arith

pub insert_in_order : (new : Kept) (items : List Kept) → insert items (position_in new.name (map (λ k. k.name) items)) new ≡ with_named (λ k. k.name) new items
insert_in_order new [] = refl
insert_in_order new (item ∷ items) = by_case (is_below item.name new.name) (insert_in_order new items)
  where
    by_case : (b : Bool) → insert items (position_in new.name (map (λ k. k.name) items)) new ≡ with_named (λ k. k.name) new items
        → insert (item ∷ items) (cond b (position_in new.name (map (λ k. k.name) items) + 1) 0) new ≡ cond b (item ∷ with_named (λ k. k.name) new items) (new ∷ item ∷ items)
    by_case true h = rw add-one (ap (λ rest. item ∷ rest) h)
    by_case false h = refl

pub removed_at : {X : Type 0} (place : ℕ) (xs : List X) → place < length xs → remove xs place ≡ without_at place xs
removed_at place [] within = absurd (omega arith)
removed_at zero (x ∷ xs) within = refl
removed_at (suc place) (x ∷ xs) within = cons_same refl (removed_at place xs (omega arith))

pub none_without_at : {X : Type 0} (place : ℕ) (xs : List X) → length xs ≤ place → without_at place xs ≡ xs
none_without_at place [] past = refl
none_without_at zero (x ∷ xs) past = absurd (omega arith)
none_without_at (suc place) (x ∷ xs) past = cons_same refl (none_without_at place xs (omega arith))

-- the names alone say where one belongs
pub with_named-map : {X Y : Type 0} (f : X → Y) (of : X → Bytes) (its : Y → Bytes) → ((x : X) → its (f x) ≡ of x) → (x : X) (xs : List X)
    → map f (with_named of x xs) ≡ with_named its (f x) (map f xs)
with_named-map f of its same x [] = refl
with_named-map f of its same x (y ∷ ys) = rw (same y, same x) (by_case (is_below (of y) (of x)) (with_named-map f of its same x ys))
  where
    by_case : (b : Bool) → map f (with_named of x ys) ≡ with_named its (f x) (map f ys)
        → map f (if b then y ∷ with_named of x ys else x ∷ y ∷ ys) ≡ (if b then f y ∷ with_named its (f x) (map f ys) else f x ∷ f y ∷ map f ys)
    by_case true ih = cons_same refl ih
    by_case false ih = refl

pub nth-with_named : {X : Type 0} (of : X → Bytes) (x : X) (xs : List X) → nth (position_in (of x) (map of xs)) (with_named of x xs) ≡ Some x
nth-with_named of x [] = refl
nth-with_named of x (y ∷ ys) = by_case (is_below (of y) (of x)) (nth-with_named of x ys)
  where
    by_case : (b : Bool) → nth (position_in (of x) (map of ys)) (with_named of x ys) ≡ Some x
        → nth (if b then position_in (of x) (map of ys) + 1 else 0) (if b then y ∷ with_named of x ys else x ∷ y ∷ ys) ≡ Some x
    by_case true ih = rw add-one ih
    by_case false ih = refl

pub without_at-map : {X Y : Type 0} (f : X → Y) (place : ℕ) (xs : List X) → map f (without_at place xs) ≡ without_at place (map f xs)
without_at-map f place [] = refl
without_at-map f zero (x ∷ xs) = refl
without_at-map f (suc place) (x ∷ xs) = cons_same refl (without_at-map f place xs)
