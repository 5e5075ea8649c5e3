-- A sorted list in which those that tie keep their order is the only one.
use Rattle.std.proofs.Common.{◌≡◌, ℕ, ◌<◌, ◌≤◌, Bool, true, false, not, List, [], ◌∷◌, length, get_or, cond, refl, sym, ◌∙◌, ap, arith, suc, filter}
use Rattle.std.specs.Cmp.{IsStrictWeakOrder}
use Rattle.std.specs.List.Sorted.{IsSortedBy, IsStableBy, ties}
use Rattle.std.proofs.lemmas.Bool.{both_ways, and_parts, not-true}
use Rattle.std.proofs.lemmas.List.Sorted.{sorted_far}
use Rattle.std.specs.Ordering.{is_lt, nat_cmp}
use Rattle.std.specs.declared.cmp.Ordering.{Ordering}
use Rattle.std.specs.Cmp.Lexicographic.{slice_cmp, nat_list_cmp_total}
use Rattle.std.specs.Fn.{Called}
use Rattle.std.specs.List.Sorted.{IsSortedByClosure, IsStableByClosure}
use Rattle.std.proofs.lemmas.List.Sorted.{ranks_by, answers_always}
use denote.Param.Members.{Mut}
use denote.Ref.{Bor}
use Rattle.up_conf.specs.Order.{put_by, sort_by_order, in_order}

-- no item is less than x
abbrev NoneLess : {X : Type 0} → (X → X → Bool) → X → List X → Type 0
NoneLess less x [] = Unit {0}
NoneLess less x (y ∷ ys) = (less y x ≡ false) × NoneLess less x ys

-- no item is less than one before it
abbrev Ascending : {X : Type 0} → (X → X → Bool) → List X → Type 0
Ascending less [] = Unit {0}
Ascending less (x ∷ xs) = NoneLess less x xs × Ascending less xs

none_less-from_places : {X : Type 0} (less : X → X → Bool) (x : X) (xs : List X) → ((j : ℕ) (d : X) → j < length xs → less (get_or xs j d) x ≡ false) → NoneLess less x xs
none_less-from_places less x [] h = tt
none_less-from_places less x (y ∷ ys) h = (h 0 y (omega arith), none_less-from_places less x ys (λ j d lt. h (suc j) d (omega arith)))

ascending-from_far : {X : Type 0} (less : X → X → Bool) (xs : List X) → ((i j : ℕ) (d : X) → i ≤ j → j < length xs → less (get_or xs j d) (get_or xs i d) ≡ false) → Ascending less xs
ascending-from_far less [] h = tt
ascending-from_far less (x ∷ xs) h = (
  none_less-from_places less x xs (λ j d lt. h 0 (suc j) d (omega arith) (omega arith)),
  ascending-from_far less xs (λ i j d le lt. h (suc i) (suc j) d (omega arith) (omega arith)),
)

-- an item ties itself
self_ties : {X : Type 0} (less : X → X → Bool) → IsStrictWeakOrder less → (x : X) → less x x ≡ false
self_ties less o x = by_case (less x x) refl
  where
    by_case : (b : Bool) → less x x ≡ b → less x x ≡ false
    by_case true e = o.one_way x x e
    by_case false e = e

-- what is less than an item that none is less than ties none of them
none_ties : {X : Type 0} (less : X → X → Bool) → IsStrictWeakOrder less → (z y : X) (ys : List X) → less z y ≡ true → NoneLess less y ys → filter (ties less z) ys ≡ []
none_ties less o z y [] below none = refl
none_ties less o z y (w ∷ ws) below none =
    by_case (less z w) refl (none_ties less o z y ws below none.1)
  where
    by_case : (b : Bool) → less z w ≡ b → filter (ties less z) ws ≡ [] → filter (ties less z) (w ∷ ws) ≡ []
    by_case true e rest = rw e rest
    by_case false e rest = absurd (both_ways (less z y) (o.chain z w y e none.0) below)

-- an item that ties leads those that tie
leads : {X : Type 0} (less : X → X → Bool) (z y : X) (ys : List X) → less z y ≡ false → less y z ≡ false → filter (ties less z) (y ∷ ys) ≡ y ∷ filter (ties less z) ys
leads less z y ys e f = rw (e, f) refl

-- an item isn't less than the first of an ascending list in which another ties it
not_less : {X : Type 0} (less : X → X → Bool) → IsStrictWeakOrder less → (z y : X) (ys zs : List X) → NoneLess less y ys → filter (ties less z) (y ∷ ys) ≡ z ∷ zs → less z y ≡ false
not_less less o z y ys zs none e = by_case (less z y) refl
  where
    by_case : (b : Bool) → less z y ≡ b → less z y ≡ false
    by_case false p = p
    by_case true p =
        let empty = none_ties less o z y (y ∷ ys) p (self_ties less o y, none) in
        let clash : z ∷ zs ≡ [] = sym e ∙ empty in
        absurd (cc)

-- both lists without their first items tie alike if they did with one in front
tails : {X : Type 0} (less : X → X → Bool) (x y : X) (ys zs : List X) → filter (ties less x) (y ∷ ys) ≡ filter (ties less x) (y ∷ zs) → filter (ties less x) ys ≡ filter (ties less x) zs
tails less x y ys zs e = by_case (ties less x y) e
  where
    by_case : (b : Bool) → cond b (y ∷ filter (ties less x) ys) (filter (ties less x) ys) ≡ cond b (y ∷ filter (ties less x) zs) (filter (ties less x) zs) → filter (ties less x) ys ≡ filter (ties less x) zs
    by_case true e = cc
    by_case false e = e

-- two ascending lists with the same items that tie each item are one
pub same_from_ties : {X : Type 0} (less : X → X → Bool) → IsStrictWeakOrder less → (ys zs : List X) → Ascending less ys → Ascending less zs → ((x : X) → filter (ties less x) ys ≡ filter (ties less x) zs) → ys ≡ zs
same_from_ties less o [] [] up up' same = refl
same_from_ties less o [] (z ∷ zs) up up' same =
    let here = leads less z z zs (self_ties less o z) (self_ties less o z) in
    let clash : [] ≡ z ∷ filter (ties less z) zs = same z ∙ here in
    absurd (cc)
same_from_ties less o (y ∷ ys) [] up up' same =
    let here = leads less y y ys (self_ties less o y) (self_ties less o y) in
    let clash : y ∷ filter (ties less y) ys ≡ [] = sym here ∙ same y in
    absurd (cc)
same_from_ties less o (y ∷ ys) (z ∷ zs) up up' same =
    let of_y = leads less y y ys (self_ties less o y) (self_ties less o y) in
    let of_z = leads less z z zs (self_ties less o z) (self_ties less o z) in
    let above : less z y ≡ false = not_less less o z y ys (filter (ties less z) zs) up.0 (same z ∙ of_z) in
    let below : less y z ≡ false = not_less less o y z zs (filter (ties less y) ys) up'.0 (sym (same y) ∙ of_y) in
    let mixed = leads less y z zs below above in
    let fronts : y ∷ filter (ties less y) ys ≡ z ∷ filter (ties less y) zs = sym of_y ∙ same y ∙ mixed in
    let first : y ≡ z = cc in
    let aligned : (x : _) → filter (ties less x) (y ∷ ys) ≡ filter (ties less x) (y ∷ zs) = λ x. rw (← first) at (same x) in
    let rest = same_from_ties less o ys zs up.1 up'.1 (λ x. tails less x y ys zs (aligned x)) in
    cc

none_less-put_by : {X : Type 0} (less : X → X → Bool) (z x : X) (xs : List X) → less x z ≡ false → NoneLess less z xs → NoneLess less z (put_by less x xs)
none_less-put_by less z x [] e none = (e, tt)
none_less-put_by less z x (y ∷ ys) e none = by_case (less y x) (none_less-put_by less z x ys e none.1)
  where
    by_case : (b : Bool) → NoneLess less z (put_by less x ys) → NoneLess less z (cond b (y ∷ put_by less x ys) (x ∷ y ∷ ys))
    by_case true rest = (none.0, rest)
    by_case false rest = (e, none)

-- what isn't less than y isn't less than x, where y isn't
none_less-lower : {X : Type 0} (less : X → X → Bool) → IsStrictWeakOrder less → (x y : X) (ys : List X) → less y x ≡ false → NoneLess less y ys → NoneLess less x ys
none_less-lower less o x y [] e none = tt
none_less-lower less o x y (w ∷ ws) e none = (o.chain w y x none.0 e, none_less-lower less o x y ws e none.1)

ascending-put_by : {X : Type 0} (less : X → X → Bool) → IsStrictWeakOrder less → (x : X) (xs : List X) → Ascending less xs → Ascending less (put_by less x xs)
ascending-put_by less o x [] up = (tt, tt)
ascending-put_by less o x (y ∷ ys) up = by_case (less y x) refl (ascending-put_by less o x ys up.1)
  where
    by_case : (b : Bool) → less y x ≡ b → Ascending less (put_by less x ys) → Ascending less (cond b (y ∷ put_by less x ys) (x ∷ y ∷ ys))
    by_case true e rest = (none_less-put_by less y x ys (o.one_way y x e) up.0, rest)
    by_case false e rest = ((e, none_less-lower less o x y ys e up.0), up)

ascending-sort_by_order : {X : Type 0} (less : X → X → Bool) → IsStrictWeakOrder less → (xs : List X) → Ascending less (sort_by_order less xs)
ascending-sort_by_order less o [] = tt
ascending-sort_by_order less o (x ∷ xs) = ascending-put_by less o x (sort_by_order less xs) (ascending-sort_by_order less o xs)

-- an item less than another doesn't tie what that one ties
apart : {X : Type 0} (less : X → X → Bool) → IsStrictWeakOrder less → (w x y : X) → less y x ≡ true → ties less w y ≡ true → ties less w x ≡ true → ⊥
apart less o w x y below p q =
    let of_y = and_parts (not (less w y)) (not (less y w)) p in
    let of_x = and_parts (not (less w x)) (not (less x w)) q in
    both_ways (less y x) (o.chain y w x (not-true _ of_y.1) (not-true _ of_x.0)) below

ties-put_by : {X : Type 0} (less : X → X → Bool) → IsStrictWeakOrder less → (w x : X) (xs : List X) → filter (ties less w) (put_by less x xs) ≡ filter (ties less w) (x ∷ xs)
ties-put_by less o w x [] = refl
ties-put_by less o w x (y ∷ ys) = by_case (less y x) refl (ties-put_by less o w x ys)
  where
    both : (p q : Bool) → ties less w y ≡ p → ties less w x ≡ q → less y x ≡ true
        → filter (ties less w) (put_by less x ys) ≡ cond q (x ∷ filter (ties less w) ys) (filter (ties less w) ys)
        → cond p (y ∷ filter (ties less w) (put_by less x ys)) (filter (ties less w) (put_by less x ys)) ≡ cond q (x ∷ cond p (y ∷ filter (ties less w) ys) (filter (ties less w) ys)) (cond p (y ∷ filter (ties less w) ys) (filter (ties less w) ys))
    both true true e f below rest = absurd (apart less o w x y below e f)
    both true false e f below rest = ap (λ others. y ∷ others) rest
    both false true e f below rest = rest
    both false false e f below rest = rest

    by_case : (b : Bool) → less y x ≡ b → filter (ties less w) (put_by less x ys) ≡ filter (ties less w) (x ∷ ys)
        → filter (ties less w) (cond b (y ∷ put_by less x ys) (x ∷ y ∷ ys)) ≡ filter (ties less w) (x ∷ y ∷ ys)
    by_case true e rest = both (ties less w y) (ties less w x) refl refl e rest
    by_case false e rest = refl

ties-sort_by_order : {X : Type 0} (less : X → X → Bool) → IsStrictWeakOrder less → (w : X) (xs : List X) → filter (ties less w) (sort_by_order less xs) ≡ filter (ties less w) xs
ties-sort_by_order less o w [] = refl
ties-sort_by_order less o w (x ∷ xs) =
    ties-put_by less o w x (sort_by_order less xs) ∙ ap (λ others. cond (ties less w x) (x ∷ others) others) (ties-sort_by_order less o w xs)

-- what a stable sort leaves
pub sort_by_order-from_sort : {X : Type 0} (less : X → X → Bool) → IsStrictWeakOrder less → (xs ys : List X) → IsSortedBy less ys → IsStableBy less xs ys → ys ≡ sort_by_order less xs
sort_by_order-from_sort less o xs ys up stable =
    same_from_ties less o ys (sort_by_order less xs) (ascending-from_far less ys (sorted_far less o ys up)) (ascending-sort_by_order less o xs)
    (λ x. stable x ∙ sym (ties-sort_by_order less o x xs))

-- what `sort_by` leaves, if its closure compares the keys
pub in_order-from_sort_by : {X : Type 0} (key : X → List ℕ) {F : Type 0} (g : Mut F (Bor X × (Bor X × Unit {0})) Ordering) (f : F) (xs ys : List X)
    → ((h : F) (a : Bor X × (Bor X × Unit {0})) (r : Ordering) (h' : F) → Called g h a r h' → r ≡ slice_cmp nat_cmp (key a.0.now) (key a.1.0.now))
    → IsStableByClosure g f xs ys → IsSortedByClosure g f ys → ys ≡ in_order key xs
in_order-from_sort_by key g f xs ys answers stable sorted =
    let o = ranks_by nat_list_cmp_total key in
    let always = answers_always g (λ a r. is_lt r ≡ is_lt (slice_cmp nat_cmp (key a.0.now) (key a.1.0.now))) f (λ h a r h' called. ap is_lt (answers h a r h' called)) in
    sort_by_order-from_sort _ o xs ys (sorted _ o always) (stable _ o always)
