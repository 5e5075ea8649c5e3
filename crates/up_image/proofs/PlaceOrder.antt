-- Places in byte order of their events.
use Rattle.std.proofs.Common.{◌≡◌, ℕ, Bool, true, false, cond, List, [], ◌∷◌, bytes_eq, refl, sym, ◌∙◌, ap}
use Rattle.std.specs.Cmp.{IsStrictWeakOrder}
use Rattle.std.specs.declared.cmp.Ordering.{Ordering}
use Rattle.std.specs.declared.cmp.Ordering.TheVariants.{Less, Equal, Greater}
use Rattle.std.specs.Ordering.{is_lt, is_eq, nat_cmp, ordering_reverse}
use Rattle.std.specs.Cmp.Lexicographic.{slice_cmp}
use Rattle.std.proofs.lemmas.Cmp.{nat_list_cmp_total}
use Rattle.std.proofs.lemmas.List.Sorted.{ranks_by}
use Rattle.std.proofs.lemmas.Map.Text.{is_eq-slice_cmp}
use Rattle.std.proofs.lemmas.Slice.Eq.{bytes_eq-Decides}
use Rattle.up_conf.specs.Order.{is_below, put_by, sort_by_order, in_order}
use Rattle.up_image.specs.declared.index.Place.{Place}
use Rattle.up_image.specs.Index.{named, NoneBelow, IsAscending}

lt_not_eq : (o : Ordering) → is_lt o ≡ true → is_eq o ≡ false
lt_not_eq Less h = refl
lt_not_eq Equal h = absurd cc
lt_not_eq Greater h = absurd cc

gt_of : (o : Ordering) → is_lt o ≡ false → is_eq o ≡ false → is_lt (ordering_reverse o) ≡ true
gt_of Less h e = absurd cc
gt_of Equal h e = absurd cc
gt_of Greater h e = refl

pub below_not_same : (a b : List ℕ) → is_below a b ≡ true → bytes_eq a b ≡ false
below_not_same a b h = sym (is_eq-slice_cmp a b) ∙ lt_not_eq (slice_cmp nat_cmp a b) h

pub above : (a b : List ℕ) → is_below a b ≡ false → bytes_eq a b ≡ false → is_below b a ≡ true
above a b h e =
    ap is_lt (nat_list_cmp_total.antisymm b a) ∙ gt_of (slice_cmp nat_cmp a b) h (is_eq-slice_cmp a b ∙ e)

pub order : IsStrictWeakOrder (λ (x y : Place). is_below x.event y.event)
order = ranks_by nat_list_cmp_total (λ (x : Place). x.event)

abbrev pub less : Place → Place → Bool
less x y = is_below x.event y.event

none_below-put : (z x : Place) (xs : List Place) → less x z ≡ false → NoneBelow z.event xs → NoneBelow z.event (put_by less x xs)
none_below-put z x [] e none = (e, tt)
none_below-put z x (y ∷ ys) e none = by_case (less y x) (none_below-put z x ys e none.1)
  where
    by_case : (b : Bool) → NoneBelow z.event (put_by less x ys) → NoneBelow z.event (cond b (y ∷ put_by less x ys) (x ∷ y ∷ ys))
    by_case true rest = (none.0, rest)
    by_case false rest = (e, none)

-- what isn't below y isn't below x, where y isn't
none_below-lower : (x y : Place) (ys : List Place) → less y x ≡ false → NoneBelow y.event ys → NoneBelow x.event ys
none_below-lower x y [] e none = tt
none_below-lower x y (w ∷ ws) e none = (order.chain w y x none.0 e, none_below-lower x y ws e none.1)

ascending-put : (x : Place) (xs : List Place) → IsAscending xs → IsAscending (put_by less x xs)
ascending-put x [] up = (tt, tt)
ascending-put x (y ∷ ys) up = by_case (less y x) refl (ascending-put x ys up.1)
  where
    by_case : (b : Bool) → less y x ≡ b → IsAscending (put_by less x ys) → IsAscending (cond b (y ∷ put_by less x ys) (x ∷ y ∷ ys))
    by_case true e rest = (none_below-put y x ys (order.one_way y x e) up.0, rest)
    by_case false e rest = ((e, none_below-lower x y ys e up.0), up)

pub ascending-in_order : (xs : List Place) → IsAscending (in_order (λ place. place.event) xs)
ascending-in_order [] = tt
ascending-in_order (x ∷ xs) = ascending-put x (sort_by_order less xs) (ascending-in_order xs)

-- of two with one event neither is below the other
same_not_below : (name : List ℕ) (x y : Place) → bytes_eq x.event name ≡ true → bytes_eq y.event name ≡ true → less y x ≡ true → ⊥
same_not_below name x y p q below =
    let same : y.event ≡ x.event = (bytes_eq-Decides y.event name).0 q ∙ sym ((bytes_eq-Decides x.event name).0 p) in
    let self : bytes_eq y.event x.event ≡ true = (bytes_eq-Decides y.event x.event).1 same in
    let clash : true ≡ false = sym self ∙ below_not_same y.event x.event below in
    cc

named-put : (name : List ℕ) (x : Place) (xs : List Place) → named name (put_by less x xs) ≡ named name (x ∷ xs)
named-put name x [] = refl
named-put name x (y ∷ ys) = by_case (less y x) refl (named-put name x ys)
  where
    both : (p q : Bool) → bytes_eq x.event name ≡ p → bytes_eq y.event name ≡ q → less y x ≡ true
        → named name (put_by less x ys) ≡ cond p (x ∷ named name ys) (named name ys)
        → cond q (y ∷ named name (put_by less x ys)) (named name (put_by less x ys)) ≡ cond p (x ∷ cond q (y ∷ named name ys) (named name ys)) (cond q (y ∷ named name ys) (named name ys))
    both true true e f below rest = absurd (same_not_below name x y e f below)
    both true false e f below rest = rest
    both false true e f below rest = ap (λ others. y ∷ others) rest
    both false false e f below rest = rest

    by_case : (b : Bool) → less y x ≡ b → named name (put_by less x ys) ≡ named name (x ∷ ys)
        → named name (cond b (y ∷ put_by less x ys) (x ∷ y ∷ ys)) ≡ named name (x ∷ y ∷ ys)
    by_case true e rest = both (bytes_eq x.event name) (bytes_eq y.event name) refl refl e rest
    by_case false e rest = refl

-- the order of places leaves those of one event in theirs
pub named-in_order : (name : List ℕ) (xs : List Place) → named name (in_order (λ place. place.event) xs) ≡ named name xs
named-in_order name [] = refl
named-in_order name (x ∷ xs) =
    named-put name x (sort_by_order less xs) ∙ ap (λ others. cond (bytes_eq x.event name) (x ∷ others) others) (named-in_order name xs)
