-- Places in byte order of events, and the run of one event among them.
use Rattle.std.proofs.Common.{not, subst, ◌≡◌, ℕ, zero, suc, ◌<◌, ◌≤◌, Bool, true, false, cond, List, [], ◌∷◌, length, get_or, take, drop, bytes_eq, refl, sym, ◌∙◌, ap, arith}
use Rattle.std.specs.List.Sorted.{IsPartitionPoint, IsPartitionedBy}
use Rattle.std.proofs.lemmas.Slice.Eq.{bytes_eq-Decides}
use Rattle.up_value.specs.Values.{Bytes}
use Rattle.up_conf.specs.Order.{is_below}
use Rattle.up_image.specs.declared.index.Place.{Place}
use Rattle.up_image.specs.Index.{named, NoneBelow, IsAscending}
use Rattle.up_image.proofs.PlaceOrder.{above, below_not_same, less, order}

not_true : (b : Bool) → not b ≡ true → b ≡ false
not_true true e = absurd (cc)
not_true false e = refl

not_false : (b : Bool) → not b ≡ false → b ≡ true
not_false true e = refl
not_false false e = absurd (cc)

none_at : (event : Bytes) (xs : List Place) (n : ℕ) (d : Place) → NoneBelow event xs → n < length xs → is_below (get_or xs n d).event event ≡ false
none_at event [] n d none l = absurd (omega arith)
none_at event (x ∷ xs) zero d none l = none.0
none_at event (x ∷ xs) (suc n) d none l = none_at event xs n d none.1 (omega arith)

-- those below an event come first
pub parted : (name : Bytes) (xs : List Place) → IsAscending xs → IsPartitionedBy (λ x. is_below x.event name) xs
parted name [] up i j d le l h = absurd (omega arith)
parted name (x ∷ xs) up zero zero d le l h = h
parted name (x ∷ xs) up zero (suc j) d le l h = by_case (is_below x.event name) refl
  where
    by_case : (b : Bool) → is_below x.event name ≡ b → is_below x.event name ≡ true
    by_case true e = e
    by_case false e =
        let last = get_or xs j d in
        let other : is_below last.event name ≡ false = order.chain last x (record x { event = name }) (none_at x.event xs j d up.0 (omega arith)) e in
        let clash : true ≡ false = sym h ∙ other in
        absurd (cc)
parted name (x ∷ xs) up (suc i) zero d le l h = absurd (omega arith)
parted name (x ∷ xs) up (suc i) (suc j) d le l h = parted name xs up.1 i j d (omega arith) (omega arith) h

-- nothing after an event above this one has this one
none_named : (name event : Bytes) (xs : List Place) → is_below name event ≡ true → NoneBelow event xs → named name xs ≡ []
none_named name event [] over none = refl
none_named name event (y ∷ ys) over none = by_case (bytes_eq y.event name) refl (none_named name event ys over none.1)
  where
    by_case : (b : Bool) → bytes_eq y.event name ≡ b → named name ys ≡ [] → cond b (y ∷ named name ys) (named name ys) ≡ []
    by_case true e rest =
        let same : y.event ≡ name = (bytes_eq-Decides y.event name).0 e in
        let clash : true ≡ false = sym over ∙ ap (λ b. is_below b event) (sym same) ∙ none.0 in
        absurd (cc)
    by_case false e rest = rest

ascending-drop : (i : ℕ) (xs : List Place) → IsAscending xs → IsAscending (drop i xs)
ascending-drop zero xs up = up
ascending-drop (suc i) [] up = up
ascending-drop (suc i) (x ∷ xs) up = ascending-drop i xs up.1

-- those that aren't above an event come first
pub parted_upto : (name : Bytes) (xs : List Place) → IsAscending xs → IsPartitionedBy (λ x. not (is_below name x.event)) xs
parted_upto name [] up i j d le l h = absurd (omega arith)
parted_upto name (x ∷ xs) up zero zero d le l h = h
parted_upto name (x ∷ xs) up zero (suc j) d le l h =
    let last = get_or xs j d in
    let here : is_below name x.event ≡ false = order.chain (record x { event = name }) last x (not_true (is_below name last.event) h) (none_at x.event xs j d up.0 (omega arith)) in
    rw here refl
parted_upto name (x ∷ xs) up (suc i) zero d le l h = absurd (omega arith)
parted_upto name (x ∷ xs) up (suc i) (suc j) d le l h = parted_upto name xs up.1 i j d (omega arith) (omega arith) h

irreflexive : (x : Place) → less x x ≡ false
irreflexive x = by_case (less x x) refl
  where
    by_case : (b : Bool) → less x x ≡ b → less x x ≡ false
    by_case true e = order.one_way x x e
    by_case false e = e

-- the run of one event, where none is below it
run_front : (name : Bytes) (xs : List Place) (n : ℕ) → IsAscending xs → ((k : ℕ) (d : Place) → k < length xs → is_below (get_or xs k d).event name ≡ false)
    → IsPartitionPoint (λ x. not (is_below name x.event) ≡ true) (λ x. not (is_below name x.event) ≡ false) xs n → take n xs ≡ named name xs
run_front name [] zero up over point = refl
run_front name [] (suc n) up over point = refl
run_front name (x ∷ xs) zero up over point =
    sym (none_named name x.event (x ∷ xs) (not_false (is_below name x.event) (point.1 0 x (omega arith) (omega arith))) (irreflexive x, up.0))
run_front name (x ∷ xs) (suc n) up over point =
    let same : bytes_eq x.event name ≡ true = by_case (bytes_eq x.event name) refl in
    rw same (ap (λ ys. x ∷ ys) (run_front name xs n up.1 (λ k d l. over (suc k) d (omega arith)) (λ k d low high. point.0 (suc k) d (omega arith) (omega arith), λ k d low high. point.1 (suc k) d (omega arith) (omega arith))))
  where
    by_case : (b : Bool) → bytes_eq x.event name ≡ b → bytes_eq x.event name ≡ true
    by_case true e = e
    by_case false e =
        let over_it : is_below name x.event ≡ true = above x.event name (over 0 x (omega arith)) e in
        let clash : true ≡ false = sym over_it ∙ not_true (is_below name x.event) (point.0 0 x (omega arith) (omega arith)) in
        absurd (cc)

-- the run of one event
pub run_here : (name : Bytes) (xs rest : List Place) (i n : ℕ) → IsAscending xs → i ≤ length xs → IsPartitionPoint (λ x. is_below x.event name ≡ true) (λ x. is_below x.event name ≡ false) xs i
    → rest ≡ drop i xs → IsPartitionPoint (λ x. not (is_below name x.event) ≡ true) (λ x. not (is_below name x.event) ≡ false) rest n → take n rest ≡ named name xs
run_here name xs rest zero n up within point is upto =
    run_front name rest n (subst (λ ys. IsAscending ys) (sym is) up)
    (subst (λ ys. (k : ℕ) (d : Place) → k < length ys → is_below (get_or ys k d).event name ≡ false) (sym is) (λ k d l. point.1 k d (omega arith) l)) upto
    ∙ ap (named name) is
run_here name [] rest (suc i) n up within point is upto = absurd (omega arith)
run_here name (x ∷ xs) rest (suc i) n up within point is upto =
    run_here name xs rest i n up.1 (omega arith) (λ k d low high. point.0 (suc k) d (omega arith) (omega arith), λ k d low high. point.1 (suc k) d (omega arith) (omega arith)) is upto
    ∙ rw (below_not_same x.event name (point.0 0 x (omega arith) (omega arith))) refl

pub ascending_rest : (i : ℕ) (xs rest : List Place) → rest ≡ drop i xs → IsAscending xs → IsAscending rest
ascending_rest i xs rest is up = subst (λ ys. IsAscending ys) (sym is) (ascending-drop i xs up)
