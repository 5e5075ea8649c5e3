-- Of leaves in order, those that name one event.
use Rattle.std.proofs.Common.{◌≡◌, ◌≤◌, ◌<◌, ◌+◌, ◌==◌, ℕ, zero, suc, Bool, true, false, not, ◌&&◌, ◌||◌, cond, List, [], ◌∷◌, length, get_or, take, drop, bytes_eq, Ordering, Less, Equal, Greater, is_lt, refl, sym, ◌∙◌, ap, subst, arith}
use Rattle.std.specs.Cmp.{IsStrictWeakOrder}
use Rattle.std.specs.List.{list_any}
use Rattle.std.specs.List.Sorted.{IsPartitionPoint, IsPartitionedBy}
use Rattle.std.specs.Ordering.{ordering_then}
use Rattle.std.proofs.lemmas.Cmp.{nat_list_cmp_total}
use Rattle.std.proofs.lemmas.List.Kept.{IsSortedBy-filter}
use Rattle.std.proofs.lemmas.List.Sorted.{ranks_by}
use Rattle.std.proofs.lemmas.Slice.Eq.{bytes_eq-Decides}
use Rattle.up_conf.specs.Order.{is_below}
use Rattle.up_image.proofs.PlaceOrder.{above, below_not_same}
use Rattle.up_image.specs.declared.index.Place.{Place}
use Rattle.up_value.specs.Values.{Bytes, Bindings}
use Rattle.up_marks.specs.Finding.{AreOrdered, has_wanted, has_wanting, is_before, key_of, of_event, wants}
use Rattle.up_marks.specs.declared.wanted.Wanted.{Wanted}
use Rattle.up_marks.proofs.Ordered.{far, leaf_order}

order : IsStrictWeakOrder is_below
order = ranks_by nat_list_cmp_total (λ (text : Bytes). text)

-- no event is below an earlier one's
first-not : (o p q : Ordering) → is_lt (ordering_then (ordering_then o p) q) ≡ false → is_lt o ≡ false
first-not Less p q isnt = isnt
first-not Equal p q isnt = refl
first-not Greater p q isnt = refl

event-far : (xs : List Wanted) → AreOrdered xs → (i j : ℕ) (d : Wanted) → i ≤ j → j < length xs → is_below (get_or xs j d).place.event (get_or xs i d).place.event ≡ false
event-far xs up i j d le within = first-not _ _ _ (far xs up i j d le within)

-- those below an event come first, and so do those that aren't above it
pub parted-below : (name : Bytes) (xs : List Wanted) → AreOrdered xs → IsPartitionedBy (λ leaf. is_below leaf.place.event name) xs
parted-below name xs up i j d le within below = by_case (is_below (get_or xs i d).place.event name) refl
  where
    by_case : (b : Bool) → is_below (get_or xs i d).place.event name ≡ b → is_below (get_or xs i d).place.event name ≡ true
    by_case true is = is
    by_case false is =
        let late : is_below (get_or xs j d).place.event name ≡ false = order.chain (get_or xs j d).place.event (get_or xs i d).place.event name (event-far xs up i j d le within) is in
        let clash : true ≡ false = sym below ∙ late in
        absurd (cc)

not-true : (b : Bool) → not b ≡ true → b ≡ false
not-true true is = absurd (cc)
not-true false is = refl

not-false : (b : Bool) → not b ≡ false → b ≡ true
not-false true is = refl
not-false false is = absurd (cc)

pub parted-upto : (name : Bytes) (xs : List Wanted) → AreOrdered xs → IsPartitionedBy (λ leaf. not (is_below name leaf.place.event)) xs
parted-upto name xs up i j d le within upto =
    ap not (order.chain name (get_or xs j d).place.event (get_or xs i d).place.event (not-true (is_below name (get_or xs j d).place.event) upto) (event-far xs up i j d le within))

-- the rest of leaves in order is in order
ordered-tail : (leaf : Wanted) (xs : List Wanted) → AreOrdered (leaf ∷ xs) → AreOrdered xs
ordered-tail leaf xs up k d low high =
    let e : suc k + 1 ≡ suc (k + 1) = omega arith in
    subst (λ n. is_before (key_of (get_or (leaf ∷ xs) n d)) (key_of (get_or xs k d)) ≡ false) e (up (suc k) d (omega arith) (omega (arith, high)))

ordered-drop : (i : ℕ) (xs : List Wanted) → AreOrdered xs → AreOrdered (drop i xs)
ordered-drop zero xs up = up
ordered-drop (suc i) [] up = up
ordered-drop (suc i) (leaf ∷ xs) up = ordered-drop i xs (ordered-tail leaf xs up)

pub ordered-rest : (i : ℕ) (xs rest : List Wanted) → rest ≡ drop i xs → AreOrdered xs → AreOrdered rest
ordered-rest i xs rest is up = subst AreOrdered (sym is) (ordered-drop i xs up)

pub ordered-run : (name : Bytes) (xs : List Wanted) → AreOrdered xs → AreOrdered (of_event name xs)
ordered-run name xs up = IsSortedBy-filter (λ (leaf other : Wanted). is_before (key_of leaf) (key_of other)) leaf_order (λ (leaf : Wanted). bytes_eq leaf.place.event name) xs up

-- an event that is above is another
above-not-same : (name event : Bytes) → is_below name event ≡ true → bytes_eq event name ≡ false
above-not-same name event over = by_case (bytes_eq event name) refl
  where
    by_case : (b : Bool) → bytes_eq event name ≡ b → bytes_eq event name ≡ false
    by_case false is = is
    by_case true is =
        let same : event ≡ name = (bytes_eq-Decides event name).0 is in
        let apart : bytes_eq name event ≡ false = below_not_same name event over in
        let clash : true ≡ false = sym ((bytes_eq-Decides name event).1 (sym same)) ∙ apart in
        absurd (cc)

none-above : (name : Bytes) (xs : List Wanted) → ((k : ℕ) (d : Wanted) → k < length xs → is_below name (get_or xs k d).place.event ≡ true) → of_event name xs ≡ []
none-above name [] over = refl
none-above name (leaf ∷ xs) over = rw (above-not-same name leaf.place.event (over 0 leaf (omega arith))) (none-above name xs (λ k d within. over (suc k) d (omega arith)))

run-front : (name : Bytes) (xs : List Wanted) (n : ℕ) → ((k : ℕ) (d : Wanted) → k < length xs → is_below (get_or xs k d).place.event name ≡ false)
    → IsPartitionPoint (λ leaf. not (is_below name leaf.place.event) ≡ true) (λ leaf. not (is_below name leaf.place.event) ≡ false) xs n → take n xs ≡ of_event name xs
run-front name [] zero over point = refl
run-front name [] (suc n) over point = refl
run-front name (leaf ∷ xs) zero over point =
    sym (none-above name (leaf ∷ xs) (λ k d within. not-false (is_below name (get_or (leaf ∷ xs) k d).place.event) (point.1 k d (omega arith) within)))
run-front name (leaf ∷ xs) (suc n) over point =
    let same : bytes_eq leaf.place.event name ≡ true = by_case (bytes_eq leaf.place.event name) refl in
    rw same (ap (λ ys. leaf ∷ ys) (run-front name xs n (λ k d within. over (suc k) d (omega arith)) (λ k d low high. point.0 (suc k) d (omega arith) (omega arith), λ k d low high. point.1 (suc k) d (omega arith) (omega arith))))
  where
    by_case : (b : Bool) → bytes_eq leaf.place.event name ≡ b → bytes_eq leaf.place.event name ≡ true
    by_case true is = is
    by_case false is =
        let over_it : is_below name leaf.place.event ≡ true = above leaf.place.event name (over 0 leaf (omega arith)) is in
        let clash : true ≡ false = sym over_it ∙ not-true (is_below name leaf.place.event) (point.0 0 leaf (omega arith) (omega arith)) in
        absurd (cc)

-- so they are a run
pub run-here : (name : Bytes) (xs rest : List Wanted) (i n : ℕ) → i ≤ length xs → IsPartitionPoint (λ leaf. is_below leaf.place.event name ≡ true) (λ leaf. is_below leaf.place.event name ≡ false) xs i
    → rest ≡ drop i xs → IsPartitionPoint (λ leaf. not (is_below name leaf.place.event) ≡ true) (λ leaf. not (is_below name leaf.place.event) ≡ false) rest n → take n rest ≡ of_event name xs
run-here name xs rest zero n within point is upto =
    run-front name rest n (subst (λ ys. (k : ℕ) (d : Wanted) → k < length ys → is_below (get_or ys k d).place.event name ≡ false) (sym is) (λ k d below. point.1 k d (omega arith) below)) upto
    ∙ ap (of_event name) is
run-here name [] rest (suc i) n within point is upto = absurd (omega arith)
run-here name (leaf ∷ xs) rest (suc i) n within point is upto =
    run-here name xs rest i n (omega arith) (λ k d low high. point.0 (suc k) d (omega arith) (omega arith), λ k d low high. point.1 (suc k) d (omega arith) (omega arith)) is upto
    ∙ rw (below_not_same leaf.place.event name (point.0 0 leaf (omega arith) (omega arith))) refl

-- and no other leaf is of that event
same-wanting : (admits : Place → Bool) (name value : Bytes) (xs : List Wanted) (job : ℕ) → has_wanting admits name value (of_event name xs) job ≡ has_wanting admits name value xs job
same-wanting admits name value [] job = refl
same-wanting admits name value (leaf ∷ xs) job = by_name (bytes_eq leaf.place.event name) refl (same-wanting admits name value xs job)
  where
    by_name : (b : Bool) → bytes_eq leaf.place.event name ≡ b → has_wanting admits name value (of_event name xs) job ≡ has_wanting admits name value xs job
        → has_wanting admits name value (cond b (leaf ∷ of_event name xs) (of_event name xs)) job ≡ has_wanting admits name value (leaf ∷ xs) job
    by_name true is ih = ap (λ (b : Bool). (wants name value leaf && ((leaf.place.job == job) && admits leaf.place)) || b) ih
    by_name false is ih = ih ∙ sym (ap (λ (b : Bool). ((b && bytes_eq leaf.value value) && ((leaf.place.job == job) && admits leaf.place)) || has_wanting admits name value xs job) is)

any-same : (p q : Bytes × Bytes → Bool) → ((x : Bytes × Bytes) → p x ≡ q x) → (xs : Bindings) → list_any p xs ≡ list_any q xs
any-same p q same [] = refl
any-same p q same (x ∷ xs) = ap (λ (b : Bool). b || list_any p xs) (same x) ∙ ap (λ (b : Bool). q x || b) (any-same p q same xs)

pub same-wanted : (admits : Place → Bool) (name : Bytes) (vars : Bindings) (xs : List Wanted) (job : ℕ) → has_wanted admits name vars (of_event name xs) job ≡ has_wanted admits name vars xs job
same-wanted admits name vars xs job =
    ap (λ (b : Bool). b || has_wanting admits name [] (of_event name xs) job)
    (any-same (λ (pair : Bytes × Bytes). has_wanting admits name pair.1 (of_event name xs) job) (λ (pair : Bytes × Bytes). has_wanting admits name pair.1 xs job) (λ pair. same-wanting admits name pair.1 xs job) vars)
    ∙ ap (λ (b : Bool). list_any (λ (pair : Bytes × Bytes). has_wanting admits name pair.1 xs job) vars || b) (same-wanting admits name [] xs job)
