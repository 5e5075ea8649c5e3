-- Leaves in order of their events, the values that they want, and their jobs.
use Rattle.std.proofs.Common.{◌≡◌, ◌≤◌, ◌<◌, ◌==◌, ℕ, zero, suc, Bool, true, false, ◌&&◌, ◌||◌, nat_lt, List, [], ◌∷◌, length, get_or, drop, bytes_eq, Option, None, Some, if◌then◌else◌, refl, sym, ◌∙◌, ap, subst, arith, eq-eqb, ne_eqb, ltb-true, ltb-false, Ordering, Less, Equal, Greater, is_lt, is_eq, nat_cmp, Bor}
use Rattle.std.specs.Cmp.{IsStrictWeakOrder, IsTotalOrder}
use Rattle.std.specs.Cmp.Lexicographic.{slice_cmp}
use Rattle.std.specs.Fn.{Called}
use Rattle.std.specs.List.{list_any}
use Rattle.std.specs.List.Sorted.{IsPartitionPoint, IsPartitionedBy, IsSortedByClosure}
use Rattle.std.specs.Ordering.{ordering_reverse, ordering_then}
use Rattle.std.proofs.lemmas.Bool.{and_parts}
use Rattle.std.proofs.lemmas.Cmp.{nat_cmp_total, nat_list_cmp_total, on_total, then_total, tied_itself}
use Rattle.std.proofs.lemmas.List.Sorted.{answers_always, ranks_by, sorted_far}
use Rattle.std.proofs.lemmas.Map.Text.{is_eq-slice_cmp}
use Rattle.std.proofs.lemmas.Slice.Eq.{bytes_eq-Decides}
use denote.Param.Members.{Mut}
use Rattle.up_image.specs.declared.index.Place.{Place}
use Rattle.up_value.specs.Values.{Bytes}
use Rattle.up_marks.specs.Finding.{AreOrdered, IsLeastFrom, Key, compare, compare_texts, first_wanting, has_wanting, is_before, key_of, wants}
use Rattle.up_marks.specs.declared.wanted.Wanted.{Wanted}

texts_total : IsTotalOrder compare_texts
texts_total = then_total (on_total (λ (key : Key). key.0) nat_list_cmp_total) (on_total (λ (key : Key). key.1) nat_list_cmp_total)

total : IsTotalOrder compare
total = then_total texts_total (on_total (λ (key : Key). key.2) nat_cmp_total)

order : IsStrictWeakOrder (λ (key other : Key). is_before key other)
order = ranks_by total (λ (key : Key). key)

pub leaf_order : IsStrictWeakOrder (λ (leaf other : Wanted). is_before (key_of leaf) (key_of other))
leaf_order = ranks_by total key_of

-- what a sort leaves, if its closure compares the leaves
pub ordered-from_sort : {F : Type 0} (g : Mut F (Bor Wanted × (Bor Wanted × Unit {0})) Ordering) (f : F) (xs : List Wanted)
    → ((h : F) (a : Bor Wanted × (Bor Wanted × Unit {0})) (r : Ordering) (h' : F) → Called g h a r h' → r ≡ compare (key_of a.0.now) (key_of a.1.0.now))
    → IsSortedByClosure g f xs → AreOrdered xs
ordered-from_sort g f xs answers sorted =
    let always = answers_always g (λ a r. is_lt r ≡ is_lt (compare (key_of a.0.now) (key_of a.1.0.now))) f (λ h a r h' called. ap is_lt (answers h a r h' called)) in
    sorted (λ leaf other. is_before (key_of leaf) (key_of other)) leaf_order always

-- none comes before an earlier one
abbrev pub IsFar : List Wanted → Type 0
IsFar xs = (i j : ℕ) (d : Wanted) → i ≤ j → j < length xs → is_before (key_of (get_or xs j d)) (key_of (get_or xs i d)) ≡ false

pub far : (xs : List Wanted) → AreOrdered xs → IsFar xs
far xs up = sorted_far (λ (leaf other : Wanted). is_before (key_of leaf) (key_of other)) leaf_order xs up

-- so those before a key come first
pub parted : (key : Key) (xs : List Wanted) → AreOrdered xs → IsPartitionedBy (λ leaf. is_before (key_of leaf) key) xs
parted key xs up i j d le within before = by_case (is_before (key_of (get_or xs i d)) key) refl
  where
    by_case : (b : Bool) → is_before (key_of (get_or xs i d)) key ≡ b → is_before (key_of (get_or xs i d)) key ≡ true
    by_case true is = is
    by_case false is =
        let late : is_before (key_of (get_or xs j d)) key ≡ false = order.chain (key_of (get_or xs j d)) (key_of (get_or xs i d)) key (far xs up i j d le within) is in
        let clash : true ≡ false = sym before ∙ late in
        absurd (cc)

-- a leaf that wants a value has its key
key-wanted : (name value : Bytes) (leaf : Wanted) → wants name value leaf ≡ true → key_of leaf ≡ (name, value, leaf.place.job)
key-wanted name value leaf is =
    let parts = and_parts (bytes_eq leaf.place.event name) (bytes_eq leaf.value value) is in
    ap (λ (event : Bytes). (event, leaf.value, leaf.place.job)) ((bytes_eq-Decides leaf.place.event name).0 parts.0)
    ∙ ap (λ (its : Bytes). (name, its, leaf.place.job)) ((bytes_eq-Decides leaf.value value).0 parts.1)

pub lt-cmp : (a b : ℕ) → is_lt (nat_cmp a b) ≡ nat_lt a b
lt-cmp a b = by_less (nat_lt a b)
  where
    by_same : (b : Bool) → is_lt (if b then Equal else Greater) ≡ false
    by_same true = refl
    by_same false = refl

    by_less : (less : Bool) → is_lt (if less then Less else (if a == b then Equal else Greater)) ≡ less
    by_less true = refl
    by_less false = by_same (a == b)

tied-texts : (name value : Bytes) (a b : ℕ) → compare_texts (name, value, a) (name, value, b) ≡ Equal
tied-texts name value a b = rw (tied_itself nat_list_cmp_total name) (tied_itself nat_list_cmp_total value)

-- among those the jobs decide
before-same : (name value : Bytes) (a b : ℕ) → is_before (name, value, a) (name, value, b) ≡ nat_lt a b
before-same name value a b = ap (λ o. is_lt (ordering_then o (nat_cmp a b))) (tied-texts name value a b) ∙ lt-cmp a b

eq-then : (o p : Ordering) → is_eq (ordering_then o p) ≡ (is_eq o && is_eq p)
eq-then Less p = refl
eq-then Equal p = refl
eq-then Greater p = refl

wants-tied : (name value : Bytes) (n : ℕ) (leaf : Wanted) → is_eq (compare_texts (key_of leaf) (name, value, n)) ≡ wants name value leaf
wants-tied name value n leaf =
    eq-then (slice_cmp nat_cmp leaf.place.event name) (slice_cmp nat_cmp leaf.value value)
    ∙ ap (λ (b : Bool). b && is_eq (slice_cmp nat_cmp leaf.value value)) (is_eq-slice_cmp leaf.place.event name)
    ∙ ap (λ (b : Bool). bytes_eq leaf.place.event name && b) (is_eq-slice_cmp leaf.value value)

-- what stands between two that want a value wants it
wants-between : (name value : Bytes) (job from : ℕ) (leaf : Wanted) → is_before (name, value, job) (key_of leaf) ≡ false → is_before (key_of leaf) (name, value, from) ≡ false → wants name value leaf ≡ true
wants-between name value job from leaf above below =
    by_order (compare_texts (name, value, from) (key_of leaf)) (compare_texts (key_of leaf) (name, value, from)) (texts_total.antisymm (key_of leaf) (name, value, from)) refl above below
  where
    by_order : (o p : Ordering) → p ≡ ordering_reverse o → compare_texts (key_of leaf) (name, value, from) ≡ p → is_lt (ordering_then o (nat_cmp job leaf.place.job)) ≡ false → is_lt (ordering_then p (nat_cmp leaf.place.job from)) ≡ false
        → wants name value leaf ≡ true
    by_order Less p back is above below = absurd (cc)
    by_order Equal p back is above below = sym (wants-tied name value from leaf) ∙ ap is_eq (is ∙ back)
    by_order Greater p back is above below =
        let less : is_lt (ordering_then Less (nat_cmp leaf.place.job from)) ≡ false = ap (λ o. is_lt (ordering_then o (nat_cmp leaf.place.job from))) (sym back) ∙ below in
        absurd (cc)

none-at : (p : Wanted → Bool) (xs : List Wanted) → ((j : ℕ) (d : Wanted) → j < length xs → p (get_or xs j d) ≡ false) → list_any p xs ≡ false
none-at p [] each = refl
none-at p (x ∷ xs) each = rw (each 0 x (omega arith)) (none-at p xs (λ j d within. each (suc j) d (omega arith)))

-- a test that agrees from one number on has the same least number
pub least-same : (p q : ℕ → Bool) (from : ℕ) → ((n : ℕ) → from ≤ n → p n ≡ q n) → (o : Option ℕ) → IsLeastFrom p from o → IsLeastFrom q from o
least-same p q from same None is = λ n after. sym (same n after) ∙ is n after
least-same p q from same (Some next) is = (is.0, (λ n after before. sym (same n after) ∙ is.1 n after before), sym (same next is.0) ∙ is.2)

-- a leaf that wants a value is of no job, if its own is another
other-job : (admits : Place → Bool) (name value : Bytes) (leaf : Wanted) (job : ℕ) → (wants name value leaf ≡ true → leaf.place.job ≡ job → ⊥) → (wants name value leaf && ((leaf.place.job == job) && admits leaf.place)) ≡ false
other-job admits name value leaf job apart = by_case (wants name value leaf) refl
  where
    by_case : (b : Bool) → wants name value leaf ≡ b → (b && ((leaf.place.job == job) && admits leaf.place)) ≡ false
    by_case false is = refl
    by_case true is = ap (λ (b : Bool). b && admits leaf.place) (ne_eqb leaf.place.job job (apart is))

-- among leaves none of which comes before a key, the first one that is admitted is of the least job
first-least : (admits : Place → Bool) (name value : Bytes) (from : ℕ) (xs : List Wanted) → IsFar xs → ((j : ℕ) (d : Wanted) → j < length xs → is_before (key_of (get_or xs j d)) (name, value, from) ≡ false)
    → IsLeastFrom (has_wanting admits name value xs) from (first_wanting admits name value xs)
first-least admits name value from [] up late = λ job after. refl
first-least admits name value from (leaf ∷ xs) up late =
    by_want (wants name value leaf) refl (first-least admits name value from xs (λ i j d le within. up (suc i) (suc j) d (omega arith) (omega arith)) (λ j d within. late (suc j) d (omega arith)))
  where
    rest : Option ℕ
    rest = first_wanting admits name value xs

    none : wants name value leaf ≡ false → (job : ℕ) → has_wanting admits name value (leaf ∷ xs) job ≡ false
    none isnt job = none-at (λ its. wants name value its && ((its.place.job == job) && admits its.place)) (leaf ∷ xs)
        (λ j d within. other-job admits name value (get_or (leaf ∷ xs) j d) job (λ is same.
        let other = get_or (leaf ∷ xs) j d in
        let above : is_before (name, value, other.place.job) (key_of leaf) ≡ false = subst (λ (key : Key). is_before key (key_of leaf) ≡ false) (key-wanted name value other is) (up 0 j d (omega arith) within) in
        let clash : true ≡ false = sym (wants-between name value other.place.job from leaf above (late 0 leaf (omega arith))) ∙ isnt in
        absurd (cc)))

    mine : wants name value leaf ≡ true → nat_lt leaf.place.job from ≡ false
    mine is = sym (before-same name value leaf.place.job from) ∙ subst (λ (key : Key). is_before key (name, value, from) ≡ false) (key-wanted name value leaf is) (late 0 leaf (omega arith))

    earlier : wants name value leaf ≡ true → (job : ℕ) → job < leaf.place.job → has_wanting admits name value (leaf ∷ xs) job ≡ false
    earlier is job before = none-at (λ its. wants name value its && ((its.place.job == job) && admits its.place)) (leaf ∷ xs)
        (λ j d within. other-job admits name value (get_or (leaf ∷ xs) j d) job (λ its same.
        let other = get_or (leaf ∷ xs) j d in
        let above : is_before (name, value, other.place.job) (name, value, leaf.place.job) ≡ false =
        subst (λ (key : Key). is_before (name, value, other.place.job) key ≡ false) (key-wanted name value leaf is)
        (subst (λ (key : Key). is_before key (key_of leaf) ≡ false) (key-wanted name value other its) (up 0 j d (omega arith) within)) in
        let upto : leaf.place.job ≤ other.place.job = ltb-false other.place.job leaf.place.job (sym (before-same name value other.place.job leaf.place.job) ∙ above) in
        omega (arith, upto, same, before)))

    here : wants name value leaf ≡ true → admits leaf.place ≡ true → has_wanting admits name value (leaf ∷ xs) leaf.place.job ≡ true
    here is fits = rw (is, eq-eqb leaf.place.job leaf.place.job refl, fits) refl

    skipped : admits leaf.place ≡ false → (job : ℕ) → has_wanting admits name value xs job ≡ has_wanting admits name value (leaf ∷ xs) job
    skipped isnt job = sym (ap (λ (b : Bool). b || has_wanting admits name value xs job) (unfit (wants name value leaf) (leaf.place.job == job)))
      where
        unfit : (a b : Bool) → (a && (b && admits leaf.place)) ≡ false
        unfit true true = isnt
        unfit true false = refl
        unfit false b = refl

    by_want : (b : Bool) → wants name value leaf ≡ b → IsLeastFrom (has_wanting admits name value xs) from rest
        → IsLeastFrom (has_wanting admits name value (leaf ∷ xs)) from (if b then (if admits leaf.place then Some leaf.place.job else rest) else None)
    by_want false isnt ih = λ job after. none isnt job
    by_want true is ih = by_fit (admits leaf.place) refl
      where
        by_fit : (b : Bool) → admits leaf.place ≡ b → IsLeastFrom (has_wanting admits name value (leaf ∷ xs)) from (if b then Some leaf.place.job else rest)
        by_fit true fits = (ltb-false leaf.place.job from (mine is), (λ job after before. earlier is job before), here is fits)
        by_fit false isnt = least-same (has_wanting admits name value xs) (has_wanting admits name value (leaf ∷ xs)) from (λ job after. skipped isnt job) rest ih

-- leaves before the key don't count
past : (admits : Place → Bool) (name value : Bytes) (from : ℕ) (xs : List Wanted) (i : ℕ)
    → IsPartitionPoint (λ leaf. is_before (key_of leaf) (name, value, from) ≡ true) (λ leaf. is_before (key_of leaf) (name, value, from) ≡ false) xs i → i ≤ length xs
    → (job : ℕ) → from ≤ job → has_wanting admits name value (drop i xs) job ≡ has_wanting admits name value xs job
past admits name value from [] zero point within job after = refl
past admits name value from [] (suc i) point within job after = refl
past admits name value from (leaf ∷ xs) zero point within job after = refl
past admits name value from (leaf ∷ xs) (suc i) point within job after =
    let rest = past admits name value from xs i (λ k d low high. point.0 (suc k) d (omega arith) (omega arith), λ k d low high. point.1 (suc k) d (omega arith) (omega arith)) (omega (arith, within)) job after in
    let early : is_before (key_of leaf) (name, value, from) ≡ true = point.0 0 leaf (omega arith) (omega arith) in
    let apart : wants name value leaf ≡ true → leaf.place.job ≡ job → ⊥ = λ is same.
    let less : leaf.place.job < from = ltb-true leaf.place.job from (sym (before-same name value leaf.place.job from) ∙ subst (λ (key : Key). is_before key (name, value, from) ≡ true) (key-wanted name value leaf is) early) in
    omega (arith, less, same, after) in
    rest ∙ sym (ap (λ (b : Bool). b || has_wanting admits name value xs job) (other-job admits name value leaf job apart))

-- so the first that is admitted, from the key on, is of the least job
pub next-least : (admits : Place → Bool) (name value : Bytes) (from : ℕ) (xs : List Wanted) (i : ℕ) → AreOrdered xs
    → IsPartitionPoint (λ leaf. is_before (key_of leaf) (name, value, from) ≡ true) (λ leaf. is_before (key_of leaf) (name, value, from) ≡ false) xs i → i ≤ length xs
    → IsLeastFrom (has_wanting admits name value xs) from (first_wanting admits name value (drop i xs))
next-least admits name value from xs i up point within =
    least-same (has_wanting admits name value (drop i xs)) (has_wanting admits name value xs) from (past admits name value from xs i point within) (first_wanting admits name value (drop i xs)) (late xs i (far xs up) point within)
  where
    late : (xs : List Wanted) (i : ℕ) → IsFar xs → IsPartitionPoint (λ leaf. is_before (key_of leaf) (name, value, from) ≡ true) (λ leaf. is_before (key_of leaf) (name, value, from) ≡ false) xs i → i ≤ length xs
        → IsLeastFrom (has_wanting admits name value (drop i xs)) from (first_wanting admits name value (drop i xs))
    late xs zero up point within = first-least admits name value from xs up (λ j d below. point.1 j d (omega arith) below)
    late [] (suc i) up point within = λ job after. refl
    late (leaf ∷ xs) (suc i) up point within =
        late xs i (λ i j d le below. up (suc i) (suc j) d (omega arith) (omega arith))
        (λ k d low high. point.0 (suc k) d (omega arith) (omega arith), λ k d low high. point.1 (suc k) d (omega arith) (omega arith)) (omega (arith, within))

-- the rest decides
pub first_left : (admits : Place → Bool) (name value : Bytes) (xs : List Wanted) (i : ℕ) (d : Wanted) → i < length xs
    → first_wanting admits name value (drop i xs)
    ≡ (if wants name value (get_or xs i d) then (if admits (get_or xs i d).place then Some (get_or xs i d).place.job else first_wanting admits name value (drop (suc i) xs)) else None)
first_left admits name value [] i d within = absurd (omega (arith, within))
first_left admits name value (x ∷ xs) zero d within = refl
first_left admits name value (x ∷ xs) (suc i) d within = first_left admits name value xs i d (omega (arith, within))
