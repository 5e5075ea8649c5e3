-- Of leaves of one event, which come before a value and a job: their event decides nothing.
use Rattle.std.proofs.Common.{◌≡◌, ◌≤◌, ◌<◌, ℕ, zero, suc, Bool, true, false, cond, List, [], ◌∷◌, length, get_or, nat_cmp, bytes_eq, is_lt, refl, sym, ◌∙◌, ap, arith}
use Rattle.std.specs.Cmp.Lexicographic.{slice_cmp}
use Rattle.std.specs.List.{list_all}
use Rattle.std.specs.List.Sorted.{IsPartitionPoint, IsPartitionedBy}
use Rattle.std.specs.Ordering.{ordering_then}
use Rattle.std.proofs.lemmas.Bool.{and_parts}
use Rattle.std.proofs.lemmas.Cmp.{nat_list_cmp_total, tied_itself}
use Rattle.std.proofs.lemmas.Slice.Eq.{bytes_eq-Decides}
use Rattle.up_value.specs.Values.{Bytes}
use Rattle.up_marks.specs.Finding.{AreOrdered, is_before, is_early, key_of, names, of_event}
use Rattle.up_marks.specs.declared.wanted.Wanted.{Wanted}
use Rattle.up_marks.proofs.Ordered.{parted}

pub early-is : (value : Bytes) (job : ℕ) (leaf : Wanted) → is_early value job leaf ≡ is_lt (ordering_then (slice_cmp nat_cmp leaf.value value) (nat_cmp leaf.place.job job))
early-is value job leaf = rw (tied_itself nat_list_cmp_total leaf.place.event) refl

-- each of them names the event
named-at : (name : Bytes) (xs : List Wanted) → list_all (names name) xs ≡ true → (k : ℕ) (d : Wanted) → k < length xs → (get_or xs k d).place.event ≡ name
named-at name [] named k d within = absurd (omega arith)
named-at name (leaf ∷ xs) named zero d within = (bytes_eq-Decides leaf.place.event name).0 (and_parts _ _ named).0
named-at name (leaf ∷ xs) named (suc k) d within = named-at name xs (and_parts _ _ named).1 k d (omega arith)

before-named : (name value : Bytes) (job : ℕ) (xs : List Wanted) → list_all (names name) xs ≡ true → (k : ℕ) (d : Wanted) → k < length xs
    → is_early value job (get_or xs k d) ≡ is_before (key_of (get_or xs k d)) (name, value, job)
before-named name value job xs named k d within = ap (λ (event : Bytes). is_before (key_of (get_or xs k d)) (event, value, job)) (named-at name xs named k d within)

pub parted-early : (name value : Bytes) (job : ℕ) (xs : List Wanted) → AreOrdered xs → list_all (names name) xs ≡ true → IsPartitionedBy (is_early value job) xs
parted-early name value job xs up named i j d le within early =
    before-named name value job xs named i d (omega (arith, le, within))
    ∙ parted (name, value, job) xs up i j d le within (sym (before-named name value job xs named j d within) ∙ early)

pub point-early : (name value : Bytes) (job : ℕ) (xs : List Wanted) (n : ℕ) → n ≤ length xs → list_all (names name) xs ≡ true
    → IsPartitionPoint (λ leaf. is_early value job leaf ≡ true) (λ leaf. is_early value job leaf ≡ false) xs n
    → IsPartitionPoint (λ leaf. is_before (key_of leaf) (name, value, job) ≡ true) (λ leaf. is_before (key_of leaf) (name, value, job) ≡ false) xs n
point-early name value job xs n within named point = (
  (λ k d low high. sym (before-named name value job xs named k d (omega (arith, high, within))) ∙ point.0 k d low high),
  (λ k d low high. sym (before-named name value job xs named k d high) ∙ point.1 k d low high),
)

-- those of an event name it
pub all-named : (name : Bytes) (xs : List Wanted) → list_all (names name) (of_event name xs) ≡ true
all-named name [] = refl
all-named name (leaf ∷ xs) = by_name (bytes_eq leaf.place.event name) refl (all-named name xs)
  where
    by_name : (b : Bool) → bytes_eq leaf.place.event name ≡ b → list_all (names name) (of_event name xs) ≡ true → list_all (names name) (cond b (leaf ∷ of_event name xs) (of_event name xs)) ≡ true
    by_name true is rest = rw is rest
    by_name false is rest = rest
