-- What a search for the place of a key says of its value, and of the list after the key is set.
use Rattle.std.proofs.Common.{◌≡◌, ◌<◌, ◌≤◌, ℕ, ◌+◌, zero, suc, Bool, true, false, not, List, [], ◌∷◌, ◌++◌, length, Some, None, cond, refl, ap, arith, slice_set, slice_index_or, position}
use Rattle.std.specs.List.{position_or_len}
use Rattle.std.proofs.lemmas.Grind.{common_steps}
use Rattle.std.proofs.lemmas.List.Quantifiers.{position-Some}
use Rattle.up_value.specs.Bindings.{value_of, is_of, set_in}

-- what holds of the key if its first pair is at the place
pub record Placed (key value : List ℕ) (bindings : List (List ℕ × List ℕ)) (place : ℕ) (other : List ℕ × List ℕ) : Type 0 where
  pub found : value_of key bindings ≡ Some (slice_index_or bindings place other).1
  pub changed : slice_set bindings place ((slice_index_or bindings place other).0, value) ≡ set_in key value bindings

-- what holds of the key if it has no pair
pub record Absent (key value : List ℕ) (bindings : List (List ℕ × List ℕ)) : Type 0 where
  pub none : value_of key bindings ≡ None
  pub last : bindings ++ (key, value) ∷ [] ≡ set_in key value bindings

first_at : (key value : List ℕ) (bindings : List (List ℕ × List ℕ)) (place : ℕ) (other : List ℕ × List ℕ) → place < length bindings
    → is_of key (slice_index_or bindings place other) ≡ true → ((k : ℕ) → k < place → is_of key (slice_index_or bindings k other) ≡ false) → Placed key value bindings place other
first_at key value [] place other inside here before = absurd (omega arith)
first_at key value (binding ∷ bindings) zero other inside here before = record { found = rw here refl; changed = rw here refl }
first_at key value (binding ∷ bindings) (suc place) other inside here before =
    let differ : is_of key binding ≡ false = before 0 (omega arith) in
    let rest = first_at key value bindings place other (omega arith) here (λ k low. before (suc k) (omega arith)) in
    record { found = rw differ rest.found; changed = rw differ (ap (λ others. binding ∷ others) rest.changed) }

pub placed : (key value : List ℕ) (bindings : List (List ℕ × List ℕ)) (place : ℕ) (other : List ℕ × List ℕ) → position (is_of key) bindings ≡ Some place → Placed key value bindings place other
placed key value bindings place other is =
    let at = position-Some (is_of key) bindings place other is in
    first_at key value bindings place other at.0 at.1 at.2

nowhere : (key value : List ℕ) (bindings : List (List ℕ × List ℕ)) → length bindings ≤ position_or_len (is_of key) bindings → Absent key value bindings
nowhere key value [] past = record { none = refl; last = refl }
nowhere key value (binding ∷ bindings) past = by_case (is_of key binding) refl past (nowhere key value bindings)
  where
    by_case : (same : Bool) → is_of key binding ≡ same → suc (length bindings) ≤ cond (not same) (1 + position_or_len (is_of key) bindings) 0
        → (length bindings ≤ position_or_len (is_of key) bindings → Absent key value bindings) → Absent key value (binding ∷ bindings)
    by_case true same past ih = absurd (omega arith)
    by_case false differ past ih =
        let rest = ih (omega arith) in
        record { none = rw differ rest.none; last = rw differ (ap (λ others. binding ∷ others) rest.last) }

pub absent : (key value : List ℕ) (bindings : List (List ℕ × List ℕ)) → position (is_of key) bindings ≡ None → Absent key value bindings
absent key value bindings is =
    let past : length bindings ≤ position_or_len (is_of key) bindings = grind (arith, common_steps) in
    nowhere key value bindings past
