-- Variables that get one more, whose key isn't there yet.
use Rattle.std.proofs.Common.{◌≡◌, Bool, true, false, [], ◌∷◌, ◌++◌, Some, None, cond, refl, sym}
use Rattle.std.specs.Str.{bytes_eq}
use Rattle.std.proofs.lemmas.Bool.{and_parts, not-true, false_from_ne_true, both_ways}
use Rattle.std.proofs.lemmas.Option.{none-some}
use Rattle.std.proofs.lemmas.Slice.Eq.{bytes_eq-Decides}
use Rattle.up_text.specs.Names.{is_key, is_value}
use Rattle.up_text.specs.Bindings.{value_of, set_in, has_key, are_bindings}
use Rattle.up_model.specs.Values.{Bytes, Bindings}

flip : (xs ys : Bytes) → bytes_eq xs ys ≡ false → bytes_eq ys xs ≡ false
flip xs ys differ = false_from_ne_true (bytes_eq ys xs) (λ same. both_ways (bytes_eq xs ys) differ ((bytes_eq-Decides xs ys).1 (sym ((bytes_eq-Decides ys xs).0 same))))

either : (same absent : Bool) → cond same true absent ≡ false → (same ≡ false) × (absent ≡ false)
either true absent h = absurd (both_ways true h refl)
either false absent h = (refl, h)

-- a key that isn't there goes last
pub set_in-absent : (key value : Bytes) (vars : Bindings) → value_of key vars ≡ None → set_in key value vars ≡ vars ++ (key, value) ∷ []
set_in-absent key value [] absent = refl
set_in-absent key value (binding ∷ vars) absent = by_case (bytes_eq key binding.0) absent (set_in-absent key value vars)
  where
    by_case : (same : Bool) → cond same (Some binding.1) (value_of key vars) ≡ None
        → (value_of key vars ≡ None → set_in key value vars ≡ vars ++ (key, value) ∷ [])
        → cond same ((binding.0, value) ∷ vars) (binding ∷ set_in key value vars) ≡ (binding ∷ vars) ++ (key, value) ∷ []
    by_case true h ih = absurd (none-some binding.1 (sym h))
    by_case false h ih = rw (ih h) refl

-- what the test says of the first pair and of the others
record Leads (binding : Bytes × Bytes) (vars : Bindings) : Type 0 where
  key : is_key binding.0 ≡ true
  value : is_value binding.1 ≡ true
  apart : has_key binding.0 vars ≡ false
  rest : are_bindings vars ≡ true

leads : (binding : Bytes × Bytes) (vars : Bindings) → are_bindings (binding ∷ vars) ≡ true → Leads binding vars
leads binding vars are =
    let all = and_parts _ _ are in
    let front = and_parts _ _ all.0 in
    let both = and_parts _ _ front.0 in
    record { key = both.0; value = both.1; apart = not-true _ front.1; rest = all.1 }

apart_from-middle : (other key value : Bytes) (vars added : Bindings) → has_key other (vars ++ (key, value) ∷ added) ≡ false → bytes_eq other key ≡ false
apart_from-middle other key value [] added h = (either (bytes_eq other key) (has_key other added) h).0
apart_from-middle other key value (binding ∷ vars) added h =
    apart_from-middle other key value vars added (either (bytes_eq other binding.0) (has_key other (vars ++ (key, value) ∷ added)) h).1

-- what holds of a pair among distinct ones
pub record Stands (key value : Bytes) (vars : Bindings) : Type 0 where
  pub key_is : is_key key ≡ true
  pub value_is : is_value value ≡ true
  pub absent : value_of key vars ≡ None

pub stands-middle : (key value : Bytes) (vars added : Bindings) → are_bindings (vars ++ (key, value) ∷ added) ≡ true → Stands key value vars
stands-middle key value [] added are =
    let first = leads (key, value) added are in
    record { key_is = first.key; value_is = first.value; absent = refl }
stands-middle key value (binding ∷ vars) added are =
    let first = leads binding (vars ++ (key, value) ∷ added) are in
    let others = stands-middle key value vars added first.rest in
    let apart = flip binding.0 key (apart_from-middle binding.0 key value vars added first.apart) in
    record { key_is = others.key_is; value_is = others.value_is; absent = rw apart others.absent }
