-- The value of a key, found by a look at each.
use Rattle.std.proofs.Common.{◌≡◌, ℕ, zero, suc, ◌+◌, [], ◌∷◌, drop, Some, slice_get, bytes_eq, if◌then◌else◌, ap, add-one}
use Rattle.up_text.specs.Bindings.{value_of}
use Rattle.up_value.specs.Values.{Bytes, Bindings}

left : (key : Bytes) (vars : Bindings) (i : ℕ) (its value : Bytes) → slice_get vars i ≡ Some (its, value)
    → value_of key (drop i vars) ≡ (if bytes_eq key its then Some value else value_of key (drop (suc i) vars))
left key [] i its value there = absurd cc
left key (x ∷ vars) zero its value there =
    let first : x ≡ (its, value) = cc in
    ap (λ (pair : Bytes × Bytes). if bytes_eq key pair.0 then Some pair.1 else value_of key vars) first
left key (x ∷ vars) (suc i) its value there = left key vars i its value there

pub value_left : (key : Bytes) (vars : Bindings) (i : ℕ) (its value : Bytes) → slice_get vars i ≡ Some (its, value)
    → value_of key (drop i vars) ≡ (if bytes_eq key its then Some value else value_of key (drop (i + 1) vars))
value_left key vars i its value there = rw add-one (left key vars i its value there)
