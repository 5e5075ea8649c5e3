-- How long the variables of a request are.
use Rattle.std.proofs.Common.{◌≡◌, ◌<◌, ◌≤◌, ◌+◌, ℕ, zero, suc, false, [], ◌∷◌, ◌++◌, length, take, drop, nat_le, ◌-◌, add-one, Some, slice_get, refl, sym, ap, ◌∙◌, length-append, arith}
use Rattle.std.specs.List.{flat_map}
use Rattle.std.specs.Cmp.{both_ways}
use Rattle.std.proofs.lemmas.Bool.Decides.{nat_tests}
use Rattle.up_model.specs.Requests.{RequestValue}
use Rattle.up_wire.proofs.Payloads.{length-payload_of}
use Rattle.std.proofs.lemmas.Option.{none-some, some_pair_parts}
use Rattle.std.proofs.lemmas.List.{append_assoc, append-nil, take-append-drop}
use Rattle.std.proofs.lemmas.Grind.{flat_map-append}
use Rattle.up_model.specs.Values.{Bytes, Bindings}
use Rattle.up_wire.specs.Frames.{short_text, variable, payload_of, max_payload}

-- how long a variable is
pub length-variable : (key value : Bytes) → length (variable (key, value)) ≡ 4 + length key + length value
length-variable key value =
    let size : length (short_text key ++ short_text value) ≡ length (short_text key) + length (short_text value) = length-append (short_text key) (short_text value) in
    omega (arith, size)

variable_same : (a b x y : Bytes) → a ≡ x → b ≡ y → variable (a, b) ≡ variable (x, y)
variable_same a b x y p q = rw (p, q) refl

one_more_suc : (vars : Bindings) (i : ℕ) (key value : Bytes) → slice_get vars i ≡ Some (key, value) → flat_map variable (take (suc i) vars) ≡ flat_map variable (take i vars) ++ variable (key, value)
one_more_suc [] i key value h = absurd (none-some (key, value) h)
one_more_suc (binding ∷ vars) zero key value h =
    let parts = some_pair_parts binding.0 key binding.1 value h in
    append-nil (variable binding) ∙ variable_same binding.0 binding.1 key value parts.0 parts.1
one_more_suc (binding ∷ vars) (suc i) key value h =
    ap (λ x. variable binding ++ x) (one_more_suc vars i key value h) ∙ sym (append_assoc (variable binding) (flat_map variable (take i vars)) (variable (key, value)))

-- the variables up to the next place
pub one_more : (vars : Bindings) (i : ℕ) (key value : Bytes) → slice_get vars i ≡ Some (key, value) → flat_map variable (take (i + 1) vars) ≡ flat_map variable (take i vars) ++ variable (key, value)
one_more vars i key value h = rw add-one (one_more_suc vars i key value h)

pub next_size : (vars : Bindings) (i : ℕ) (key value : Bytes) → slice_get vars i ≡ Some (key, value) → length (flat_map variable (take (i + 1) vars)) ≡ length (flat_map variable (take i vars)) + (4 + length key + length value)
next_size vars i key value h =
    let more = ap length (one_more vars i key value h) in
    let size = length-append (flat_map variable (take i vars)) (variable (key, value)) in
    omega (arith, more, size, length-variable key value)

-- those up to a place are no longer than all
pub length-take_flat : (vars : Bindings) (i : ℕ) → length (flat_map variable (take i vars)) ≤ length (flat_map variable vars)
length-take_flat vars i =
    let whole : flat_map variable vars ≡ flat_map variable (take i vars) ++ flat_map variable (drop i vars) = ap (flat_map variable) (sym (take-append-drop i vars)) ∙ flat_map-append variable (take i vars) (drop i vars) in
    let size = length-append (flat_map variable (take i vars)) (flat_map variable (drop i vars)) in
    omega (arith, ap length whole, size)

-- each is no longer than all
pub variable_fits : (vars : Bindings) (i : ℕ) (key value : Bytes) → slice_get vars i ≡ Some (key, value) → 4 + length key + length value ≤ length (flat_map variable vars)
variable_fits vars i key value h = omega (arith, next_size vars i key value h, length-take_flat vars (i + 1))

pub not_within : (a b : ℕ) → b < a → false ≡ nat_le a b
not_within a b h = grind (arith, nat_tests)

pub is_within : (name vars : ℕ) → name ≤ 65530 → nat_le vars (65530 - name) ≡ nat_le (6 + name + vars) 65536
is_within name vars h = both_ways _ _ (λ t. grind (arith, nat_tests, t)) (λ t. grind (arith, nat_tests, t))

pub within_payload : (request : RequestValue) → nat_le (6 + length request.name + length (flat_map variable request.vars)) max_payload ≡ nat_le (length (payload_of request)) max_payload
within_payload request = ap (λ n. nat_le n max_payload) (sym (length-payload_of request))
