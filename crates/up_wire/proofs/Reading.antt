-- Variables are read as they are there, and only so.
use Rattle.std.proofs.Common.{◌≡◌, ◌<◌, ◌+◌, ◌&&◌, ℕ, zero, suc, Bool, true, [], ◌∷◌, ◌++◌, length, Option, Some, None, option_and_then, refl, sym, ap, ◌∙◌, length-append, arith}
use Rattle.std.specs.Option.{is_none}
use Rattle.std.specs.List.{list_all, flat_map}
use Rattle.std.specs.Str.{is_utf8}
use Rattle.std.proofs.lemmas.Bool.{and_parts}
use Rattle.std.proofs.lemmas.Option.{cond_some, option_and_then_some, some_pair_parts}
use Rattle.std.proofs.lemmas.List.{append_assoc, append-nil}
use Rattle.up_text.specs.Names.{is_key, is_value}
use Rattle.up_text.specs.Bindings.{value_of, set_in, are_bindings}
use Rattle.up_value.proofs.BindingLemmas.{are_bindings-set_in}
use Rattle.up_model.specs.Values.{Bytes, Bindings}
use Rattle.up_wire.specs.Frames.{short_text, variable}
use Rattle.up_wire.specs.Octets.{AreOctets}
use Rattle.up_wire.specs.Fields.{text_at, with_variable, variable_at, variables_at}
use Rattle.up_wire.proofs.Bindings.{set_in-absent, Stands, stands-middle}
use Rattle.up_wire.proofs.Numbers.{Takes}
use Rattle.up_wire.proofs.Texts.{IsText, text_takes, text_again}

abbrev pub is_text_pair : Bytes × Bytes → Bool
is_text_pair binding = is_utf8 binding.0 && is_utf8 binding.1

pub takes_two : (bytes a b middle rest : Bytes) → Takes bytes a middle → Takes middle b rest → Takes bytes (a ++ b) rest
takes_two bytes a b middle rest p q = (p.0 ∙ (ap (λ x. a ++ x) q.0 ∙ sym (append_assoc a b rest)), q.1)

-- a variable that was read
record IsVariable (vars : Bindings) (bytes : Bytes) (more : Bindings) (rest : Bytes) : Type 0 where
  binding : Bytes × Bytes
  taken : Takes bytes (variable binding) rest
  more_is : more ≡ vars ++ binding ∷ []
  bound : are_bindings vars ≡ true → are_bindings more ≡ true
  texts : is_text_pair binding ≡ true

none_from_test : {A : Type 0} (o : Option A) → is_none o ≡ true → o ≡ None
none_from_test None h = refl
none_from_test (Some x) h = cc

variable_of : (vars : Bindings) (bytes : Bytes) (key value : Bytes × Bytes) (found : Bindings × Bytes) → IsText bytes key.0 key.1 → IsText key.1 value.0 value.1 → with_variable vars key.0 value ≡ Some found → IsVariable vars bytes found.0 found.1
variable_of vars bytes key value found its_key its_value h =
    let parts = cond_some (is_key key.0 && is_value value.0 && is_none (value_of key.0 vars)) (set_in key.0 value.0 vars, value.1) found h in
    let tests = and_parts (is_key key.0 && is_value value.0) (is_none (value_of key.0 vars)) parts.0 in
    let both = and_parts (is_key key.0) (is_value value.0) tests.0 in
    let set : set_in key.0 value.0 vars ≡ found.0 = ap (λ x. x.0) parts.1 in
    let left : value.1 ≡ found.1 = ap (λ x. x.1) parts.1 in
    let absent = none_from_test (value_of key.0 vars) tests.1 in
    let taken = takes_two bytes (short_text key.0) (short_text value.0) key.1 value.1 its_key.taken its_value.taken in
    record {
      binding = (key.0, value.0);
      taken = rw (← left) taken;
      more_is = sym set ∙ set_in-absent key.0 value.0 vars absent;
      bound = λ are. rw (← set) (are_bindings-set_in key.0 value.0 vars are both.0 both.1);
      texts = rw (its_key.valid, its_value.valid) refl;
    }

variable_takes : (vars : Bindings) (bytes : Bytes) (found : Bindings × Bytes) → AreOctets bytes → variable_at vars bytes ≡ Some found → IsVariable vars bytes found.0 found.1
unfolding variable_at
variable_takes vars bytes found are h =
    option_and_then_some _ (text_at bytes) found h (λ key read_key others.
    option_and_then_some (with_variable vars key.0) (text_at key.1) found others (λ value read_value last.
    let its_key = text_takes bytes key are read_key in
    let its_value = text_takes key.1 value its_key.taken.1 read_value in
    variable_of vars bytes key value found its_key its_value last))

-- variables that were read
pub record AreVariables (count : ℕ) (vars : Bindings) (bytes : Bytes) (more : Bindings) (rest : Bytes) : Type 0 where
  pub added : Bindings
  pub count_is : length added ≡ count
  pub taken : Takes bytes (flat_map variable added) rest
  pub more_is : more ≡ vars ++ added
  pub bound : are_bindings vars ≡ true → are_bindings more ≡ true
  pub texts : list_all is_text_pair added ≡ true

joined : (count : ℕ) (vars : Bindings) (bytes : Bytes) (one : Bindings × Bytes) (more : Bindings) (rest : Bytes) → IsVariable vars bytes one.0 one.1 → AreVariables count one.0 one.1 more rest → AreVariables (suc count) vars bytes more rest
joined count vars bytes one more rest first others = record {
  added = first.binding ∷ others.added;
  count_is = ap suc others.count_is;
  taken = takes_two bytes (variable first.binding) (flat_map variable others.added) one.1 rest first.taken others.taken;
  more_is = others.more_is ∙ (ap (λ x. x ++ others.added) first.more_is ∙ append_assoc vars (first.binding ∷ []) others.added);
  bound = λ are. others.bound (first.bound are);
  texts = rw (first.texts, others.texts) refl;
}

none_taken : (vars : Bindings) (bytes : Bytes) (found : Bindings × Bytes) → AreOctets bytes → variables_at zero vars bytes ≡ Some found → AreVariables zero vars bytes found.0 found.1
none_taken vars bytes found are h =
    let parts = some_pair_parts vars found.0 bytes found.1 h in
    record {
      added = [];
      count_is = refl;
      taken = (parts.1, rw (← parts.1) are);
      more_is = sym parts.0 ∙ sym (append-nil vars);
      bound = λ good. rw (← parts.0) good;
      texts = refl;
    }

-- variables that are read are there
pub variables_take : (count : ℕ) (vars : Bindings) (bytes : Bytes) (found : Bindings × Bytes) → AreOctets bytes → variables_at count vars bytes ≡ Some found → AreVariables count vars bytes found.0 found.1
variables_take zero vars bytes found are h = none_taken vars bytes found are h
variables_take (suc count) vars bytes found are h =
    option_and_then_some _ (variable_at vars bytes) found h (λ one read others.
    let first = variable_takes vars bytes one are read in
    joined count vars bytes one found.0 found.1 first (variables_take count one.0 one.1 found first.taken.1 others))

variable_grouped : (key value : Bytes) (vars : Bindings) (rest : Bytes) → Stands key value vars → length key < 65536 → length value < 65536 → is_utf8 key ≡ true → is_utf8 value ≡ true → variable_at vars (short_text key ++ (short_text value ++ rest)) ≡ Some (vars ++ (key, value) ∷ [], rest)
unfolding variable_at
variable_grouped key value vars rest stands short_key short_value valid_key valid_value =
    ap (λ found. option_and_then (λ its. option_and_then (with_variable vars its.0) (text_at its.1)) found) (text_again key (short_text value ++ rest) short_key valid_key)
    ∙ (ap (λ found. option_and_then (with_variable vars key) found) (text_again value rest short_value valid_value)
    ∙ rw (stands.key_is, stands.value_is, stands.absent, set_in-absent key value vars stands.absent) refl)

variable_again : (key value : Bytes) (vars : Bindings) (rest : Bytes) → Stands key value vars → length (variable (key, value)) < 65536 → is_text_pair (key, value) ≡ true → variable_at vars (variable (key, value) ++ rest) ≡ Some (vars ++ (key, value) ∷ [], rest)
variable_again key value vars rest stands short valid =
    let texts = and_parts (is_utf8 key) (is_utf8 value) valid in
    let sizes : length (variable (key, value)) ≡ length (short_text key) + length (short_text value) = length-append (short_text key) (short_text value) in
    ap (variable_at vars) (append_assoc (short_text key) (short_text value) rest)
    ∙ variable_grouped key value vars rest stands (omega (arith, sizes, short)) (omega (arith, sizes, short)) texts.0 texts.1

-- and variables that are there are read
pub variables_again : (added vars : Bindings) (rest : Bytes) → are_bindings (vars ++ added) ≡ true → list_all is_text_pair added ≡ true → length (flat_map variable added) < 65536 → variables_at (length added) vars (flat_map variable added ++ rest) ≡ Some (vars ++ added, rest)
variables_again [] vars rest are valid short = ap (λ x. Some (x, rest)) (sym (append-nil vars))
variables_again (binding ∷ added) vars rest are valid short =
    let texts = and_parts (is_text_pair binding) (list_all is_text_pair added) valid in
    let sizes : length (flat_map variable (binding ∷ added)) ≡ length (variable binding) + length (flat_map variable added) = length-append (variable binding) (flat_map variable added) in
    let stands = stands-middle binding.0 binding.1 vars added are in
    let one = ap (variable_at vars) (append_assoc (variable binding) (flat_map variable added) rest)
    ∙ variable_again binding.0 binding.1 vars (flat_map variable added ++ rest) stands (omega (arith, sizes, short)) texts.0 in
    let grouped : are_bindings ((vars ++ binding ∷ []) ++ added) ≡ true = rw (append_assoc vars (binding ∷ []) added) are in
    ap (λ found. option_and_then (λ more. variables_at (length added) more.0 more.1) found) one
    ∙ (variables_again added (vars ++ binding ∷ []) rest grouped texts.1 (omega (arith, sizes, short))
    ∙ ap (λ x. Some (x, rest)) (append_assoc vars (binding ∷ []) added))
