use Rattle.std.specs.Prelude.{◌≡◌, ℕ, Bool, true, false, ◌&&◌, List, [], ◌∷◌, Option, None, Some, option_and_then, if◌then◌else◌}
use Rattle.std.specs.List.{before_first, after_first}
use Rattle.up_text.specs.Names.{has_equals, is_equals, is_name, is_key, is_value}
use Rattle.up_text.specs.Bindings.{set_in}

-- a word that is a name
abbrev pub name_in : List ℕ → Option (List ℕ)
name_in word = if is_name word then Some word else None

-- variables with one more; a key that is there takes the new value
abbrev pub with_binding : List ℕ → List ℕ → List (List ℕ × List ℕ) → Option (List (List ℕ × List ℕ))
with_binding key value vars = if is_key key && is_value value then Some (set_in key value vars) else None

-- variables with that of a word KEY=VALUE, which is cut at its first `=`
abbrev pub with_word : List ℕ → List (List ℕ × List ℕ) → Option (List (List ℕ × List ℕ))
with_word word vars =
    if has_equals word then with_binding (before_first is_equals word)
    (after_first is_equals word) vars else None

-- variables with those of words KEY=VALUE
abbrev pub vars_of : List (List ℕ × List ℕ) → List (List ℕ) → Option (List (List ℕ × List ℕ))
vars_of vars [] = Some vars
vars_of vars (word ∷ words) = option_and_then (λ more. vars_of more words) (with_word word vars)

-- what taking a variable answers and leaves
abbrev pub TakesWord : Option (List (List ℕ × List ℕ)) → Bool → List (List ℕ × List ℕ) → Type 0
TakesWord None taken vars = taken ≡ false
TakesWord (Some more) taken vars = (taken ≡ true) × (vars ≡ more)
