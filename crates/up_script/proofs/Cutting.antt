-- A word that is cut at its first `=`.
use Rattle.std.proofs.Common.{◌≡◌, ℕ, ◌+◌, ◌<◌, [], ◌∷◌, drop, get_or, ap, add-one, drop-cons, option_and_then, List, length}
use Rattle.up_script.specs.Variables.{with_word, vars_of}

-- the variables of the words from a place on
pub vars_left : (words : List (List ℕ)) (i : ℕ) (vars : List (List ℕ × List ℕ)) → i < length words → vars_of vars (drop i words) ≡ option_and_then (λ more. vars_of more (drop (i + 1) words)) (with_word (get_or words i []) vars)
vars_left words i vars within =
    let one : drop i words ≡ get_or words i [] ∷ drop (i + 1) words = rw add-one (drop-cons words i [] within) in
    ap (vars_of vars) one
