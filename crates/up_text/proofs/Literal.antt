-- What a text without `$` says.
use Rattle.std.proofs.Common.{◌≡◌, ℕ, Bool, true, false, cond, not, ◌==◌, List, [], ◌∷◌, Some, option_map, refl, sym, ap, ◌∙◌}
use Rattle.std.proofs.lemmas.Bool.{and_parts, eqb-true, not-true}
use Rattle.std.specs.List.{list_all}
use Rattle.up_text.specs.Expanding.{run_before}
use Rattle.up_text.specs.Expansion.{Plain, Closing, Done, Byte, before, innermost_text, signs, bytes_after, texts_of, Expands, then_expansion, meaning, expansion, expand}

-- a byte that isn't a $
abbrev is_literal : ℕ → Bool
is_literal byte = not (byte == 36)

-- each byte stands for itself
texts-literal : (text : List ℕ) → list_all is_literal text ≡ true → texts_of 0 (signs 0 text) ≡ Some (run_before text (Done ∷ []))
texts-literal [] all = refl
texts-literal (byte ∷ text) all =
    let both = and_parts (is_literal byte) (list_all is_literal text) all in
    let other : (byte == 36) ≡ false = not-true (byte == 36) both.0 in
    let later = texts-literal text both.1 in
    rw other (by_case (byte == 125) refl later)
  where
    by_case : (closes : Bool) → (byte == 125) ≡ closes → texts_of 0 (signs 0 text) ≡ Some (run_before text (Done ∷ []))
        → texts_of 0 (cond closes Closing (Plain byte) ∷ signs (bytes_after (cond closes Closing (Plain byte))) text) ≡ Some (before (Byte byte) (run_before text (Done ∷ [])))
    by_case true is later = ap (option_map (before (Byte 125))) later ∙ ap (λ b. Some (before (Byte b) (run_before text (Done ∷ [])))) (sym (eqb-true byte 125 is))
    by_case false is later = ap (option_map (before (Byte byte))) later

meaning-literal : (env : List (List ℕ × List ℕ)) (text : List ℕ) → meaning env (innermost_text (run_before text (Done ∷ []))) ≡ Expands text
meaning-literal env [] = refl
meaning-literal env (byte ∷ text) = ap (then_expansion (Expands (byte ∷ []))) (meaning-literal env text)

-- a text without $ expands to itself
pub expand_literal : (text : List ℕ) (env : List (List ℕ × List ℕ)) → list_all (λ byte. not (byte == 36)) text ≡ true → expand text env ≡ Expands text
unfolding expand
expand_literal text env all = ap (λ texts. expansion env (option_map innermost_text texts)) (texts-literal text all) ∙ meaning-literal env text
