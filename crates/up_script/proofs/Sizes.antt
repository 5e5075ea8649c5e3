-- How large a script is, and how many lines stand before it.
use Rattle.std.proofs.Common.{◌≡◌, ℕ, ◌+◌, ◌<◌, ◌≤◌, Bool, true, false, cond, List, [], ◌∷◌, length, refl, arith, length-append}
use Rattle.std.specs.List.{flat_map}
use Rattle.up_script.specs.Bundle.{lines_of, is_script, script_text, script_line}
use Rattle.up_text.specs.Tokens.{is_line_feed}
use Rattle.std.specs.List.{onto_first}

-- the bytes of lines
abbrev weigh : List (List ℕ) → ℕ
weigh [] = 0
weigh (line ∷ lines) = length line + weigh lines

-- each line has a byte
abbrev Filled : List (List ℕ) → Type 0
Filled [] = Unit {0}
Filled (line ∷ lines) = (0 < length line) × Filled lines

weigh_joined : (lines : List (List ℕ)) → length (flat_map (λ x. x) lines) ≡ weigh lines
weigh_joined [] = refl
weigh_joined (line ∷ lines) = omega (arith, length-append line (flat_map (λ x. x) lines), weigh_joined lines)

weigh_onto : (byte : ℕ) (lines : List (List ℕ)) → weigh (onto_first byte lines) ≡ 1 + weigh lines
weigh_onto byte [] = omega arith
weigh_onto byte (line ∷ lines) = omega arith

filled_onto : (byte : ℕ) (lines : List (List ℕ)) → Filled lines → Filled (onto_first byte lines)
filled_onto byte [] filled = (omega arith, tt)
filled_onto byte (line ∷ lines) filled = (omega arith, filled.1)

weigh_cases : (byte : ℕ) (lines : List (List ℕ)) (b : Bool) → weigh (cond b ((byte ∷ []) ∷ lines) (onto_first byte lines)) ≡ 1 + weigh lines
weigh_cases byte lines true = omega arith
weigh_cases byte lines false = weigh_onto byte lines

filled_cases : (byte : ℕ) (lines : List (List ℕ)) (b : Bool) → Filled lines → Filled (cond b ((byte ∷ []) ∷ lines) (onto_first byte lines))
filled_cases byte lines true filled = (omega arith, filled)
filled_cases byte lines false filled = filled_onto byte lines filled

weigh_lines : (text : List ℕ) → weigh (lines_of text) ≡ length text
unfolding lines_of
weigh_lines [] = refl
weigh_lines (byte ∷ text) = omega (arith, weigh_cases byte (lines_of text) (is_line_feed byte), weigh_lines text)

filled_lines : (text : List ℕ) → Filled (lines_of text)
unfolding lines_of
filled_lines [] = tt
filled_lines (byte ∷ text) = filled_cases byte (lines_of text) (is_line_feed byte) (filled_lines text)

within_cases : (n : ℕ) (line : List ℕ) (lines : List (List ℕ)) (b : Bool) → 0 < length line
    → script_line (n + 1) lines + length (script_text lines) ≤ n + 1 + weigh lines
    → cond b (n + 1) (script_line (n + 1) lines) + length (cond b (flat_map (λ x. x) lines) (script_text lines)) ≤ n + weigh (line ∷ lines)
within_cases n line lines true some later = omega (arith, weigh_joined lines)
within_cases n line lines false some later = omega arith

within : (n : ℕ) (lines : List (List ℕ)) → Filled lines → script_line n lines + length (script_text lines) ≤ n + weigh lines
within n [] filled = omega arith
within n (line ∷ lines) filled = within_cases n line lines (is_script line) filled.0 (within (n + 1) lines filled.1)

pub script_small : (text : List ℕ) → script_line 1 (lines_of text) + length (script_text (lines_of text)) ≤ 1 + length text
script_small text = omega (arith, within 1 (lines_of text) (filled_lines text), weigh_lines text)
