-- The first line of a text, and the lines after it.
use Rattle.std.proofs.Common.{◌≡◌, ℕ, ◌+◌, ◌≤◌, Bool, true, false, cond, List, [], ◌∷◌, length, take, drop, refl, sym, ◌∙◌, ap, arith, add-one, one-add, not}
use Rattle.std.proofs.lemmas.List.{take_all, drop_all}
use Rattle.std.specs.List.{position_or_len}
use Rattle.up_script.specs.Bundle.{lines_of, first_line, after_line, without_feed}
use Rattle.up_text.specs.Tokens.{is_line_feed}
use Rattle.std.specs.List.{onto_first}

-- a text's lines are its first line and those after it
pub lines_of-first : (byte : ℕ) (text : List ℕ) → lines_of (byte ∷ text) ≡ first_line (byte ∷ text) ∷ lines_of (after_line (byte ∷ text))
unfolding lines_of
lines_of-first byte [] = by_case (is_line_feed byte)
  where
    by_case : (b : Bool) → cond b ((byte ∷ []) ∷ []) ((byte ∷ []) ∷ []) ≡ cond b (byte ∷ []) (byte ∷ []) ∷ lines_of (cond b [] [])
    by_case true = refl
    by_case false = refl
lines_of-first byte (next ∷ text) = by_case (is_line_feed byte) (lines_of-first next text)
  where
    by_case : (b : Bool) → lines_of (next ∷ text) ≡ first_line (next ∷ text) ∷ lines_of (after_line (next ∷ text))
        → cond b ((byte ∷ []) ∷ lines_of (next ∷ text)) (onto_first byte (lines_of (next ∷ text)))
        ≡ cond b (byte ∷ []) (byte ∷ first_line (next ∷ text)) ∷ lines_of (cond b (next ∷ text) (after_line (next ∷ text)))
    by_case true h = refl
    by_case false h = ap (onto_first byte) h

-- a line feed is within the text, or at its end
pub feed_within : (text : List ℕ) → position_or_len is_line_feed text ≤ length text
feed_within [] = omega arith
feed_within (byte ∷ text) = by_case (is_line_feed byte) (feed_within text)
  where
    by_case : (b : Bool) → position_or_len is_line_feed text ≤ length text → cond (not b) (1 + position_or_len is_line_feed text) 0 ≤ length (byte ∷ text)
    by_case true h = omega arith
    by_case false h = omega arith

-- a line is cut before its line feed
pub trimmed_take : (text : List ℕ) → without_feed text ≡ take (position_or_len is_line_feed text) text
trimmed_take [] = refl
trimmed_take (byte ∷ text) = by_case (is_line_feed byte) (trimmed_take text)
  where
    by_case : (b : Bool) → without_feed text ≡ take (position_or_len is_line_feed text) text
        → cond b [] (byte ∷ without_feed text) ≡ take (cond (not b) (1 + position_or_len is_line_feed text) 0) (byte ∷ text)
    by_case true h = refl
    by_case false h = rw one-add (ap (λ line. byte ∷ line) h)

-- the first line ends after its line feed
pub line_take : (text : List ℕ) → (first_line text ≡ take (position_or_len is_line_feed text + 1) text) × (after_line text ≡ drop (position_or_len is_line_feed text + 1) text)
line_take [] = (refl, refl)
line_take (byte ∷ text) = by_case (is_line_feed byte) (line_take text)
  where
    by_case : (b : Bool) → (first_line text ≡ take (position_or_len is_line_feed text + 1) text) × (after_line text ≡ drop (position_or_len is_line_feed text + 1) text)
        → (cond b (byte ∷ []) (byte ∷ first_line text) ≡ take (cond (not b) (1 + position_or_len is_line_feed text) 0 + 1) (byte ∷ text))
        × (cond b text (after_line text) ≡ drop (cond (not b) (1 + position_or_len is_line_feed text) 0 + 1) (byte ∷ text))
    by_case true h = (refl, refl)
    by_case false h = (rw (one-add, add-one) (ap (λ line. byte ∷ line) (rw add-one at h.0)), rw (one-add, add-one) (rw add-one at h.1))

-- where there is none it ends with the text
pub line_all : (text : List ℕ) → length text ≤ position_or_len is_line_feed text → (take (length text) text ≡ first_line text) × (drop (length text) text ≡ after_line text)
line_all text past =
    let line = line_take text in
    let beyond : length text ≤ position_or_len is_line_feed text + 1 = omega arith in (
      take_all (length text) text (omega arith) ∙ sym (line.0 ∙ take_all (position_or_len is_line_feed text + 1) text beyond),
      drop_all (length text) text (omega arith) ∙ sym (line.1 ∙ drop_all (position_or_len is_line_feed text + 1) text beyond),
    )
