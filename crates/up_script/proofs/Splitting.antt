-- The lines of a script, taken from its front.
use Rattle.std.proofs.Common.{◌≡◌, ℕ, not, ◌==◌, append-nil, ◌+◌, ◌-◌, ◌<◌, ◌≤◌, true, false, Result, Ok, Err, List, [], ◌∷◌, ◌++◌, length, take, drop, refl, ap, sym, ◌∙◌, arith, length-append, append_assoc, suc}
use Rattle.std.proofs.lemmas.Bool.{and_parts, and_from, ne_eqb, true≢false, false≢true}
use Rattle.std.proofs.lemmas.List.Folds.{list_all-append}
use Rattle.std.proofs.lemmas.Str.{IsUtf8-append, IsUtf8-nil, IsUtf8-from_is_utf8, is_utf8-from_IsUtf8}
use Rattle.std.proofs.Math.Seq.{take-append_seam, drop-append_seam}
use Rattle.std.specs.List.{concat, list_all, list_any, prefix_len}
use Rattle.std.specs.Str.{IsUtf8, is_utf8}
use Rattle.up_text.proofs.Readings.{prefix_len-front}
use Rattle.up_script.specs.Bundle.{lines_of, first_line, after_line}
use Rattle.up_conf.specs.declared.job.JobDef.{JobDef}
use Rattle.up_model.specs.declared.input.Input.{Input}
use Rattle.up_text.specs.Lexemes.{stanzas}
use Rattle.up_script.specs.Statements.{is_text, begins_text, inputs_from, lines_inputs, unless_left, Fronts}
use Rattle.up_script.proofs.BundleLemmas.{lines_of-first}
use Rattle.up_script.proofs.Passing.{first_line-append, shorter}

-- a script begins with these many lines that are text, and this stands after them
pub record Texts (script rest : List ℕ) (count : ℕ) : Type 0 where
  pub passed : List (List ℕ)
  pub joined : script ≡ concat passed ++ rest
  pub lines : lines_of script ≡ passed ++ lines_of rest
  pub text : list_all is_text passed ≡ true
  pub counted : count ≡ length passed
  pub within : count + length rest ≤ length script

longer : (bytes : List ℕ) → (suc (length bytes) == 0) ≡ false
longer bytes = ne_eqb (suc (length bytes)) 0 (λ e. omega arith)

-- whether a script begins with a line that is text
pub begins_none : (script : List ℕ) → (length script == 0) ≡ true → begins_text (lines_of script) ≡ false
unfolding lines_of
begins_none [] none = refl
begins_none (byte ∷ script) none = absurd (true≢false (sym none ∙ longer script))

begins_line : (byte : ℕ) (script : List ℕ) → begins_text (lines_of (byte ∷ script)) ≡ is_text (first_line (byte ∷ script))
begins_line byte script = rw (lines_of-first byte script) refl

pub begins_first : (script : List ℕ) → (length script == 0) ≡ false → begins_text (lines_of script) ≡ is_text (first_line script)
begins_first [] some = absurd (true≢false some)
begins_first (byte ∷ script) some = begins_line byte script

one_line : (lines : List (List ℕ)) (line : List ℕ) → concat (lines ++ line ∷ []) ≡ concat lines ++ line
one_line [] line = append-nil line
one_line (first ∷ lines) line = ap (λ x. first ++ x) (one_line lines line) ∙ sym (append_assoc first (concat lines) line)

-- one line more
one_text : (script : List ℕ) (byte : ℕ) (rest : List ℕ) (count : ℕ) → begins_text (lines_of (byte ∷ rest)) ≡ true → Texts script (byte ∷ rest) count
    → Texts script (after_line (byte ∷ rest)) (count + 1)
one_text script byte rest count is before =
    let line = first_line (byte ∷ rest) in
    let first = lines_of-first byte rest in
    let line_text : is_text line ≡ true = sym (begins_line byte rest) ∙ is in
    record {
      passed = before.passed ++ line ∷ [];
      joined = before.joined ∙ ap (λ x. concat before.passed ++ x) (first_line-append (byte ∷ rest))
          ∙ sym (append_assoc (concat before.passed) line (after_line (byte ∷ rest)))
          ∙ ap (λ x. x ++ after_line (byte ∷ rest)) (sym (one_line before.passed line));
      lines = before.lines ∙ ap (λ x. before.passed ++ x) first ∙ sym (append_assoc before.passed (line ∷ []) (lines_of (after_line (byte ∷ rest))));
      text = list_all-append is_text before.passed (line ∷ []) ∙ and_from _ _ before.text (and_from _ _ line_text refl);
      counted = omega (arith, before.counted, length-append before.passed (line ∷ []));
      within = omega (arith, before.within, shorter byte rest);
    }

pub more_texts : (script rest : List ℕ) (count : ℕ) → begins_text (lines_of rest) ≡ true → Texts script rest count → Texts script (after_line rest) (count + 1)
unfolding lines_of
more_texts script [] count is before = absurd (false≢true is)
more_texts script (byte ∷ rest) count is before = one_text script byte rest count is before

pub some_left : (rest : List ℕ) → begins_text (lines_of rest) ≡ true → 0 < length rest
unfolding lines_of
some_left [] is = absurd (false≢true is)
some_left (byte ∷ rest) is = omega arith

-- lines that are text are text together
text_bytes : (line : List ℕ) → is_text line ≡ true → IsUtf8 line
unfolding is_text
text_bytes line is = IsUtf8-from_is_utf8 line (and_parts (not (list_any (λ byte. byte == 0) line)) (is_utf8 line) is).1

texts_bytes : (lines : List (List ℕ)) → list_all is_text lines ≡ true → IsUtf8 (concat lines)
texts_bytes [] all = IsUtf8-nil
texts_bytes (line ∷ lines) all =
    let both = and_parts (is_text line) (list_all is_text lines) all in
    IsUtf8-append line (concat lines) (text_bytes line both.0) (texts_bytes lines both.1)

no_prefix : (lines : List (List ℕ)) → begins_text lines ≡ false → prefix_len is_text lines ≡ 0
no_prefix [] none = refl
no_prefix (line ∷ lines) none = rw none refl

front_bytes : (passed : List (List ℕ)) (script rest : List ℕ) → script ≡ concat passed ++ rest → take (length script - length rest) script ≡ concat passed
front_bytes passed script rest is =
    let long : length script - length rest ≡ length (concat passed) = omega (arith, ap length is, length-append (concat passed) rest) in
    ap (λ n. take n script) long ∙ ap (take (length (concat passed))) is ∙ take-append_seam (concat passed) rest

-- if no more lines are text, the front is whole
pub fronts : (script front rest : List ℕ) (count : ℕ) → front ≡ take (length script - length rest) script → begins_text (lines_of rest) ≡ false → Texts script rest count → Fronts script front rest count
fronts script front rest count is none before =
    let lines = front_bytes before.passed script rest before.joined in
    let bytes : front ≡ concat before.passed = is ∙ lines in
    let taken : take count (lines_of script) ≡ before.passed =
    ap (λ n. take n (lines_of script)) before.counted ∙ ap (take (length before.passed)) before.lines ∙ take-append_seam before.passed (lines_of rest) in
    let dropped : drop count (lines_of script) ≡ lines_of rest =
    ap (λ n. drop n (lines_of script)) before.counted ∙ ap (drop (length before.passed)) before.lines ∙ drop-append_seam before.passed (lines_of rest) in
    record {
      counted = before.counted ∙ sym (ap (prefix_len is_text) before.lines ∙ prefix_len-front is_text before.passed (lines_of rest) before.text (no_prefix (lines_of rest) none));
      lines = bytes ∙ ap concat (sym taken);
      after = sym dropped;
      text = ap is_utf8 bytes ∙ is_utf8-from_IsUtf8 (concat before.passed) (texts_bytes before.passed before.text);
      front_within = omega (arith, ap length bytes, ap length before.joined, length-append (concat before.passed) rest);
      count_within = omega (arith, before.within);
    }

-- the inputs of the front, if nothing is left of the script; otherwise the line after the front may be the bad one
pub left_none : (line : ℕ) (rest : List ℕ) (read : Result (List Input) ℕ) → (length rest == 0) ≡ true → unless_left line (lines_of rest) read ≡ read
unfolding lines_of
left_none line [] read none = refl
left_none line (byte ∷ rest) read none = absurd (true≢false (sym none ∙ longer rest))

left_lines : (line : ℕ) (lines : List (List ℕ)) (first : List ℕ) (others : List (List ℕ)) → lines ≡ first ∷ others
    → ((inputs : List Input) → unless_left line lines (Ok inputs) ≡ Err line) × ((earlier : ℕ) → unless_left line lines (Err earlier) ≡ Err earlier)
left_lines line [] first others is = cc
left_lines line (other ∷ lines) first others is = (λ inputs. refl, λ earlier. refl)

pub left_ok : (line : ℕ) (rest : List ℕ) (inputs : List Input) → (length rest == 0) ≡ false → unless_left line (lines_of rest) (Ok inputs) ≡ Err line
left_ok line [] inputs some = absurd (true≢false some)
left_ok line (byte ∷ rest) inputs some = (left_lines line (lines_of (byte ∷ rest)) _ _ (lines_of-first byte rest)).0 inputs

pub left_err : (line : ℕ) (rest : List ℕ) (earlier : ℕ) → (length rest == 0) ≡ false → unless_left line (lines_of rest) (Err earlier) ≡ Err earlier
left_err line [] earlier some = absurd (true≢false some)
left_err line (byte ∷ rest) earlier some = (left_lines line (lines_of (byte ∷ rest)) _ _ (lines_of-first byte rest)).1 earlier

-- a script by its front
pub by_front : (tables : List (List JobDef)) (line : ℕ) (script front rest : List ℕ) (count : ℕ) → Fronts script front rest count
    → unless_left (line + count) (lines_of rest) (inputs_from tables line (stanzas front)) ≡ lines_inputs tables line (lines_of script)
unfolding lines_inputs
by_front tables line script front rest count is =
    ap (λ lines. unless_left (line + count) lines (inputs_from tables line (stanzas front))) is.after
    ∙ ap (λ text. unless_left (line + count) (drop count (lines_of script)) (inputs_from tables line (stanzas text))) is.lines
    ∙ ap (λ n. unless_left (line + n) (drop n (lines_of script)) (inputs_from tables line (stanzas (concat (take n (lines_of script)))))) is.counted
