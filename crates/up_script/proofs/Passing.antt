-- Lines that begin neither a file nor the script are passed.
use Rattle.std.proofs.Common.{◌≡◌, ℕ, suc, Option, Some, None, slice_get, ◌==◌, ◌+◌, ◌<◌, ◌≤◌, Bool, true, false, cond, ◌&&◌, ◌||◌, List, [], ◌∷◌, ◌++◌, length, refl, sym, ◌∙◌, ap, arith, append_assoc}
use Rattle.std.proofs.lemmas.Bool.{or_parts, ne_eqb}
use Rattle.std.proofs.lemmas.Bool.Decides.{nat_tests}
use Rattle.up_script.specs.Bundle.{lines_of, first_line, after_line, is_script, is_folder, ends_folder, is_file, is_header, lead, files_of, later_folders, script_text, script_line, bad_path, begins_header, none_or_first}
use Rattle.up_text.specs.Tokens.{is_line_feed}
use Rattle.up_script.proofs.BundleLemmas.{lines_of-first}

-- between a text and what is left of it no line is a header, so that both say the same
pub record Passed (text front rest : List ℕ) (lines : ℕ) : Type 0 where
  pub passed : text ≡ front ++ rest
  pub content : lead (lines_of text) ≡ front ++ lead (lines_of rest)
  pub files : files_of (lines_of rest) ≡ files_of (lines_of text)
  pub later : later_folders (lines_of rest) ≡ later_folders (lines_of text)
  pub script : script_text (lines_of rest) ≡ script_text (lines_of text)
  pub number : (n : ℕ) → script_line (n + lines) (lines_of rest) ≡ script_line n (lines_of text)
  pub bad : (n : ℕ) → bad_path (n + lines) (lines_of rest) ≡ bad_path n (lines_of text)
  pub within : length rest + lines ≤ length text

-- a text is its first line and what stands after it
pub first_line-append : (text : List ℕ) → text ≡ first_line text ++ after_line text
first_line-append [] = refl
first_line-append (byte ∷ text) = by_case (is_line_feed byte) (first_line-append text)
  where
    by_case : (b : Bool) → text ≡ first_line text ++ after_line text → byte ∷ text ≡ cond b (byte ∷ []) (byte ∷ first_line text) ++ cond b text (after_line text)
    by_case true h = refl
    by_case false h = ap (λ rest. byte ∷ rest) h

pub shorter : (byte : ℕ) (text : List ℕ) → length (after_line (byte ∷ text)) + 1 ≤ length (byte ∷ text)
shorter byte [] = by_case (is_line_feed byte)
  where
    by_case : (b : Bool) → length (cond b [] (after_line [])) + 1 ≤ length (byte ∷ [])
    by_case true = omega arith
    by_case false = omega arith
shorter byte (next ∷ text) = by_case (is_line_feed byte) (shorter next text)
  where
    by_case : (b : Bool) → length (after_line (next ∷ text)) + 1 ≤ length (next ∷ text) → length (cond b (next ∷ text) (after_line (next ∷ text))) + 1 ≤ length (byte ∷ next ∷ text)
    by_case true h = omega arith
    by_case false h = omega arith

-- one line more
pub passed_line : (text front : List ℕ) (byte : ℕ) (rest : List ℕ) (lines : ℕ) → is_header (first_line (byte ∷ rest)) ≡ false → Passed text front (byte ∷ rest) lines
    → Passed text (front ++ first_line (byte ∷ rest)) (after_line (byte ∷ rest)) (lines + 1)
passed_line text front byte rest lines none before =
    let first = lines_of-first byte rest in
    let parts = or_parts (ends_folder (first_line (byte ∷ rest))) (is_file (first_line (byte ∷ rest))) none in
    let no_end = or_parts (is_script (first_line (byte ∷ rest))) (is_folder (first_line (byte ∷ rest))) parts.0 in
    let no_script = no_end.0 in
    let no_folder = no_end.1 in
    let no_file = parts.1 in
    record {
      passed = before.passed ∙ ap (λ x. front ++ x) (first_line-append (byte ∷ rest)) ∙ sym (append_assoc front _ _);
      content = before.content ∙ ap (λ x. front ++ x) (rw (first, none) refl) ∙ sym (append_assoc front _ _);
      files = sym (rw (first, no_script, no_folder, no_file) refl) ∙ before.files;
      later = sym (rw (first, no_script, no_folder) refl) ∙ before.later;
      script = sym (rw (first, no_script) refl) ∙ before.script;
      number = λ n. let e : n + (lines + 1) ≡ n + lines + 1 = omega arith in ap (λ m. script_line m (lines_of (after_line (byte ∷ rest)))) e ∙ sym (rw (first, no_script) refl) ∙ before.number n;
      bad = λ n. let e : n + (lines + 1) ≡ n + lines + 1 = omega arith in ap (λ m. bad_path m (lines_of (after_line (byte ∷ rest)))) e ∙ sym (rw (first, no_script, no_folder, no_file) refl) ∙ before.bad n;
      within = omega (arith, before.within, shorter byte rest);
    }

-- whether no line is left or the first one passes, by the text
pub none_or_first_line : (passes : List ℕ → Bool) (text : List ℕ) → none_or_first passes (lines_of text) ≡ ((length text == 0) || passes (first_line text))
unfolding lines_of
none_or_first_line passes [] = refl
none_or_first_line passes (byte ∷ text) = rw (lines_of-first byte text) (sym (rw (longer text) refl))
  where
    longer : (text : List ℕ) → (suc (length text) == 0) ≡ false
    longer text = ne_eqb (suc (length text)) 0 (λ e. omega arith)

begins_first : (text : List ℕ) → begins_header (lines_of text) ≡ ((length text == 0) || is_header (first_line text))
begins_first text = none_or_first_line is_header text

-- if a text doesn't begin with a header, its first line can be passed
pub passed_first : (text front rest : List ℕ) (lines : ℕ) → begins_header (lines_of rest) ≡ false → Passed text front rest lines
    → Passed text (front ++ first_line rest) (after_line rest) (lines + 1)
passed_first text front [] lines none before = cc (sym (begins_first []) ∙ none)
passed_first text front (byte ∷ rest) lines none before =
    passed_line text front byte rest lines (or_parts (length (byte ∷ rest) == 0) (is_header (first_line (byte ∷ rest))) (sym (begins_first (byte ∷ rest)) ∙ none)).1 before

pub not_empty : (passes : List ℕ → Bool) (text : List ℕ) → none_or_first passes (lines_of text) ≡ false → 0 < length text
not_empty passes [] none = cc (sym (none_or_first_line passes []) ∙ none)
not_empty passes (byte ∷ text) none = omega arith

-- a line that doesn't begin with % is no header
plain_script : (byte : ℕ) (line : List ℕ) → (byte == 37) ≡ false → (b : Bool) → is_line_feed byte ≡ b → is_script (byte ∷ line) ≡ false
unfolding is_script
plain_script byte line plain true feed = rw feed refl
plain_script byte line plain false other = rw (other, plain) refl

plain_folder : (byte : ℕ) (line : List ℕ) → (byte == 37) ≡ false → (b : Bool) → is_line_feed byte ≡ b → is_folder (byte ∷ line) ≡ false
unfolding is_folder
plain_folder byte line plain true feed = rw feed refl
plain_folder byte line plain false other = rw (other, plain) refl

other_byte : (byte : ℕ) → (byte == 37) ≡ false → byte ≡ 37 → ⊥
other_byte byte plain same = grind (arith, nat_tests)

plain_file : (byte : ℕ) (line : List ℕ) → (byte == 37) ≡ false → is_file (byte ∷ line) ≡ false
unfolding is_file
plain_file byte line plain = let other : (37 == byte) ≡ false = ne_eqb 37 byte (λ same. other_byte byte plain (sym same)) in rw other refl

plain_line : (byte : ℕ) (line : List ℕ) → (byte == 37) ≡ false → is_header (byte ∷ line) ≡ false
plain_line byte line plain =
    rw (plain_script byte line plain (is_line_feed byte) refl, plain_folder byte line plain (is_line_feed byte) refl, plain_file byte line plain) refl

plain_cases : (byte : ℕ) (text : List ℕ) → (byte == 37) ≡ false → (b : Bool) → is_line_feed byte ≡ b → is_header (first_line (byte ∷ text)) ≡ false
plain_cases byte text plain true feed = rw feed (plain_line byte [] plain)
plain_cases byte text plain false other = rw other (plain_line byte (first_line text) plain)

-- whether a text begins with a header, by its first byte
abbrev pub by_first : Option ℕ → List ℕ → Bool
by_first None text = true
by_first (Some byte) text = (byte == 37) && is_header (first_line text)

by_percent : (byte : ℕ) (text : List ℕ) (b : Bool) → (byte == 37) ≡ b → is_header (first_line (byte ∷ text)) ≡ ((byte == 37) && is_header (first_line (byte ∷ text)))
by_percent byte text true percent = rw percent refl
by_percent byte text false plain = rw plain (plain_cases byte text plain (is_line_feed byte) refl)

pub begins_by_first : (text : List ℕ) → begins_header (lines_of text) ≡ by_first (slice_get text 0) text
unfolding lines_of
begins_by_first [] = refl
begins_by_first (byte ∷ text) = rw (lines_of-first byte text) (by_percent byte text (byte == 37) refl)
