-- A line that begins a file, and what stands after it.
use Rattle.std.proofs.Common.{◌≡◌, ℕ, ◌+◌, ◌<◌, ◌≤◌, Bool, true, false, cond, not, ◌||◌, if◌then◌else◌, List, [], ◌∷◌, ◌++◌, Option, None, Some, length, refl, ◌∙◌, ap, arith}
use Rattle.std.proofs.lemmas.Bool.{or_parts, true≢false}
use Rattle.std.specs.List.{flat_map}
use Rattle.std.specs.Option.{option_or}
use Rattle.std.specs.Str.{is_utf8}
use Rattle.up_script.specs.Bundle.{lines_of, first_line, after_line, is_script, is_folder, ends_folder, is_file, is_header, path_of, file_of, lead, files_of, later_folders, script_text, script_line, bad_path, bad_line, begins_header, none_or_first}
use Rattle.up_text.specs.Tokens.{is_line_feed}
use Rattle.std.specs.List.{onto_first}
use Rattle.up_script.proofs.BundleLemmas.{lines_of-first}

-- what the rest of a bundle says that begins with a file
pub record Begins (rest : List ℕ) : Type 0 where
  pub files : files_of (lines_of rest) ≡ file_of (path_of (first_line rest)) (lead (lines_of (after_line rest))) ++ files_of (lines_of (after_line rest))
  pub later : later_folders (lines_of rest) ≡ later_folders (lines_of (after_line rest))
  pub script : script_text (lines_of rest) ≡ script_text (lines_of (after_line rest))
  pub number : (n : ℕ) → script_line n (lines_of rest) ≡ script_line (n + 1) (lines_of (after_line rest))
  pub bad : (n : ℕ) → bad_path n (lines_of rest) ≡ (if is_utf8 (path_of (first_line rest)) then bad_path (n + 1) (lines_of (after_line rest)) else Some n)

either_else : (one other : Bool) → one ≡ false → (one || other) ≡ true → other ≡ true
either_else true other absent both = cc
either_else false other absent both = both

begins_by : (byte : ℕ) (rest : List ℕ) → ends_folder (first_line (byte ∷ rest)) ≡ false → is_file (first_line (byte ∷ rest)) ≡ true → Begins (byte ∷ rest)
begins_by byte rest goes_on file =
    let first = lines_of-first byte rest in
    let parts = or_parts (is_script (first_line (byte ∷ rest))) (is_folder (first_line (byte ∷ rest))) goes_on in
    let no_script = parts.0 in
    let no_folder = parts.1 in
    record {
      files = rw (first, no_script, no_folder, file) refl;
      later = rw (first, no_script, no_folder) refl;
      script = rw (first, no_script) refl;
      number = λ n. rw (first, no_script) refl;
      bad = λ n. rw (first, no_script, no_folder, file) (by_case (is_utf8 (path_of (first_line (byte ∷ rest)))) n);
    }
  where
    by_case : (text : Bool) (n : ℕ) → cond (not text) (Some n) (bad_path (n + 1) (lines_of (after_line (byte ∷ rest)))) ≡ cond text (bad_path (n + 1) (lines_of (after_line (byte ∷ rest)))) (Some n)
    by_case true n = refl
    by_case false n = refl

pub begins_file : (rest : List ℕ) → begins_header (lines_of rest) ≡ true → none_or_first ends_folder (lines_of rest) ≡ false → Begins rest
unfolding lines_of
begins_file [] header goes_on = absurd (true≢false goes_on)
begins_file (byte ∷ rest) header goes_on =
    let first = lines_of-first byte rest in
    let either : is_header (first_line (byte ∷ rest)) ≡ true = rw first at header in
    let left : ends_folder (first_line (byte ∷ rest)) ≡ false = rw first at goes_on in
    begins_by byte rest left (either_else (ends_folder (first_line (byte ∷ rest))) (is_file (first_line (byte ∷ rest))) left either)

-- what the rest of a bundle says that begins with a folder's line
pub record BeginsFolder (rest : List ℕ) : Type 0 where
  pub some : 0 < length rest
  pub later : later_folders (lines_of rest) ≡ files_of (lines_of (after_line rest)) ∷ later_folders (lines_of (after_line rest))
  pub script : script_text (lines_of rest) ≡ script_text (lines_of (after_line rest))
  pub number : (n : ℕ) → script_line n (lines_of rest) ≡ script_line (n + 1) (lines_of (after_line rest))
  pub bad : (n : ℕ) → bad_path n (lines_of rest) ≡ bad_line (n + 1) (lines_of (after_line rest))

folder_by : (byte : ℕ) (rest : List ℕ) → is_script (first_line (byte ∷ rest)) ≡ false → is_folder (first_line (byte ∷ rest)) ≡ true → BeginsFolder (byte ∷ rest)
folder_by byte rest no_script folder =
    let first = lines_of-first byte rest in
    record {
      some = omega arith;
      later = rw (first, no_script, folder) refl;
      script = rw (first, no_script) refl;
      number = λ n. rw (first, no_script) refl;
      bad = λ n. rw (first, no_script, folder) refl;
    }

pub begins_folder : (rest : List ℕ) → none_or_first ends_folder (lines_of rest) ≡ true → none_or_first is_script (lines_of rest) ≡ false → BeginsFolder rest
unfolding lines_of
begins_folder [] ends no_script = absurd (true≢false no_script)
begins_folder (byte ∷ rest) ends no_script =
    let first = lines_of-first byte rest in
    let either : ends_folder (first_line (byte ∷ rest)) ≡ true = rw first at ends in
    let left : is_script (first_line (byte ∷ rest)) ≡ false = rw first at no_script in
    folder_by byte rest left (either_else (is_script (first_line (byte ∷ rest))) (is_folder (first_line (byte ∷ rest))) left either)

joined_onto : (byte : ℕ) (lines : List (List ℕ)) → flat_map (λ line. line) (onto_first byte lines) ≡ byte ∷ flat_map (λ line. line) lines
joined_onto byte [] = refl
joined_onto byte (line ∷ lines) = refl

-- the lines of a text, one after another, are the text
pub joined : (text : List ℕ) → flat_map (λ line. line) (lines_of text) ≡ text
unfolding lines_of
joined [] = refl
joined (byte ∷ text) = by_case (is_line_feed byte) (joined text)
  where
    by_case : (b : Bool) → flat_map (λ line. line) (lines_of text) ≡ text → flat_map (λ line. line) (cond b ((byte ∷ []) ∷ lines_of text) (onto_first byte (lines_of text))) ≡ byte ∷ text
    by_case true h = ap (λ rest. byte ∷ rest) h
    by_case false h = joined_onto byte (lines_of text) ∙ ap (λ rest. byte ∷ rest) h

-- what the rest of a bundle says that begins with the script
pub record Ends (rest : List ℕ) : Type 0 where
  pub later : later_folders (lines_of rest) ≡ []
  pub bad : (n : ℕ) → bad_path n (lines_of rest) ≡ None

pub ends : (rest : List ℕ) → none_or_first is_script (lines_of rest) ≡ true → Ends rest
ends rest script = let both = by_lines (lines_of rest) script in record { later = both.0; bad = both.1 }
  where
    by_lines : (lines : List (List ℕ)) → none_or_first is_script lines ≡ true → (later_folders lines ≡ []) × ((n : ℕ) → bad_path n lines ≡ None)
    by_lines [] is = (refl, λ n. refl)
    by_lines (line ∷ lines) is = (rw is refl, λ n. rw is refl)

-- the script stands after its line
pub script_after : (rest : List ℕ) → 0 < length rest → none_or_first is_script (lines_of rest) ≡ true
    → (script_text (lines_of rest) ≡ after_line rest) × ((n : ℕ) → script_line n (lines_of rest) ≡ n + 1)
script_after [] some script = absurd (omega arith)
script_after (byte ∷ rest) some script =
    let first = lines_of-first byte rest in
    let is : is_script (first_line (byte ∷ rest)) ≡ true = rw first at script in
    (rw (first, is) (joined (after_line (byte ∷ rest))), λ n. rw (first, is) refl)

-- no script stands in a text without a byte
pub script_none : (rest : List ℕ) → length rest ≤ 0 → (script_text (lines_of rest) ≡ rest) × ((n : ℕ) → script_line n (lines_of rest) ≡ n)
unfolding lines_of
script_none [] none = (refl, λ n. refl)
script_none (byte ∷ rest) none = absurd (omega arith)

-- the first bad line, with those after it
pub option_or-first : (bad : Option ℕ) (good : Bool) (line : ℕ) (later : Option ℕ) → option_or (option_or bad (if good then None else Some line)) later ≡ option_or bad (if good then later else Some line)
option_or-first (Some earlier) good line later = refl
option_or-first None true line later = refl
option_or-first None false line later = refl
