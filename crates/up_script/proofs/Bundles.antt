-- A bundle, read file by file and folder by folder.
use Rattle.std.proofs.Common.{◌≡◌, ℕ, ◌+◌, ◌<◌, ◌≤◌, ◌-◌, ◌^◌, Bool, true, false, if◌then◌else◌, List, [], ◌∷◌, ◌++◌, Option, None, Some, length, refl, sym, ◌∙◌, ap, arith, append_assoc, append-nil}
use Rattle.std.specs.Option.{option_or}
use Rattle.std.specs.Str.{is_utf8}
use Rattle.up_conf.specs.declared.folder.File.{File}
use Rattle.up_script.specs.Bundle.{lines_of, first_line, after_line, is_script, ends_folder, path_of, file_of, lead, files_of, later_folders, script_text, script_line, bad_path, bad_line, begins_header, none_or_first, IsPart}
use Rattle.up_script.proofs.Headers.{begins_file, begins_folder, ends, option_or-first}

-- what was passed up to a header, and what is left from it on
pub record Skips (text passed rest : List ℕ) (lines : ℕ) : Type 0 where
  pub content : passed ≡ lead (lines_of text)
  pub header : begins_header (lines_of rest) ≡ true
  pub files : files_of (lines_of rest) ≡ files_of (lines_of text)
  pub later : later_folders (lines_of rest) ≡ later_folders (lines_of text)
  pub script : script_text (lines_of rest) ≡ script_text (lines_of text)
  pub number : (n : ℕ) → script_line (n + lines) (lines_of rest) ≡ script_line n (lines_of text)
  pub bad : (n : ℕ) → bad_path (n + lines) (lines_of rest) ≡ bad_path n (lines_of text)
  pub within : length rest + lines ≤ length text

-- what was read of a folder, which began on a line, and what is left of it
pub record Left (text : List ℕ) (start : ℕ) (folder : List File) (found : Option ℕ) (line : ℕ) (rest : List ℕ) : Type 0 where
  pub header : begins_header (lines_of rest) ≡ true
  pub files : folder ++ files_of (lines_of rest) ≡ files_of (lines_of text)
  pub later : later_folders (lines_of rest) ≡ later_folders (lines_of text)
  pub script : script_text (lines_of rest) ≡ script_text (lines_of text)
  pub number : script_line line (lines_of rest) ≡ script_line start (lines_of text)
  pub wrong : option_or found (bad_path line (lines_of rest)) ≡ bad_line start (lines_of text)
  pub room : line + length rest ≤ start + length text
  pub within : length rest ≤ length text

-- before the first file
pub left_first : (text : List ℕ) (start : ℕ) (content rest : List ℕ) (lines : ℕ) (bad : Option ℕ) → Skips text content rest lines
    → bad ≡ (if begins_header (lines_of text) then None else Some start) → Left text start [] bad (start + lines) rest
left_first text start content rest lines bad skips stray =
    record {
      header = skips.header;
      files = skips.files;
      later = skips.later;
      script = skips.script;
      number = skips.number start;
      wrong = rw stray (by_case (begins_header (lines_of text)) refl (skips.bad start));
      room = omega (arith, skips.within);
      within = omega (arith, skips.within);
    }
  where
    by_case : (b : Bool) → begins_header (lines_of text) ≡ b → bad_path (start + lines) (lines_of rest) ≡ bad_path start (lines_of text)
        → option_or (if b then None else Some start) (bad_path (start + lines) (lines_of rest)) ≡ bad_line start (lines_of text)
    by_case true is h = rw is h
    by_case false is h = rw is refl

-- one file more
pub left_next : (text : List ℕ) (start : ℕ) (folder after : List File) (bad : Option ℕ) (line : ℕ) (rest content next : List ℕ) (count : ℕ) (good : Bool)
    → Left text start folder bad line rest → none_or_first ends_folder (lines_of rest) ≡ false → Skips (after_line rest) content next count
    → after ≡ folder ++ file_of (path_of (first_line rest)) content → good ≡ is_utf8 (path_of (first_line rest))
    → length (after_line rest) < length rest
    → Left text start after (option_or bad (if good then None else Some line)) (line + (count + 1)) next
left_next text start folder after bad line rest content next count good left goes_on skips added is_good less =
    let begins = begins_file rest left.header goes_on in
    let e : line + 1 + count ≡ line + (count + 1) = omega arith in
    let files : after ≡ folder ++ file_of (path_of (first_line rest)) (lead (lines_of (after_line rest))) = added ∙ ap (λ bytes. folder ++ file_of (path_of (first_line rest)) bytes) skips.content in
    record {
      header = skips.header;
      files = rw (files, skips.files, append_assoc) (rw begins.files at left.files);
      later = skips.later ∙ sym begins.later ∙ left.later;
      script = skips.script ∙ sym begins.script ∙ left.script;
      number = ap (λ n. script_line n (lines_of next)) (sym e) ∙ skips.number (line + 1) ∙ sym (begins.number line) ∙ left.number;
      wrong = option_or-first bad good line (bad_path (line + (count + 1)) (lines_of next))
          ∙ ap (λ later. option_or bad (if good then later else Some line)) (ap (λ n. bad_path n (lines_of next)) (sym e) ∙ skips.bad (line + 1))
          ∙ rw is_good (ap (option_or bad) (sym (begins.bad line)))
          ∙ left.wrong;
      room = omega (arith, left.room, skips.within, less);
      within = omega (arith, left.within, skips.within, less);
    }

no_files : (lines : List (List ℕ)) → none_or_first ends_folder lines ≡ true → files_of lines ≡ []
no_files [] ends = refl
no_files (line ∷ lines) ends = rw ends refl

-- the folder's end
pub left_end : (text : List ℕ) (start : ℕ) (folder : List File) (bad : Option ℕ) (line : ℕ) (rest : List ℕ) → Left text start folder bad line rest
    → none_or_first ends_folder (lines_of rest) ≡ true → IsPart text start folder bad rest line
left_end text start folder bad line rest left end =
    record {
      files = sym (append-nil folder) ∙ ap (λ later. folder ++ later) (sym (no_files (lines_of rest) end)) ∙ left.files;
      ends = end;
      later = left.later;
      script = left.script;
      number = left.number;
      wrong = left.wrong;
      room = left.room;
      within = left.within;
    }

-- the folders that were read, and what is left, are the whole
pub record Folders (text : List ℕ) (later : List (List File)) (found : Option ℕ) (line : ℕ) (rest : List ℕ) : Type 0 where
  pub ends : none_or_first ends_folder (lines_of rest) ≡ true
  pub folders : later ++ later_folders (lines_of rest) ≡ later_folders (lines_of text)
  pub script : script_text (lines_of rest) ≡ script_text (lines_of text)
  pub number : script_line line (lines_of rest) ≡ script_line 1 (lines_of text)
  pub wrong : option_or found (bad_path line (lines_of rest)) ≡ bad_line 1 (lines_of text)
  pub room : line + length rest < 2 ^ 32

-- after the first folder
pub folders_first : (text : List ℕ) (folder : List File) (bad : Option ℕ) (rest : List ℕ) (line : ℕ) → length text < 2 ^ 32 - 1 → IsPart text 1 folder bad rest line
    → Folders text [] bad line rest
folders_first text folder bad rest line short part =
    record {
      ends = part.ends;
      folders = part.later;
      script = part.script;
      number = part.number;
      wrong = part.wrong;
      room = omega (arith, part.room, short);
    }

option_or-three : (one two three : Option ℕ) → option_or (option_or one two) three ≡ option_or one (option_or two three)
option_or-three None two three = refl
option_or-three (Some line) two three = refl

-- one folder more
pub folders_next : (text : List ℕ) (later after : List (List File)) (found : Option ℕ) (line : ℕ) (rest : List ℕ) (folder : List File) (bad : Option ℕ) (next : List ℕ) (number : ℕ)
    → Folders text later found line rest → none_or_first is_script (lines_of rest) ≡ false → IsPart (after_line rest) (line + 1) folder bad next number
    → after ≡ later ++ folder ∷ [] → length (after_line rest) < length rest → Folders text after (option_or found bad) number next
folders_next text later after found line rest folder bad next number before no_script part added less =
    let begins = begins_folder rest before.ends no_script in
    record {
      ends = part.ends;
      folders = ap (λ those. those ++ later_folders (lines_of next)) added ∙ append_assoc later (folder ∷ []) (later_folders (lines_of next))
          ∙ ap (λ its. later ++ its ∷ later_folders (lines_of next)) part.files
          ∙ ap (λ those. later ++ files_of (lines_of (after_line rest)) ∷ those) part.later
          ∙ ap (λ those. later ++ those) (sym begins.later) ∙ before.folders;
      script = part.script ∙ sym begins.script ∙ before.script;
      number = part.number ∙ sym (begins.number line) ∙ before.number;
      wrong = option_or-three found bad (bad_path number (lines_of next)) ∙ ap (option_or found) (part.wrong ∙ sym (begins.bad line)) ∙ before.wrong;
      room = omega (arith, before.room, part.room, less);
    }

option_or-None : (bad : Option ℕ) → option_or bad None ≡ bad
option_or-None None = refl
option_or-None (Some line) = refl

-- what is read where no folder is left
pub record Read (text : List ℕ) (later : List (List File)) (found : Option ℕ) (line : ℕ) (rest : List ℕ) : Type 0 where
  pub folders : later ≡ later_folders (lines_of text)
  pub bad : found ≡ bad_line 1 (lines_of text)
  pub script : script_text (lines_of rest) ≡ script_text (lines_of text)
  pub number : script_line line (lines_of rest) ≡ script_line 1 (lines_of text)

pub folders_end : (text : List ℕ) (later : List (List File)) (found : Option ℕ) (line : ℕ) (rest : List ℕ) → Folders text later found line rest
    → none_or_first is_script (lines_of rest) ≡ true → Read text later found line rest
folders_end text later found line rest before script =
    let end = ends rest script in
    record {
      folders = sym (append-nil later) ∙ ap (λ those. later ++ those) (sym end.later) ∙ before.folders;
      bad = sym (option_or-None found) ∙ ap (option_or found) (sym (end.bad line)) ∙ before.wrong;
      script = before.script;
      number = before.number;
    }
