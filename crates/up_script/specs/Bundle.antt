-- How a bundle is read: files of jobs, and a script.
use Rattle.std.specs.Prelude.{◌≡◌, ℕ, ◌+◌, ◌≤◌, Bool, true, not, ◌&&◌, ◌||◌, nat_eq, List, [], ◌∷◌, ◌++◌, length, Option, None, Some, if◌then◌else◌, drop, codes}
use Rattle.std.specs.List.{starts_with, flat_map}
use Rattle.std.specs.Option.{option_or}
use Rattle.std.specs.Str.{bytes_eq, is_utf8}
use Rattle.up_text.specs.Scripts as scripts
use Rattle.up_text.specs.Tokens.{is_line_feed}
use Rattle.up_conf.specs.declared.folder.File.{File}

-- the lines of a text, each with its line feed, which the last may lack
unfoldable pub lines_of : List ℕ → List (List ℕ)
lines_of text = scripts.lines_of text

-- a line without its line feed
abbrev pub without_feed : List ℕ → List ℕ
without_feed [] = []
without_feed (byte ∷ line) = if is_line_feed byte then [] else byte ∷ without_feed line

-- the line that begins the script
unfoldable pub is_script : List ℕ → Bool
is_script line = bytes_eq (without_feed line) (codes "%script")

-- a line that begins a file
unfoldable pub is_file : List ℕ → Bool
is_file line = starts_with nat_eq line (codes "%file ")

-- the path of a line that begins a file
unfoldable pub path_of : List ℕ → List ℕ
path_of line = drop 6 (without_feed line)

-- the line that begins the next folder
unfoldable pub is_folder : List ℕ → Bool
is_folder line = bytes_eq (without_feed line) (codes "%folder")

-- a line that ends a folder: it begins the next one, or the script
abbrev pub ends_folder : List ℕ → Bool
ends_folder line = is_script line || is_folder line

-- a line that begins a file, the next folder or the script
abbrev pub is_header : List ℕ → Bool
is_header line = ends_folder line || is_file line

-- the bytes up to the next such line
abbrev pub lead : List (List ℕ) → List ℕ
lead [] = []
lead (line ∷ lines) = if is_header line then [] else line ++ lead lines

-- a file with its path, if that is text
abbrev pub file_of : List ℕ → List ℕ → List File
file_of path bytes = if is_utf8 path then record { path = path; bytes = bytes } ∷ [] else []

-- the files of the first folder, each with the lines up to the next header
abbrev pub files_of : List (List ℕ) → List File
files_of [] = []
files_of (line ∷ lines) =
    if ends_folder line then []
    else (if is_file line then file_of (path_of line) (lead lines) ++ files_of lines
    else files_of lines)

-- the files of each folder after the first
abbrev pub later_folders : List (List ℕ) → List (List File)
later_folders [] = []
later_folders (line ∷ lines) =
    if is_script line then []
    else (if is_folder line then files_of lines ∷ later_folders lines
    else later_folders lines)

-- the script: all that stands after its line
abbrev pub script_text : List (List ℕ) → List ℕ
script_text [] = []
script_text (line ∷ lines) = if is_script line then flat_map (λ x. x) lines else script_text lines

-- the number of the script's first line, if the first of these lines has the number n
abbrev pub script_line : ℕ → List (List ℕ) → ℕ
script_line n [] = n
script_line n (line ∷ lines) = if is_script line then n + 1 else script_line (n + 1) lines

-- whether there is no line, or the first one passes a test
abbrev pub none_or_first : (List ℕ → Bool) → List (List ℕ) → Bool
none_or_first passes [] = true
none_or_first passes (line ∷ lines) = passes line

-- whether lines are none, or begin with a header
abbrev pub begins_header : List (List ℕ) → Bool
begins_header lines = none_or_first is_header lines

-- the first bad line before the script after a header, if the first of these lines has the number n: the path of a file is no text, or a
-- folder begins with a line that is no header
abbrev pub bad_path : ℕ → List (List ℕ) → Option ℕ
bad_path n [] = None
bad_path n (line ∷ lines) =
    if is_script line then None
    else (if is_folder line then (if begins_header lines then bad_path (n + 1) lines else Some (n + 1))
    else (if is_file line && not (is_utf8 (path_of line)) then Some n
    else bad_path (n + 1) lines))

-- the first bad line before the script, if a folder begins with these lines, of which the first has the number n
abbrev pub bad_line : ℕ → List (List ℕ) → Option ℕ
bad_line n lines = if begins_header lines then bad_path n lines else Some n

-- the first line of a text, with its line feed
abbrev pub first_line : List ℕ → List ℕ
first_line [] = []
first_line (byte ∷ text) = if is_line_feed byte then byte ∷ [] else byte ∷ first_line text

-- what stands after it
abbrev pub after_line : List ℕ → List ℕ
after_line [] = []
after_line (byte ∷ text) = if is_line_feed byte then text else after_line text

-- the folder that begins with a text whose first line has this number: its files, its first bad line if it has one, and what stands after
-- it, from a line on that has the next number
pub record IsPart (text : List ℕ) (line : ℕ) (folder : List File) (bad : Option ℕ) (rest : List ℕ) (next : ℕ) : Type 0 where
  pub files : folder ≡ files_of (lines_of text)
  pub ends : none_or_first ends_folder (lines_of rest) ≡ true
  pub later : later_folders (lines_of rest) ≡ later_folders (lines_of text)
  pub script : script_text (lines_of rest) ≡ script_text (lines_of text)
  pub number : script_line next (lines_of rest) ≡ script_line line (lines_of text)
  pub wrong : option_or bad (bad_path next (lines_of rest)) ≡ bad_line line (lines_of text)
  pub room : next + length rest ≤ line + length text
  pub within : length rest ≤ length text
