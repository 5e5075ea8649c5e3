-- The lines of a script, up to `end script`.
use Rattle.std.specs.Prelude.{◌≡◌, ◌⊎◌, ℕ, ◌+◌, Bool, true, false, ◌&&◌, if◌then◌else◌, List, [], ◌∷◌, length, Option, None, Some, Result, Ok, Err, codes}
use Rattle.std.specs.List.{filter, concat, before_first, onto_first, slice_split}
use Rattle.std.specs.Str.{bytes_eq}
use Rattle.up_value.specs.declared.fault.TextFault.{TextFault}
use Rattle.up_value.specs.declared.fault.TextFault.TheVariants.{Memory}
use Rattle.up_value.specs.Values.{Bytes}
use Rattle.up_text.specs.Tokens.{is_line_feed, is_blank, is_hash}
use Rattle.up_text.specs.Places.{Place, place_after, after_stanza}

-- the lines of a text, each with its line feed
abbrev pub lines_of : Bytes → List Bytes
lines_of [] = []
lines_of (byte ∷ text) = if is_line_feed byte then (byte ∷ []) ∷ lines_of text
    else onto_first byte (lines_of text)

-- a list with an item in it
abbrev pub is_filled : {X : Type 0} → List X → Bool
is_filled [] = false
is_filled (x ∷ xs) = true

-- the words of a text, as blanks separate them
abbrev pub words_in : Bytes → List Bytes
words_in text = filter is_filled (slice_split is_blank text)

-- the words of a line
abbrev pub line_words : Bytes → List Bytes
line_words line = words_in (before_first is_line_feed line)

-- no word, or one that begins a comment
abbrev pub may_follow : Bytes → Bool
may_follow [] = true
may_follow (byte ∷ word) = is_hash byte

-- whether these are the words `end` and `script`, perhaps with blanks and a comment after them
abbrev pub are_end_words : List Bytes → Bool
are_end_words [] = false
are_end_words (first ∷ []) = false
are_end_words (first ∷ second ∷ []) = bytes_eq first (codes "end") && bytes_eq second (codes "script")
are_end_words (first ∷ second ∷ third ∷ others) =
    bytes_eq first (codes "end") && (bytes_eq second (codes "script") && may_follow third)

-- the line that ends a script
unfoldable pub is_end_line : Bytes → Bool
is_end_line line = are_end_words (line_words line)

-- the lines of a script, if its end line is there: those before it, and the end line
abbrev pub script_in : List Bytes → Option (List Bytes × Bytes)
script_in [] = None
script_in (line ∷ lines) = if is_end_line line then Some ([], line) else with_line line (script_in lines)
  where
    with_line : Bytes → Option (List Bytes × Bytes) → Option (List Bytes × Bytes)
    with_line line None = None
    with_line line (Some script) = Some (line ∷ script.0, script.1)

-- what reading a script's lines may answer: the lines before its end line, which is passed too, or the fault of memory; nothing
-- if there is no end line, and then the place stays
abbrev pub ScriptUnless : Place → Option (List Bytes × Bytes) → Result (Option Bytes) TextFault → Place
    → Type 0
ScriptUnless old None result new = (result ≡ Ok None) × (new ≡ old)
ScriptUnless old (Some script) result new =
    ((result ≡ Ok (Some (concat script.0)))
    × (new ≡ after_stanza (place_after (length (concat script.0) + length script.1) old)))
    ⊎ ((result ≡ Err Memory) × (new ≡ old))

abbrev pub ReadsScript : Place → Result (Option Bytes) TextFault → Place → Type 0
ReadsScript old result new = ScriptUnless old (script_in (lines_of old.rest)) result new
