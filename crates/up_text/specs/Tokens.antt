-- How the text of a job file or a script is read as tokens, by init(5).
use Rattle.std.specs.Prelude.{ℕ, ◌+◌, ◌-◌, Bool, true, false, ◌||◌, ◌&&◌, ◌==◌, if◌then◌else◌, List, [], ◌∷◌}
use Rattle.up_pattern.specs.Lists.{begins}
use Rattle.up_value.specs.declared.fault.TextFault.{TextFault}
use Rattle.up_value.specs.declared.fault.TextFault.TheVariants.{UnterminatedQuote, TrailingBackslash}
use Rattle.up_value.specs.Values.{Bytes}

-- what a byte is: one that a token is given; a quote or a backslash, which belongs to a token and gives it nothing; one of a
-- quoted piece that is joined with others to one space; a parenthesis that is a token of its own; a blank between tokens; one of a
-- comment, or joined with other blanks; a line end that ends the stanza. After the last byte: why the token is refused
pub data Mark : Type 0 where
  Part : (byte : ℕ) → Mark
  Quoting : (byte : ℕ) → Mark
  Folded : Mark
  Alone : (byte : ℕ) → Mark
  Blank : (byte : ℕ) → Mark
  Passed : Mark
  Stop : Mark
  Fail : (fault : TextFault) → Mark

-- where a byte stands: outside quotes and comments; in a comment; after a backslash; between a backslash and a line end; in a
-- piece quoted by this byte; after a backslash there. A run of blanks is joined once it had a line end
pub data Mode : Type 0 where
  Outside : (joined : Bool) → Mode
  Comment : Mode
  Escaped : Mode
  Continued : (joined : Bool) → Mode
  Quoted : (quote : ℕ) (joined : Bool) → Mode
  QuotedEscape : (quote : ℕ) → Mode

-- a line feed
unfoldable pub is_line_feed : ℕ → Bool
is_line_feed byte = byte == 10

-- a space or a tab
unfoldable pub is_blank : ℕ → Bool
is_blank byte = byte == 32 || byte == 9

-- the # before a comment
unfoldable pub is_hash : ℕ → Bool
is_hash byte = byte == 35

-- a quote, " or '
unfoldable pub is_quote : ℕ → Bool
is_quote byte = byte == 34 || byte == 39

-- a backslash
unfoldable pub is_backslash : ℕ → Bool
is_backslash byte = byte == 92

-- a parenthesis, ( or )
unfoldable pub is_paren : ℕ → Bool
is_paren byte = byte == 40 || byte == 41

-- a text that goes on to a line end over nothing but blanks, perhaps by a backslash
abbrev pub reaches_feed : Bytes → Bool
reaches_feed [] = false
reaches_feed (byte ∷ text) = is_line_feed byte || (is_blank byte && reaches_feed text)
    || (is_backslash byte && begins is_line_feed text)

-- a line end ends the stanza if no parenthesis is open
abbrev pub feed_mark : ℕ → Mark
feed_mark depth = if depth == 0 then Stop else Passed

-- what a byte is outside quotes and comments, by what stands after it
abbrev pub mark_outside : Bool → ℕ → Bool → ℕ → Bytes → Mark
mark_outside parens depth joined byte text =
    if is_line_feed byte then feed_mark depth
    else (if is_blank byte then (if joined || reaches_feed text then Passed else Blank byte)
    else (if is_hash byte then Passed
    else (if is_backslash byte then (if begins is_line_feed text then Passed else Quoting byte)
    else (if is_quote byte then Quoting byte
    else (if parens && is_paren byte then Alone byte
    else Part byte)))))

-- what it is inside quotes: a run of blanks with a line end in it is one space, which the first line end gives
abbrev pub mark_quoted : ℕ → Bool → ℕ → Bytes → Mark
mark_quoted quote joined byte text =
    if byte == quote then Quoting byte
    else (if is_line_feed byte then (if joined then Folded else Part 32)
    else (if is_blank byte then (if joined || reaches_feed text then Folded else Part byte)
    else (if is_backslash byte then (if begins is_line_feed text then Folded else Quoting byte)
    else Part byte)))

-- what a byte is
abbrev pub mark_of : Bool → ℕ → Mode → ℕ → Bytes → Mark
mark_of parens depth (Outside joined) byte text = mark_outside parens depth joined byte text
mark_of parens depth Comment byte text = if is_line_feed byte then feed_mark depth else Passed
mark_of parens depth Escaped byte text = Part byte
mark_of parens depth (Continued joined) byte text = if joined then Passed else Blank 32
mark_of parens depth (Quoted quote joined) byte text = mark_quoted quote joined byte text
mark_of parens depth (QuotedEscape quote) byte text = Part byte

-- where the byte after one outside quotes and comments stands
abbrev pub mode_outside : Bool → ℕ → Bytes → Mode
mode_outside joined byte text =
    if is_blank byte then Outside joined
    else (if is_hash byte then Comment
    else (if is_backslash byte then (if begins is_line_feed text then Continued joined else Escaped)
    else (if is_quote byte then Quoted byte false
    else Outside false)))

-- where the byte after one inside quotes stands
abbrev pub mode_quoted : ℕ → Bool → ℕ → Bytes → Mode
mode_quoted quote joined byte text =
    if byte == quote then Outside false
    else (if is_line_feed byte then Quoted quote true
    else (if is_blank byte then Quoted quote joined
    else (if is_backslash byte then (if begins is_line_feed text then Quoted quote joined
    else QuotedEscape quote)
    else Quoted quote false)))

-- where the next byte stands
abbrev pub mode_after : Mode → ℕ → Bytes → Mode
mode_after (Outside joined) byte text = mode_outside joined byte text
mode_after Comment byte text = if is_line_feed byte then Outside false else Comment
mode_after Escaped byte text = Outside false
mode_after (Continued joined) byte text = Outside true
mode_after (Quoted quote joined) byte text = mode_quoted quote joined byte text
mode_after (QuotedEscape quote) byte text = Quoted quote false

-- how many parentheses are open after a mark
abbrev pub open_after : ℕ → Mark → ℕ
open_after depth (Alone byte) = if byte == 40 then depth + 1 else depth - 1
open_after depth other = depth

-- what stands after the last byte: nothing, or the fault of a token that isn't whole
abbrev pub end_marks : Mode → List Mark
end_marks Escaped = Fail TrailingBackslash ∷ []
end_marks (Quoted quote joined) = Fail UnterminatedQuote ∷ []
end_marks (QuotedEscape quote) = Fail UnterminatedQuote ∷ []
end_marks other = []

-- the marks of a text, one for each byte; whether parentheses are tokens, and how many are open
abbrev pub marks : Bool → ℕ → Mode → Bytes → List Mark
marks parens depth mode [] = end_marks mode
marks parens depth mode (byte ∷ text) =
    let mark = mark_of parens depth mode byte text in
    mark ∷ marks parens (open_after depth mark) (mode_after mode byte text) text
