-- A text without its comments.
use Rattle.std.specs.Prelude.{ℕ, Bool, false, not, if◌then◌else◌, List, [], ◌∷◌, ◌++◌}
use Rattle.up_value.specs.Values.{Bytes}
use Rattle.up_text.specs.declared.lexer.comments.Standing.{Standing}
use Rattle.up_text.specs.declared.lexer.comments.Standing.TheVariants as stands
use Rattle.up_text.specs.Tokens.{Mode, Outside, Comment, Escaped, Continued, Quoted, QuotedEscape, is_hash, is_line_feed, mode_after}

-- whether a byte belongs to a comment, by where it stands: a # outside quotes, and what follows it up to the line end
abbrev pub is_comment : Mode → ℕ → Bool
is_comment (Outside joined) byte = is_hash byte
is_comment Comment byte = not (is_line_feed byte)
is_comment other byte = false

-- a byte, where it belongs to no comment
abbrev pub unless_comment : Mode → ℕ → Bytes
unless_comment mode byte = if is_comment mode byte then [] else byte ∷ []

-- the bytes that belong to no comment, where the first stands so
abbrev pub bytes_outside_comments : Mode → Bytes → Bytes
bytes_outside_comments mode [] = []
bytes_outside_comments mode (byte ∷ text) =
    unless_comment mode byte ++ bytes_outside_comments (mode_after mode byte text) text

-- a text without its comments; the line ends after them stay
unfoldable pub without_comments : Bytes → Bytes
without_comments text = bytes_outside_comments (Outside false) text

-- a mode in which nothing is joined
abbrev pub without_joining : Mode → Mode
without_joining (Outside joined) = Outside false
without_joining (Continued joined) = Continued false
without_joining (Quoted quote joined) = Quoted quote false
without_joining other = other

-- the mode of a byte that stands so: whether blanks are joined makes no comment
abbrev pub mode_of : Standing → Mode
mode_of stands.Outside = Outside false
mode_of stands.Comment = Comment
mode_of stands.Escaped = Escaped
mode_of stands.Continued = Continued false
mode_of (stands.Quoted quote) = Quoted quote false
mode_of (stands.QuotedEscape quote) = QuotedEscape quote
