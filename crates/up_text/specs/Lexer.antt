-- What the parts of the lexer read.
use Rattle.std.specs.Prelude.{◌≡◌, ℕ, ◌+◌, ◌-◌, ◌<◌, ◌^◌, Bool, true, false, not, ◌||◌, ◌&&◌, ◌==◌, nat_le, nat_lt, if◌then◌else◌, List, [], ◌∷◌, ◌++◌, length, drop, Option, Some, None, Result, Ok, Err, string_bytes}
use Rattle.std.specs.Borrow.{Bor}
use Rattle.std.specs.List.{flat_map, list_all, concat}
use Rattle.up_value.specs.declared.fault.TextFault.{TextFault}
use Rattle.up_value.specs.declared.fault.TextFault.TheVariants.{Memory}
use Rattle.up_value.specs.Values.{Bytes}
use Rattle.up_text.specs.declared.lexer.Lexer.TheInside.{Inside}
use Rattle.up_text.specs.declared.lexer.draft.Draft.TheInside as draft
use Rattle.up_text.specs.declared.token.Token.{Token}
use Rattle.up_text.specs.Tokens.{Mark, Part, Quoting, Folded, Fail, Mode, Outside, marks, is_line_feed, is_blank, is_hash, is_quote, is_backslash, is_paren}
use Rattle.up_pattern.specs.Lists.{begins}
use Rattle.up_text.specs.Scripts.{lines_of, script_in, words_in}
use Rattle.up_text.specs.Places.{Place, Reading, Got, Ended, Fails, place_after, gap_at, marks_at, read_at, feeds, is_gap, token_bytes, command_bytes}

-- a place
abbrev pub place : Bytes → ℕ → Bool → Bool → ℕ → Place
place rest line inside parens depth = record {
  rest = rest;
  line = line;
  inside = inside;
  parens =
      parens;
  depth = depth;
}

-- where a lexer stands
abbrev pub place_of : Inside → Place
place_of lexer = place lexer.rest.now lexer.line lexer.inside lexer.parens lexer.depth

-- its numbers fit, also further on in the text
pub record IsInRange (lexer : Inside) : Type 0 where
  pub lines : lexer.line + length lexer.rest.now < 2 ^ 32
  pub parens : lexer.depth + length lexer.rest.now < 2 ^ 32

-- this byte
abbrev pub is_byte : ℕ → ℕ → Bool
is_byte byte other = other == byte

-- a byte of ASCII
unfoldable pub is_low : ℕ → Bool
is_low byte = nat_lt byte 128

-- a byte that goes on with a character or begins one that isn't ASCII
unfoldable pub is_high : ℕ → Bool
is_high byte = nat_le 128 byte

-- a byte before a line's end
unfoldable pub is_in_line : ℕ → Bool
is_in_line byte = not (is_line_feed byte)

-- a byte that stands for itself outside quotes
unfoldable pub is_ordinary : Bool → ℕ → Bool
is_ordinary parens byte =
    not (is_line_feed byte || is_blank byte || is_hash byte || is_backslash byte || is_quote byte
    || (parens && is_paren byte))

-- a byte, no blank, that stands for itself in a piece quoted by this quote
unfoldable pub is_literal : ℕ → ℕ → Bool
is_literal quote byte = not (byte == quote || is_line_feed byte || is_blank byte || is_backslash byte)

-- a text that is empty or begins with a line feed
abbrev pub is_line_end : Bytes → Bool
is_line_end [] = true
is_line_end (byte ∷ text) = is_line_feed byte

-- a text that begins with an escaped line end
abbrev pub begins_joint : Bytes → Bool
begins_joint [] = false
begins_joint (byte ∷ text) = is_backslash byte && begins is_line_feed text

-- a text that begins with a line end, escaped or not
abbrev pub begins_fold : Bytes → Bool
begins_fold text = begins is_line_feed text || begins_joint text

-- whether line feeds are part of a gap
abbrev pub passes_feeds : Bool → ℕ → Bool
passes_feeds inside depth = not inside || not (depth == 0)

-- a text that begins with a part of a gap
abbrev pub begins_gap : Bool → Bytes → Bool
begins_gap passes text = begins is_blank text || begins is_hash text || begins_joint text
    || (passes && begins is_line_feed text)

-- a text where a token that was read so far ends
abbrev pub ends_token : Bool → Bytes → Bool
ends_token parens text =
    is_line_end text || begins is_blank text || begins is_hash text || begins_joint text
    || (parens && begins is_paren text)

-- a text is a longest run of bytes that pass, and what stands after it
pub record Splits (passes : ℕ → Bool) (text front rest : Bytes) : Type 0 where
  pub joined : text ≡ front ++ rest
  pub all : list_all passes front ≡ true
  pub ends : begins passes rest ≡ false

-- a text is its first character and what stands after it
pub record SplitsChar (text front rest : Bytes) : Type 0 where
  pub first : ℕ
  pub others : Bytes
  pub is_front : front ≡ first ∷ others
  pub joined : text ≡ front ++ rest
  pub high : list_all is_high others ≡ true

-- a text under way, unless memory was refused
abbrev pub draft_of : draft.Inside → Option Bytes
draft_of d = if d.refused then None else Some (string_bytes d.text)

-- these bytes are under way, or memory was refused
abbrev pub Holds : Option Bytes → Bytes → Type 0
Holds None bytes = Unit {0}
Holds (Some held) bytes = held ≡ bytes

-- what is appended for a mark: with quotes and backslashes, or without
abbrev pub mark_bytes : Bool → Mark → Bytes
mark_bytes keep mark = if keep then command_bytes mark else token_bytes mark

-- a mark of a spelling that isn't refused
abbrev pub is_spelling : Mark → Bool
is_spelling (Part byte) = true
is_spelling (Quoting byte) = true
is_spelling Folded = true
is_spelling other = false

-- part of a spelling: its bytes and their marks, the mode and the line after it, and what is appended for it
pub record Run (parens keep : Bool) (mode : Mode) (text : Bytes) (line : ℕ) (after : Mode) (rest : Bytes)
    (reached : ℕ) (old new : Option Bytes) : Type 0 where
  pub bytes : Bytes
  pub front : List Mark
  pub joined : text ≡ bytes ++ rest
  pub same : (depth : ℕ) → marks parens depth mode text ≡ front ++ marks parens depth after rest
  pub long : length front ≡ length bytes
  pub spelled : list_all is_spelling front ≡ true
  pub counted : reached ≡ line + feeds bytes
  pub pushed : (held : Bytes) → Holds old held → Holds new (held ++ flat_map (mark_bytes keep) front)

-- a spelling that is refused at the text's end
pub record Broken (parens : Bool) (mode : Mode) (text : Bytes) (fault : TextFault) : Type 0 where
  pub front : List Mark
  pub same : (depth : ℕ) → marks parens depth mode text ≡ front ++ Fail fault ∷ []
  pub spelled : list_all is_spelling front ≡ true

-- a character after a backslash, and what is appended for both
pub record Escape (keep : Bool) (text : Bytes) (old new : Option Bytes) (rest : Bytes) : Type 0 where
  pub first : ℕ
  pub others : Bytes
  pub joined : text ≡ 92 ∷ (first ∷ others) ++ rest
  pub high : list_all is_high others ≡ true
  pub pushed : (held : Bytes) → Holds old held
      → Holds new ((held ++ (if keep then 92 ∷ [] else [])) ++ first ∷ others)

abbrev pub IsEscape : Bool → Bytes → Option Bytes → Option Bytes → Option (Bor Bytes) → Type 0
IsEscape keep text old new None = text ≡ 92 ∷ []
IsEscape keep text old new (Some rest) = Escape keep text old new rest.now

-- part of a gap: its bytes and their marks, and the line after it
pub record GapRun (inside parens : Bool) (depth : ℕ) (joined : Bool) (text : Bytes) (line : ℕ) (rest : Bytes)
    (reached : ℕ) : Type 0 where
  pub bytes : Bytes
  pub front : List Mark
  pub after : Bool
  pub is_text : text ≡ bytes ++ rest
  pub same : marks parens depth (Outside joined) text ≡ front ++ marks parens depth (Outside after) rest
  pub long : length front ≡ length bytes
  pub gaps : list_all (is_gap inside) front ≡ true
  pub counted : reached ≡ line + feeds bytes

-- the place after the gap, whose marks are those after the gap's
pub record IsAfterGap (before after : Place) : Type 0 where
  pub at : after ≡ place_after (gap_at before) before
  pub marked : marks_at after ≡ drop (gap_at before) (marks_at before)

-- a token is read at a place, and this is the place after it
abbrev pub GivesToken : Place → Token → Place → Type 0
GivesToken at token after = read_at at (marks_at at) ≡ Got token after

-- the fault of memory if a token is read, or why it is refused
abbrev pub IsFaultOf : Reading → TextFault → Type 0
IsFaultOf (Got token after) fault = fault ≡ Memory
IsFaultOf (Ended after) fault = ⊥
IsFaultOf (Fails refused) fault = fault ≡ refused

abbrev pub GivesFault : Place → TextFault → Type 0
GivesFault at fault = IsFaultOf (read_at at (marks_at at)) fault

-- a byte of a word
unfoldable pub is_in_word : ℕ → Bool
is_in_word byte = not (is_blank byte)

-- the first word of a text, which is empty if there is none, and what stands after it
abbrev pub BeginsWord : Bytes → Bytes → Bytes → Type 0
BeginsWord text [] rest = words_in text ≡ []
BeginsWord text (byte ∷ word) rest = words_in text ≡ (byte ∷ word) ∷ words_in rest

-- the first line of a text, what stands after it, and how many line feeds it has
pub record BeginsLine (text line rest : Bytes) (count : ℕ) : Type 0 where
  pub joined : text ≡ line ++ rest
  pub lines : lines_of text ≡ line ∷ lines_of rest
  pub counted : count ≡ feeds line
  pub filled : 0 < length line

-- the lines of a script and its end line, which begin a text, and the place after them
pub record EndsScript (text : Bytes) (line : ℕ) (script rest : Bytes) (reached : ℕ) : Type 0 where
  pub before : List Bytes
  pub last : Bytes
  pub found : script_in (lines_of text) ≡ Some (before, last)
  pub joined : text ≡ (concat before ++ last) ++ rest
  pub lines : script ≡ concat before
  pub counted : reached ≡ line + feeds (concat before ++ last)

-- how many parentheses are open after the one that begins a text
abbrev pub open_at : Bytes → ℕ → ℕ
open_at text depth = if begins (is_byte 40) text then depth + 1 else depth - 1
