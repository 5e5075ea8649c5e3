-- Where a text is read, and what each reading gives and leaves.
use Rattle.std.specs.Prelude.{◌≡◌, ◌⊎◌, ℕ, ◌+◌, Bool, true, false, not, ◌&&◌, ◌||◌, if◌then◌else◌, List, [], ◌∷◌, length, take, drop, Option, None, Some, Result, Ok, Err}
use Rattle.std.specs.List.{list_all, flat_map, prefix_len, take_while}
use Rattle.up_value.specs.declared.fault.TextFault.{TextFault}
use Rattle.up_value.specs.declared.fault.TextFault.TheVariants.{Memory}
use Rattle.up_value.specs.Values.{Bytes}
use Rattle.up_text.specs.declared.token.Token.{Token}
use Rattle.up_text.specs.Tokens.{Mark, Part, Quoting, Folded, Alone, Blank, Passed, Stop, Fail, Outside, is_line_feed, open_after, marks}

-- a place in a text: what is left of the text, the line of its first byte, whether a token of the stanza was read, whether
-- parentheses are tokens, and how many are open
pub record Place : Type 0 where
  pub rest : Bytes
  pub line : ℕ
  pub inside : Bool
  pub parens : Bool
  pub depth : ℕ

-- the beginning of a text
abbrev pub start : Bytes → Place
start text = record { rest = text; line = 1; inside = false; parens = false; depth = 0 }

-- what a reading gives and the place after it: a token; a stanza's end or the text's; or why a token is refused
pub data Reading : Type 0 where
  Got : (token : Token) (after : Place) → Reading
  Ended : (after : Place) → Reading
  Fails : (fault : TextFault) → Reading

-- how many line ends a text has
abbrev pub feeds : Bytes → ℕ
feeds [] = 0
feeds (byte ∷ text) = if is_line_feed byte then feeds text + 1 else feeds text

-- the place so many bytes further
abbrev pub place_after : ℕ → Place → Place
place_after n place = record place { rest = drop n place.rest; line = place.line + feeds (take n place.rest) }

-- the place after a token
abbrev pub within : ℕ → Place → Place
within depth place = record place { inside = true; depth = depth }

-- the place after a stanza
abbrev pub after_stanza : Place → Place
after_stanza place = record place { inside = false; depth = 0 }

-- a mark between two tokens
abbrev pub is_space : Mark → Bool
is_space (Blank byte) = true
is_space Passed = true
is_space other = false

-- a mark that ends a stanza
abbrev pub is_stop : Mark → Bool
is_stop Stop = true
is_stop other = false

-- a mark before the next token: outside a stanza, ends of lines are passed too
abbrev pub is_gap : Bool → Mark → Bool
is_gap inside mark = is_space mark || (not inside && is_stop mark)

-- a mark of a token's spelling
abbrev pub is_spelled : Mark → Bool
is_spelled (Part byte) = true
is_spelled (Quoting byte) = true
is_spelled Folded = true
is_spelled (Fail fault) = true
is_spelled other = false

-- a byte that stands for itself, without quotes and backslashes
abbrev pub is_plain : Mark → Bool
is_plain (Part byte) = true
is_plain other = false

-- what a token is given
abbrev pub token_bytes : Mark → Bytes
token_bytes (Part byte) = byte ∷ []
token_bytes (Alone byte) = byte ∷ []
token_bytes other = []

-- what is written in a command's text
abbrev pub command_bytes : Mark → Bytes
command_bytes (Part byte) = byte ∷ []
command_bytes (Quoting byte) = byte ∷ []
command_bytes (Alone byte) = byte ∷ []
command_bytes (Blank byte) = byte ∷ []
command_bytes other = []

-- why these marks are refused, if they are
abbrev pub fault_in : List Mark → Option TextFault
fault_in [] = None
fault_in (Fail fault ∷ ms) = Some fault
fault_in (mark ∷ ms) = fault_in ms

-- the marks of what is left
unfoldable pub marks_at : Place → List Mark
marks_at place = marks place.parens place.depth (Outside false) place.rest

-- how many bytes stand before the next token or the stanza's end
unfoldable pub gap_at : Place → ℕ
gap_at place = prefix_len (is_gap place.inside) (marks_at place)

-- a token with this line and text, and whether it is spelled without quotes and backslashes
abbrev pub token_of : ℕ → Bytes → Bool → Token
token_of line text plain = record { line = line; text = text; plain = plain }

-- what a spelling gives: a longest run of a token's marks
abbrev pub spelling_read : Place → List Mark → Option TextFault → Reading
spelling_read place spelling (Some fault) = Fails fault
spelling_read place spelling None =
    Got (token_of place.line (flat_map token_bytes spelling) (list_all is_plain spelling))
    (within place.depth (place_after (length spelling) place))

-- what is read at a place whose marks begin with no gap
abbrev pub read_at : Place → List Mark → Reading
read_at place [] = Ended (after_stanza place)
read_at place (Stop ∷ ms) = Ended (after_stanza (place_after 1 place))
read_at place (Alone byte ∷ ms) =
    Got (token_of place.line (byte ∷ []) true)
    (within (open_after place.depth (Alone byte)) (place_after 1 place))
read_at place (Fail fault ∷ ms) = Fails fault
read_at place (Blank byte ∷ ms) = Ended (after_stanza place)
read_at place (Passed ∷ ms) = Ended (after_stanza place)
read_at place (mark ∷ ms) = let spelling =
    take_while is_spelled (mark ∷ ms) in spelling_read place spelling (fault_in spelling)

-- what the next reading gives: after the gap, a token or an end
unfoldable pub reading : Place → Reading
reading place = read_at (place_after (gap_at place) place) (drop (gap_at place) (marks_at place))

-- what a call that reads at a place may answer: what is read, and the place after it; or the fault of memory, or why the text is
-- refused, and the place stays
abbrev pub Answers : Place → Reading → Result (Option Token) TextFault → Place → Type 0
Answers old (Got token after) result new =
    ((result ≡ Ok (Some token)) × (new ≡ after)) ⊎ ((result ≡ Err Memory) × (new ≡ old))
Answers old (Ended after) result new = (result ≡ Ok None) × (new ≡ after)
Answers old (Fails fault) result new = (result ≡ Err fault) × (new ≡ old)

-- the line of the next token, or of the stanza's or the text's end
abbrev pub line_at : Place → ℕ
line_at place = place.line + feeds (take (gap_at place) place.rest)

-- whether no token and no stanza's end is left
unfoldable pub is_finished : Place → Bool
is_finished place = not place.inside && list_all (is_gap false) (marks_at place)

-- the switch for parentheses as tokens; none is open then
abbrev pub with_parens : Bool → Place → Place
with_parens on place = record place { parens = on; depth = 0 }
