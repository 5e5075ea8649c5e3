-- All that a text means, token by token: what reading over and over gives.
use Rattle.std.specs.Prelude.{◌≡◌, ◌⊎◌, ℕ, zero, suc, ◌+◌, ◌*◌, if◌then◌else◌, List, [], ◌∷◌, length, Option, None, Some, Result, Ok, Err}
use Rattle.up_value.specs.declared.fault.TextFault.{TextFault}
use Rattle.up_value.specs.declared.fault.TextFault.TheVariants.{Memory}
use Rattle.up_value.specs.Values.{Bytes}
use Rattle.up_text.specs.declared.token.Token.{Token}
use Rattle.up_text.specs.Places.{Place, start, Reading, Got, Ended, Fails, line_at, reading}

-- what is read: a token; a token that is refused, with its line, and why; the end of a stanza
pub data Lexeme : Type 0 where
  Word : (token : Token) → Lexeme
  Bad : (line : ℕ) → (fault : TextFault) → Lexeme
  End : Lexeme

-- one reading, and then the others. Outside a stanza an end is that of the text
abbrev pub lexeme_by : (Place → List Lexeme) → Place → Reading → List Lexeme
lexeme_by more place (Got token after) = Word token ∷ more after
lexeme_by more place (Ended after) = if place.inside then End ∷ more after else []
lexeme_by more place (Fails fault) = Bad (line_at place) fault ∷ []

-- so many readings
unfoldable pub lexemes_from : ℕ → Place → List Lexeme
lexemes_from zero place = []
lexemes_from (suc n) place = lexeme_by (λ after. lexemes_from n after) place (reading place)

-- a number of readings that is always enough: each passes a byte of the text, or ends the last stanza
abbrev pub readings_left : Place → ℕ
readings_left place = 2 * length place.rest + (if place.inside then 2 else 1)

-- what is read from a place on, with the switch for parentheses as it is
unfoldable pub lexemes_of : Place → List Lexeme
lexemes_of place = lexemes_from (readings_left place) place

-- what is read from a text
abbrev pub lexemes : Bytes → List Lexeme
lexemes text = lexemes_of (start text)

-- a lexeme before the first stanza
abbrev pub put_front : Lexeme → List (List Lexeme) → List (List Lexeme)
put_front lexeme [] = (lexeme ∷ []) ∷ []
put_front lexeme (stanza ∷ stanzas) = (lexeme ∷ stanza) ∷ stanzas

-- the stanzas of lexemes, each up to its end
abbrev pub split_ends : List Lexeme → List (List Lexeme)
split_ends [] = []
split_ends (End ∷ later) = [] ∷ split_ends later
split_ends (Bad line fault ∷ later) = put_front (Bad line fault) (split_ends later)
split_ends (Word token ∷ later) = put_front (Word token) (split_ends later)

-- the stanzas of a text; at a token that is refused the last one breaks off
abbrev pub stanzas : Bytes → List (List Lexeme)
stanzas text = split_ends (lexemes text)

-- what one reading gives and leaves of lexemes: nothing at the text's end; nothing at a stanza's end, which is passed; the fault of a
-- refused token, which is never passed; a token, which is passed, or the fault of memory, if it is not
abbrev pub Reads : List Lexeme → Result (Option Token) TextFault → List Lexeme → Type 0
Reads [] result new = (result ≡ Ok None) × (new ≡ [])
Reads (End ∷ later) result new = (result ≡ Ok None) × (new ≡ later)
Reads (Bad line fault ∷ later) result new = (result ≡ Err fault) × (new ≡ Bad line fault ∷ later)
Reads (Word token ∷ later) result new =
    ((result ≡ Ok (Some token)) × (new ≡ later)) ⊎ ((result ≡ Err Memory) × (new ≡ Word token ∷ later))

-- the line of the token or of the refused token that is read next; elsewhere any line
abbrev pub IsLineOf : List Lexeme → ℕ → Type 0
IsLineOf (Bad first fault ∷ later) line = line ≡ first
IsLineOf (Word token ∷ later) line = line ≡ token.line
IsLineOf other line = Unit {0}
