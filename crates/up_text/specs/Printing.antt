-- Tokens printed plainly, and what is read from that.
use Rattle.std.specs.Prelude.{ℕ, ◌+◌, Bool, false, true, ◌&&◌, List, [], ◌∷◌, ◌++◌, map}
use Rattle.std.specs.List.{list_all}
use Rattle.up_value.specs.Values.{Bytes}
use Rattle.up_text.specs.Lexemes.{Lexeme, Word, End}
use Rattle.up_text.specs.Lexer.{is_ordinary}
use Rattle.up_text.specs.Places.{token_of}
use Rattle.up_text.specs.Scripts.{is_filled}

-- a word of bytes that stand for themselves: no blank, line feed, `#`, backslash or quote
abbrev pub is_word : Bytes → Bool
is_word word = is_filled word && list_all (is_ordinary false) word

-- a stanza of such words
abbrev pub is_stanza : List Bytes → Bool
is_stanza words = is_filled words && list_all is_word words

-- a stanza as a line, with a space after each word
abbrev pub stanza_line : List Bytes → Bytes
stanza_line [] = 10 ∷ []
stanza_line (word ∷ words) = word ++ 32 ∷ stanza_line words

-- each stanza on a line of its own
abbrev pub stanza_lines : List (List Bytes) → Bytes
stanza_lines [] = []
stanza_lines (words ∷ stanzas) = stanza_line words ++ stanza_lines stanzas

-- the tokens of such stanzas, from this line on
abbrev pub tokens_from : ℕ → List (List Bytes) → List Lexeme
tokens_from line [] = []
tokens_from line (words ∷ stanzas) = map (λ word. Word (token_of line word true)) words ++ End
    ∷ tokens_from (line + 1) stanzas
