-- The stanzas of a file as they stand there: the line on which each begins, and its words.
use Rattle.std.specs.Prelude.{◌≡◌, ℕ, zero, suc, Bool, false, ◌||◌, ◌&&◌, if◌then◌else◌, List, [], ◌∷◌, length, Option, None, Some, codes}
use Rattle.std.specs.List.{list_any}
use Rattle.std.specs.Str.{bytes_eq}
use Rattle.up_value.specs.declared.fault.TextFault.{TextFault}
use Rattle.up_value.specs.Values.{Bytes}
use Rattle.up_text.specs.Places.{Place, Reading, Got, Ended, Fails, start, reading, with_parens, line_at, is_finished}
use Rattle.up_text.specs.Scripts.{lines_of, script_in}
use Rattle.up_stanza.specs.declared.action.Action.{Action}
use Rattle.up_stanza.specs.Stanzas.{Found, texts_at, script_of}
use Rattle.up_lint.specs.declared.head.Head.{Head}
use Rattle.up_lint.specs.declared.next.Next.{Next}
use Rattle.up_lint.specs.declared.next.Next.TheVariants as next

-- what the next call of a lexer gives, and where it stands then
abbrev pub Continues : Place → Place → Next → Type 0
Continues old new (next.Token token) = reading old ≡ Got token new
Continues old new next.End = reading old ≡ Ended new
Continues old new next.Refused = (fault : TextFault) × (reading old ≡ Fails fault)

-- a part of a file is read as it is found
abbrev pub IsFound : {X : Type 0} → Found X → Option X → Place → Type 0
IsFound found None new = found ≡ None
IsFound found (Some x) new = found ≡ Some (x, new)

-- whether parentheses are words of their own after a stanza's first word
abbrev pub takes_parens : Bytes → Bool
takes_parens word = bytes_eq word (codes "start") || bytes_eq word (codes "stop")

-- a word before others; no parenthesis is a word of its own any more after them
abbrev pub after_word : Bytes → Found (List Bytes) → Found (List Bytes)
after_word word None = None
after_word word (Some found) = Some (word ∷ found.0, with_parens false found.1)

-- the words of a stanza that begins so
abbrev pub words_by : Reading → Found (List Bytes)
words_by (Got token after) = after_word token.text (texts_at (with_parens (takes_parens token.text) after))
words_by (Ended after) = None
words_by (Fails fault) = None

-- the words of the stanza at a place, and the place after it; nothing if one is refused
abbrev pub words_at : Place → Found (List Bytes)
words_at place = words_by (reading place)

-- whether a word begins what a process other than the main one runs
abbrev pub is_process : Bytes → Bool
is_process word = bytes_eq word (codes "pre-start") || bytes_eq word (codes "post-start")
    || bytes_eq word (codes "pre-stop") || bytes_eq word (codes "post-stop")

-- whether a script stands on the lines after these words
abbrev pub opens_script : List Bytes → Bool
opens_script [] = false
opens_script (word ∷ []) = bytes_eq word (codes "script")
opens_script (word ∷ second ∷ []) = is_process word && bytes_eq second (codes "script")
opens_script (word ∷ second ∷ third ∷ others) = false

-- the place after a script; without its end line it is passed over
abbrev pub after_script : Place → Found Action → Place
after_script place None = place
after_script place (Some found) = found.1

-- the place after a stanza of these words, which end there
abbrev pub after_words : List Bytes → Place → Place
after_words words place = if opens_script words
    then after_script place (script_of place (script_in (lines_of place.rest))) else place

-- a stanza of these words, and the place after it
abbrev pub head_by : Bool → ℕ → Found (List Bytes) → Found Head
head_by over line None = None
head_by over line (Some found) =
    Some (record { over = over; line = line; words = found.0 }, after_words found.0 found.1)

-- the stanza at a place, and the place after it; nothing if one of its words is refused
abbrev pub head_at : Bool → Place → Found Head
head_at over place = head_by over (line_at place) (words_at place)

-- a stanza, and then the others
abbrev pub head_then : (Place → List Head) → Found Head → List Head
head_then more None = []
head_then more (Some found) = found.0 ∷ more found.1

-- so many stanzas
unfoldable pub heads_from : Bool → ℕ → Place → List Head
heads_from over zero place = []
heads_from over (suc n) place = if is_finished place then []
    else head_then (λ after. heads_from over n after) (head_at over place)

-- the stanzas of a text: each has a byte at least
abbrev pub heads_of : Bool → Bytes → List Head
heads_of over text = heads_from over (length text) (start text)

-- whether a stanza begins with a word
abbrev pub begins_words : Bytes → List Bytes → Bool
begins_words word [] = false
begins_words word (first ∷ others) = bytes_eq first word

abbrev pub begins : Bytes → Head → Bool
begins word head = begins_words word head.words

-- whether a stanza that begins with a word has another after it
abbrev pub says_words : Bytes → Bytes → List Bytes → Bool
says_words first word [] = false
says_words first word (begin ∷ others) = bytes_eq begin first && list_any (bytes_eq word) others

abbrev pub says : Bytes → Bytes → Head → Bool
says first word head = says_words first word head.words
