-- Tokens that are printed plainly are read again.
use Rattle.std.proofs.Common.{◌≡◌, ℕ, ◌+◌, Bool, true, false, List, [], ◌∷◌, ◌++◌, map, append_assoc, refl, ap, ◌∙◌}
use Rattle.std.proofs.lemmas.Bool.{and_parts, or_parts, not-true, false≢true}
use Rattle.std.specs.List.{list_all}
use Rattle.up_text.specs.Lexemes.{Word, End, lexemes, lexemes_of, lexeme_by}
use Rattle.up_text.specs.Lexer.{place, is_ordinary, IsAfterGap, begins_gap, passes_feeds, ends_token}
use Rattle.up_text.specs.Places.{Got, Ended, reading, token_of, marks_at, is_finished}
use Rattle.up_text.specs.Printing.{is_word, is_stanza, stanza_line, stanza_lines, tokens_from}
use Rattle.up_text.specs.Tokens.{is_blank, is_hash, is_line_feed, is_backslash}
use Rattle.up_pattern.specs.Lists.{begins}
use Rattle.up_text.proofs.Gaps.{GapRun-none, GapRun-blanks, after-gap}
use Rattle.up_text.proofs.Lexemes.{lexemes_of-is, none_when_finished}
use Rattle.up_text.proofs.Readings.{reading-after, end-read, ordinary-read}

-- a byte that begins no gap and ends no token
record Begins (byte : ℕ) : Type 0 where
  feed : is_line_feed byte ≡ false
  blank : is_blank byte ≡ false
  hash : is_hash byte ≡ false
  backslash : is_backslash byte ≡ false

ordinary-begins : (byte : ℕ) → is_ordinary false byte ≡ true → Begins byte
unfolding is_ordinary
ordinary-begins byte plain =
    let all = or_parts _ _ (not-true _ plain) in
    let quotes = or_parts _ _ all.0 in
    let escapes = or_parts _ _ quotes.0 in
    let hashes = or_parts _ _ escapes.0 in
    let blanks = or_parts _ _ hashes.0 in
    record { feed = blanks.0; blank = blanks.1; hash = hashes.1; backslash = escapes.1 }

-- a text that begins with a word
record IsWord (word text : List ℕ) : Type 0 where
  all : list_all (is_ordinary false) word ≡ true
  no_gap : (passes : Bool) → begins_gap passes (word ++ text) ≡ false
  no_blank : begins is_blank (word ++ text) ≡ false
  goes_on : ends_token false (word ++ text) ≡ false

word-is : (word text : List ℕ) → is_word word ≡ true → IsWord word text
word-is [] text is = absurd (false≢true is)
word-is (byte ∷ word) text is =
    let all : list_all (is_ordinary false) (byte ∷ word) ≡ true = is in
    let first = ordinary-begins byte (and_parts (is_ordinary false byte) (list_all (is_ordinary false) word) all).0 in
    record {
      all = all;
      no_gap = λ passes. by_passes passes first;
      no_blank = first.blank;
      goes_on = rw (first.feed, first.blank, first.hash, first.backslash) refl;
    }
  where
    by_passes : (passes : Bool) → Begins byte → begins_gap passes ((byte ∷ word) ++ text) ≡ false
    by_passes true first = rw (first.feed, first.blank, first.hash, first.backslash) refl
    by_passes false first = rw (first.blank, first.hash, first.backslash) refl

space-ends : (text : List ℕ) → (ends_token false (32 ∷ text) ≡ true) × (begins (is_ordinary false) (32 ∷ text) ≡ false)
unfolding is_ordinary is_line_feed is_blank is_hash is_backslash
space-ends text = (refl, refl)

-- where a word begins, it is read
word-read : (word text : List ℕ) (line : ℕ) (inside : Bool) → is_word word ≡ true
    → reading (place (word ++ 32 ∷ text) line inside false 0) ≡ Got (token_of line word true) (place (32 ∷ text) line true false 0)
word-read word text line inside is =
    let word_is = word-is word (32 ∷ text) is in
    let ends = space-ends text in
    let at = place (word ++ 32 ∷ text) line inside false 0 in
    reading-after at at (after-gap inside false 0 (word ++ 32 ∷ text) line (word ++ 32 ∷ text) line (GapRun-none inside false 0 false (word ++ 32 ∷ text) line) (word_is.no_gap (passes_feeds inside 0)))
    ∙ ordinary-read false (word ++ 32 ∷ text) word (32 ∷ text) line inside 0 (record { joined = refl; all = word_is.all; ends = ends.1 }) word_is.goes_on ends.0

-- the space before it is passed
space-after : (text : List ℕ) (line : ℕ) → begins is_blank text ≡ false → begins_gap (passes_feeds true 0) text ≡ false → IsAfterGap (place (32 ∷ text) line true false 0) (place text line true false 0)
unfolding is_blank
space-after text line blank ends =
    after-gap true false 0 (32 ∷ text) line text line (GapRun-blanks true false 0 false (32 ∷ text) (32 ∷ []) text line (record { joined = refl; all = refl; ends = blank })) ends

next-word : (word text : List ℕ) (line : ℕ) → is_word word ≡ true
    → reading (place (32 ∷ (word ++ 32 ∷ text)) line true false 0) ≡ Got (token_of line word true) (place (32 ∷ text) line true false 0)
next-word word text line is =
    let word_is = word-is word (32 ∷ text) is in
    let ends = space-ends text in
    reading-after _ _ (space-after (word ++ 32 ∷ text) line word_is.no_blank (word_is.no_gap (passes_feeds true 0)))
    ∙ ordinary-read false (word ++ 32 ∷ text) word (32 ∷ text) line true 0 (record { joined = refl; all = word_is.all; ends = ends.1 }) word_is.goes_on ends.0

-- the end of a line is the stanza's
feed-read : (text : List ℕ) (line : ℕ) → reading (place (32 ∷ 10 ∷ text) line true false 0) ≡ Ended (place text (line + 1) false false 0)
unfolding is_line_feed is_blank is_hash is_backslash
feed-read text line =
    reading-after _ _ (space-after (10 ∷ text) line refl refl) ∙ end-read (10 ∷ text) line true false 0 refl refl

-- what is left of a line after a word
line-left : (words : List (List ℕ)) (rest : List ℕ) (line : ℕ) → list_all is_word words ≡ true
    → lexemes_of (place (32 ∷ (stanza_line words ++ rest)) line true false 0) ≡ map (λ word. Word (token_of line word true)) words ++ End ∷ lexemes_of (place rest (line + 1) false false 0)
line-left [] rest line all =
    let at = place (32 ∷ 10 ∷ rest) line true false 0 in
    lexemes_of-is at ∙ ap (lexeme_by (λ after. lexemes_of after) at) (feed-read rest line)
line-left (word ∷ words) rest line all =
    let both = and_parts (is_word word) (list_all is_word words) all in
    let after = stanza_line words ++ rest in
    let at = place (32 ∷ (word ++ 32 ∷ after)) line true false 0 in
    ap (λ text. lexemes_of (place (32 ∷ text) line true false 0)) (append_assoc word (32 ∷ stanza_line words) rest)
    ∙ lexemes_of-is at
    ∙ ap (lexeme_by (λ after. lexemes_of after) at) (next-word word after line both.0)
    ∙ ap (λ later. Word (token_of line word true) ∷ later) (line-left words rest line both.1)

-- a line is its tokens and the stanza's end
line-again : (words : List (List ℕ)) (rest : List ℕ) (line : ℕ) → is_stanza words ≡ true
    → lexemes_of (place (stanza_line words ++ rest) line false false 0) ≡ map (λ word. Word (token_of line word true)) words ++ End ∷ lexemes_of (place rest (line + 1) false false 0)
line-again [] rest line is = absurd (false≢true is)
line-again (word ∷ words) rest line is =
    let both = and_parts (is_word word) (list_all is_word words) is in
    let after = stanza_line words ++ rest in
    let at = place (word ++ 32 ∷ after) line false false 0 in
    ap (λ text. lexemes_of (place text line false false 0)) (append_assoc word (32 ∷ stanza_line words) rest)
    ∙ lexemes_of-is at
    ∙ ap (lexeme_by (λ after. lexemes_of after) at) (word-read word after line false both.0)
    ∙ ap (λ later. Word (token_of line word true) ∷ later) (line-left words rest line both.1)

nothing-left : (line : ℕ) → lexemes_of (place [] line false false 0) ≡ []
unfolding is_finished marks_at
nothing-left line = none_when_finished (place [] line false false 0) refl

lines-again : (stanzas : List (List (List ℕ))) (line : ℕ) → list_all is_stanza stanzas ≡ true → lexemes_of (place (stanza_lines stanzas) line false false 0) ≡ tokens_from line stanzas
lines-again [] line all = nothing-left line
lines-again (words ∷ stanzas) line all =
    let both = and_parts (is_stanza words) (list_all is_stanza stanzas) all in
    line-again words (stanza_lines stanzas) line both.0
    ∙ ap (λ later. map (λ word. Word (token_of line word true)) words ++ End ∷ later) (lines-again stanzas (line + 1) both.1)

-- tokens that are printed plainly are read again as they were
pub read_again : (stanzas : List (List (List ℕ))) → list_all is_stanza stanzas ≡ true → lexemes (stanza_lines stanzas) ≡ tokens_from 1 stanzas
read_again stanzas all = lines-again stanzas 1 all
