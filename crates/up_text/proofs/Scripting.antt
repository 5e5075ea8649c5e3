-- The lines and the words of a script.
use Rattle.std.proofs.Common.{◌≡◌, ℕ, ◌+◌, ◌-◌, ◌<◌, ◌≤◌, Bool, true, false, cond, ◌&&◌, List, [], ◌∷◌, ◌++◌, None, Some, length, take, drop, refl, sym, ap, ◌∙◌, subst, one-add, arith, append_assoc, length-append, filter, codes, IsUtf8}
use Rattle.std.proofs.lemmas.Bool.{and_parts, and_from, not-true, not-false}
use Rattle.std.proofs.lemmas.Bool.Decides.{nat_tests}
use Rattle.std.proofs.lemmas.List.Sums.{prefix_len_stops}
use Rattle.std.proofs.lemmas.Str.{IsCharBoundary-after_ascii, IsCharBoundary-at_seam}
use Rattle.std.specs.Str.{bytes_eq, IsCharBoundary}
use Rattle.std.proofs.lemmas.List.{take-append-drop, take_all, length-take-le, append-nil, take_at, drop_at}
use Rattle.up_text.proofs.Runs.{feeds-none, feeds-append, feeds-length}
use Rattle.std.proofs.lemmas.List.Splits.{slice_split-cons_no, slice_split-cons_yes}
use Rattle.std.specs.List.{list_all, prefix_len, slice_split, onto_first, concat}
use Rattle.up_text.proofs.Cuts.{Splits-after, Splits-prefix, list_all-take, begins-drop, in_line-ascii}
use Rattle.up_text.specs.Lexer.{is_in_word, is_in_line, BeginsWord, BeginsLine, EndsScript, Splits}
use Rattle.up_text.specs.Places.{feeds}
use Rattle.up_text.specs.Scripts.{lines_of, is_filled, words_in, are_end_words, may_follow, is_end_line, script_in}
use Rattle.up_text.specs.Tokens.{is_line_feed, is_blank}
use Rattle.up_pattern.specs.Lists.{begins}

-- blanks in front change no word
words-blanks : (blanks rest : List ℕ) → list_all is_blank blanks ≡ true → words_in (blanks ++ rest) ≡ words_in rest
words-blanks [] rest all = refl
words-blanks (byte ∷ blanks) rest all =
    let both = and_parts (is_blank byte) (list_all is_blank blanks) all in
    ap (filter is_filled) (slice_split-cons_yes is_blank byte (blanks ++ rest) both.0) ∙ words-blanks blanks rest both.1

-- a word in front is in the first piece
slice_split-word : (word rest first : List ℕ) (others : List (List ℕ)) → list_all is_in_word word ≡ true → slice_split is_blank rest ≡ first ∷ others → slice_split is_blank (word ++ rest) ≡ (word ++ first) ∷ others
unfolding is_in_word
slice_split-word [] rest first others all is = is
slice_split-word (byte ∷ word) rest first others all is =
    let both = and_parts (is_in_word byte) (list_all is_in_word word) all in
    slice_split-cons_no is_blank byte (word ++ rest) (not-true _ both.0) ∙ ap (onto_first byte) (slice_split-word word rest first others both.1 is)

-- after a word stands a blank or nothing, and so the first piece is the word
first-none : (rest : List ℕ) → begins is_in_word rest ≡ false → (others : List (List ℕ)) × (slice_split is_blank rest ≡ [] ∷ others)
unfolding is_in_word
first-none [] ends = ([], refl)
first-none (byte ∷ rest) ends = (slice_split is_blank rest, slice_split-cons_yes is_blank byte rest (not-false _ ends))

words-word : (byte : ℕ) (word rest : List ℕ) → list_all is_in_word (byte ∷ word) ≡ true → begins is_in_word rest ≡ false → words_in ((byte ∷ word) ++ rest) ≡ (byte ∷ word) ∷ words_in rest
words-word byte word rest all ends =
    let first = first-none rest ends in
    ap (filter is_filled) (slice_split-word (byte ∷ word) rest [] first.0 all first.1)
    ∙ ap (λ w. w ∷ filter is_filled first.0) (append-none (byte ∷ word))
    ∙ ap (λ pieces. (byte ∷ word) ∷ filter is_filled pieces) (sym first.1)
  where
    append-none : (xs : List ℕ) → xs ++ [] ≡ xs
    append-none [] = refl
    append-none (x ∷ xs) = ap (λ ys. x ∷ ys) (append-none xs)

no-word_byte : (text : List ℕ) → begins is_in_word (drop (prefix_len is_in_word text) text) ≡ false
no-word_byte [] = refl
no-word_byte (byte ∷ text) =
    elim (is_in_word byte) as (λ b. is_in_word byte ≡ b → begins is_in_word (drop (cond b (1 + prefix_len is_in_word text) 0) (byte ∷ text)) ≡ false) [
      | true ↦ λ _. rw one-add (no-word_byte text)
      | false ↦ λ fails. fails
    ] refl

in_word-is : (byte : ℕ) → is_blank byte ≡ false → is_in_word byte ≡ true
unfolding is_in_word
in_word-is byte other = rw other refl

BeginsWord-filled : (text : List ℕ) (byte : ℕ) (words : List ℕ) → words_in text ≡ words_in (byte ∷ words) → is_blank byte ≡ false
    → BeginsWord text (take (prefix_len is_in_word (byte ∷ words)) (byte ∷ words)) (drop (prefix_len is_in_word (byte ∷ words)) (byte ∷ words))
BeginsWord-filled text byte words same none =
    let first = in_word-is byte none in
    let n = prefix_len is_in_word words in
    let all : list_all is_in_word (byte ∷ take n words) ≡ true = and_from _ _ first (list_all-take is_in_word words) in
    let split : words_in (byte ∷ (take n words ++ drop n words)) ≡ (byte ∷ take n words) ∷ words_in (drop n words) = words-word byte (take n words) (drop n words) all (no-word_byte words) in
    let whole : words_in (byte ∷ words) ≡ (byte ∷ take n words) ∷ words_in (drop n words) = ap (λ ws. words_in (byte ∷ ws)) (sym (take-append-drop n words)) ∙ split in
    rw (first, one-add) (same ∙ whole)

-- after a word that isn't one, only ASCII stands
pub word-ascii : (byte : ℕ) → is_in_word byte ≡ false → byte < 128
unfolding is_in_word is_blank
word-ascii byte other = grind (arith, nat_tests)

-- what is cut off after the blanks of a text, as far as its first word goes, is that word
pub word-cut : (text blanks words bytes word rest : List ℕ) (n : ℕ) → Splits is_blank text blanks words → bytes ≡ words → n ≡ prefix_len is_in_word bytes → word ≡ take n words → rest ≡ drop n words → BeginsWord text word rest
word-cut text blanks words bytes word rest n splits same long front back =
    rw (front, back, long, same) (by_words words (ap words_in splits.joined ∙ words-blanks blanks words splits.all) splits.ends)
  where
    by_words : (words : List ℕ) → words_in text ≡ words_in words → begins is_blank words ≡ false → BeginsWord text (take (prefix_len is_in_word words) words) (drop (prefix_len is_in_word words) words)
    by_words [] same none = same
    by_words (byte ∷ words) same none = BeginsWord-filled text byte words same none

-- and what stands after it is the rest
pub rest-cut : (text blanks words bytes word rest : List ℕ) (n : ℕ) → Splits is_blank text blanks words → bytes ≡ words → n ≡ prefix_len is_in_word bytes → word ≡ take n words → rest ≡ drop n words
    → Splits is_in_word (drop (prefix_len is_blank text) text) word rest
rest-cut text blanks words bytes word rest n splits same long front back =
    rw (front, back, long, same, Splits-after is_blank text blanks words splits) (Splits-prefix is_in_word words)

-- the first line of a text

lines-none : (bytes : List ℕ) → list_all is_in_line bytes ≡ true → 0 < length bytes → lines_of bytes ≡ bytes ∷ []
unfolding is_in_line
lines-none [] all filled = absurd (omega arith)
lines-none (byte ∷ []) all filled = rw (not-true _ (and_parts (is_in_line byte) true all).0) refl
lines-none (byte ∷ next ∷ bytes) all filled =
    let both = and_parts (is_in_line byte) (list_all is_in_line (next ∷ bytes)) all in
    rw (not-true _ both.0) (ap (onto_first byte) (lines-none (next ∷ bytes) both.1 (omega arith)))

lines-feed : (bytes : List ℕ) (feed : ℕ) (rest : List ℕ) → list_all is_in_line bytes ≡ true → is_line_feed feed ≡ true → lines_of (bytes ++ feed ∷ rest) ≡ (bytes ++ feed ∷ []) ∷ lines_of rest
unfolding is_in_line
lines-feed [] feed rest all is = rw is refl
lines-feed (byte ∷ bytes) feed rest all is =
    let both = and_parts (is_in_line byte) (list_all is_in_line bytes) all in
    rw (not-true _ both.0) (ap (onto_first byte) (lines-feed bytes feed rest both.1 is))

in_line-is : (byte : ℕ) → is_in_line byte ≡ true → is_line_feed byte ≡ false
unfolding is_in_line
in_line-is byte in_line = not-true _ in_line

-- a line with its line feed
line-split : (text front rest : List ℕ) (n : ℕ) → front ++ rest ≡ text → list_all is_in_line front ≡ true → length front ≡ n → begins is_in_line rest ≡ false → n < length text → BeginsLine text (take (n + 1) text) (drop (n + 1) text) 1
unfolding is_in_line
line-split text front [] n whole all long ends inside = absurd (omega (arith, ap length (sym whole), length-append front []))
line-split text front (feed ∷ rest) n whole all long ends inside =
    let is : is_line_feed feed ≡ true = not-false _ ends in
    let cut : (front ++ feed ∷ []) ++ rest ≡ text = append_assoc front (feed ∷ []) rest ∙ whole in
    let size : length (front ++ feed ∷ []) ≡ n + 1 = omega (arith, length-append front (feed ∷ []), long) in
    let first : take (n + 1) text ≡ front ++ feed ∷ [] = ap (take (n + 1)) (sym cut) ∙ take_at (front ++ feed ∷ []) rest (n + 1) size in
    let later : drop (n + 1) text ≡ rest = ap (drop (n + 1)) (sym cut) ∙ drop_at (front ++ feed ∷ []) rest (n + 1) size in
    let none : feeds front ≡ 0 = feeds-none is_in_line front in_line-is all in
    let one : feeds (feed ∷ []) ≡ 1 = rw is refl in
    rw (first, later) (record {
      joined = sym cut;
      lines = ap lines_of (sym whole) ∙ lines-feed front feed rest all is;
      counted = omega (arith, feeds-append front (feed ∷ []), none, one);
      filled = omega (arith, size);
    })

pub BeginsLine-feed : (text : List ℕ) → prefix_len is_in_line text < length text → BeginsLine text (take (prefix_len is_in_line text + 1) text) (drop (prefix_len is_in_line text + 1) text) 1
BeginsLine-feed text inside =
    let n = prefix_len is_in_line text in
    line-split text (take n text) (drop n text) n (take-append-drop n text) (list_all-take is_in_line text) (length-take-le n text (omega arith)) (begins-drop is_in_line text) inside

-- it may be cut after its line feed
pub IsCharBoundary-after_line : (text : List ℕ) → IsUtf8 text → prefix_len is_in_line text < length text → IsCharBoundary text (prefix_len is_in_line text + 1)
IsCharBoundary-after_line text utf8 inside =
    IsCharBoundary-after_ascii text (prefix_len is_in_line text) utf8 inside (in_line-ascii _ (prefix_len_stops is_in_line text 0 inside))

-- a last line without one
pub BeginsLine-last : (text : List ℕ) → 0 < length text → length text ≤ prefix_len is_in_line text → BeginsLine text text [] 0
BeginsLine-last text filled past =
    let n = prefix_len is_in_line text in
    let whole : take n text ≡ text = take_all n text past in
    let all : list_all is_in_line text ≡ true = subst (λ t. list_all is_in_line t ≡ true) whole (list_all-take is_in_line text) in
    record { joined = sym (append-nil text); lines = lines-none text all filled; counted = sym (feeds-none is_in_line text in_line-is all); filled = filled }

-- a line's words

pub and-false : (b : Bool) → (b && false) ≡ false
and-false true = refl
and-false false = refl

and-true : (b : Bool) → (b && true) ≡ b
and-true true = refl
and-true false = refl

words-test : (text first r1 second r2 third r3 : List ℕ) → BeginsWord text first r1 → BeginsWord r1 second r2 → BeginsWord r2 third r3
    → are_end_words (words_in text) ≡ (bytes_eq first (codes "end") && (bytes_eq second (codes "script") && may_follow third))
words-test text [] r1 second r2 third r3 a b c = rw a refl
words-test text (x ∷ first) r1 [] r2 third r3 a b c = rw (a, b) (sym (and-false (bytes_eq (x ∷ first) (codes "end"))))
words-test text (x ∷ first) r1 (y ∷ second) r2 [] r3 a b c = rw (a, b, c, and-true) refl
words-test text (x ∷ first) r1 (y ∷ second) r2 (z ∷ third) r3 a b c = rw (a, b, c) refl

-- the longest run of bytes that pass
run-front : (p : ℕ → Bool) (front rest : List ℕ) → list_all p front ≡ true → begins p rest ≡ false → take (prefix_len p (front ++ rest)) (front ++ rest) ≡ front
run-front p [] [] all ends = refl
run-front p [] (byte ∷ rest) all ends = rw ends refl
run-front p (byte ∷ front) rest all ends =
    let both = and_parts (p byte) (list_all p front) all in
    rw (both.0, one-add) (ap (λ bytes. byte ∷ bytes) (run-front p front rest both.1 ends))

pub end-line : (line code rest first r1 second r2 third r3 : List ℕ) → Splits is_in_line line code rest → BeginsWord code first r1 → BeginsWord r1 second r2 → BeginsWord r2 third r3
    → is_end_line line ≡ (bytes_eq first (codes "end") && (bytes_eq second (codes "script") && may_follow third))
unfolding is_end_line is_in_line
end-line line code rest first r1 second r2 third r3 splits a b c =
    let is : take (prefix_len is_in_line line) line ≡ code = ap (λ text. take (prefix_len is_in_line text) text) splits.joined ∙ run-front is_in_line code rest splits.all splits.ends in
    ap (λ t. are_end_words (words_in t)) is ∙ words-test code first r1 second r2 third r3 a b c

-- the lines of a script so far
pub record Passed (text : List ℕ) (line : ℕ) (rest : List ℕ) (reached : ℕ) : Type 0 where
  pub before : List (List ℕ)
  pub joined : text ≡ concat before ++ rest
  pub found : (after : List (List ℕ)) (last : List ℕ) → script_in (lines_of rest) ≡ Some (after, last) → script_in (lines_of text) ≡ Some (before ++ after, last)
  pub none : script_in (lines_of rest) ≡ None → script_in (lines_of text) ≡ None
  pub counted : reached ≡ line + feeds (concat before)

script-more : (line : List ℕ) (lines after : List (List ℕ)) (last : List ℕ) → is_end_line line ≡ false → script_in lines ≡ Some (after, last) → script_in (line ∷ lines) ≡ Some (line ∷ after, last)
script-more line lines after last other is = rw (other, is) refl

script-none : (line : List ℕ) (lines : List (List ℕ)) → is_end_line line ≡ false → script_in lines ≡ None → script_in (line ∷ lines) ≡ None
script-none line lines other is = rw (other, is) refl

concat-push : (before : List (List ℕ)) (line rest : List ℕ) → concat before ++ (line ++ rest) ≡ concat (before ++ line ∷ []) ++ rest
concat-push [] line rest = ap (λ xs. xs ++ rest) (sym (append-nil line))
concat-push (first ∷ before) line rest = append_assoc first (concat before) (line ++ rest) ∙ ap (λ xs. first ++ xs) (concat-push before line rest) ∙ sym (append_assoc first (concat (before ++ line ∷ [])) rest)

feeds-push : (before : List (List ℕ)) (line : List ℕ) → feeds (concat (before ++ line ∷ [])) ≡ feeds (concat before) + feeds line
feeds-push before line = ap feeds (sym (append-nil _) ∙ sym (concat-push before line []) ∙ ap (λ xs. concat before ++ xs) (append-nil line)) ∙ feeds-append (concat before) line

pub Passed-more : (text : List ℕ) (line : ℕ) (rest : List ℕ) (reached : ℕ) (first beyond : List ℕ) (count : ℕ) → Passed text line rest reached → BeginsLine rest first beyond count → is_end_line first ≡ false → Passed text line beyond (reached + count)
Passed-more text line rest reached first beyond count passed begins other = record {
  before = passed.before ++ first ∷ [];
  joined = passed.joined ∙ ap (λ xs. concat passed.before ++ xs) begins.joined ∙ concat-push passed.before first beyond;
  found = λ after last is. passed.found (first ∷ after) last (ap script_in begins.lines ∙ script-more first (lines_of beyond) after last other is) ∙ ap (λ b. Some (b, last)) (sym (append_assoc passed.before (first ∷ []) after));
  none = λ is. passed.none (ap script_in begins.lines ∙ script-none first (lines_of beyond) other is);
  counted = omega (arith, passed.counted, begins.counted, feeds-push passed.before first);
}

Passed-cut : (text : List ℕ) (line : ℕ) (rest : List ℕ) (reached : ℕ) → (passed : Passed text line rest reached) → length (concat passed.before) ≡ length text - length rest
Passed-cut text line rest reached passed = omega (arith, ap length passed.joined, length-append (concat passed.before) rest)

-- the text may be cut there
pub Passed-boundary : (text : List ℕ) (line : ℕ) (rest : List ℕ) (reached : ℕ) → Passed text line rest reached → IsUtf8 rest → IsCharBoundary text (length text - length rest)
Passed-boundary text line rest reached passed utf8 =
    subst (IsCharBoundary text) (Passed-cut text line rest reached passed) (IsCharBoundary-at_seam text (concat passed.before) rest passed.joined utf8)

pub Passed-end : (text : List ℕ) (line : ℕ) (rest : List ℕ) (reached : ℕ) (first beyond : List ℕ) (count : ℕ) → Passed text line rest reached → BeginsLine rest first beyond count → is_end_line first ≡ true → EndsScript text line (take (length text - length rest) text) beyond (reached + count)
Passed-end text line rest reached first beyond count passed begins is = record {
  before = passed.before;
  last = first;
  found = passed.found [] first (ap script_in begins.lines ∙ rw is refl) ∙ ap (λ b. Some (b, first)) (append-nil passed.before);
  joined = passed.joined ∙ ap (λ xs. concat passed.before ++ xs) begins.joined ∙ sym (append_assoc (concat passed.before) first beyond);
  lines = ap (take (length text - length rest)) passed.joined ∙ take_at (concat passed.before) rest (length text - length rest) (Passed-cut text line rest reached passed);
  counted = omega (arith, passed.counted, begins.counted, feeds-append (concat passed.before) first);
}

pub Passed-fits : (text : List ℕ) (line : ℕ) (rest : List ℕ) (reached : ℕ) → Passed text line rest reached → (reached + length rest ≤ line + length text) × (length rest ≤ length text)
Passed-fits text line rest reached passed = (omega (arith, passed.counted, feeds-length (concat passed.before), ap length passed.joined, length-append (concat passed.before) rest), omega (arith, ap length passed.joined, length-append (concat passed.before) rest))

pub BeginsLine-shorter : (text line rest : List ℕ) (count : ℕ) → BeginsLine text line rest count → (length rest < length text) × (count + length rest ≤ length text)
BeginsLine-shorter text line rest count begins = (omega (arith, ap length begins.joined, length-append line rest, begins.filled), omega (arith, ap length begins.joined, length-append line rest, begins.counted, feeds-length line))

pub EndsScript-fits : (text : List ℕ) (line : ℕ) (script rest : List ℕ) (reached : ℕ) → EndsScript text line script rest reached → (reached + length rest ≤ line + length text) × (length rest ≤ length text)
EndsScript-fits text line script rest reached ends =
    (omega (arith, ends.counted, feeds-length (concat ends.before ++ ends.last), ap length ends.joined, length-append (concat ends.before ++ ends.last) rest), omega (arith, ap length ends.joined, length-append (concat ends.before ++ ends.last) rest))
