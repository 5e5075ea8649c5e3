-- What is read from a place on is what the next reading gives, and what is read after it.
use Rattle.std.proofs.Common.{◌≡◌, inl, inr, ℕ, zero, suc, ◌+◌, ◌<◌, ◌≤◌, Bool, true, false, true≢false, cond, not, ◌&&◌, List, [], ◌∷◌, length, drop, Option, None, Some, Result, Ok, refl, sym, ap, ◌∙◌, subst, arith, if◌then◌else◌, length-drop, one-add}
use Rattle.std.proofs.lemmas.List.{nil_from_length}
use Rattle.std.proofs.lemmas.Bool.{and_parts, not-true}
use Rattle.std.specs.List.{prefix_len, take_while, list_all}
use Rattle.up_value.specs.declared.fault.TextFault.{TextFault}
use Rattle.up_value.specs.declared.fault.TextFault.TheVariants.{UnterminatedQuote, TrailingBackslash}
use Rattle.up_text.specs.declared.token.Token.{Token}
use Rattle.up_text.specs.Scripts.{is_filled}
use Rattle.up_text.specs.Tokens.{Mark, Part, Quoting, Folded, Alone, Blank, Passed, Stop, Fail, Mode, Outside, Comment, Escaped, Continued, Quoted, QuotedEscape, end_marks, mark_of, mode_after, open_after, marks}
use Rattle.up_text.specs.Places.{Place, start, Reading, Answers, Got, Ended, Fails, place_after, is_spelled, fault_in, marks_at, gap_at, spelling_read, is_finished, read_at, reading, line_at, is_gap}
use Rattle.up_text.specs.Lexemes.{Lexeme, Word, Bad, End, Reads, IsLineOf, put_front, split_ends, stanzas, lexeme_by, lexemes_from, readings_left, lexemes_of}

-- a mark that no byte has
abbrev is_fail : Mark → Bool
is_fail (Fail fault) = true
is_fail (Part byte) = false
is_fail (Quoting byte) = false
is_fail Folded = false
is_fail (Alone byte) = false
is_fail (Blank byte) = false
is_fail Passed = false
is_fail Stop = false

nothing_after : {X : Type 0} (n : ℕ) (x : X) (xs : List X) → drop n [] ≡ x ∷ xs → ⊥
nothing_after zero x xs is = cc
nothing_after (suc n) x xs is = cc

fail_mark : (fault : TextFault) (n : ℕ) (mark : Mark) (ms : List Mark) → drop n (Fail fault ∷ []) ≡ mark ∷ ms → is_fail mark ≡ true
fail_mark fault zero mark ms is = let same : Fail fault ≡ mark = cc in subst (λ m. is_fail m ≡ true) same refl
fail_mark fault (suc n) mark ms is = absurd (nothing_after n mark ms is)

-- after the last byte there is nothing but a fault
end_mark : (mode : Mode) (n : ℕ) (mark : Mark) (ms : List Mark) → drop n (end_marks mode) ≡ mark ∷ ms → is_fail mark ≡ true
end_mark (Outside joined) n mark ms is = absurd (nothing_after n mark ms is)
end_mark Comment n mark ms is = absurd (nothing_after n mark ms is)
end_mark Escaped n mark ms is = fail_mark TrailingBackslash n mark ms is
end_mark (Continued joined) n mark ms is = absurd (nothing_after n mark ms is)
end_mark (Quoted quote joined) n mark ms is = fail_mark UnterminatedQuote n mark ms is
end_mark (QuotedEscape quote) n mark ms is = fail_mark UnterminatedQuote n mark ms is

-- any other mark is that of a byte
mark_within : (parens : Bool) (depth : ℕ) (mode : Mode) (text : List ℕ) (n : ℕ) (mark : Mark) (ms : List Mark) → drop n (marks parens depth mode text) ≡ mark ∷ ms → is_fail mark ≡ false → n < length text
mark_within parens depth mode [] n mark ms is byte = absurd (true≢false (sym (end_mark mode n mark ms is) ∙ byte))
mark_within parens depth mode (b ∷ text) zero mark ms is byte = omega arith
mark_within parens depth mode (b ∷ text) (suc n) mark ms is byte =
    let below = mark_within parens (open_after depth (mark_of parens depth mode b text)) (mode_after mode b text) text n mark ms is byte in omega (arith, below)

-- a byte of the text is left if a mark that isn't a fault is
filled : (place : Place) (mark : Mark) (ms : List Mark) → drop (gap_at place) (marks_at place) ≡ mark ∷ ms → is_fail mark ≡ false → gap_at place < length place.rest
unfolding marks_at
filled place mark ms is byte = mark_within place.parens place.depth (Outside false) place.rest (gap_at place) mark ms is byte

-- a place that has passed a byte after a gap has less text left
less : (place : Place) (n : ℕ) → gap_at place < length place.rest → 0 < n → length (drop n (drop (gap_at place) place.rest)) < length place.rest
less place n gap some = omega (arith, length-drop n (drop (gap_at place) place.rest), length-drop (gap_at place) place.rest)

-- the spelling that begins here has a mark
has_mark : (mark : Mark) (ms : List Mark) → is_spelled mark ≡ true → 0 < length (take_while is_spelled (mark ∷ ms))
has_mark mark ms is = rw (is, one-add (prefix_len is_spelled ms)) (omega arith)

spelled_less : (place : Place) (spelling : List Mark) (found : Option TextFault) (token : Token) (after : Place) → gap_at place < length place.rest → 0 < length spelling
    → spelling_read (place_after (gap_at place) place) spelling found ≡ Got token after → length after.rest < length place.rest
spelled_less place spelling (Some fault) token after gap some got = cc
spelled_less place spelling None token after gap some got =
    let rest : drop (length spelling) (drop (gap_at place) place.rest) ≡ after.rest = cc in
    subst (λ r. length r < length place.rest) rest (less place (length spelling) gap some)

-- what a token leaves, if the marks after the gap are these
token_less : (place : Place) (ms : List Mark) → drop (gap_at place) (marks_at place) ≡ ms → (token : Token) (after : Place)
    → read_at (place_after (gap_at place) place) ms ≡ Got token after → length after.rest < length place.rest
token_less place [] is token after got = cc
token_less place (Stop ∷ ms) is token after got = cc
token_less place (Alone byte ∷ ms) is token after got =
    let rest : drop 1 (drop (gap_at place) place.rest) ≡ after.rest = cc in
    subst (λ r. length r < length place.rest) rest (less place 1 (filled place (Alone byte) ms is refl) (omega arith))
token_less place (Part byte ∷ ms) is token after got =
    spelled_less place (take_while is_spelled (Part byte ∷ ms)) (fault_in (take_while is_spelled (Part byte ∷ ms))) token after (filled place (Part byte) ms is refl) (has_mark (Part byte) ms refl) got
token_less place (Quoting byte ∷ ms) is token after got =
    spelled_less place (take_while is_spelled (Quoting byte ∷ ms)) (fault_in (take_while is_spelled (Quoting byte ∷ ms))) token after (filled place (Quoting byte) ms is refl) (has_mark (Quoting byte) ms refl) got
token_less place (Folded ∷ ms) is token after got =
    spelled_less place (take_while is_spelled (Folded ∷ ms)) (fault_in (take_while is_spelled (Folded ∷ ms))) token after (filled place Folded ms is refl) (has_mark Folded ms refl) got
token_less place (Fail fault ∷ ms) is token after got = cc
token_less place (Blank byte ∷ ms) is token after got = cc
token_less place (Passed ∷ ms) is token after got = cc

-- a token leaves less text
pub reading_less : (place : Place) (token : Token) (after : Place) → reading place ≡ Got token after → length after.rest < length place.rest
unfolding reading
reading_less place token after got = token_less place (drop (gap_at place) (marks_at place)) refl token after got

-- a spelling is no end
never_ends : (place : Place) (spelling : List Mark) (found : Option TextFault) (after : Place) → spelling_read place spelling found ≡ Ended after → ⊥
never_ends place spelling None after ended = cc
never_ends place spelling (Some fault) after ended = cc

-- an end leaves no more, outside a stanza
ended_at : (place : Place) (ms : List Mark) (after : Place) → read_at place ms ≡ Ended after → (after.inside ≡ false) × (length after.rest ≤ length place.rest)
ended_at place [] after ended = (cc, let rest : place.rest ≡ after.rest = cc in subst (λ r. length r ≤ length place.rest) rest (omega arith))
ended_at place (Stop ∷ ms) after ended = (cc, let rest : drop 1 place.rest ≡ after.rest = cc in subst (λ r. length r ≤ length place.rest) rest (omega (arith, length-drop 1 place.rest)))
ended_at place (Alone byte ∷ ms) after ended = cc
ended_at place (Part byte ∷ ms) after ended = absurd (never_ends place (take_while is_spelled (Part byte ∷ ms)) (fault_in (take_while is_spelled (Part byte ∷ ms))) after ended)
ended_at place (Quoting byte ∷ ms) after ended = absurd (never_ends place (take_while is_spelled (Quoting byte ∷ ms)) (fault_in (take_while is_spelled (Quoting byte ∷ ms))) after ended)
ended_at place (Folded ∷ ms) after ended = absurd (never_ends place (take_while is_spelled (Folded ∷ ms)) (fault_in (take_while is_spelled (Folded ∷ ms))) after ended)
ended_at place (Fail fault ∷ ms) after ended = cc
ended_at place (Blank byte ∷ ms) after ended = (cc, let rest : place.rest ≡ after.rest = cc in subst (λ r. length r ≤ length place.rest) rest (omega arith))
ended_at place (Passed ∷ ms) after ended = (cc, let rest : place.rest ≡ after.rest = cc in subst (λ r. length r ≤ length place.rest) rest (omega arith))

pub reading_ends : (place after : Place) → reading place ≡ Ended after → (after.inside ≡ false) × (length after.rest ≤ length place.rest)
unfolding reading
reading_ends place after ended =
    let at = ended_at (place_after (gap_at place) place) (drop (gap_at place) (marks_at place)) after ended in
    (at.0, omega (arith, at.1, length-drop (gap_at place) place.rest))

two_at_most : (b : Bool) → (if b then 2 else 1) ≤ 2
two_at_most true = omega arith
two_at_most false = omega arith

pub one_at_least : (b : Bool) → 1 ≤ (if b then 2 else 1)
one_at_least true = omega arith
one_at_least false = omega arith

-- what is left after a token, and after a stanza
pub left_got : (place : Place) (token : Token) (after : Place) → reading place ≡ Got token after → readings_left after < readings_left place
left_got place token after got = omega (arith, reading_less place token after got, two_at_most after.inside, one_at_least place.inside)

left_ended : (place after : Place) → place.inside ≡ true → reading place ≡ Ended after → readings_left after < readings_left place
left_ended place after inside ended =
    let at = reading_ends place after ended in
    rw (inside, at.0) (omega (arith, at.1))

-- more readings than enough give no more
enough : (n k : ℕ) (place : Place) → readings_left place ≤ n → readings_left place ≤ k → lexemes_from n place ≡ lexemes_from k place
unfolding lexemes_from
enough zero k place few many = absurd (let one = one_at_least place.inside in omega (arith, few, one))
enough (suc n) zero place few many = absurd (let one = one_at_least place.inside in omega (arith, many, one))
enough (suc n) (suc k) place few many = by_reading (reading place) refl (λ after less. enough n k after (omega (arith, less, few)) (omega (arith, less, many)))
  where
    by_end : (inside : Bool) (after : Place) → place.inside ≡ inside → reading place ≡ Ended after → ((other : Place) → readings_left other < readings_left place → lexemes_from n other ≡ lexemes_from k other)
        → (if inside then End ∷ lexemes_from n after else []) ≡ (if inside then End ∷ lexemes_from k after else [])
    by_end true after inside is more = ap (λ later. End ∷ later) (more after (left_ended place after inside is))
    by_end false after inside is more = refl

    by_reading : (r : Reading) → reading place ≡ r → ((other : Place) → readings_left other < readings_left place → lexemes_from n other ≡ lexemes_from k other)
        → lexeme_by (λ after. lexemes_from n after) place r ≡ lexeme_by (λ after. lexemes_from k after) place r
    by_reading (Got token after) is more = ap (λ later. Word token ∷ later) (more after (left_got place token after is))
    by_reading (Ended after) is more = by_end place.inside after refl is more
    by_reading (Fails fault) is more = refl

one_more : (n : ℕ) (place : Place) → lexemes_from (suc n) place ≡ lexeme_by (λ after. lexemes_from n after) place (reading place)
unfolding lexemes_from
one_more n place = refl

-- what is read from a place on: one reading, and what is read after it
pub lexemes_of-is : (place : Place) → lexemes_of place ≡ lexeme_by (λ after. lexemes_of after) place (reading place)
unfolding lexemes_of
lexemes_of-is place =
    enough (readings_left place) (suc (readings_left place)) place (omega arith) (omega arith) ∙ one_more (readings_left place) place ∙ by_reading (reading place) refl
  where
    by_end : (inside : Bool) (after : Place) → place.inside ≡ inside → reading place ≡ Ended after
        → (if inside then End ∷ lexemes_from (readings_left place) after else []) ≡ (if inside then End ∷ lexemes_from (readings_left after) after else [])
    by_end true after inside is = ap (λ later. End ∷ later) (let less = left_ended place after inside is in enough (readings_left place) (readings_left after) after (omega (arith, less)) (omega arith))
    by_end false after inside is = refl

    by_reading : (r : Reading) → reading place ≡ r → lexeme_by (λ after. lexemes_from (readings_left place) after) place r ≡ lexeme_by (λ after. lexemes_from (readings_left after) after) place r
    by_reading (Got token after) is = ap (λ later. Word token ∷ later) (let less = left_got place token after is in enough (readings_left place) (readings_left after) after (omega (arith, less)) (omega arith))
    by_reading (Ended after) is = by_end place.inside after refl is
    by_reading (Fails fault) is = refl

-- there is a mark for each byte
marks_count : (parens : Bool) (depth : ℕ) (mode : Mode) (text : List ℕ) → length text ≤ length (marks parens depth mode text)
marks_count parens depth mode [] = omega arith
marks_count parens depth mode (byte ∷ text) =
    let more = marks_count parens (open_after depth (mark_of parens depth mode byte text)) (mode_after mode byte text) text in omega (arith, more)

-- after a longest run what follows doesn't pass
run_stops : (p : Mark → Bool) (ms : List Mark) (mark : Mark) (later : List Mark) → drop (prefix_len p ms) ms ≡ mark ∷ later → p mark ≡ false
run_stops p [] mark later is = absurd (nothing_after 0 mark later is)
run_stops p (m ∷ ms) mark later is =
    elim (p m) as (λ b. p m ≡ b → drop (cond b (1 + prefix_len p ms) 0) (m ∷ ms) ≡ mark ∷ later → p mark ≡ false) [
      | true ↦ λ _ is. run_stops p ms mark later (rw (one-add (prefix_len p ms)) at is)
      | false ↦ λ fails is. let same : m ≡ mark = cc in subst (λ x. p x ≡ false) same fails
    ] refl is

nothing_drop : (n : ℕ) (ms : List Mark) (text : List ℕ) → length text ≤ length ms → drop n ms ≡ [] → drop n text ≡ []
nothing_drop n ms text fewer none =
    let marks_left = length-drop n ms in
    let left = length-drop n text in
    nil_from_length (drop n text) (let zero_left : length (drop n ms) ≡ 0 = ap length none in omega (arith, marks_left, left, fewer, zero_left))

-- at the end of the text, outside a stanza, there is nothing
nothing_at : (line depth : ℕ) (parens : Bool) → lexemes_of (record { rest = []; line = line; inside = false; parens = parens; depth = depth }) ≡ []
unfolding reading gap_at marks_at
nothing_at line depth parens = lexemes_of-is (record { rest = []; line = line; inside = false; parens = parens; depth = depth })

at_nothing : (place : Place) → place.rest ≡ [] → place.inside ≡ false → lexemes_of place ≡ []
at_nothing place none outside =
    ap (λ r. lexemes_of (record { rest = r; line = place.line; inside = place.inside; parens = place.parens; depth = place.depth })) none
    ∙ ap (λ b. lexemes_of (record { rest = []; line = place.line; inside = b; parens = place.parens; depth = place.depth })) outside
    ∙ nothing_at place.line place.depth place.parens

-- outside a stanza an end comes after all marks
ended_marks : (place : Place) (ms : List Mark) (after : Place) → place.inside ≡ false → drop (gap_at place) (marks_at place) ≡ ms
    → read_at (place_after (gap_at place) place) ms ≡ Ended after → ms ≡ []
unfolding gap_at
ended_marks place [] after outside is ended = refl
ended_marks place (Stop ∷ ms) after outside is ended =
    let no = run_stops (is_gap place.inside) (marks_at place) Stop ms is in absurd (true≢false (rw outside at no))
ended_marks place (Blank byte ∷ ms) after outside is ended = absurd (true≢false (run_stops (is_gap place.inside) (marks_at place) (Blank byte) ms is))
ended_marks place (Passed ∷ ms) after outside is ended = absurd (true≢false (run_stops (is_gap place.inside) (marks_at place) Passed ms is))
ended_marks place (Alone byte ∷ ms) after outside is ended = cc
ended_marks place (Part byte ∷ ms) after outside is ended = absurd (never_ends (place_after (gap_at place) place) (take_while is_spelled (Part byte ∷ ms)) (fault_in (take_while is_spelled (Part byte ∷ ms))) after ended)
ended_marks place (Quoting byte ∷ ms) after outside is ended = absurd (never_ends (place_after (gap_at place) place) (take_while is_spelled (Quoting byte ∷ ms)) (fault_in (take_while is_spelled (Quoting byte ∷ ms))) after ended)
ended_marks place (Folded ∷ ms) after outside is ended = absurd (never_ends (place_after (gap_at place) place) (take_while is_spelled (Folded ∷ ms)) (fault_in (take_while is_spelled (Folded ∷ ms))) after ended)
ended_marks place (Fail fault ∷ ms) after outside is ended = cc

-- and then only the text's end is one
ended_empty : (place : Place) (ms : List Mark) (after : Place) → ms ≡ [] → drop (gap_at place) (marks_at place) ≡ ms
    → read_at (place_after (gap_at place) place) ms ≡ Ended after → (after.rest ≡ []) × (after.inside ≡ false)
unfolding gap_at marks_at
ended_empty place [] after none is ended =
    let rest : drop (gap_at place) place.rest ≡ after.rest = cc in
    (sym rest ∙ nothing_drop (gap_at place) (marks_at place) place.rest (marks_count place.parens place.depth (Outside false) place.rest) is, cc)
ended_empty place (m ∷ ms) after none is ended = cc

-- nothing is left after the end of the text
none_after : (old after : Place) → old.inside ≡ false → reading old ≡ Ended after → lexemes_of after ≡ []
unfolding reading
none_after old after outside ended =
    let none = ended_marks old (drop (gap_at old) (marks_at old)) after outside refl ended in
    let at = ended_empty old (drop (gap_at old) (marks_at old)) after none refl ended in
    at_nothing after at.0 at.1

-- a call that reads at a place reads the lexemes from there on
pub reads_lexemes : (old : Place) (result : Result (Option Token) TextFault) (new : Place) → Answers old (reading old) result new → Reads (lexemes_of old) result (lexemes_of new)
reads_lexemes old result new answers = rw (lexemes_of-is old) (by_reading (reading old) refl answers)
  where
    by_end : (inside : Bool) (after : Place) → old.inside ≡ inside → reading old ≡ Ended after → (result ≡ Ok None) × (new ≡ after) → Reads (if inside then End ∷ lexemes_of after else []) result (lexemes_of new)
    by_end true after inside is answers = (answers.0, ap (λ place. lexemes_of place) answers.1)
    by_end false after inside is answers = (answers.0, ap (λ place. lexemes_of place) answers.1 ∙ none_after old after inside is)

    by_reading : (r : Reading) → reading old ≡ r → Answers old r result new → Reads (lexeme_by (λ after. lexemes_of after) old r) result (lexemes_of new)
    by_reading (Got token after) is (inl answers) = inl (answers.0, ap (λ place. lexemes_of place) answers.1)
    by_reading (Got token after) is (inr answers) = inr (answers.0, ap (λ place. lexemes_of place) answers.1 ∙ lexemes_of-is old ∙ ap (λ r. lexeme_by (λ after. lexemes_of after) old r) is)
    by_reading (Ended after) is answers = by_end old.inside after refl is answers
    by_reading (Fails fault) is answers = (answers.0, ap (λ place. lexemes_of place) answers.1 ∙ lexemes_of-is old ∙ ap (λ r. lexeme_by (λ after. lexemes_of after) old r) is)

spelled_got : (place : Place) (spelling : List Mark) (found : Option TextFault) (token : Token) (after : Place) → spelling_read place spelling found ≡ Got token after → (token.line ≡ place.line) × (after.inside ≡ true)
spelled_got place spelling None token after got = (cc, cc)
spelled_got place spelling (Some fault) token after got = cc

got_at : (place : Place) (ms : List Mark) (token : Token) (after : Place) → read_at place ms ≡ Got token after → (token.line ≡ place.line) × (after.inside ≡ true)
got_at place [] token after got = cc
got_at place (Stop ∷ ms) token after got = cc
got_at place (Alone byte ∷ ms) token after got = (cc, cc)
got_at place (Part byte ∷ ms) token after got = spelled_got place (take_while is_spelled (Part byte ∷ ms)) (fault_in (take_while is_spelled (Part byte ∷ ms))) token after got
got_at place (Quoting byte ∷ ms) token after got = spelled_got place (take_while is_spelled (Quoting byte ∷ ms)) (fault_in (take_while is_spelled (Quoting byte ∷ ms))) token after got
got_at place (Folded ∷ ms) token after got = spelled_got place (take_while is_spelled (Folded ∷ ms)) (fault_in (take_while is_spelled (Folded ∷ ms))) token after got
got_at place (Fail fault ∷ ms) token after got = cc
got_at place (Blank byte ∷ ms) token after got = cc
got_at place (Passed ∷ ms) token after got = cc

-- a token stands on the line that was reached, and the place after it is inside a stanza
pub reading_got : (place : Place) (token : Token) (after : Place) → reading place ≡ Got token after → (token.line ≡ line_at place) × (after.inside ≡ true)
unfolding reading
reading_got place token after got = got_at (place_after (gap_at place) place) (drop (gap_at place) (marks_at place)) token after got

-- what is read next stands on that line
pub line_lexemes : (place : Place) → IsLineOf (lexemes_of place) (line_at place)
line_lexemes place = rw (lexemes_of-is place) (by_reading (reading place) refl)
  where
    by_end : (inside : Bool) (after : Place) → IsLineOf (if inside then End ∷ lexemes_of after else []) (line_at place)
    by_end true after = tt
    by_end false after = tt

    by_reading : (r : Reading) → reading place ≡ r → IsLineOf (lexeme_by (λ after. lexemes_of after) place r) (line_at place)
    by_reading (Got token after) is = sym (reading_got place token after is).0
    by_reading (Ended after) is = by_end place.inside after
    by_reading (Fails fault) is = refl

-- the stanzas of lexemes that are read have a token each; the first goes on if a token of it was read before
abbrev AreFilled : Bool → List (List Lexeme) → Type 0
AreFilled false stanzas = list_all is_filled stanzas ≡ true
AreFilled true stanzas = list_all is_filled (drop 1 stanzas) ≡ true

-- a run that goes to the end
all_dropped : (p : Mark → Bool) (ms : List Mark) → list_all p ms ≡ true → drop (prefix_len p ms) ms ≡ []
all_dropped p [] all = refl
all_dropped p (m ∷ ms) all =
    let both = and_parts (p m) (list_all p ms) all in
    rw (both.0, one-add (prefix_len p ms)) (all_dropped p ms both.1)

none_left : (p : Mark → Bool) (ms : List Mark) → drop (prefix_len p ms) ms ≡ [] → list_all p ms ≡ true
none_left p [] none = refl
none_left p (m ∷ ms) none =
    elim (p m) as (λ b. p m ≡ b → drop (cond b (1 + prefix_len p ms) 0) (m ∷ ms) ≡ [] → b && list_all p ms ≡ true) [
      | true ↦ λ _ is. none_left p ms (rw (one-add (prefix_len p ms)) at is)
      | false ↦ λ _ is. cc
    ] refl none

-- nothing is left if all is a gap outside a stanza
pub none_when_finished : (place : Place) → is_finished place ≡ true → lexemes_of place ≡ []
unfolding is_finished reading gap_at marks_at
none_when_finished place finished =
    let both = and_parts (not place.inside) (list_all (is_gap false) (marks_at place)) finished in
    let outside : place.inside ≡ false = not-true place.inside both.0 in
    let dropped : drop (prefix_len (is_gap place.inside) (marks_at place)) (marks_at place) ≡ [] = rw outside (all_dropped (is_gap false) (marks_at place) both.1) in
    lexemes_of-is place ∙ rw (dropped, outside) refl

finished_from : (place after : Place) → place.inside ≡ false → reading place ≡ Ended after → is_finished place ≡ true
unfolding is_finished reading gap_at marks_at
finished_from place after outside ended =
    let none = ended_marks place (drop (gap_at place) (marks_at place)) after outside refl ended in
    rw outside (none_left (is_gap false) (marks_at place) (rw outside at none))

-- and only there
pub finished_when_none : (place : Place) → lexemes_of place ≡ [] → is_finished place ≡ true
finished_when_none place none = by_reading (reading place) refl (sym (lexemes_of-is place) ∙ none)
  where
    by_end : (inside : Bool) (after : Place) → place.inside ≡ inside → reading place ≡ Ended after → (if inside then End ∷ lexemes_of after else []) ≡ [] → is_finished place ≡ true
    by_end true after inside is e = cc
    by_end false after inside is e = finished_from place after inside is

    by_reading : (r : Reading) → reading place ≡ r → lexeme_by (λ after. lexemes_of after) place r ≡ [] → is_finished place ≡ true
    by_reading (Got token after) is e = cc
    by_reading (Ended after) is e = by_end place.inside after refl is e
    by_reading (Fails fault) is e = cc
