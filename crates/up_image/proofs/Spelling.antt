-- The tokens of a text that is UTF-8: each is UTF-8 without the byte 0 and line feeds.
use Rattle.std.proofs.Common.{◌≡◌, inl, inr, ℕ, zero, suc, ◌+◌, ◌<◌, ◌≤◌, Bool, true, false, cond, not, ◌&&◌, ◌||◌, ◌==◌, List, [], ◌∷◌, ◌++◌, length, drop, None, Some, refl, sym, ◌∙◌, subst, arith, one-add, length-drop, eqb-true, IsUtf8, take_while}
use Rattle.std.specs.List.{list_all, list_any, prefix_len}
use Rattle.std.specs.Str.{IsAscii}
use Rattle.std.proofs.lemmas.Bool.{and_from, and_parts, or_parts, false≢true}
use Rattle.std.proofs.lemmas.Bool.Decides.{nat_tests}
use Rattle.std.proofs.lemmas.List.Sums.{take_while-cons}
use Rattle.std.proofs.lemmas.Str.{IsUtf8-nil, IsUtf8-from_ascii, is_utf8-from_IsUtf8}
use Rattle.up_text.specs.Lists.{begins}
use Rattle.up_text.specs.Tokens.{Mark, Part, Quoting, Folded, Alone, Blank, Passed, Stop, Fail, Mode, Outside, Comment, Escaped, Continued, Quoted, QuotedEscape, marks, mark_of, mark_outside, mark_quoted, mode_after, mode_outside, mode_quoted, open_after, end_marks, feed_mark, is_line_feed, is_blank, is_hash, is_quote, is_backslash, is_paren, reaches_feed}
use Rattle.up_text.specs.Places.{Place, Reading, Got, Ended, Fails, is_gap, is_spelled, token_bytes, fault_in, marks_at, gap_at, place_after, read_at, reading, spelling_read}
use Rattle.up_image.specs.Definable.{is_token_byte, is_token}
use Rattle.up_image.proofs.Bounds.{max_text}
use Rattle.up_image.proofs.Thinning.{Gives, Ends, Thins, thins_tells, told_text, told_bytes, thinned_rest, from_cut, after_cut, push_text, tail_text}

-- bytes of ASCII

pub feed_low : (b : ℕ) → is_line_feed b ≡ true → b < 128
unfolding is_line_feed
feed_low b is = grind (arith, nat_tests, is)

pub blank_low : (b : ℕ) → is_blank b ≡ true → b < 128
unfolding is_blank
blank_low b is = grind (arith, nat_tests, is)

pub hash_low : (b : ℕ) → is_hash b ≡ true → b < 128
unfolding is_hash
hash_low b is = grind (arith, nat_tests, is)

pub quote_low : (b : ℕ) → is_quote b ≡ true → b < 128
unfolding is_quote
quote_low b is = grind (arith, nat_tests, is)

pub backslash_low : (b : ℕ) → is_backslash b ≡ true → b < 128
unfolding is_backslash
backslash_low b is = grind (arith, nat_tests, is)

pub paren_low : (b : ℕ) → is_paren b ≡ true → b < 128
unfolding is_paren
paren_low b is = grind (arith, nat_tests, is)

paren_token : (b : ℕ) → is_paren b ≡ true → list_all is_token_byte (b ∷ []) ≡ true
unfolding is_paren
paren_token b is = grind (arith, nat_tests, is)

pub feed_is : (b : ℕ) → is_line_feed b ≡ true → b ≡ 10
unfolding is_line_feed
feed_is b is = eqb-true b 10 is

feed_no_backslash : (b : ℕ) → is_line_feed b ≡ true → is_backslash b ≡ false
unfolding is_backslash
feed_no_backslash b is = rw (feed_is b is) refl

feed_no_quote : (b : ℕ) → is_line_feed b ≡ true → is_quote b ≡ false
unfolding is_quote
feed_no_quote b is = rw (feed_is b is) refl

-- spellings

-- where a byte of a spelling stands
abbrev pub Spells : Mode → List ℕ → Type 0
Spells (Outside joined) text = Unit {0}
Spells Comment text = ⊥
Spells Escaped text = begins is_line_feed text ≡ false
Spells (Continued joined) text = ⊥
Spells (Quoted quote joined) text = is_quote quote ≡ true
Spells (QuotedEscape quote) text = (is_quote quote ≡ true) × (begins is_line_feed text ≡ false)

abbrev Spelled : Bool → ℕ → Mark → Mode → List ℕ → Type 0
Spelled true b mark next text = Gives b (token_bytes mark) × Spells next text
Spelled false b mark next text = b < 128

-- what a byte outside quotes and comments is, and where the next one stands, by what is known of it
abbrev pub outside_mark : ℕ → (f z l r h k j q p : Bool) → Mark
outside_mark b f z l r h k j q p =
    cond f (cond z Stop Passed) (cond l (cond r Passed (Blank b)) (cond h Passed (cond k (cond j Passed (Quoting b)) (cond q (Quoting b) (cond p (Alone b) (Part b))))))

abbrev pub outside_next : ℕ → Bool → (l h k j q : Bool) → Mode
outside_next b joined l h k j q = cond l (Outside joined) (cond h Comment (cond k (cond j (Continued joined) Escaped) (cond q (Quoted b false) (Outside false))))

-- the same of one inside quotes
abbrev pub quoted_mark : ℕ → (s f o l r k j : Bool) → Mark
quoted_mark b s f o l r k j = cond s (Quoting b) (cond f (cond o Folded (Part 32)) (cond l (cond r Folded (Part b)) (cond k (cond j Folded (Quoting b)) (Part b))))

abbrev pub quoted_next : ℕ → Bool → (s f l k j : Bool) → Mode
quoted_next quote joined s f l k j = cond s (Outside false) (cond f (Quoted quote true) (cond l (Quoted quote joined) (cond k (cond j (Quoted quote joined) (QuotedEscape quote)) (Quoted quote false))))

outside_spelled : (parens : Bool) (depth : ℕ) (joined : Bool) (b : ℕ) (text : List ℕ) → Spelled (is_spelled (mark_outside parens depth joined b text)) b (mark_outside parens depth joined b text) (mode_outside joined b text) text
outside_spelled parens depth joined b text =
    by_case (is_line_feed b) (depth == 0) (is_blank b) (joined || reaches_feed text) (is_hash b) (is_backslash b) (begins is_line_feed text) (is_quote b) (parens && is_paren b) refl refl refl refl refl refl refl
  where
    by_case : (f z l r h k j q p : Bool) → is_line_feed b ≡ f → is_blank b ≡ l → is_hash b ≡ h → is_backslash b ≡ k → begins is_line_feed text ≡ j → is_quote b ≡ q → (parens && is_paren b) ≡ p
        → Spelled (is_spelled (outside_mark b f z l r h k j q p)) b (outside_mark b f z l r h k j q p) (outside_next b joined l h k j q) text
    by_case true true l r h k j q p ef el eh ek ej eq ep = feed_low b ef
    by_case true false l r h k j q p ef el eh ek ej eq ep = feed_low b ef
    by_case false z true true h k j q p ef el eh ek ej eq ep = blank_low b el
    by_case false z true false h k j q p ef el eh ek ej eq ep = blank_low b el
    by_case false z false r true k j q p ef el eh ek ej eq ep = hash_low b eh
    by_case false z false r false true true q p ef el eh ek ej eq ep = backslash_low b ek
    by_case false z false r false true false q p ef el eh ek ej eq ep = (inr (backslash_low b ek, inl refl), ej)
    by_case false z false r false false j true p ef el eh ek ej eq ep = (inr (quote_low b eq, inl refl), eq)
    by_case false z false r false false j false true ef el eh ek ej eq ep = paren_low b (and_parts parens (is_paren b) ep).1
    by_case false z false r false false j false false ef el eh ek ej eq ep = (inl (refl, ef), tt)

quoted_spelled : (quote : ℕ) (joined : Bool) (b : ℕ) (text : List ℕ) → is_quote quote ≡ true → Spelled (is_spelled (mark_quoted quote joined b text)) b (mark_quoted quote joined b text) (mode_quoted quote joined b text) text
quoted_spelled quote joined b text is =
    by_case (b == quote) (is_line_feed b) joined (is_blank b) (joined || reaches_feed text) (is_backslash b) (begins is_line_feed text) refl refl refl refl refl
  where
    by_case : (s f o l r k j : Bool) → (b == quote) ≡ s → is_line_feed b ≡ f → is_blank b ≡ l → is_backslash b ≡ k → begins is_line_feed text ≡ j
        → Spelled (is_spelled (quoted_mark b s f o l r k j)) b (quoted_mark b s f o l r k j) (quoted_next quote joined s f l k j) text
    by_case true f o l r k j es ef el ek ej = let low : b < 128 = omega (arith, eqb-true b quote es, quote_low quote is) in (inr (low, inl refl), tt)
    by_case false true true l r k j es ef el ek ej = (inr (feed_low b ef, inl refl), is)
    by_case false true false l r k j es ef el ek ej = (inr (feed_low b ef, inr refl), is)
    by_case false false o true true k j es ef el ek ej = (inr (blank_low b el, inl refl), is)
    by_case false false o true false k j es ef el ek ej = (inl (refl, ef), is)
    by_case false false o false r true true es ef el ek ej = (inr (backslash_low b ek, inl refl), is)
    by_case false false o false r true false es ef el ek ej = (inr (backslash_low b ek, inl refl), (is, ej))
    by_case false false o false r false j es ef el ek ej = (inl (refl, ef), is)

byte_spelled : (parens : Bool) (depth : ℕ) (mode : Mode) (b : ℕ) (text : List ℕ) → Spells mode (b ∷ text) → Spelled (is_spelled (mark_of parens depth mode b text)) b (mark_of parens depth mode b text) (mode_after mode b text) text
byte_spelled parens depth (Outside joined) b text spells = outside_spelled parens depth joined b text
byte_spelled parens depth Comment b text spells = absurd spells
byte_spelled parens depth Escaped b text spells = (inl (refl, spells), tt)
byte_spelled parens depth (Continued joined) b text spells = absurd spells
byte_spelled parens depth (Quoted quote joined) b text spells = quoted_spelled quote joined b text spells
byte_spelled parens depth (QuotedEscape quote) b text spells = (inl (refl, spells.1), spells.0)

end_spelled : (mode : Mode) → Spells mode [] → Thins token_bytes [] (take_while is_spelled (end_marks mode))
end_spelled (Outside joined) spells = tt
end_spelled Comment spells = absurd spells
end_spelled Escaped spells = (refl, tt)
end_spelled (Continued joined) spells = absurd spells
end_spelled (Quoted quote joined) spells = (refl, tt)
end_spelled (QuotedEscape quote) spells = (refl, tt)

pub spelled : (parens : Bool) (depth : ℕ) (mode : Mode) (text : List ℕ) → Spells mode text → Thins token_bytes text (take_while is_spelled (marks parens depth mode text))
spelled parens depth mode [] spells = end_spelled mode spells
spelled parens depth mode (b ∷ text) spells =
    let mark = mark_of parens depth mode b text in
    let later = marks parens (open_after depth mark) (mode_after mode b text) text in
    subst (Thins token_bytes (b ∷ text)) (sym (take_while-cons is_spelled mark later))
    (by_case (is_spelled mark) mark (mode_after mode b text) (take_while is_spelled later) (byte_spelled parens depth mode b text spells) (λ s. spelled parens (open_after depth mark) (mode_after mode b text) text s))
  where
    by_case : (s : Bool) (mark : Mark) (next : Mode) (later : List Mark) → Spelled s b mark next text → (Spells next text → Thins token_bytes text later) → Thins token_bytes (b ∷ text) (cond s (mark ∷ later) [])
    by_case true mark next later gives on = (gives.0, on gives.1)
    by_case false mark next later low on = low

-- gaps

-- where a byte of a gap stands; before one of a comment are others of it
abbrev InGap : Mode → List ℕ → List ℕ → Type 0
InGap (Outside joined) pending text = IsUtf8 text
InGap Comment pending text = IsUtf8 (pending ++ text)
InGap Escaped pending text = ⊥
InGap (Continued joined) pending text = IsUtf8 text × (begins is_line_feed text ≡ true)
InGap (Quoted quote joined) pending text = ⊥
InGap (QuotedEscape quote) pending text = ⊥

abbrev First : List Mark → Type 0
First (Alone b ∷ ms) = is_paren b ≡ true
First other = Unit {0}

-- what stands so many bytes further
abbrev AtGapEnd : ℕ → List Mark → List ℕ → Type 0
AtGapEnd n ms text = IsUtf8 (drop n text) × Thins token_bytes (drop n text) (take_while is_spelled (drop n ms)) × First (drop n ms)

first_outside : (parens : Bool) (depth : ℕ) (joined : Bool) (b : ℕ) (text : List ℕ) (later : List Mark) → First (mark_outside parens depth joined b text ∷ later)
first_outside parens depth joined b text later =
    by_case (is_line_feed b) (depth == 0) (is_blank b) (joined || reaches_feed text) (is_hash b) (is_backslash b) (begins is_line_feed text) (is_quote b) (parens && is_paren b) refl
  where
    by_case : (f z l r h k j q p : Bool) → (parens && is_paren b) ≡ p
        → First (cond f (cond z Stop Passed) (cond l (cond r Passed (Blank b)) (cond h Passed (cond k (cond j Passed (Quoting b)) (cond q (Quoting b) (cond p (Alone b) (Part b)))))) ∷ later)
    by_case true true l r h k j q p ep = tt
    by_case true false l r h k j q p ep = tt
    by_case false z true true h k j q p ep = tt
    by_case false z true false h k j q p ep = tt
    by_case false z false r true k j q p ep = tt
    by_case false z false r false true true q p ep = tt
    by_case false z false r false true false q p ep = tt
    by_case false z false r false false j true p ep = tt
    by_case false z false r false false j false true ep = (and_parts parens (is_paren b) ep).1
    by_case false z false r false false j false false ep = tt

no_gap : (b : Bool) → (b && false) ≡ true → ⊥
no_gap true is = false≢true is
no_gap false is = false≢true is

-- after a mark of a gap outside comments
gap_after : (inside parens : Bool) (depth : ℕ) (joined : Bool) (b : ℕ) (text : List ℕ) → IsUtf8 (b ∷ text) → is_gap inside (mark_outside parens depth joined b text) ≡ true → InGap (mode_outside joined b text) [] text
gap_after inside parens depth joined b text whole =
    by_case (is_line_feed b) (depth == 0) (is_blank b) (joined || reaches_feed text) (is_hash b) (is_backslash b) (begins is_line_feed text) (is_quote b) (parens && is_paren b) refl refl refl refl refl refl
  where
    by_case : (f z l r h k j q p : Bool) → is_line_feed b ≡ f → is_blank b ≡ l → is_hash b ≡ h → is_backslash b ≡ k → begins is_line_feed text ≡ j → is_quote b ≡ q
        → is_gap inside (cond f (cond z Stop Passed) (cond l (cond r Passed (Blank b)) (cond h Passed (cond k (cond j Passed (Quoting b)) (cond q (Quoting b) (cond p (Alone b) (Part b))))))) ≡ true
        → InGap (cond l (Outside joined) (cond h Comment (cond k (cond j (Continued joined) Escaped) (cond q (Quoted b false) (Outside false))))) [] text
    by_case f z true r h k j q p ef el eh ek ej eq is = tail_text b text whole (blank_low b el)
    by_case f z false r true k j q p ef el eh ek ej eq is = tail_text b text whole (hash_low b eh)
    by_case f z false r false true true q p ef el eh ek ej eq is = (tail_text b text whole (backslash_low b ek), ej)
    by_case true z false r false true false q p ef el eh ek ej eq is = absurd (false≢true (sym (feed_no_backslash b ef) ∙ ek))
    by_case false z false r false true false q p ef el eh ek ej eq is = absurd (no_gap (not inside) is)
    by_case true z false r false false j true p ef el eh ek ej eq is = absurd (false≢true (sym (feed_no_quote b ef) ∙ eq))
    by_case false z false r false false j true p ef el eh ek ej eq is = absurd (no_gap (not inside) is)
    by_case true z false r false false j false p ef el eh ek ej eq is = tail_text b text whole (feed_low b ef)
    by_case false z false r false false j false true ef el eh ek ej eq is = absurd (no_gap (not inside) is)
    by_case false z false r false false j false false ef el eh ek ej eq is = absurd (no_gap (not inside) is)

gap_step : (g : Bool) (k : ℕ) (mark : Mark) (later : List Mark) (b : ℕ) (text : List ℕ) → (g ≡ true → AtGapEnd k later text) → (g ≡ false → AtGapEnd 0 (mark ∷ later) (b ∷ text)) → AtGapEnd (cond g (1 + k) 0) (mark ∷ later) (b ∷ text)
gap_step true k mark later b text on here = rw one-add (on refl)
gap_step false k mark later b text on here = here refl

feed_spelled : (depth b : ℕ) (text : List ℕ) (later : List Mark) → IsUtf8 (b ∷ text) → b < 128 → AtGapEnd 0 (feed_mark depth ∷ later) (b ∷ text)
feed_spelled depth b text later whole low = by_case (depth == 0)
  where
    by_case : (z : Bool) → AtGapEnd 0 (cond z Stop Passed ∷ later) (b ∷ text)
    by_case true = (whole, low, tt)
    by_case false = (whole, low, tt)

gap_ends : (inside parens : Bool) (depth : ℕ) (mode : Mode) (pending text : List ℕ) → InGap mode pending text → AtGapEnd (prefix_len (is_gap inside) (marks parens depth mode text)) (marks parens depth mode text) text
gap_ends inside parens depth (Outside joined) pending [] whole = (IsUtf8-nil, tt, tt)
gap_ends inside parens depth Comment pending [] whole = (IsUtf8-nil, tt, tt)
gap_ends inside parens depth Escaped pending [] whole = absurd whole
gap_ends inside parens depth (Continued joined) pending [] whole = (IsUtf8-nil, tt, tt)
gap_ends inside parens depth (Quoted quote joined) pending [] whole = absurd whole
gap_ends inside parens depth (QuotedEscape quote) pending [] whole = absurd whole
gap_ends inside parens depth (Outside joined) pending (b ∷ text) whole =
    let mark = mark_outside parens depth joined b text in
    let later = marks parens (open_after depth mark) (mode_outside joined b text) text in
    gap_step (is_gap inside mark) (prefix_len (is_gap inside) later) mark later b text
    (λ is. gap_ends inside parens (open_after depth mark) (mode_outside joined b text) [] text (gap_after inside parens depth joined b text whole is))
    (λ no. (whole, spelled parens depth (Outside joined) (b ∷ text) tt, first_outside parens depth joined b text later))
gap_ends inside parens depth Comment pending (b ∷ text) whole =
    by_feed (is_line_feed b) refl (λ d utf8. gap_ends inside parens d (Outside false) [] text utf8) (λ utf8. gap_ends inside parens depth Comment (pending ++ b ∷ []) text utf8)
  where
    by_feed : (f : Bool) → is_line_feed b ≡ f
        → ((d : ℕ) → IsUtf8 text → AtGapEnd (prefix_len (is_gap inside) (marks parens d (Outside false) text)) (marks parens d (Outside false) text) text)
        → (IsUtf8 ((pending ++ b ∷ []) ++ text) → AtGapEnd (prefix_len (is_gap inside) (marks parens depth Comment text)) (marks parens depth Comment text) text)
        → AtGapEnd (prefix_len (is_gap inside) (cond f (feed_mark depth) Passed ∷ marks parens (open_after depth (cond f (feed_mark depth) Passed)) (cond f (Outside false) Comment) text)) (cond f (feed_mark depth) Passed ∷ marks parens (open_after depth (cond f (feed_mark depth) Passed)) (cond f (Outside false) Comment) text) (b ∷ text)
    by_feed true is after more =
        let later = marks parens (open_after depth (feed_mark depth)) (Outside false) text in
        gap_step (is_gap inside (feed_mark depth)) (prefix_len (is_gap inside) later) (feed_mark depth) later b text
        (λ _. after (open_after depth (feed_mark depth)) (after_cut pending b text whole (feed_low b is)))
        (λ _. feed_spelled depth b text later (from_cut pending b text whole (feed_low b is)) (feed_low b is))
    by_feed false is after more =
        let later = marks parens depth Comment text in
        gap_step true (prefix_len (is_gap inside) later) Passed later b text (λ _. more (push_text pending b text whole)) (λ no. absurd (false≢true (sym no)))
gap_ends inside parens depth Escaped pending (b ∷ text) whole = absurd whole
gap_ends inside parens depth (Continued true) pending (b ∷ text) whole =
    let later = marks parens depth (Outside true) text in
    gap_step true (prefix_len (is_gap inside) later) Passed later b text (λ _. gap_ends inside parens depth (Outside true) [] text (tail_text b text whole.0 (feed_low b whole.1))) (λ no. absurd (false≢true (sym no)))
gap_ends inside parens depth (Continued false) pending (b ∷ text) whole =
    let later = marks parens depth (Outside true) text in
    gap_step true (prefix_len (is_gap inside) later) (Blank 32) later b text (λ _. gap_ends inside parens depth (Outside true) [] text (tail_text b text whole.0 (feed_low b whole.1))) (λ no. absurd (false≢true (sym no)))
gap_ends inside parens depth (Quoted quote joined) pending (b ∷ text) whole = absurd whole
gap_ends inside parens depth (QuotedEscape quote) pending (b ∷ text) whole = absurd whole

-- readings

-- what is left of a text that may be read
pub record Good (text : List ℕ) : Type 0 where
  pub utf8 : IsUtf8 text
  pub clean : list_any (λ byte. byte == 0) text ≡ false
  pub short : length text ≤ max_text

pub any_drop : {X : Type 0} (p : X → Bool) (n : ℕ) (xs : List X) → list_any p xs ≡ false → list_any p (drop n xs) ≡ false
any_drop p zero xs none = none
any_drop p (suc n) [] none = refl
any_drop p (suc n) (x ∷ xs) none = any_drop p n xs (or_parts (p x) (list_any p xs) none).1

pub good_rest : (text : List ℕ) (n : ℕ) → Good text → IsUtf8 (drop n text) → Good (drop n text)
good_rest text n good utf8 = record {
  utf8 = utf8;
  clean = any_drop (λ byte. byte == 0) n text good.clean;
  short = omega (arith, length-drop n text, good.short);
}

abbrev pub ReadsGood : Reading → Type 0
ReadsGood (Got token after) = (is_token token.text ≡ true) × Good after.rest
ReadsGood (Ended after) = Good after.rest
ReadsGood (Fails fault) = Unit {0}

spelling_good : (place : Place) (spelling : List Mark) → Good place.rest → Thins token_bytes place.rest spelling → ReadsGood (spelling_read place spelling (fault_in spelling))
spelling_good place spelling good thins =
    let tells = thins_tells token_bytes place.rest spelling thins in
    elim (fault_in spelling) as (λ fault. ReadsGood (spelling_read place spelling fault)) [
      | Some fault ↦ tt
      | None ↦ (
        and_from _ _ (is_utf8-from_IsUtf8 _ (told_text token_bytes [] place.rest spelling good.utf8 tells)) (told_bytes token_bytes place.rest spelling good.clean tells),
        good_rest place.rest (length spelling) good (thinned_rest token_bytes [] place.rest spelling good.utf8 thins),
      )
    ]

one_text : (text : List ℕ) → IsUtf8 text → Ends text → IsUtf8 (drop 1 text)
one_text [] utf8 ends = IsUtf8-nil
one_text (b ∷ text) utf8 low = tail_text b text utf8 low

low_token : (b : ℕ) → is_paren b ≡ true → is_token (b ∷ []) ≡ true
low_token b is =
    and_from _ _ (is_utf8-from_IsUtf8 (b ∷ []) (IsUtf8-from_ascii (b ∷ []) ascii)) (paren_token b is)
  where
    ascii : IsAscii (b ∷ [])
    ascii zero = paren_low b is
    ascii (suc i) = omega arith

at_good : (place : Place) (ms : List Mark) → Good place.rest → Thins token_bytes place.rest (take_while is_spelled ms) → First ms → ReadsGood (read_at place ms)
at_good place [] good thins first = good
at_good place (Stop ∷ ms) good thins first = good_rest place.rest 1 good (one_text place.rest good.utf8 thins)
at_good place (Alone b ∷ ms) good thins first = (low_token b first, good_rest place.rest 1 good (one_text place.rest good.utf8 thins))
at_good place (Fail fault ∷ ms) good thins first = tt
at_good place (Blank b ∷ ms) good thins first = good
at_good place (Passed ∷ ms) good thins first = good
at_good place (Part b ∷ ms) good thins first = spelling_good place (take_while is_spelled (Part b ∷ ms)) good thins
at_good place (Quoting b ∷ ms) good thins first = spelling_good place (take_while is_spelled (Quoting b ∷ ms)) good thins
at_good place (Folded ∷ ms) good thins first = spelling_good place (take_while is_spelled (Folded ∷ ms)) good thins

-- what is read of a good text is a token, and the rest is good
pub reading_good : (place : Place) → Good place.rest → ReadsGood (reading place)
unfolding reading gap_at marks_at
reading_good place good =
    let ends = gap_ends place.inside place.parens place.depth (Outside false) [] place.rest good.utf8 in
    at_good (place_after (gap_at place) place) (drop (gap_at place) (marks_at place)) (good_rest place.rest (gap_at place) good ends.0) ends.1 ends.2
