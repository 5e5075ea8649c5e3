-- Where a text may be cut before or after bytes below 128.
use Rattle.std.proofs.Common.{◌≡◌, ℕ, ◌+◌, ◌-◌, ◌<◌, Bool, true, false, List, [], ◌∷◌, ◌++◌, length, take, drop, cond, IsUtf8, refl, sym, ap, ◌∙◌, subst, one-add, ⊎_elim, arith}
use Rattle.std.proofs.lemmas.Bool.{cases_lt}
use Rattle.std.proofs.lemmas.Bool.Decides.{nat_tests}
use Rattle.std.proofs.lemmas.List.Sums.{prefix_len-le-length, prefix_len_passes, prefix_len_stops}
use Rattle.std.proofs.lemmas.Str.{IsCharBoundary-start, IsCharBoundary-end, IsCharBoundary-before_ascii, IsCharBoundary-after_ascii, IsCharBoundary-from_rest}
use Rattle.std.specs.List.{prefix_len}
use Rattle.std.specs.Str.{IsCharBoundary}
use Rattle.std.proofs.lemmas.Bool.{and_from, and_parts, not-false}
use Rattle.std.proofs.lemmas.List.{take-append-drop}
use Rattle.std.specs.List.{list_all}
use Rattle.up_text.specs.Lexer.{is_ordinary, is_literal, is_in_line, is_low, is_high, Splits, SplitsChar}
use Rattle.up_text.specs.Tokens.{is_line_feed, is_blank, is_hash, is_backslash, is_quote, is_paren}
use Rattle.up_pattern.specs.Lists.{begins}

-- where the bytes that pass are below 128, the text may be cut after them
pub IsCharBoundary-after : (p : ℕ → Bool) (text : List ℕ) → IsUtf8 text → ((byte : ℕ) → p byte ≡ true → byte < 128) → IsCharBoundary text (prefix_len p text)
IsCharBoundary-after p text utf8 ascii =
    let n = prefix_len p text in
    let within = prefix_len-le-length p text in
    ⊎_elim
    (λ some.
    let last = prefix_len_passes p text (n - 1) 0 (omega arith) in
    let back : n - 1 + 1 ≡ n = omega arith in
    subst (IsCharBoundary text) back (IsCharBoundary-after_ascii text (n - 1) utf8 (omega arith) (ascii _ last)))
    (λ none. let zero : 0 ≡ n = omega arith in subst (IsCharBoundary text) zero (IsCharBoundary-start text utf8))
    (cases_lt 0 n)

-- where the bytes that fail are below 128, the text may be cut before the first of them
pub IsCharBoundary-before : (p : ℕ → Bool) (text : List ℕ) → ((byte : ℕ) → p byte ≡ false → byte < 128) → IsCharBoundary text (prefix_len p text)
IsCharBoundary-before p text ascii =
    let n = prefix_len p text in
    let within = prefix_len-le-length p text in
    ⊎_elim
    (λ inside. IsCharBoundary-before_ascii text n inside (ascii _ (prefix_len_stops p text 0 inside)))
    (λ past. let all : length text ≡ n = omega arith in subst (IsCharBoundary text) all (IsCharBoundary-end text))
    (cases_lt n (length text))

pub blank-ascii : (byte : ℕ) → is_blank byte ≡ true → byte < 128
unfolding is_blank
blank-ascii byte blank = grind (arith, nat_tests)

pub feed-ascii : (byte : ℕ) → is_line_feed byte ≡ true → byte < 128
unfolding is_line_feed
feed-ascii byte feed = grind (arith, nat_tests)

pub ordinary-ascii : (parens : Bool) (byte : ℕ) → is_ordinary parens byte ≡ false → byte < 128
unfolding is_ordinary is_line_feed is_blank is_hash is_backslash is_quote is_paren
ordinary-ascii parens byte other = grind (arith, nat_tests)

quote-ascii : (quote : ℕ) → is_quote quote ≡ true → quote < 128
unfolding is_quote
quote-ascii quote is = grind (arith, nat_tests)

pub literal-ascii : (quote byte : ℕ) → is_quote quote ≡ true → is_literal quote byte ≡ false → byte < 128
unfolding is_literal is_line_feed is_blank is_backslash
literal-ascii quote byte is other =
    let low = quote-ascii quote is in
    grind (arith, nat_tests)

pub in_line-ascii : (byte : ℕ) → is_in_line byte ≡ false → byte < 128
unfolding is_in_line
in_line-ascii byte feed = feed-ascii byte (not-false _ feed)

low-ascii : (byte : ℕ) → is_low byte ≡ true → byte < 128
unfolding is_low
low-ascii byte low = grind (arith, nat_tests)

high-ascii : (byte : ℕ) → is_high byte ≡ false → byte < 128
unfolding is_high
high-ascii byte low = grind (arith, nat_tests)

-- a text may be cut after a byte of ASCII
pub IsCharBoundary-after_first : (text : List ℕ) → IsUtf8 text → begins is_low text ≡ true → IsCharBoundary text 1
IsCharBoundary-after_first [] utf8 low = absurd (cc)
IsCharBoundary-after_first (byte ∷ text) utf8 low = IsCharBoundary-after_ascii (byte ∷ text) 0 utf8 (omega arith) (low-ascii byte low)

-- and after its first character
pub IsCharBoundary-after_char : (text : List ℕ) → 0 < length text → IsCharBoundary text (1 + prefix_len is_high (drop 1 text))
IsCharBoundary-after_char text filled =
    IsCharBoundary-from_rest text 1 (prefix_len is_high (drop 1 text)) (omega arith) (IsCharBoundary-before is_high (drop 1 text) high-ascii)

-- what passes ends where it ends
pub begins-drop : (p : ℕ → Bool) (text : List ℕ) → begins p (drop (prefix_len p text) text) ≡ false
begins-drop p [] = refl
begins-drop p (byte ∷ text) =
    let Goal : ℕ → Type 0 = λ n. begins p (drop n (byte ∷ text)) ≡ false in
    elim (p byte) as (λ b. p byte ≡ b → Goal (cond b (1 + prefix_len p text) 0)) [
      | true ↦ λ _. subst Goal (sym (one-add _)) (begins-drop p text)
      | false ↦ λ fails. fails
    ] refl

pub list_all-take : {X : Type 0} (p : X → Bool) (text : List X) → list_all p (take (prefix_len p text) text) ≡ true
list_all-take p [] = refl
list_all-take p (byte ∷ text) =
    let Goal : ℕ → Type 0 = λ n. list_all p (take n (byte ∷ text)) ≡ true in
    elim (p byte) as (λ b. p byte ≡ b → Goal (cond b (1 + prefix_len p text) 0)) [
      | true ↦ λ passes. subst Goal (sym (one-add _)) (and_from _ _ passes (list_all-take p text))
      | false ↦ λ _. refl
    ] refl

-- a text is its longest run of bytes that pass, and what stands after it
pub Splits-prefix : (p : ℕ → Bool) (text : List ℕ) → Splits p text (take (prefix_len p text) text) (drop (prefix_len p text) text)
Splits-prefix p text = record { joined = sym (take-append-drop (prefix_len p text) text); all = list_all-take p text; ends = begins-drop p text }

-- and there is only one such run
pub Splits-after : (p : ℕ → Bool) (text front rest : List ℕ) → Splits p text front rest → drop (prefix_len p text) text ≡ rest
Splits-after p text front rest splits = ap (λ whole. drop (prefix_len p whole) whole) splits.joined ∙ past front rest splits.all splits.ends
  where
    past : (front rest : List ℕ) → list_all p front ≡ true → begins p rest ≡ false → drop (prefix_len p (front ++ rest)) (front ++ rest) ≡ rest
    past [] [] all ends = refl
    past [] (byte ∷ rest) all ends = rw ends refl
    past (byte ∷ front) rest all ends =
        let both = and_parts (p byte) (list_all p front) all in
        rw (both.0, one-add) (past front rest both.1 ends)

-- and its first character and what stands after it
pub SplitsChar-first : (text : List ℕ) → 0 < length text → SplitsChar text (take (1 + prefix_len is_high (drop 1 text)) text) (drop (1 + prefix_len is_high (drop 1 text)) text)
SplitsChar-first [] filled = absurd (omega arith)
SplitsChar-first (byte ∷ text) filled =
    let n = prefix_len is_high text in
    rw one-add (record { first = byte; others = take n text; is_front = refl; joined = ap (λ bs. byte ∷ bs) (sym (take-append-drop n text)); high = list_all-take is_high text })
