-- How the symbols of a pattern and the items of a set go on from one byte to the next.
use Rattle.std.proofs.Common.{◌≡◌, ◌≢◌, ℕ, ◌+◌, Bool, true, false, cond, ◌&&◌, ◌||◌, List, [], ◌∷◌, length, drop, refl, sym, ap, subst, ◌∙◌, arith}
use Rattle.std.specs.Prelude.{nat_le, ◌==◌}
use Rattle.std.specs.List.{list_any}
use Rattle.std.proofs.lemmas.Bool.{eq-eqb, ne_eqb, false≢true, and_right, or_left, and_parts, and_from}
use Rattle.std.proofs.lemmas.List.{drop-drop}
use Rattle.std.proofs.lemmas.Bool.Decides.{nat_tests}
use Rattle.up_pattern.specs.declared.pattern.Symbol.{Symbol}
use Rattle.up_pattern.specs.declared.pattern.Symbol.TheVariants.{Bare, Escaped, Trailing}
use Rattle.up_pattern.specs.Matching.{First, range_end}
use Rattle.up_pattern.specs.Pattern.{symbols, symbols_from, is_bare, is_open, is_close, is_dash, is_class_mark, byte_of, before_close, body, is_closed, has_class, ranges, is_among}
use Rattle.up_pattern.specs.Lists.{begins}

symbols-nil : symbols [] ≡ []
unfolding symbols
symbols-nil = refl

pub first-none : (text : List ℕ) → length text ≡ 0 → symbols text ≡ []
first-none [] none = symbols-nil
first-none (byte ∷ text) none = absurd (omega arith)

pub first-bare : (text : List ℕ) (byte : ℕ) (rest : List ℕ) → text ≡ byte ∷ rest → byte ≢ 92 → First text (Bare byte) rest
unfolding symbols
first-bare text byte rest is other = rw is (rw (ne_eqb byte 92 other) refl, omega arith)

pub first-escaped : (text : List ℕ) (byte : ℕ) (beyond : List ℕ) (escaped : ℕ) (rest : List ℕ) → text ≡ byte ∷ beyond → byte ≡ 92 → beyond ≡ escaped ∷ rest → First text (Escaped escaped) rest
unfolding symbols
first-escaped text byte beyond escaped rest is backslash then_is = rw (is, then_is) (rw (eq-eqb byte 92 backslash) refl, omega arith)

pub first-trailing : (text : List ℕ) (byte : ℕ) (beyond : List ℕ) → text ≡ byte ∷ beyond → byte ≡ 92 → length beyond ≡ 0 → First text Trailing beyond
unfolding symbols
first-trailing text byte [] is backslash none = rw is (rw (eq-eqb byte 92 backslash) refl, omega arith)
first-trailing text byte (escaped ∷ beyond) is backslash none = absurd (omega arith)

-- symbols after a backslash begin with no bare byte
begins-beyond : (byte : ℕ) (text : List ℕ) → begins (is_bare byte) (symbols_from true text) ≡ false
begins-beyond byte [] = refl
begins-beyond byte (escaped ∷ text) = refl

-- a text that doesn't begin with this byte
pub begins-none : (byte : ℕ) (text : List ℕ) → length text ≡ 0 → begins (is_bare byte) (symbols text) ≡ false
begins-none byte text none = rw (first-none text none) refl

pub begins-other : (byte : ℕ) (whole : List ℕ) (first : ℕ) (text : List ℕ) → whole ≡ first ∷ text → first ≢ byte → begins (is_bare byte) (symbols whole) ≡ false
unfolding symbols
begins-other byte whole first text is other = rw is (elim (first == 92) as (λ b. begins (is_bare byte) (cond b (symbols_from true text) (Bare first ∷ symbols_from false text)) ≡ false) [
  | true ↦ begins-beyond byte text
  | false ↦ ne_eqb first byte other
])

pub begins-this : (byte : ℕ) (whole : List ℕ) (first : ℕ) (text : List ℕ) → whole ≡ first ∷ text → first ≡ byte → byte ≢ 92 → First whole (Bare byte) text
begins-this byte whole first text is same other = rw same at (first-bare whole first text is (rw same other))

dash_no_close : (symbol : Symbol) → is_dash symbol ≡ true → is_close symbol ≡ false
dash_no_close (Bare byte) is = grind (arith, nat_tests)
dash_no_close (Escaped byte) is = refl
dash_no_close Trailing is = refl

mark_no_close : (symbol : Symbol) → is_class_mark symbol ≡ true → is_close symbol ≡ false
mark_no_close (Bare byte) is = grind (arith, nat_tests)
mark_no_close (Escaped byte) is = refl
mark_no_close Trailing is = refl

pub ruleset firsts = (first-none, first-bare, first-escaped, first-trailing, begins-none, begins-other, begins-this)

pub class-mark : (symbols : List Symbol) → (begins (is_bare 58) symbols || (begins (is_bare 46) symbols || begins (is_bare 61) symbols)) ≡ begins is_class_mark symbols
class-mark [] = refl
class-mark (Bare byte ∷ symbols) = by_case (byte == 58)
  where
    by_case : (b : Bool) → (b || ((byte == 46) || (byte == 61))) ≡ ((b || (byte == 46)) || (byte == 61))
    by_case true = refl
    by_case false = refl
class-mark (Escaped byte ∷ symbols) = refl
class-mark (Trailing ∷ symbols) = refl

pub ruleset marks = (class-mark)

-- where a range ends
pub range-none : (low : ℕ) (symbols : List Symbol) → begins (is_bare 45) symbols ≡ false → (low, symbols) ≡ range_end low symbols
range-none low [] none = refl
range-none low (dash ∷ []) none = refl
range-none low (dash ∷ high ∷ symbols) none = rw none refl

pub range-last : (low : ℕ) (symbols after : List Symbol) → symbols ≡ Bare 45 ∷ after → begins (is_bare 93) after ≡ true → (low, symbols) ≡ range_end low symbols
range-last low symbols [] is last = absurd (false≢true last)
range-last low symbols (high ∷ after) is last = rw (is, last) refl

pub range-empty : (low : ℕ) (symbols after : List Symbol) → symbols ≡ Bare 45 ∷ after → after ≡ [] → (low, symbols) ≡ range_end low symbols
range-empty low symbols after is empty = rw (is, empty) refl

pub range-to : (low : ℕ) (symbols after : List Symbol) (high : Symbol) (beyond : List Symbol) → symbols ≡ Bare 45 ∷ after → begins (is_bare 93) after ≡ false → after ≡ high ∷ beyond → (byte_of high, beyond) ≡ range_end low symbols
range-to low symbols after high beyond is further then_is =
    let open_end : is_close high ≡ false = rw then_is at further in
    rw (is, then_is, open_end) refl

pub ruleset range_ends = (range-none, range-last, range-empty, range-to)

-- an item reaches to its range's end, and the other items stand after it
pub ranges-step : (low : Symbol) (after : List Symbol) → ranges (body (low ∷ after)) ≡ (byte_of low, (range_end (byte_of low) after).0) ∷ ranges (before_close (range_end (byte_of low) after).1)
ranges-step low [] = refl
ranges-step low (dash ∷ []) =
    elim (is_close dash) as (λ b. ranges (low ∷ cond b [] (dash ∷ [])) ≡ (byte_of low, byte_of low) ∷ ranges (cond b [] (dash ∷ []))) [ true ↦ refl | false ↦ refl ]
ranges-step low (dash ∷ high ∷ after) = by_case (is_close dash) (is_close high) (is_dash dash) refl refl refl
  where
    by_case : (c h d : Bool) → is_close dash ≡ c → is_close high ≡ h → is_dash dash ≡ d
        → ranges (body (low ∷ dash ∷ high ∷ after)) ≡ (byte_of low, (range_end (byte_of low) (dash ∷ high ∷ after)).0) ∷ ranges (before_close (range_end (byte_of low) (dash ∷ high ∷ after)).1)
    by_case true h true p q r = absurd (false≢true (sym (dash_no_close dash r) ∙ p))
    by_case true h false p q r = simp (p, q, r)
    by_case false true true p q r = simp (p, q, r)
    by_case false true false p q r = simp (p, q, r)
    by_case false false true p q r = simp (p, q, r)
    by_case false false false p q r = simp (p, q, r)

-- a set that doesn't end goes on with its items
pub before-body : (after : List Symbol) → begins is_close after ≡ false → before_close after ≡ body after
before-body [] ends = refl
before-body (symbol ∷ after) ends = rw ends refl

-- whether the set's items from this one on have the byte
pub among-step : (byte high : ℕ) (low : Symbol) (after left : List Symbol) → (high, left) ≡ range_end (byte_of low) after
    → is_among byte (ranges (body (low ∷ after))) ≡ ((nat_le (byte_of low) byte && nat_le byte high) || is_among byte (ranges (before_close left)))
among-step byte high low after left end =
    ap (is_among byte) (ranges-step low after)
    ∙ ap (λ (found : ℕ × List Symbol). (nat_le (byte_of low) byte && nat_le byte found.0) || is_among byte (ranges (before_close found.1))) (sym end)

-- what set_end keeps from one item to the next
pub record Onward (symbols later : List Symbol) : Type 0 where
  pub classes : has_class (body later) ≡ has_class (body symbols)
  pub closed : is_closed later ≡ is_closed symbols
  pub beyond : drop (length (body later)) later ≡ drop (length (body symbols)) symbols

begins-body : (passes : Symbol → Bool) (after : List Symbol) → begins passes (body after) ≡ begins passes after
begins-body passes [] = refl
begins-body passes (symbol ∷ after) = refl

closed-on : (after : List Symbol) → begins is_close after ≡ false → list_any is_close (drop 1 after) ≡ list_any is_close after
closed-on [] ends = refl
closed-on (symbol ∷ after) ends = rw ends refl

pub onward : (symbol : Symbol) (after : List Symbol) → (is_open symbol && begins is_class_mark after) ≡ false → begins is_close after ≡ false → Onward (symbol ∷ after) after
onward symbol after classless ends =
    let same = before-body after ends in
    record {
      classes = sym (ap (λ front. (is_open symbol && begins is_class_mark front) || has_class front) same ∙ ap (λ b. (is_open symbol && b) || has_class (body after)) (begins-body is_class_mark after) ∙ ap (λ b. b || has_class (body after)) classless);
      closed = closed-on after ends;
      beyond = ap (λ front. drop (length front) after) (sym same);
    }

-- a class at the first item
begins-before : (after : List Symbol) → begins is_class_mark after ≡ true → begins is_class_mark (before_close after) ≡ true
begins-before [] mark = mark
begins-before (symbol ∷ after) mark = rw (mark_no_close symbol mark) mark

pub class-here : (symbol : Symbol) (after : List Symbol) → (is_open symbol && begins is_class_mark after) ≡ true → has_class (body (symbol ∷ after)) ≡ true
class-here symbol after class =
    let parts = and_parts _ _ class in
    or_left _ _ (and_from _ _ parts.0 (begins-before after parts.1))

-- a set that ends after its first item
pub record EndsHere (symbol : Symbol) (rest : List Symbol) : Type 0 where
  pub classes : has_class (body (symbol ∷ Bare 93 ∷ rest)) ≡ false
  pub closed : is_closed (symbol ∷ Bare 93 ∷ rest) ≡ true
  pub beyond : drop (length (body (symbol ∷ Bare 93 ∷ rest)) + 1) (symbol ∷ Bare 93 ∷ rest) ≡ rest

pub ends_here : (symbol : Symbol) (rest : List Symbol) → EndsHere symbol rest
ends_here symbol rest = record { classes = rw (and_right (is_open symbol) false refl) refl; closed = refl; beyond = refl }

pub among-on : (byte low high : ℕ) (symbols : List Symbol) (symbol : Symbol) (after left : List Symbol) → symbols ≡ symbol ∷ after → low ≡ byte_of symbol → (high, left) ≡ range_end low after
    → (nat_le low byte && nat_le byte high) ≡ false → begins is_close left ≡ false → is_among byte (ranges (body left)) ≡ is_among byte (ranges (body symbols))
among-on byte low high symbols symbol after left is low_is end other further =
    let step = among-step byte high symbol after left (rw low_is at end) in
    let missed : (nat_le (byte_of symbol) byte && nat_le byte high) ≡ false = rw low_is at other in
    sym (ap (λ us. is_among byte (ranges (body us))) is ∙ step ∙ ap (λ b. b || is_among byte (ranges (before_close left))) missed ∙ ap (λ us. is_among byte (ranges us)) (before-body left further))

-- a set whose ] was found
pub set-closed : (symbols later : List Symbol) (symbol : Symbol) (after rest : List Symbol) → Onward symbols later → later ≡ symbol ∷ after → after ≡ Bare 93 ∷ rest
    → (has_class (body symbols) ≡ false) × (is_closed symbols ≡ true) × (rest ≡ drop (length (body symbols) + 1) symbols)
set-closed symbols later symbol after rest on is then_is =
    let here = ends_here symbol rest in
    let whole : later ≡ symbol ∷ Bare 93 ∷ rest = is ∙ ap (λ us. symbol ∷ us) then_is in
    let on_here = subst (Onward symbols) whole on in (
      sym on_here.classes ∙ here.classes,
      sym on_here.closed ∙ here.closed,
      sym (sym (drop-drop 1 (length (body symbols)) symbols) ∙ ap (drop 1) (sym on_here.beyond)),
    )

pub ruleset set_ends = (onward, class-here, ends_here)

pub ruleset amongs = (among-step, before-body)
