-- How many bytes stand after the last ] of a pattern, and that each [ among them stands for itself.
use Rattle.std.proofs.Common.{◌≡◌, ℕ, ◌+◌, ◌≤◌, ◌<◌, Bool, true, false, cond, List, [], ◌∷◌, length, drop, map, zero, suc, refl, sym, ap, ◌∙◌, arith}
use Rattle.std.specs.Prelude.{◌==◌, ◌||◌, Option, None, Some, MatchOption, IfSome}
use Rattle.std.specs.List.{list_any}
use Rattle.std.proofs.lemmas.List.{drop-drop}
use Rattle.std.proofs.lemmas.Bool.{or_parts, false≢true, not-true}
use Rattle.up_pattern.specs.declared.pattern.Symbol.{Symbol}
use Rattle.up_pattern.specs.declared.pattern.Symbol.TheVariants.{Bare, Escaped, Trailing}
use Rattle.up_pattern.specs.declared.pattern.Reading.{Reading}
use Rattle.up_pattern.specs.Matching.{IsEnd, IsFlat, Settled, item_of_part, width, width_of, unclosed_width}
use Rattle.up_pattern.specs.Pattern.{symbols, symbols_from, is_open, is_close, is_not, inner, body, is_closed, has_class, Item, Only, Class, Among, is_class, lone_item, set_item, item_of, ranges, items_from, all_items, supported}
use Rattle.up_pattern.specs.Lists.{begins}
use Rattle.up_pattern.proofs.ItemReading.{items-lone, lone-open}
use Rattle.up_pattern.proofs.Matches.{supported-is}

width_from : (escaped : Bool) (text : List ℕ) → width_of (symbols_from escaped text) ≡ cond escaped 1 0 + length text
width_from false [] = refl
width_from true [] = refl
width_from true (byte ∷ text) = let rest = width_from false text in omega (arith, rest)
width_from false (byte ∷ text) = by_case (byte == 92) (width_from true text) (width_from false text)
  where
    by_case : (b : Bool) → width_of (symbols_from true text) ≡ 1 + length text → width_of (symbols_from false text) ≡ 0 + length text
        → width_of (cond b (symbols_from true text) (Bare byte ∷ symbols_from false text)) ≡ 0 + length (byte ∷ text)
    by_case true escaped bare = omega (arith, escaped)
    by_case false escaped bare = omega (arith, bare)

-- a text is as long as its symbols
pub width-symbols : (text : List ℕ) → width_of (symbols text) ≡ length text
unfolding symbols
width-symbols text = let same = width_from false text in omega (arith, same)

pub unclosed-none : (after : List Symbol) → list_any is_close after ≡ false → unclosed_width after ≡ width_of after
unclosed-none [] none = refl
unclosed-none (symbol ∷ after) none = by_case (is_close symbol) (list_any is_close after) none
  where
    by_case : (c l : Bool) → (c || l) ≡ false → cond l (unclosed_width after) (cond c (width_of after) (width symbol + width_of after)) ≡ width symbol + width_of after
    by_case true l h = absurd (false≢true (sym h))
    by_case false true h = absurd (false≢true (sym h))
    by_case false false h = refl

-- one symbol further, what is found so far is still the answer
pub unclosed-step : (symbol : Symbol) (after : List Symbol) (found whole : ℕ) → cond (list_any is_close (symbol ∷ after)) (unclosed_width (symbol ∷ after)) found ≡ whole
    → cond (list_any is_close after) (unclosed_width after) (cond (is_close symbol) (width_of after) found) ≡ whole
unclosed-step symbol after found whole so_far = by_case (is_close symbol) (list_any is_close after) so_far
  where
    by_case : (c l : Bool) → cond (c || l) (cond l (unclosed_width after) (cond c (width_of after) (width_of (symbol ∷ after)))) found ≡ whole
        → cond l (unclosed_width after) (cond c (width_of after) found) ≡ whole
    by_case true true h = h
    by_case true false h = h
    by_case false true h = h
    by_case false false h = h

pub unclosed-start : (text : List ℕ) → cond (list_any is_close (symbols text)) (unclosed_width (symbols text)) (length text) ≡ unclosed_width (symbols text)
unclosed-start text = by_case (list_any is_close (symbols text)) refl
  where
    by_case : (l : Bool) → list_any is_close (symbols text) ≡ l → cond l (unclosed_width (symbols text)) (length text) ≡ unclosed_width (symbols text)
    by_case true is = refl
    by_case false none = sym (unclosed-none (symbols text) none ∙ width-symbols text)

some-width : (symbol : Symbol) → 0 < width symbol
some-width (Bare byte) = omega arith
some-width (Escaped byte) = omega arith
some-width Trailing = omega arith

no-wider : (symbols : List Symbol) → unclosed_width symbols ≤ width_of symbols
no-wider [] = omega arith
no-wider (symbol ∷ after) = by_case (list_any is_close after) (is_close symbol) (no-wider after)
  where
    by_case : (l c : Bool) → unclosed_width after ≤ width_of after → cond l (unclosed_width after) (cond c (width_of after) (width symbol + width_of after)) ≤ width symbol + width_of after
    by_case true c h = omega (arith, h)
    by_case false true h = omega arith
    by_case false false h = omega arith

any-drop : (count : ℕ) (after : List Symbol) → list_any is_close after ≡ false → list_any is_close (drop count after) ≡ false
any-drop zero after none = none
any-drop (suc count) [] none = refl
any-drop (suc count) (symbol ∷ after) none = any-drop count after (or_parts _ _ none).1

-- no ] stands among the last bytes
pub unclosed-end : (symbols : List Symbol) (count : ℕ) → width_of (drop count symbols) ≤ unclosed_width symbols → list_any is_close (drop count symbols) ≡ false
unclosed-end [] zero short = refl
unclosed-end [] (suc count) short = refl
unclosed-end (symbol ∷ after) zero short = by_case (is_close symbol) (list_any is_close after) short
  where
    by_case : (c l : Bool) → width symbol + width_of after ≤ cond l (unclosed_width after) (cond c (width_of after) (width symbol + width_of after)) → (c || l) ≡ false
    by_case true true h = absurd (let some = some-width symbol in let no = no-wider after in omega (arith, h, some, no))
    by_case true false h = absurd (let some = some-width symbol in omega (arith, h, some))
    by_case false true h = absurd (let some = some-width symbol in let no = no-wider after in omega (arith, h, some, no))
    by_case false false h = refl
unclosed-end (symbol ∷ after) (suc count) short = by_case (list_any is_close after) refl (unclosed-end after count) short
  where
    by_case : (l : Bool) → list_any is_close after ≡ l → (width_of (drop count after) ≤ unclosed_width after → list_any is_close (drop count after) ≡ false) → width_of (drop count after) ≤ cond l (unclosed_width after) (cond (is_close symbol) (width_of after) (width_of (symbol ∷ after))) → list_any is_close (drop count after) ≡ false
    by_case true is rest h = rest h
    by_case false none rest h = any-drop count after none

pub settled-start : (pattern : List ℕ) → supported pattern ≡ true → Settled (unclosed_width (symbols pattern)) pattern
settled-start pattern is = record {
  ends = λ later end short. rw end.1 (unclosed-end (symbols pattern) end.0 (rw end.1 at short));
  classless = not-true _ (sym (supported-is pattern) ∙ is);
}

-- what an item leaves is settled as well
pub settled-rest : (unclosed : ℕ) (text rest : List ℕ) (item : Item) → Settled unclosed text → all_items text ≡ item ∷ all_items rest → IsEnd (symbols rest) (symbols text) → Settled unclosed rest
settled-rest unclosed text rest item settled is end = record {
  ends = λ later further. settled.ends later (end.0 + further.0, further.1 ∙ ap (drop further.0) end.1 ∙ drop-drop further.0 end.0 (symbols text));
  classless = (or_parts _ _ (sym (ap (list_any is_class) is) ∙ settled.classless)).1;
}

pub settled-result : (unclosed : ℕ) (text : List ℕ) (result : Option Reading) → Settled unclosed text
    → MatchOption result (all_items text ≡ []) (λ reading. all_items text ≡ item_of_part reading.part ∷ all_items reading.rest.now)
    → IfSome result (λ reading. IsEnd (symbols reading.rest.now) (symbols text)) → IfSome result (λ reading. Settled unclosed reading.rest.now)
settled-result unclosed text None settled is end = tt
settled-result unclosed text (Some reading) settled is end = settled-rest unclosed text reading.rest.now (item_of_part reading.part) settled is end

closed-tail : (n : Bool) (after : List Symbol) → list_any is_close after ≡ false → list_any is_close (drop 1 (cond n (drop 1 after) after)) ≡ false
closed-tail true after none = any-drop 1 (drop 1 after) (any-drop 1 after none)
closed-tail false after none = any-drop 1 after none

-- a [ after the last ] stands for itself, if its set has no class
set-unclosed : (symbol : Symbol) (after : List Symbol) → is_open symbol ≡ true → list_any is_close after ≡ false → is_class (set_item after) ≡ false → set_item after ≡ lone_item symbol
set-unclosed symbol after is none classless = by_case (has_class (body (inner after))) classless
  where
    unclosed : is_closed (inner after) ≡ false
    unclosed = closed-tail (begins is_not after) after none

    by_case : (k : Bool) → is_class (cond k Class (cond (is_closed (inner after)) (Among (begins is_not after) (ranges (body (inner after)))) (Only 91))) ≡ false
        → cond k Class (cond (is_closed (inner after)) (Among (begins is_not after) (ranges (body (inner after)))) (Only 91)) ≡ lone_item symbol
    by_case true h = absurd (false≢true (sym h))
    by_case false h = rw unclosed (sym (lone-open symbol is))

item-unclosed : (symbol : Symbol) (after : List Symbol) → list_any is_close after ≡ false → is_class (item_of symbol after) ≡ false → item_of symbol after ≡ lone_item symbol
item-unclosed symbol after none = by_case (is_open symbol) refl
  where
    by_case : (o : Bool) → is_open symbol ≡ o → is_class (cond o (set_item after) (lone_item symbol)) ≡ false → cond o (set_item after) (lone_item symbol) ≡ lone_item symbol
    by_case true is classless = set-unclosed symbol after is none classless
    by_case false is classless = refl

all-unclosed : (symbols : List Symbol) → list_any is_close symbols ≡ false → list_any is_class (items_from 0 symbols) ≡ false → items_from 0 symbols ≡ map lone_item symbols
all-unclosed [] none classless = refl
all-unclosed (symbol ∷ after) none classless =
    let further = (or_parts _ _ none).1 in
    let item = item-unclosed symbol after further (or_parts _ _ classless).0 in
    let items = items-lone symbol after item in
    items ∙ ap (λ rest. lone_item symbol ∷ rest) (all-unclosed after further (or_parts _ _ (sym (ap (list_any is_class) items) ∙ classless)).1)

-- after the last ] each [ stands for itself
pub settled-flat : (unclosed : ℕ) (text : List ℕ) → Settled unclosed text → length text ≤ unclosed → IsFlat text
unfolding all_items
settled-flat unclosed text settled short =
    let same = width-symbols text in
    all-unclosed (symbols text) (settled.ends (symbols text) (0, refl) (omega (arith, same, short))) settled.classless

pub ruleset unclosed_lengths = (unclosed-start, unclosed-step, width-symbols)

pub ruleset settlings = (settled-rest, settled-flat)
