-- How the items of a pattern follow from one another.
use Rattle.std.proofs.Common.{◌≡◌, ℕ, ◌+◌, ◌≤◌, Bool, true, false, cond, List, [], ◌∷◌, length, drop, map, zero, suc, refl, sym, ap, ◌∙◌, arith}
use Rattle.std.specs.List.{list_any}
use Rattle.std.proofs.lemmas.List.{drop-drop}
use Rattle.std.specs.Prelude.{◌==◌}
use Rattle.std.proofs.lemmas.Bool.{or_parts, eqb-true, false≢true}
use Rattle.std.proofs.lemmas.Bool.Decides.{nat_tests}
use Rattle.up_pattern.specs.declared.pattern.Symbol.{Symbol}
use Rattle.up_pattern.specs.declared.pattern.Symbol.TheVariants.{Bare, Escaped, Trailing}
use Rattle.up_pattern.specs.declared.pattern.Reading.{Reading}
use Rattle.up_pattern.specs.Matching.{IsEnd, IsFlat, MeansItem, item_of_part}
use Rattle.up_pattern.specs.Pattern.{symbols, is_open, is_close, is_not, before_close, body, inner, is_closed, has_class, Item, Run, Any, Only, Among, ranges, lone_item, set_item, item_of, more, items_from, all_items}
use Rattle.up_pattern.specs.Lists.{begins}

-- symbols that belong to an item before are passed
items_from-drop : (taken : ℕ) (symbols : List Symbol) → items_from taken symbols ≡ items_from 0 (drop taken symbols)
items_from-drop zero symbols = refl
items_from-drop (suc taken) [] = refl
items_from-drop (suc taken) (symbol ∷ symbols) = items_from-drop taken symbols

pub all_items-none : (text : List ℕ) → symbols text ≡ [] → all_items text ≡ []
unfolding all_items
all_items-none text none = rw none refl

pub all_items-first : (text rest : List ℕ) (symbol : Symbol) (after : List Symbol) → symbols text ≡ symbol ∷ after → symbols rest ≡ drop (more (item_of symbol after) after) after
    → all_items text ≡ item_of symbol after ∷ all_items rest
unfolding all_items
all_items-first text rest symbol after is left =
    ap (items_from 0) is
    ∙ ap (λ items. item_of symbol after ∷ items) (items_from-drop (more (item_of symbol after) after) after ∙ ap (items_from 0) (sym left))

-- a lone item takes no more symbols
more-lone : (symbol : Symbol) (after : List Symbol) → more (lone_item symbol) after ≡ 0
more-lone (Bare byte) after = by_case (byte == 42) (byte == 63)
  where
    by_case : (star any : Bool) → more (cond star Run (cond any Any (Only byte))) after ≡ 0
    by_case true any = refl
    by_case false true = refl
    by_case false false = refl
more-lone (Escaped byte) after = refl
more-lone Trailing after = refl

pub item-lone : (symbol : Symbol) (after : List Symbol) → is_open symbol ≡ false → item_of symbol after ≡ lone_item symbol
item-lone symbol after other = rw other refl

pub item-set : (symbol : Symbol) (after : List Symbol) → is_open symbol ≡ true → item_of symbol after ≡ set_item after
item-set symbol after is = rw is refl

-- where no ] stands, a set's body is all that follows
before-all : (after : List Symbol) → list_any is_close after ≡ false → before_close after ≡ after
before-all [] none = refl
before-all (symbol ∷ after) none =
    let parts = or_parts _ _ none in
    let other : is_close symbol ≡ false = parts.0 in
    rw other (ap (λ rest. symbol ∷ rest) (before-all after parts.1))

body-all : (after : List Symbol) → list_any is_close (drop 1 after) ≡ false → body after ≡ after
body-all [] none = refl
body-all (symbol ∷ after) none = ap (λ rest. symbol ∷ rest) (before-all after none)

none-beyond : (after : List Symbol) → list_any is_close after ≡ false → list_any is_close (drop 1 after) ≡ false
none-beyond [] none = refl
none-beyond (symbol ∷ after) none = (or_parts _ _ none).1

-- after a set that isn't closed there are no sets
flat-inner : (n : Bool) (after : List Symbol) → list_any is_close (drop 1 (cond n (drop 1 after) after)) ≡ false → list_any is_close (drop 2 after) ≡ false
flat-inner true [] none = refl
flat-inner true (symbol ∷ after) none = none
flat-inner false [] none = refl
flat-inner false (symbol ∷ after) none = none-beyond after none

not_open : (symbol : Symbol) → is_not symbol ≡ true → is_open symbol ≡ false
not_open (Bare byte) is = grind (arith, nat_tests)
not_open (Escaped byte) is = refl
not_open Trailing is = refl

classless-inner : (after : List Symbol) → has_class (inner after) ≡ false → has_class after ≡ false
classless-inner [] none = refl
classless-inner (symbol ∷ after) none = by_case (is_not symbol) refl none
  where
    by_case : (n : Bool) → is_not symbol ≡ n → has_class (cond n after (symbol ∷ after)) ≡ false → has_class (symbol ∷ after) ≡ false
    by_case true is none = rw (not_open symbol is, none) refl
    by_case false is none = none

-- symbols in which no set is closed and none has a class
record NoSets (symbols : List Symbol) : Type 0 where
  unclosed : list_any is_close (drop 2 symbols) ≡ false
  classless : has_class symbols ≡ false

sets-open : (after : List Symbol) → has_class (body (inner after)) ≡ false → is_closed (inner after) ≡ false → NoSets after
sets-open after classless unclosed =
    record {
      unclosed = flat-inner (begins is_not after) after unclosed;
      classless = classless-inner after (ap has_class (sym (body-all (inner after) unclosed)) ∙ classless);
    }

inner-unclosed : (n : Bool) (after : List Symbol) → list_any is_close (drop 1 after) ≡ false → list_any is_close (drop 1 (cond n (drop 1 after) after)) ≡ false
inner-unclosed true after none = none-beyond (drop 1 after) none
inner-unclosed false after none = none

inner-classless : (after : List Symbol) → has_class after ≡ false → has_class (inner after) ≡ false
inner-classless [] none = refl
inner-classless (symbol ∷ after) none = by_case (is_not symbol)
  where
    by_case : (n : Bool) → has_class (cond n after (symbol ∷ after)) ≡ false
    by_case true = (or_parts _ _ none).1
    by_case false = none

pub lone-open : (symbol : Symbol) → is_open symbol ≡ true → lone_item symbol ≡ Only 91
lone-open (Bare byte) is = rw (eqb-true byte 91 is) refl
lone-open (Escaped byte) is = absurd (false≢true is)
lone-open Trailing is = absurd (false≢true is)

item-flat : (symbol : Symbol) (after : List Symbol) → NoSets (symbol ∷ after) → item_of symbol after ≡ lone_item symbol
item-flat symbol after flat = by_case (is_open symbol) refl
  where
    by_case : (o : Bool) → is_open symbol ≡ o → cond o (set_item after) (lone_item symbol) ≡ lone_item symbol
    by_case true is =
        let unclosed = inner-unclosed (begins is_not after) after flat.unclosed in
        let classless = inner-classless after (or_parts _ _ flat.classless).1 in
        let whole = body-all (inner after) unclosed in
        let no_class : has_class (body (inner after)) ≡ false = ap has_class whole ∙ classless in
        rw (no_class, unclosed) (sym (lone-open symbol is))
    by_case false is = refl

none-further : (after : List Symbol) → list_any is_close (drop 1 after) ≡ false → list_any is_close (drop 2 after) ≡ false
none-further [] none = refl
none-further (symbol ∷ after) none = none-beyond after none

-- if an item is that of its symbol, the others are those of the symbols after it
pub items-lone : (symbol : Symbol) (after : List Symbol) → item_of symbol after ≡ lone_item symbol → items_from 0 (symbol ∷ after) ≡ lone_item symbol ∷ items_from 0 after
items-lone symbol after lone =
    ap (λ item. item ∷ items_from (more item after) after) lone
    ∙ ap (λ count. lone_item symbol ∷ items_from count after) (more-lone symbol after)

-- without sets each symbol is an item
all-lone : (symbols : List Symbol) → NoSets symbols → items_from 0 symbols ≡ map lone_item symbols
all-lone [] flat = refl
all-lone (symbol ∷ after) flat =
    items-lone symbol after (item-flat symbol after flat)
    ∙ ap (λ items. lone_item symbol ∷ items) (all-lone after (record { unclosed = none-further after flat.unclosed; classless = (or_parts _ _ flat.classless).1 }))

pub flat-open : (text : List ℕ) → has_class (body (inner (symbols text))) ≡ false → is_closed (inner (symbols text)) ≡ false → IsFlat text
unfolding all_items
flat-open text classless unclosed = all-lone (symbols text) (sets-open (symbols text) classless unclosed)

same-front : {X : Type 0} (x y : X) (xs ys : List X) → x ∷ xs ≡ y ∷ ys → (x ≡ y) × (xs ≡ ys)
same-front x y xs ys same = (cc, cc)

-- the first of a text's symbols, where each [ stands for itself
flat-parts : (symbol : Symbol) (after : List Symbol) → items_from 0 (symbol ∷ after) ≡ lone_item symbol ∷ map lone_item after
    → (item_of symbol after ≡ lone_item symbol) × (items_from 0 after ≡ map lone_item after)
flat-parts symbol after flat =
    let first = same-front _ _ _ _ flat in
    (first.0, (same-front _ _ _ _ (sym (items-lone symbol after first.0) ∙ flat)).1)

pub flat-first : (text rest : List ℕ) (symbol : Symbol) → symbols text ≡ symbol ∷ symbols rest → IsFlat text → (item_of symbol (symbols rest) ≡ lone_item symbol) × IsFlat rest
unfolding all_items
flat-first text rest symbol is flat = flat-parts symbol (symbols rest) (rw is at flat)

pub set-open : (after : List Symbol) → has_class (body (inner after)) ≡ false → is_closed (inner after) ≡ false → set_item after ≡ Only 91
set-open after class unclosed = rw (class, unclosed) refl

pub set-among : (after : List Symbol) → has_class (body (inner after)) ≡ false → is_closed (inner after) ≡ true → set_item after ≡ Among (begins is_not after) (ranges (body (inner after)))
set-among after class closed = rw (class, closed) refl

-- what stands after a closed set
inner-drop : (n : Bool) (count : ℕ) (after : List Symbol) → drop (cond n 1 0 + count) after ≡ drop count (cond n (drop 1 after) after)
inner-drop true count after = sym (drop-drop count 1 after)
inner-drop false count after = let same : 0 + count ≡ count = omega arith in ap (λ n. drop n after) same

pub set-beyond : (inverted : Bool) (found : List (ℕ × ℕ)) (after : List Symbol) → drop (more (Among inverted found) after) after ≡ drop (length (body (inner after)) + 1) (inner after)
set-beyond inverted found after = inner-drop (begins is_not after) (length (body (inner after)) + 1) after

pub means-open : (text : List ℕ) (reading : Reading) → has_class (body (inner (symbols text))) ≡ false → is_closed (inner (symbols text)) ≡ false → item_of_part reading.part ≡ Only 91 → reading.rest.now ≡ text → MeansItem (set_item (symbols text)) text reading
means-open text reading classless unclosed part rest =
    let item = set-open (symbols text) classless unclosed in
    record {
      part = part ∙ sym item;
      rest = rw (item, rest) refl;
      flat = λ none. rw rest (flat-open text classless unclosed);
      shorter = rw rest (omega arith);
    }

pub means-closed : (text set rest : List ℕ) (reading : Reading) → symbols set ≡ inner (symbols text) → length set ≤ length text
    → (has_class (body (symbols set)) ≡ false) × (is_closed (symbols set) ≡ true) × (symbols rest ≡ drop (length (body (symbols set)) + 1) (symbols set)) × (length rest ≤ length set)
    → item_of_part reading.part ≡ Among (begins is_not (symbols text)) (ranges (body (symbols set))) → reading.rest.now ≡ rest → reading.ahead ≡ true → MeansItem (set_item (symbols text)) text reading
means-closed text set rest reading is shorter ends part rest_is sets =
    let item = set-among (symbols text) (rw is at ends.0) (rw is at ends.1) in
    record {
      part = part ∙ rw is (sym item);
      rest = rw (item, rest_is) (rw is at ends.2 ∙ sym (set-beyond (begins is_not (symbols text)) (ranges (body (inner (symbols text)))) (symbols text)));
      flat = λ none. absurd (false≢true (sym none ∙ sets));
      shorter = let no_longer = ends.3 in rw rest_is (omega arith);
    }

-- after a ! a set is what follows it, and without one what is there
pub inner-beyond : (symbols after : List Symbol) → symbols ≡ Bare 33 ∷ after → (true ≡ begins is_not symbols) × (after ≡ inner symbols)
inner-beyond symbols after is = rw is (refl, refl)

pub inner-same : (symbols : List Symbol) → begins is_not symbols ≡ false → (false ≡ begins is_not symbols) × (symbols ≡ inner symbols)
inner-same symbols none = rw none (refl, refl)

pub ruleset inners = (inner-beyond, inner-same)

-- what read gives: a set's item, or an item of one symbol
pub reading-set : (text rest : List ℕ) (symbol : Symbol) (reading : Reading) → symbols text ≡ symbol ∷ symbols rest → is_open symbol ≡ true → MeansItem (set_item (symbols rest)) rest reading
    → all_items text ≡ item_of_part reading.part ∷ all_items reading.rest.now
reading-set text rest symbol reading is set means =
    let item = item-set symbol (symbols rest) set in
    all_items-first text reading.rest.now symbol (symbols rest) is (means.rest ∙ ap (λ item. drop (more item (symbols rest)) (symbols rest)) (sym item))
    ∙ ap (λ item. item ∷ all_items reading.rest.now) (item ∙ sym means.part)

-- what an item leaves stands at the end
pub end-set : (text rest : List ℕ) (symbol : Symbol) (reading : Reading) → symbols text ≡ symbol ∷ symbols rest → MeansItem (set_item (symbols rest)) rest reading → IsEnd (symbols reading.rest.now) (symbols text)
end-set text rest symbol reading is means = (suc (more (set_item (symbols rest)) (symbols rest)), rw is means.rest)

pub end-lone : (text rest : List ℕ) (symbol : Symbol) → symbols text ≡ symbol ∷ symbols rest → IsEnd (symbols rest) (symbols text)
end-lone text rest symbol is = (1, rw is refl)

pub reading-lone : (text rest : List ℕ) (symbol : Symbol) (part : Item) → symbols text ≡ symbol ∷ symbols rest → part ≡ lone_item symbol → item_of symbol (symbols rest) ≡ lone_item symbol
    → all_items text ≡ part ∷ all_items rest
reading-lone text rest symbol part is part_is lone =
    all_items-first text rest symbol (symbols rest) is (ap (λ n. drop n (symbols rest)) (sym (ap (λ item. more item (symbols rest)) lone ∙ more-lone symbol (symbols rest))))
    ∙ ap (λ item. item ∷ all_items rest) (lone ∙ sym part_is)

pub ruleset readings = (all_items-none, reading-set)
