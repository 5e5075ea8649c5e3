-- Texts of which none stands twice, one after another.
use Rattle.std.proofs.Common.{◌≡◌, ℕ, ◌+◌, ◌<◌, ◌≤◌, Bool, true, false, ◌||◌, not, List, [], ◌∷◌, ◌++◌, length, get_or, take, drop, map, cond, refl, sym, ◌∙◌, ap, suc, arith}
use Rattle.std.specs.List.{list_any}
use Rattle.std.specs.Str.{bytes_eq}
use Rattle.std.specs.Cmp.{both_ways}
use Rattle.std.proofs.lemmas.List.{take_more, map-append}
use Rattle.std.proofs.Math.Seq.{split_at}
use Rattle.std.proofs.lemmas.Slice.Eq.{bytes_eq-Decides}
use Rattle.up_stanza.specs.declared.setting.Setting.{Setting}
use Rattle.up_image.specs.Compiling.{has_twice}

pub bytes_eq-flip : (xs ys : List ℕ) → bytes_eq xs ys ≡ bytes_eq ys xs
bytes_eq-flip xs ys =
    both_ways _ _ (λ e. (bytes_eq-Decides ys xs).1 (sym ((bytes_eq-Decides xs ys).0 e))) (λ e. (bytes_eq-Decides xs ys).1 (sym ((bytes_eq-Decides ys xs).0 e)))

pub or-false : (a b : Bool) → a ≡ false → b ≡ false → (a || b) ≡ false
or-false a b e f = rw (e, f) refl

pub or_parts : (a b : Bool) → (a || b) ≡ false → (a ≡ false) × (b ≡ false)
or_parts true b e = absurd (cc)
or_parts false b e = (refl, e)

or-assoc : (a b c : Bool) → ((a || b) || c) ≡ (a || (b || c))
or-assoc true b c = refl
or-assoc false b c = refl

or-true : (a : Bool) → (a || true) ≡ true
or-true true = refl
or-true false = refl

list_any-append : {X : Type 0} (test : X → Bool) (xs ys : List X) → list_any test (xs ++ ys) ≡ (list_any test xs || list_any test ys)
list_any-append test [] ys = refl
list_any-append test (x ∷ xs) ys = ap (λ b. test x || b) (list_any-append test xs ys) ∙ sym (or-assoc (test x) (list_any test xs) (list_any test ys))

or-zero : (a : Bool) → (a || false) ≡ a
or-zero true = refl
or-zero false = refl

-- a text at the end that isn't among those before it
pub has_twice-push : (xs : List (List ℕ)) (x : List ℕ) → has_twice xs ≡ false → list_any (bytes_eq x) xs ≡ false → has_twice (xs ++ x ∷ []) ≡ false
has_twice-push [] x apart new = refl
has_twice-push (y ∷ ys) x apart new =
    let parts = or_parts _ _ apart in
    let others = or_parts _ _ new in
    let last : (bytes_eq y x || false) ≡ false = or-zero _ ∙ bytes_eq-flip y x ∙ others.0 in
    or-false _ _ (list_any-append (bytes_eq y) ys (x ∷ []) ∙ or-false _ _ parts.0 last) (has_twice-push ys x parts.1 others.1)

-- a text that is among those before it
has_twice-found : (xs : List (List ℕ)) (x : List ℕ) (ys : List (List ℕ)) → list_any (bytes_eq x) xs ≡ true → has_twice (xs ++ x ∷ ys) ≡ true
has_twice-found [] x ys found = absurd (cc)
has_twice-found (w ∷ ws) x ys found = by_case (bytes_eq x w) refl found (has_twice-found ws x ys)
  where
    by_case : (b : Bool) → bytes_eq x w ≡ b → (b || list_any (bytes_eq x) ws) ≡ true → (list_any (bytes_eq x) ws ≡ true → has_twice (ws ++ x ∷ ys) ≡ true) → (list_any (bytes_eq w) (ws ++ x ∷ ys) || has_twice (ws ++ x ∷ ys)) ≡ true
    by_case true e h rest =
        let same : (bytes_eq w x || list_any (bytes_eq w) ys) ≡ true = ap (λ b. b || list_any (bytes_eq w) ys) (bytes_eq-flip w x ∙ e) in
        let any : list_any (bytes_eq w) (ws ++ x ∷ ys) ≡ true = list_any-append (bytes_eq w) ws (x ∷ ys) ∙ ap (λ b. list_any (bytes_eq w) ws || b) same ∙ or-true _ in
        ap (λ b. b || has_twice (ws ++ x ∷ ys)) any
    by_case false e h rest = ap (λ b. list_any (bytes_eq w) (ws ++ x ∷ ys) || b) (rest h) ∙ or-true _

-- the texts so far and the next one
texts_more : {X : Type 0} (text_of : X → List ℕ) (xs : List X) (i : ℕ) (d : X) → i < length xs → map text_of (take (i + 1) xs) ≡ map text_of (take i xs) ++ text_of (get_or xs i d) ∷ []
texts_more text_of xs i d inside = ap (map text_of) (take_more xs i d inside) ∙ map-append text_of (take i xs) (get_or xs i d ∷ [])

-- a text that stands among those before it
pub has_twice-at : {X : Type 0} (text_of : X → List ℕ) (xs : List X) (i : ℕ) (d : X) → i < length xs → list_any (bytes_eq (text_of (get_or xs i d))) (map text_of (take i xs)) ≡ true → true ≡ has_twice (map text_of xs)
has_twice-at text_of xs i d inside found =
    let parts : map text_of xs ≡ map text_of (take i xs) ++ text_of (get_or xs i d) ∷ map text_of (drop (suc i) xs) = ap (map text_of) (split_at xs i d inside) ∙ map-append text_of (take i xs) (get_or xs i d ∷ drop (suc i) xs) in
    sym (ap has_twice parts ∙ has_twice-found (map text_of (take i xs)) (text_of (get_or xs i d)) (map text_of (drop (suc i) xs)) found)

-- one more text that stands among none before it
pub has_twice-more : {X : Type 0} (text_of : X → List ℕ) (xs : List X) (i : ℕ) (d : X) → i < length xs → has_twice (map text_of (take i xs)) ≡ false → list_any (bytes_eq (text_of (get_or xs i d))) (map text_of (take i xs)) ≡ false → has_twice (map text_of (take (i + 1) xs)) ≡ false
has_twice-more text_of xs i d inside apart new = ap has_twice (texts_more text_of xs i d inside) ∙ has_twice-push (map text_of (take i xs)) (text_of (get_or xs i d)) apart new

-- what has the texts so far has one more after an insertion
pub seen_more : {X : Type 0} (text_of : X → List ℕ) (xs : List X) (i : ℕ) (d : X) (q : List ℕ) (had has : Bool) → i < length xs → had ≡ list_any (bytes_eq q) (map text_of (take i xs)) → has ≡ cond (bytes_eq (text_of (get_or xs i d)) q) true had → has ≡ list_any (bytes_eq q) (map text_of (take (i + 1) xs))
seen_more text_of xs i d q had has inside before after =
    after ∙ by_case (bytes_eq (text_of (get_or xs i d)) q) had
    ∙ ap (λ b. b || (bytes_eq (text_of (get_or xs i d)) q || false)) before
    ∙ ap (λ b. list_any (bytes_eq q) (map text_of (take i xs)) || (b || false)) (bytes_eq-flip (text_of (get_or xs i d)) q)
    ∙ sym (list_any-append (bytes_eq q) (map text_of (take i xs)) (text_of (get_or xs i d) ∷ []))
    ∙ ap (list_any (bytes_eq q)) (sym (texts_more text_of xs i d inside))
  where
    by_case : (a b : Bool) → cond a true b ≡ (b || (a || false))
    by_case true b = sym (or-true b)
    by_case false b = sym (or-zero b)

pub from_not-false : (b : Bool) → not b ≡ false → b ≡ true
from_not-false true e = refl
from_not-false false e = absurd (cc)

pub from_not-true : (b : Bool) → not b ≡ true → b ≡ false
from_not-true true e = absurd (cc)
from_not-true false e = refl

-- one text doesn't stand twice
pub few_apart : (texts : List (List ℕ)) → length texts ≤ 1 → has_twice texts ≡ false
few_apart [] few = refl
few_apart (text ∷ []) few = refl
few_apart (text ∷ other ∷ texts) few = absurd (omega (arith, few))

pub few_keys : (settings : List Setting) → length settings ≤ 1 → has_twice (map (λ setting. setting.key) settings) ≡ false
few_keys [] few = refl
few_keys (setting ∷ []) few = refl
few_keys (setting ∷ other ∷ settings) few = absurd (omega (arith, few))
