-- What arguments say, the other way round: from a stanza to the arguments that say it.
use Rattle.std.proofs.Common.{◌≡◌, ℕ, Bool, true, false, List, [], ◌∷◌, map, Option, None, Some, cond, refl, sym, ◌∙◌, ap, option_map, option_and_then}
use Rattle.std.proofs.lemmas.Bool.{and_parts}
use Rattle.std.proofs.lemmas.Slice.Eq.{bytes_eq-Decides}
use Rattle.std.specs.List.{list_all}
use Rattle.std.specs.Str.{bytes_eq}
use Rattle.up_text.specs.Names.{is_key}
use Rattle.up_text.specs.Scripts.{is_filled}
use Rattle.up_stanza.specs.Arguments.{single, none, with_first, each, one_or_more, after}
use Rattle.up_stanza.specs.Settings.{key_in}

-- what an option was made of
pub record Mapped {X Y : Type 0} (f : X → Y) (part : Option X) (y : Y) : Type 0 where
  pub x : X
  pub is : part ≡ Some x
  pub gives : f x ≡ y

pub mapped : {X Y : Type 0} (f : X → Y) (part : Option X) (y : Y) → option_map f part ≡ Some y → Mapped f part y
mapped f None y is = cc
mapped f (Some x) y is = record { x = x; is = refl; gives = cc }

pub record Chosen {X Y : Type 0} (f : X → Option Y) (part : Option X) (y : Y) : Type 0 where
  pub x : X
  pub is : part ≡ Some x
  pub gives : f x ≡ Some y

pub chosen : {X Y : Type 0} (f : X → Option Y) (part : Option X) (y : Y) → option_and_then f part ≡ Some y → Chosen f part y
chosen f None y is = cc
chosen f (Some x) y is = record { x = x; is = refl; gives = is }

pub single-is : (texts : List (List ℕ)) (text : List ℕ) → single texts ≡ Some text → texts ≡ text ∷ []
single-is [] text is = cc
single-is (first ∷ []) text is = let same : first ≡ text = cc in ap (λ t. t ∷ []) same
single-is (first ∷ second ∷ others) text is = cc

pub none-is : {X : Type 0} (x y : X) (texts : List (List ℕ)) → none x texts ≡ Some y → (texts ≡ []) × (x ≡ y)
none-is x y [] is = (refl, cc)
none-is x y (text ∷ texts) is = absurd (cc)

pub one_or_more-is : (texts others : List (List ℕ)) → one_or_more texts ≡ Some others → (texts ≡ others) × (is_filled others ≡ true)
one_or_more-is [] others is = absurd (cc)
one_or_more-is (text ∷ texts) others is = let same : (text ∷ texts) ≡ others = cc in (same, ap is_filled (sym same))

pub one_or_more-from : (texts : List (List ℕ)) → is_filled texts ≡ true → one_or_more texts ≡ Some texts
one_or_more-from [] is = absurd (cc)
one_or_more-from (text ∷ texts) is = refl

pub after-is : (word : List ℕ) (texts others : List (List ℕ)) → after word texts ≡ Some others → texts ≡ word ∷ others
after-is word [] others is = absurd (cc)
after-is word (text ∷ texts) others is = by_word (bytes_eq text word) refl is
  where
    by_word : (same : Bool) → bytes_eq text word ≡ same → cond same (Some texts) None ≡ Some others → (text ∷ texts) ≡ word ∷ others
    by_word false e is = absurd (cc)
    by_word true e is =
        let rest : texts ≡ others = cc in
        let first : text ≡ word = (bytes_eq-Decides text word).0 e in
        ap (λ t. t ∷ texts) first ∙ ap (λ ts. word ∷ ts) rest

with_first-is : {X : Type 0} (x : Option X) (xs : Option (List X)) (ys : List X) → with_first x xs ≡ Some ys → (y : X) × (others : List X) × (x ≡ Some y) × (xs ≡ Some others) × (ys ≡ y ∷ others)
with_first-is None xs ys is = absurd (cc)
with_first-is (Some x) None ys is = absurd (cc)
with_first-is (Some x) (Some xs) ys is = (x, xs, refl, refl, cc)

pub each-is : {X : Type 0} (f : List ℕ → Option X) (texts : List (List ℕ)) (xs : List X) → each f texts ≡ Some xs → map f texts ≡ map Some xs
each-is f [] xs is = let same : [] ≡ xs = cc in ap (map Some) same
each-is f (text ∷ texts) xs is =
    let parts = with_first-is (f text) (each f texts) xs is in
    let others = each-is f texts parts.1 parts.3 in
    ap (λ o. o ∷ map f texts) parts.2 ∙ ap (λ ys. Some parts.0 ∷ ys) others ∙ sym (ap (map Some) parts.4)

pub each-from : {X : Type 0} (f : List ℕ → Option X) (texts : List (List ℕ)) (xs : List X) → map f texts ≡ map Some xs → each f texts ≡ Some xs
each-from f [] [] is = refl
each-from f [] (x ∷ xs) is = absurd (cc)
each-from f (text ∷ texts) [] is = absurd (cc)
each-from {X} f (text ∷ texts) (x ∷ xs) is =
    let first : f text ≡ Some x = cc in
    let others : map f texts ≡ map Some xs = cc in
    rw (first, each-from f texts xs others) refl

pub keys-is : (texts keys : List (List ℕ)) → each key_in texts ≡ Some keys → (texts ≡ keys) × (list_all is_key keys ≡ true)
keys-is [] keys is = let same : [] ≡ keys = cc in (same, ap (list_all is_key) (sym same))
keys-is (text ∷ texts) keys is =
    let parts = with_first-is (key_in text) (each key_in texts) keys is in
    let others = keys-is texts parts.1 parts.3 in
    by_key (is_key text) refl parts.0 parts.1 parts.2 parts.4 others
  where
    by_key : (b : Bool) → is_key text ≡ b → (key : List ℕ) (more : List (List ℕ)) → cond b (Some text) None ≡ Some key → keys ≡ key ∷ more → (texts ≡ more) × (list_all is_key more ≡ true)
        → ((text ∷ texts) ≡ keys) × (list_all is_key keys ≡ true)
    by_key false e key more first are others = absurd (cc)
    by_key true e key more first are others =
        let same : text ≡ key = cc in
        let whole : (text ∷ texts) ≡ keys = ap (λ t. t ∷ texts) same ∙ ap (λ ts. key ∷ ts) others.0 ∙ sym are in
        let good : list_all is_key keys ≡ true = rw (are, ← same, e) others.1 in
        (whole, good)

pub keys-from : (keys : List (List ℕ)) → list_all is_key keys ≡ true → each key_in keys ≡ Some keys
keys-from [] all = refl
keys-from (key ∷ keys) all =
    let parts = and_parts (is_key key) (list_all is_key keys) all in
    rw (parts.0, keys-from keys parts.1) refl
