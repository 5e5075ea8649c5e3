-- Parts that are found where they stand: what a part stands for, and the bytes after it.
use Rattle.std.proofs.Common.{◌≡◌, ℕ, ◌≤◌, Bool, true, ◌&&◌, List, [], ◌∷◌, ◌++◌, length, drop, Some, option_and_then, refl, sym, ap, ◌∙◌, append_assoc, append-nil, length-append, arith, nat_le}
use Rattle.std.specs.List.{flat_map, list_all}
use Rattle.std.specs.Str.{is_utf8}
use Rattle.std.proofs.lemmas.Bool.{and_parts, leb-true}
use Rattle.std.proofs.lemmas.Bool.Decides.{nat_tests}
use Rattle.std.proofs.lemmas.List.{take_at, drop_at}
use Rattle.byteorder.specs.Endian.{big_bytes, big_number}
use Rattle.byteorder.specs.Numbers.{big_number-reads_back}
use Rattle.up_image.specs.Finding.{Found, number_at, split_at, if_text, text_at, items_at, list_at}
use Rattle.up_image.specs.Image.{list_part}
use Rattle.up_image.specs.Texts.{text_part}
use Rattle.up_image.specs.declared.limits.TheConstants.{MAX_IMAGE, MAX_ITEMS}

-- what the parts of things that pass a test say is found, in bytes as many as an image has
pub record Decodes {X : Type 0} (part : X → List ℕ) (at : List ℕ → Found X) (test : X → Bool) : Type 0 where
  pub finds : (x : X) (r : List ℕ) → test x ≡ true → length (part x ++ r) ≤ MAX_IMAGE → at (part x ++ r) ≡ Some (x, r)

-- what stands after a part has no more bytes
pub shorter : (p r : List ℕ) → length (p ++ r) ≤ MAX_IMAGE → length r ≤ MAX_IMAGE
shorter p r small = omega (arith, small, length-append p r)

-- the same under a test that says more
pub also_decodes : {X : Type 0} {part : X → List ℕ} {at : List ℕ → Found X} {test : X → Bool} (other : X → Bool) → ((x : X) → other x ≡ true → test x ≡ true) → Decodes part at test → Decodes part at other
also_decodes other says decode = record { finds = λ x r is small. decode.finds x r (says x is) small }

pub number_is : (k : ℕ) (bytes : List ℕ) (n : ℕ) (rest : List ℕ) → nat_le k (length bytes) ≡ true → big_number k bytes ≡ n → drop k bytes ≡ rest → number_at k bytes ≡ Some (n, rest)
number_is k bytes n rest within value left = rw (within, value, left) refl

-- numbers in their range
pub two_found : (n : ℕ) (rest : List ℕ) → n ≤ MAX_ITEMS → number_at 2 (big_bytes 2 n ++ rest) ≡ Some (n, rest)
two_found n rest small = number_is 2 (big_bytes 2 n ++ rest) n rest (grind (arith, nat_tests)) (big_number-reads_back 2 n rest (omega (arith, small))) refl

pub four_found : (n : ℕ) (rest : List ℕ) → n ≤ 4294967295 → number_at 4 (big_bytes 4 n ++ rest) ≡ Some (n, rest)
four_found n rest small = number_is 4 (big_bytes 4 n ++ rest) n rest (grind (arith, nat_tests)) (big_number-reads_back 4 n rest (omega (arith, small))) refl

-- a text
split_found : (text rest : List ℕ) → split_at (length text, text ++ rest) ≡ Some (text, rest)
split_found text rest =
    let within : nat_le (length text) (length (text ++ rest)) ≡ true = grind (arith, nat_tests, length-append) in
    rw (within, take_at text rest (length text) refl, drop_at text rest (length text) refl) refl

text_grouped : (text rest : List ℕ) → length text ≤ 4294967295 → is_utf8 text ≡ true → text_at (big_bytes 4 (length text) ++ (text ++ rest)) ≡ Some (text, rest)
unfolding text_at
text_grouped text rest short valid =
    ap (λ number. option_and_then (λ counted. option_and_then if_text (split_at counted)) number) (four_found (length text) (text ++ rest) short)
    ∙ (ap (λ split. option_and_then if_text split) (split_found text rest) ∙ rw valid refl)

pub text_decodes : Decodes text_part text_at is_utf8
text_decodes = record {
  finds = λ text r valid small.
      let long = length-append (text_part text) r in
      ap text_at (append_assoc (big_bytes 4 (length text)) text r) ∙ text_grouped text r (omega (arith, small, long)) valid;
}

-- so many items
pub items_found : {X : Type 0} (part : X → List ℕ) (at : List ℕ → Found X) (test : X → Bool) → Decodes part at test → (xs before : List X) (r : List ℕ)
    → list_all test xs ≡ true → length (flat_map part xs ++ r) ≤ MAX_IMAGE → items_at at (length xs) before (flat_map part xs ++ r) ≡ Some (before ++ xs, r)
items_found part at test decode [] before r all small = ap (λ ys. Some (ys, r)) (sym (append-nil before))
items_found part at test decode (x ∷ xs) before r all small =
    let parts = and_parts (test x) (list_all test xs) all in
    let apart = append_assoc (part x) (flat_map part xs) r in
    let small_whole : length (part x ++ (flat_map part xs ++ r)) ≤ MAX_IMAGE = omega (arith, small, ap length apart) in
    ap (λ bytes. option_and_then (λ more. items_at at (length xs) (before ++ more.0 ∷ []) more.1) (at bytes)) apart
    ∙ ap (λ found. option_and_then (λ more. items_at at (length xs) (before ++ more.0 ∷ []) more.1) found) (decode.finds x (flat_map part xs ++ r) parts.0 small_whole)
    ∙ items_found part at test decode xs (before ++ x ∷ []) r parts.1 (shorter (part x) (flat_map part xs ++ r) small_whole)
    ∙ ap (λ ys. Some (ys, r)) (append_assoc before (x ∷ []) xs)

-- a list
pub list_decodes : {X : Type 0} {part : X → List ℕ} {at : List ℕ → Found X} {test : X → Bool} → Decodes part at test → Decodes (list_part part) (list_at at) (λ xs. nat_le (length xs) MAX_ITEMS && list_all test xs)
list_decodes {part = part} {at = at} {test = test} decode = record {
  finds = λ xs r all small.
      let parts = and_parts (nat_le (length xs) MAX_ITEMS) (list_all test xs) all in
      let apart = append_assoc (big_bytes 2 (length xs)) (flat_map part xs) r in
      let small_whole : length (big_bytes 2 (length xs) ++ (flat_map part xs ++ r)) ≤ MAX_IMAGE = omega (arith, small, ap length apart) in
      ap (λ bytes. option_and_then (λ counted. items_at at counted.0 [] counted.1) (number_at 2 bytes)) apart
      ∙ ap (λ found. option_and_then (λ counted. items_at at counted.0 [] counted.1) found) (two_found (length xs) (flat_map part xs ++ r) (leb-true (length xs) MAX_ITEMS parts.0))
      ∙ items_found part at test decode xs [] r parts.1 (shorter (big_bytes 2 (length xs)) (flat_map part xs ++ r) small_whole);
}
