-- Parts that tell where they end: of two texts that begin with such parts and are equal, the parts tell the same and what stands after
-- them is equal too.
use Rattle.std.proofs.Common.{◌≡◌, ℕ, ◌≤◌, ◌<◌, ◌^◌, Bool, true, ◌&&◌, List, [], ◌∷◌, ◌++◌, length, take, drop, map, refl, sym, ap, ◌∙◌, append_assoc, length-append, arith, nat_le}
use Rattle.std.specs.List.{flat_map, list_all}
use Rattle.std.proofs.lemmas.Bool.{and_parts, leb-true}
use Rattle.std.proofs.Math.Seq.{take-append_seam, drop-append_seam}
use Rattle.byteorder.specs.Endian.{big_bytes, big_from}
use Rattle.byteorder.specs.Numbers.{big_number-reads_back}
use Rattle.up_image.specs.Image.{list_part}
use Rattle.up_image.specs.Texts.{text_part}
use Rattle.up_image.specs.declared.limits.TheConstants.{MAX_IMAGE, MAX_ITEMS}

-- what the parts of things that pass a test tell, in a text of 16 MiB at most
pub record Tells {X V : Type 0} (part : X → List ℕ) (value : X → V) (test : X → Bool) : Type 0 where
  pub tells : (x y : X) (r s : List ℕ) → test x ≡ true → test y ≡ true → length (part x ++ r) ≤ MAX_IMAGE → part x ++ r ≡ part y ++ s
      → (value x ≡ value y) × (r ≡ s)

abbrev pub pair : {V W : Type 0} → V → W → V × W
pair v w = (v, w)

abbrev pub any : {X : Type 0} → X → Bool
any x = true

pub all_any : {X : Type 0} (xs : List X) → list_all any xs ≡ true
all_any [] = refl
all_any (x ∷ xs) = all_any xs

-- texts of one length
pub same_length : (a b r s : List ℕ) → length a ≡ length b → a ++ r ≡ b ++ s → (a ≡ b) × (r ≡ s)
same_length a b r s long is = (
  sym (take-append_seam a r) ∙ ap (λ n. take n (a ++ r)) long ∙ ap (take (length b)) is ∙ take-append_seam b s,
  sym (drop-append_seam a r) ∙ ap (λ n. drop n (a ++ r)) long ∙ ap (drop (length b)) is ∙ drop-append_seam b s,
)

-- numbers in their range
same_number : (n x y : ℕ) (r s : List ℕ) → x < 256 ^ n → y < 256 ^ n → length (big_bytes n x) ≡ length (big_bytes n y) → big_bytes n x ++ r ≡ big_bytes n y ++ s
    → (x ≡ y) × (r ≡ s)
same_number n x y r s small also long is = (
  sym (big_number-reads_back n x r small) ∙ ap (λ bytes. big_from 0 n bytes) is ∙ big_number-reads_back n y s also,
  (same_length (big_bytes n x) (big_bytes n y) r s long is).1,
)

pub same_two : (x y : ℕ) (r s : List ℕ) → x ≤ MAX_ITEMS → y ≤ MAX_ITEMS → big_bytes 2 x ++ r ≡ big_bytes 2 y ++ s → (x ≡ y) × (r ≡ s)
same_two x y r s small also is = same_number 2 x y r s (omega (arith, small)) (omega (arith, also)) refl is

pub same_four : (x y : ℕ) (r s : List ℕ) → x ≤ 4294967295 → y ≤ 4294967295 → big_bytes 4 x ++ r ≡ big_bytes 4 y ++ s → (x ≡ y) × (r ≡ s)
same_four x y r s small also is = same_number 4 x y r s (omega (arith, small)) (omega (arith, also)) refl is

-- a text
pub same_text : (x y r s : List ℕ) → length (text_part x ++ r) ≤ MAX_IMAGE → text_part x ++ r ≡ text_part y ++ s → (x ≡ y) × (r ≡ s)
same_text x y r s small is =
    let long_x = length-append (text_part x) r in
    let long_y = length-append (text_part y) s in
    let lengths = same_four (length x) (length y) (x ++ r) (y ++ s) (omega (arith, small, long_x)) (omega (arith, small, long_x, long_y, ap length is)) is in
    same_length x y r s lengths.0 lengths.1

pub text_tells : Tells text_part (λ text. text) any
text_tells = record { tells = λ x y r s tx ty small is. same_text x y r s small is }

-- one part after another
pub both_tell : {X V W : Type 0} {p q : X → List ℕ} {f : X → V} {g : X → W} {t u : X → Bool} → Tells p f t → Tells q g u → Tells (λ x. p x ++ q x) (λ x. pair (f x) (g x)) (λ x. t x && u x)
both_tell {p = p} {q = q} {f = f} {g = g} {t = t} {u = u} first second = record {
  tells = λ x y r s tx ty small is.
      let px = and_parts (t x) (u x) tx in
      let py = and_parts (t y) (u y) ty in
      let one = first.tells x y (q x ++ r) (q y ++ s) px.0 py.0 (rw (append_assoc (p x) (q x) r) at small) (sym (append_assoc (p x) (q x) r) ∙ is ∙ append_assoc (p y) (q y) s) in
      let short : length (q x ++ r) ≤ MAX_IMAGE = omega (arith, small, ap length (append_assoc (p x) (q x) r), length-append (p x) (q x ++ r)) in
      let two = second.tells x y r s px.1 py.1 short one.1 in
      (rw (one.0, two.0) refl, two.1);
}

-- a part of a thing
pub of_tells : {X Y V : Type 0} {part : Y → List ℕ} {value : Y → V} {test : Y → Bool} (h : X → Y) → Tells part value test → Tells (λ x. part (h x)) (λ x. value (h x)) (λ x. test (h x))
of_tells h tell = record { tells = λ x y r s tx ty small is. tell.tells (h x) (h y) r s tx ty small is }

-- the same under a test that says more, and of a value that is told less of
pub also_tells : {X V W : Type 0} {part : X → List ℕ} {value : X → V} {test : X → Bool} (other : X → Bool) (f : V → W) → ((x : X) → other x ≡ true → test x ≡ true) → Tells part value test → Tells part (λ x. f (value x)) other
also_tells other f says tell = record {
  tells = λ x y r s tx ty small is. let got = tell.tells x y r s (says x tx) (says y ty) small is in (ap f got.0, got.1);
}

-- as many items
pub same_items : {X V : Type 0} (part : X → List ℕ) (value : X → V) (test : X → Bool) → Tells part value test → (xs ys : List X) (r s : List ℕ)
    → list_all test xs ≡ true → list_all test ys ≡ true → length xs ≡ length ys → length (flat_map part xs ++ r) ≤ MAX_IMAGE
    → flat_map part xs ++ r ≡ flat_map part ys ++ s → (map value xs ≡ map value ys) × (r ≡ s)
same_items part value test tell [] [] r s tx ty long small is = (refl, is)
same_items part value test tell [] (y ∷ ys) r s tx ty long small is = absurd (cc)
same_items part value test tell (x ∷ xs) [] r s tx ty long small is = absurd (cc)
same_items part value test tell (x ∷ xs) (y ∷ ys) r s tx ty long small is =
    let px = and_parts (test x) (list_all test xs) tx in
    let py = and_parts (test y) (list_all test ys) ty in
    let one = tell.tells x y (flat_map part xs ++ r) (flat_map part ys ++ s) px.0 py.0 (rw (append_assoc (part x) (flat_map part xs) r) at small)
    (sym (append_assoc (part x) (flat_map part xs) r) ∙ is ∙ append_assoc (part y) (flat_map part ys) s) in
    let short : length (flat_map part xs ++ r) ≤ MAX_IMAGE = omega (arith, small, ap length (append_assoc (part x) (flat_map part xs) r), length-append (part x) (flat_map part xs ++ r)) in
    let two = same_items part value test tell xs ys r s px.1 py.1 (omega (arith, long)) short one.1 in
    (rw (one.0, two.0) refl, two.1)

-- a list
pub list_tells : {X V : Type 0} {part : X → List ℕ} {value : X → V} {test : X → Bool} → Tells part value test → Tells (list_part part) (map value) (λ xs. nat_le (length xs) MAX_ITEMS && list_all test xs)
list_tells {part = part} {value = value} {test = test} tell = record {
  tells = λ xs ys r s tx ty small is.
      let px = and_parts (nat_le (length xs) MAX_ITEMS) (list_all test xs) tx in
      let py = and_parts (nat_le (length ys) MAX_ITEMS) (list_all test ys) ty in
      let count = same_two (length xs) (length ys) (flat_map part xs ++ r) (flat_map part ys ++ s) (leb-true (length xs) MAX_ITEMS px.0) (leb-true (length ys) MAX_ITEMS py.0) is in
      let short : length (flat_map part xs ++ r) ≤ MAX_IMAGE = omega (arith, small) in
      same_items part value test tell xs ys r s px.1 py.1 count.0 short count.1;
}
