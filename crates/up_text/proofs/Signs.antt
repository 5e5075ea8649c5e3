-- What the signs of a text are, from one piece to the next.
use Rattle.std.proofs.Common.{◌≡◌, ℕ, zero, suc, ◌+◌, ◌<◌, Bool, true, false, cond, not, ◌||◌, ◌==◌, List, [], ◌∷◌, ◌++◌, map, length, take, drop, refl, sym, ap, ◌∙◌, subst, IsUtf8, one-add, arith}
use Rattle.std.proofs.lemmas.Bool.{eqb-true, or_parts, true≢false}
use Rattle.std.proofs.lemmas.Str.{IsCharBoundary-after_ascii}
use Rattle.std.specs.Str.{IsCharBoundary}
use Rattle.std.proofs.lemmas.Bool.Decides.{nat_tests}
use Rattle.std.proofs.lemmas.List.{drop-drop}
use Rattle.std.specs.List.{prefix_len}
use Rattle.up_text.specs.Expansion.{Sign, Plain, Named, Braced, Opened, key_of, braced, dollar, sign, bytes_after, signs}
use Rattle.up_pattern.specs.Lists.{begins}
use Rattle.up_value.specs.Names.{is_key_start, is_key_byte}

-- a byte of a run
abbrev pub is_plain : ℕ → Bool
is_plain byte = not (byte == 36 || byte == 125)

pub plain-ascii : (byte : ℕ) → is_plain byte ≡ false → byte < 128
plain-ascii byte special = grind (arith, nat_tests)

pub key-ascii : (byte : ℕ) → is_key_byte byte ≡ true → byte < 128
unfolding is_key_byte is_key_start
key-ascii byte part = grind (arith, nat_tests)

-- the bytes that belong to the sign before are passed
pub signs-drop : (n : ℕ) (text : List ℕ) → signs n text ≡ signs 0 (drop n text)
signs-drop zero [] = refl
signs-drop (suc n) [] = refl
signs-drop zero (byte ∷ text) = refl
signs-drop (suc n) (byte ∷ text) = signs-drop n text

-- a run is its bytes
pub signs-run : (text : List ℕ) → signs 0 text ≡ map (λ byte. Plain byte) (take (prefix_len is_plain text) text) ++ signs 0 (drop (prefix_len is_plain text) text)
signs-run [] = refl
signs-run (byte ∷ text) =
    let Goal : ℕ → Type 0 = λ n. signs 0 (byte ∷ text) ≡ map (λ b. Plain b) (take n (byte ∷ text)) ++ signs 0 (drop n (byte ∷ text)) in
    elim (byte == 36 || byte == 125) as (λ b. (byte == 36 || byte == 125) ≡ b → Goal (cond (not b) (1 + prefix_len is_plain text) 0)) [
      | true ↦ λ _. refl
      | false ↦ λ plain.
          let is = or_parts (byte == 36) (byte == 125) plain in
          subst Goal (sym (one-add (prefix_len is_plain text))) (simp (is.0, is.1) (ap (λ later. Plain byte ∷ later) (signs-run text)))
    ] refl

-- a text may be cut after the byte below 128 that it begins with
pub IsCharBoundary-after_first : (text : List ℕ) (byte : ℕ) → IsUtf8 text → begins (λ first. first == byte) text ≡ true → byte < 128 → IsCharBoundary text 1
IsCharBoundary-after_first [] byte utf8 is ascii = absurd (cc)
IsCharBoundary-after_first (first ∷ text) byte utf8 is ascii =
    let same : first ≡ byte = eqb-true first byte is in
    IsCharBoundary-after_ascii (first ∷ text) 0 utf8 (omega arith) (rw same ascii)

-- what stands after `${`, a key and these bytes
after_key : (n k m : ℕ) (text front rest : List ℕ) → m ≡ suc (k + n) → drop k text ≡ front → drop n front ≡ rest → drop m (123 ∷ text) ≡ rest
after_key n k m text front rest is at gone = rw is (sym (drop-drop n k text) ∙ ap (drop n) at ∙ gone)

-- a `${` makes this sign
made : (text rest : List ℕ) (sign : Sign) → braced (key_of text) (drop (length (key_of text)) text) ≡ sign → drop (bytes_after sign) (123 ∷ text) ≡ rest → signs 0 (36 ∷ 123 ∷ text) ≡ sign ∷ signs 0 rest
made text rest sign is gone = rw is (ap (λ later. sign ∷ later) (signs-drop (bytes_after sign) (123 ∷ text) ∙ ap (signs 0) gone))

pub signs-braced : (text key back rest : List ℕ) → key ≡ key_of text → back ≡ drop (length (key_of text)) text → (length key == 0) ≡ false → back ≡ 125 ∷ rest → signs 0 (36 ∷ 123 ∷ text) ≡ Braced key ∷ signs 0 rest
signs-braced text key back rest is_key is_back filled begins =
    let at : drop (length key) text ≡ 125 ∷ rest = rw is_key (sym is_back ∙ begins) in
    made text rest (Braced key) (rw (← is_key, at, filled) refl) (after_key 1 (length key) (length key + 2) text (125 ∷ rest) rest (omega arith) at refl)

pub signs-opened : (text key back rest : List ℕ) → key ≡ key_of text → back ≡ drop (length (key_of text)) text → (length key == 0) ≡ false → back ≡ 45 ∷ rest → signs 0 (36 ∷ 123 ∷ text) ≡ Opened key false ∷ signs 0 rest
signs-opened text key back rest is_key is_back filled begins =
    let at : drop (length key) text ≡ 45 ∷ rest = rw is_key (sym is_back ∙ begins) in
    made text rest (Opened key false) (rw (← is_key, at, filled) refl) (after_key 1 (length key) (length key + 2) text (45 ∷ rest) rest (omega arith) at refl)

pub signs-opened_emptied : (text key back rest : List ℕ) → key ≡ key_of text → back ≡ drop (length (key_of text)) text → (length key == 0) ≡ false → back ≡ 58 ∷ 45 ∷ rest → signs 0 (36 ∷ 123 ∷ text) ≡ Opened key true ∷ signs 0 rest
signs-opened_emptied text key back rest is_key is_back filled begins =
    let at : drop (length key) text ≡ 58 ∷ 45 ∷ rest = rw is_key (sym is_back ∙ begins) in
    made text rest (Opened key true) (rw (← is_key, at, filled) refl) (after_key 2 (length key) (length key + 3) text (58 ∷ 45 ∷ rest) rest (omega arith) at refl)

pub signs-named : (text key rest : List ℕ) → begins (λ first. first == 123) text ≡ false → key ≡ key_of text → (length key == 0) ≡ false → rest ≡ drop (length (key_of text)) text → signs 0 (36 ∷ text) ≡ Named key ∷ signs 0 rest
signs-named [] key rest none is_key filled is_rest = absurd (true≢false (sym (ap (λ k. length k == 0) is_key) ∙ filled))
signs-named (byte ∷ text) key rest none is_key filled is_rest =
    let is : dollar (byte ∷ text) ≡ Named key = rw (none, ← is_key, filled) refl in
    rw is (ap (λ later. Named key ∷ later) (signs-drop (length key) (byte ∷ text) ∙ ap (signs 0) (rw is_key (sym is_rest))))
