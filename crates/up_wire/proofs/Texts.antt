-- Short texts: which bytes are text, and that reading one takes its bytes.
use Rattle.std.proofs.Common.{◌≡◌, ◌<◌, ◌≤◌, ℕ, Bool, true, false, nat_le, List, ◌++◌, length, take, drop, Some, option_and_then, refl, sym, ap, ◌∙◌, length-append, arith}
use Rattle.std.specs.Str.{is_utf8, IsUtf8}
use Rattle.std.proofs.lemmas.Str.{IsUtf8-from_is_utf8, is_utf8-from_IsUtf8}
use Rattle.std.proofs.lemmas.Option.{cond_some, option_and_then_some}
use Rattle.std.proofs.lemmas.List.{take-append-drop, length-take-le, take_at, drop_at, append_assoc}
use Rattle.std.proofs.lemmas.Bool.Decides.{nat_tests}
use Rattle.byteorder.specs.Endian.{big_bytes}
use Rattle.up_model.specs.Values.{Bytes}
use Rattle.up_wire.specs.Frames.{short_text}
use Rattle.up_wire.specs.Octets.{AreOctets}
use Rattle.up_wire.specs.Fields.{number_at, split_at, if_text, text_at}
use Rattle.up_wire.proofs.Numbers.{Takes, number_takes, number_again, drop_octets}

pub is_text : (bytes : List ℕ) → IsUtf8 bytes → is_utf8 bytes ≡ true
is_text bytes h = is_utf8-from_IsUtf8 bytes h

no_text_by : (bytes : List ℕ) (b : Bool) → is_utf8 bytes ≡ b → (IsUtf8 bytes → ⊥) → b ≡ false
no_text_by bytes true e fails = absurd (fails (IsUtf8-from_is_utf8 bytes e))
no_text_by bytes false e fails = refl

pub is_no_text : (bytes : List ℕ) → (IsUtf8 bytes → ⊥) → is_utf8 bytes ≡ false
is_no_text bytes fails = no_text_by bytes (is_utf8 bytes) refl fails

-- a text that was read, and the bytes after it
pub record IsText (bytes text rest : Bytes) : Type 0 where
  pub taken : Takes bytes (short_text text) rest
  pub short : length text < 65536
  pub valid : is_utf8 text ≡ true

made : (bytes after text rest : Bytes) (n : ℕ) → bytes ≡ big_bytes 2 n ++ after → after ≡ text ++ rest → length text ≡ n → bytes ≡ short_text text ++ rest
made bytes after text rest n p q r = rw (p, q, ← r) refl

split_parts : (n : ℕ) (bytes : Bytes) (found : Bytes × Bytes) → split_at (n, bytes) ≡ Some found → (nat_le n (length bytes) ≡ true) × (take n bytes ≡ found.0) × (drop n bytes ≡ found.1)
split_parts n bytes found h =
    let parts = cond_some (nat_le n (length bytes)) (take n bytes, drop n bytes) found h in
    (parts.0, ap (λ x. x.0) parts.1, ap (λ x. x.1) parts.1)

text_of : (bytes : Bytes) (counted found : Bytes × Bytes) (n : ℕ) (after : Bytes) → Takes bytes (big_bytes 2 n) after → n < 65536 → split_at (n, after) ≡ Some found → is_utf8 found.0 ≡ true → IsText bytes found.0 found.1
text_of bytes counted found n after number small split valid =
    let parts = split_parts n after found split in
    let within : n ≤ length after = grind (arith, nat_tests, parts.0) in
    let size : length found.0 ≡ n = rw (← parts.1) (length-take-le n after within) in
    let whole : after ≡ found.0 ++ found.1 = rw (← parts.1, ← parts.2) (sym (take-append-drop n after)) in
    record {
      taken = (made bytes after found.0 found.1 n number.0 whole size, rw (← parts.2) (drop_octets n after number.1));
      short = omega (arith, size, small);
      valid = valid;
    }

-- a text that is read is there
pub text_takes : (bytes : Bytes) (found : Bytes × Bytes) → AreOctets bytes → text_at bytes ≡ Some found → IsText bytes found.0 found.1
unfolding text_at
text_takes bytes found are h =
    option_and_then_some _ (number_at 2 bytes) found h (λ counted read rest_of.
    option_and_then_some if_text (split_at counted) found rest_of (λ cut split last.
    let text = cond_some (is_utf8 cut.0) cut found last in
    let number = number_takes bytes counted.0 counted.1 are read in
    let same : split_at counted ≡ Some found = split ∙ ap Some text.1 in
    text_of bytes found found counted.0 counted.1 number.0 number.1 same (rw (← text.1) text.0)))

split_again : (text rest : Bytes) → split_at (length text, text ++ rest) ≡ Some (text, rest)
split_again text rest =
    let within : nat_le (length text) (length (text ++ rest)) ≡ true = grind (arith, nat_tests, length-append) in
    rw (within, take_at text rest (length text) refl, drop_at text rest (length text) refl) refl

text_grouped : (text rest : Bytes) → length text < 65536 → is_utf8 text ≡ true → text_at (big_bytes 2 (length text) ++ (text ++ rest)) ≡ Some (text, rest)
unfolding text_at
text_grouped text rest short valid =
    ap (λ number. option_and_then (λ counted. option_and_then if_text (split_at counted)) number) (number_again (length text) (text ++ rest) short)
    ∙ (ap (λ split. option_and_then if_text split) (split_again text rest) ∙ rw valid refl)

-- and a text that is there is read
pub text_again : (text rest : Bytes) → length text < 65536 → is_utf8 text ≡ true → text_at (short_text text ++ rest) ≡ Some (text, rest)
text_again text rest short valid =
    ap text_at (append_assoc (big_bytes 2 (length text)) text rest) ∙ text_grouped text rest short valid
