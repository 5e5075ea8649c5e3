-- Which bytes are text.
use Rattle.std.proofs.Common.{◌≡◌, ◌<◌, ◌&&◌, ℕ, zero, suc, Bool, true, false, not, nat_le, List, [], ◌∷◌, refl, arith}
use Rattle.std.specs.List.{list_all}
use Rattle.std.specs.Str.{is_utf8, IsUtf8, IsAscii}
use Rattle.std.proofs.lemmas.Bool.{and_parts, leb-true}
use Rattle.std.proofs.lemmas.Bool.Decides.{nat_tests}
use Rattle.std.proofs.lemmas.Str.{IsUtf8-from_is_utf8, is_utf8-from_IsUtf8, IsUtf8-from_ascii}
use Rattle.up_text.specs.Names.{is_name_byte, is_special, is_key_byte, is_key_start, is_name, is_key}

pub is_text : (bytes : List ℕ) → IsUtf8 bytes → is_utf8 bytes ≡ true
is_text bytes h = is_utf8-from_IsUtf8 bytes h

no_text_by : (bytes : List ℕ) (b : Bool) → is_utf8 bytes ≡ b → (IsUtf8 bytes → ⊥) → b ≡ false
no_text_by bytes true e fails = absurd (fails (IsUtf8-from_is_utf8 bytes e))
no_text_by bytes false e fails = refl

pub is_no_text : (bytes : List ℕ) → (IsUtf8 bytes → ⊥) → is_utf8 bytes ≡ false
is_no_text bytes fails = no_text_by bytes (is_utf8 bytes) refl fails

-- names and keys are text of ASCII
all_ascii : (p : ℕ → Bool) → ((byte : ℕ) → p byte ≡ true → byte < 128) → (bytes : List ℕ) → list_all p bytes ≡ true → IsAscii bytes
all_ascii p low [] all i = omega arith
all_ascii p low (byte ∷ bytes) all zero = low byte (and_parts (p byte) (list_all p bytes) all).0
all_ascii p low (byte ∷ bytes) all (suc i) = all_ascii p low bytes (and_parts (p byte) (list_all p bytes) all).1 i

name_byte_low : (byte : ℕ) → is_name_byte byte ≡ true → byte < 128
unfolding is_name_byte
name_byte_low byte is =
    let parts = and_parts (nat_le 0x21 byte && nat_le byte 0x7E) (not (is_special byte)) is in
    omega (arith, leb-true byte 0x7E (and_parts (nat_le 0x21 byte) (nat_le byte 0x7E) parts.0).1)

pub name_is_text : (name : List ℕ) → is_name name ≡ true → is_utf8 name ≡ true
name_is_text name is =
    is_text name (IsUtf8-from_ascii name (all_ascii is_name_byte name_byte_low name (and_parts _ (list_all is_name_byte name) is).1))

key_start_low : (byte : ℕ) → is_key_start byte ≡ true → byte < 128
unfolding is_key_start
key_start_low byte is = grind (arith, nat_tests, is)

key_byte_low : (byte : ℕ) → is_key_byte byte ≡ true → byte < 128
unfolding is_key_byte is_key_start
key_byte_low byte is = grind (arith, nat_tests, is)

key_start_byte : (byte : ℕ) → is_key_start byte ≡ true → is_key_byte byte ≡ true
unfolding is_key_byte
key_start_byte byte is = rw is refl

pub key_is_text : (key : List ℕ) → is_key key ≡ true → is_utf8 key ≡ true
key_is_text [] is = absurd (cc)
key_is_text (byte ∷ bytes) is =
    let parts = and_parts (is_key_start byte) (list_all is_key_byte bytes) is in
    is_text (byte ∷ bytes) (IsUtf8-from_ascii (byte ∷ bytes) (all_ascii is_key_byte key_byte_low (byte ∷ bytes) (rw (key_start_byte byte parts.0, parts.1) refl)))
