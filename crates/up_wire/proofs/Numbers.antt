-- Numbers of two and of four bytes: their bytes are those that they are read from.
use Rattle.std.proofs.Common.{◌≡◌, ◌+◌, ◌*◌, ◌/◌, ◌%◌, ◌<◌, ◌≤◌, ℕ, zero, suc, [], ◌∷◌, ◌++◌, Some, drop, length, arith, refl, ap, nat_le, true}
use Rattle.std.proofs.lemmas.Option.{cond_some}
use Rattle.std.proofs.lemmas.Bool.Decides.{nat_tests}
use Rattle.byteorder.specs.Numbers.{big_number-reads_back}
use Rattle.byteorder.specs.Endian.{big_bytes, big_number}
use Rattle.up_model.specs.Values.{Bytes}
use Rattle.up_wire.specs.Octets.{AreOctets}
use Rattle.up_wire.specs.Fields.{number_at}

pub two_bytes : (a b n : ℕ) → a < 256 → b < 256 → n ≡ a * 256 + b → (n / 256 % 256 ≡ a) × (n % 256 ≡ b)
two_bytes a b n low high e = (omega arith, omega arith)

-- bytes are a front and the bytes after it
abbrev pub Takes : Bytes → Bytes → Bytes → Type 0
Takes bytes front rest = (bytes ≡ front ++ rest) × AreOctets rest

cons_two : (a b x y : ℕ) (xs ys : Bytes) → x ≡ a → y ≡ b → xs ≡ ys → a ∷ b ∷ xs ≡ x ∷ y ∷ ys
cons_two a b x y xs ys p q r = cc

-- what a number that is read is
pub number_parts : (k : ℕ) (bytes : Bytes) (n : ℕ) (rest : Bytes) → number_at k bytes ≡ Some (n, rest) → (nat_le k (length bytes) ≡ true) × (big_number k bytes ≡ n) × (drop k bytes ≡ rest)
number_parts k bytes n rest h =
    let parts = cond_some (nat_le k (length bytes)) (big_number k bytes, drop k bytes) (n, rest) h in
    (parts.0, ap (λ x. x.0) parts.1, ap (λ x. x.1) parts.1)

-- a number of two bytes stands for itself
pub number_takes : (bytes : Bytes) (n : ℕ) (rest : Bytes) → AreOctets bytes → number_at 2 bytes ≡ Some (n, rest) → Takes bytes (big_bytes 2 n) rest × (n < 65536)
number_takes [] n rest are h = cc
number_takes (a ∷ []) n rest are h = cc
number_takes (a ∷ b ∷ bytes) n rest are h =
    let parts = number_parts 2 (a ∷ b ∷ bytes) n rest h in
    let value : n ≡ a * 256 + b = omega (arith, parts.1) in
    let two = two_bytes a b n are.0 are.1.0 value in
    ((cons_two _ _ _ _ _ _ two.0 two.1 parts.2, rw (← parts.2) are.1.1), omega (arith, value, are.0, are.1.0))

number_is : (k : ℕ) (bytes : Bytes) (n : ℕ) (rest : Bytes) → nat_le k (length bytes) ≡ true → big_number k bytes ≡ n → drop k bytes ≡ rest → number_at k bytes ≡ Some (n, rest)
number_is k bytes n rest within value left = rw (within, value, left) refl

-- a number of two bytes is read again
pub number_again : (n : ℕ) (rest : Bytes) → n < 65536 → number_at 2 (big_bytes 2 n ++ rest) ≡ Some (n, rest)
number_again n rest small = number_is 2 (big_bytes 2 n ++ rest) n rest (grind (arith, nat_tests)) (big_number-reads_back 2 n rest small) refl

-- and so is one of four
pub length_again : (n : ℕ) (rest : Bytes) → n < 4294967296 → big_number 4 (big_bytes 4 n ++ rest) ≡ n
length_again n rest small = big_number-reads_back 4 n rest small

pub drop_octets : (n : ℕ) (bytes : Bytes) → AreOctets bytes → AreOctets (drop n bytes)
drop_octets zero bytes are = are
drop_octets (suc n) [] are = are
drop_octets (suc n) (byte ∷ bytes) are = drop_octets n bytes are.1
