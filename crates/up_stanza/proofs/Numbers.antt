-- What `parse` gives for a numeral.
use Rattle.std.proofs.Common.{◌≡◌, ℕ, ◌^◌, ◌<◌, ◌≤◌, true, false, List, length, None, Some, Ok, Err, arith, rules}
use Rattle.std.proofs.lemmas.Bool.Decides.{nat_tests}
use Rattle.std.proofs.lemmas.Str.Parse.{IsNumeralModel, numerals_by_value, parse_digits}
use Rattle.std.specs.List.{list_all}
use Rattle.std.specs.Str.Parse.{ParsesUnsigned, digits_value}
use Rattle.up_stanza.specs.Numbers.{is_digit, are_digits, decimal_of}

own : IsNumeralModel (λ ds. list_all is_digit ds ≡ true) (digits_value 10)
unfolding is_digit
own = numerals_by_value _ (search rules)

one_or_more : (text : List ℕ) → are_digits text ≡ true → (0 < length text) × (list_all is_digit text ≡ true)
one_or_more text numeral = grind (arith, nat_tests)

pub value_ok : (text : List ℕ) (number : ℕ) → are_digits text ≡ true → ParsesUnsigned {E = ℕ} 64 10 text (Ok number) → decimal_of text ≡ Some number
unfolding decimal_of
value_ok text number numeral parsed =
    let parts = one_or_more text numeral in
    let read : ((0 < length text) × (digits_value 10 text < 2 ^ 64)) × (number ≡ digits_value 10 text) = parse_digits own {E = ℕ} 64 text (Ok number) parsed parts.1 in
    grind (arith, nat_tests)

pub value_err : (text : List ℕ) → are_digits text ≡ true → ParsesUnsigned {E = ℕ} 64 10 text (Err 0) → decimal_of text ≡ None
unfolding decimal_of
value_err text numeral parsed =
    let parts = one_or_more text numeral in
    let read : (0 < length text) × (digits_value 10 text < 2 ^ 64) → ⊥ = parse_digits own {E = ℕ} 64 text (Err 0) parsed parts.1 in
    let large : 2 ^ 64 ≤ digits_value 10 text = grind (arith, read) in
    grind (arith, nat_tests)

pub value_none : (text : List ℕ) → are_digits text ≡ false → decimal_of text ≡ None
unfolding decimal_of
value_none text other = grind arith
