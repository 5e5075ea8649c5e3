-- Decimal numbers.
use Rattle.std.specs.Prelude.{ℕ, ◌^◌, Bool, ◌&&◌, ◌==◌, not, nat_le, nat_lt, List, length, Option, None, Some, option_and_then, if◌then◌else◌}
use Rattle.std.specs.List.{list_all}
use Rattle.std.specs.Str.Parse.{digits_value}
use Rattle.up_value.specs.Values.{Bytes}

-- a digit, 0 to 9
unfoldable pub is_digit : ℕ → Bool
is_digit byte = nat_le 48 byte && nat_le byte 57

-- one or more digits
abbrev pub are_digits : Bytes → Bool
are_digits text = not (length text == 0) && list_all is_digit text

-- the number that digits write, if it has 64 bits
unfoldable pub decimal_of : Bytes → Option ℕ
decimal_of text = if are_digits text && nat_lt (digits_value 10 text) (2 ^ 64)
    then Some (digits_value 10 text) else None

-- a number from `low` to `high`
abbrev pub number_between : ℕ → ℕ → ℕ → Option ℕ
number_between low high number = if nat_le low number && nat_le number high then Some number else None

-- the number that a text writes, from `low` to `high`
unfoldable pub number_in : ℕ → ℕ → Bytes → Option ℕ
number_in low high text = option_and_then (number_between low high) (decimal_of text)
