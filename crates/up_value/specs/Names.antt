use Rattle.std.specs.Prelude.{ℕ, Bool, false, ◌==◌, ◌&&◌, ◌||◌, not, nat_le, nat_lt, [], ◌∷◌, length, codes}
use Rattle.std.specs.List.{list_any, list_all, position_or_len}
use Rattle.up_value.specs.Values.{Bytes}

-- the bytes that mean something else in a job file
unfoldable pub is_special : ℕ → Bool
is_special byte = list_any (λ special. special == byte) (codes "\"'\\()#=$")

-- a byte of a name: a printable ASCII character that means nothing else
unfoldable pub is_name_byte : ℕ → Bool
is_name_byte byte = nat_le 0x21 byte && nat_le byte 0x7E && not (is_special byte)

-- the name of a job or an event: one or more such bytes
abbrev pub is_name : Bytes → Bool
is_name bytes = not (length bytes == 0) && list_all is_name_byte bytes

-- the first byte of a key: a letter or `_`
unfoldable pub is_key_start : ℕ → Bool
is_key_start byte = (nat_le 0x41 byte && nat_le byte 0x5A) || (nat_le 0x61 byte && nat_le byte 0x7A)
    || byte == 0x5F

-- a byte of a key: a letter, a digit or `_`
unfoldable pub is_key_byte : ℕ → Bool
is_key_byte byte = is_key_start byte || (nat_le 0x30 byte && nat_le byte 0x39)

-- a key of an environment
abbrev pub is_key : Bytes → Bool
is_key [] = false
is_key (byte ∷ bytes) = is_key_start byte && list_all is_key_byte bytes

-- a value of an environment: any text without the byte 0
abbrev pub is_value : Bytes → Bool
is_value bytes = list_all (λ byte. not (byte == 0)) bytes

-- the sign between a key and its value
abbrev pub is_equals : ℕ → Bool
is_equals byte = byte == 61

-- a text with an = in it
abbrev pub has_equals : Bytes → Bool
has_equals text = nat_lt (position_or_len is_equals text) (length text)
