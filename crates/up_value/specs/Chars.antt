use Rattle.std.specs.Prelude.{string_bytes}
use Rattle.up_value.specs.Values.{Bytes}
use Rattle.up_value.specs.declared.chars.Chars.{Chars}
use Rattle.up_value.specs.declared.chars.Chars.TheVariants.{Short, Long}

-- the bytes of characters, wherever they are kept
abbrev pub chars_bytes : Chars → Bytes
chars_bytes (Short short) = short.bytes
chars_bytes (Long long) = string_bytes long
