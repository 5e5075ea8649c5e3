-- How a text is kept as bytes.
use Rattle.std.specs.Prelude.{ℕ, List, ◌++◌, length}
use Rattle.byteorder.specs.Endian.{big_bytes}

-- a text: how many bytes it has, then the bytes
abbrev pub text_part : List ℕ → List ℕ
text_part text = big_bytes 4 (length text) ++ text
