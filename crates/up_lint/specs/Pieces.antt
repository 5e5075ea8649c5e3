-- The pieces of a text, between bytes that it is cut at.
use Rattle.std.specs.Prelude.{ℕ, Bool, ◌==◌, not, List, [], ◌∷◌, Option, None, Some, codes}
use Rattle.std.specs.List.{list_any, slice_split}
use Rattle.up_value.specs.Names.{is_key_byte}
use Rattle.up_value.specs.Values.{Bytes}
use Rattle.up_lint.specs.declared.pieces.Cut.{Cut}
use Rattle.up_lint.specs.declared.pieces.Cut.TheVariants.{Words, Keys}

-- a byte between the words of a script
unfoldable pub is_between_words : ℕ → Bool
is_between_words byte = list_any (λ other. other == byte) (codes " \t\n;&|()`\"'")

-- whether a text is cut at a byte
abbrev pub is_cut : Cut → ℕ → Bool
is_cut Words byte = is_between_words byte
is_cut Keys byte = not (is_key_byte byte)

-- a piece, and those of the rest
abbrev pub pieces_by : Cut → Bytes → Option Bytes → List Bytes
pieces_by cut piece None = piece ∷ []
pieces_by cut piece (Some rest) = piece ∷ slice_split (is_cut cut) rest
