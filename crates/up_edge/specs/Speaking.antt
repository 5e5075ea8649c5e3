-- What a read of a script may find.
use Rattle.std.specs.Prelude.{ℕ, ◌≤◌, length, ⊤}
use Rattle.up_edge.specs.declared.visitor.Spoken.{Spoken}
use Rattle.up_edge.specs.declared.visitor.Spoken.TheVariants.{Bytes, Nothing, Failed}

-- at most so many bytes
abbrev pub IsWithin : ℕ → Spoken → Type 0
IsWithin most (Bytes bytes) = length bytes.items ≤ most
IsWithin most Nothing = ⊤
IsWithin most Failed = ⊤
