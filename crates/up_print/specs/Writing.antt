-- What is written as far as a writer takes it.
use Rattle.std.specs.Prelude.{ℕ, List, Option, take}
use Rattle.std.specs.Io.KnownBytes.{Appends}

-- the first of these bytes were written, all of them or fewer
abbrev pub IsBegun : Option (List ℕ) → Option (List ℕ) → List ℕ → Type 0
IsBegun old new bytes = (count : ℕ) × Appends old new (take count bytes)
