-- The values that definitions speak of.
use Rattle.std.specs.Prelude.{ℕ, List}

-- a text, as its bytes
abbrev pub Bytes : Type 0
Bytes = List ℕ

-- keys with their values, in order: an environment, or the variables of an event
abbrev pub Bindings : Type 0
Bindings = List (Bytes × Bytes)
