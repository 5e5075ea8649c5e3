-- Bytes as numbers.
use Rattle.std.specs.Prelude.{◌<◌}
use Rattle.std.specs.List.{AllByRecursion}
use Rattle.up_model.specs.Values.{Bytes}

-- each is below 256
abbrev pub AreOctets : Bytes → Type 0
AreOctets bytes = AllByRecursion (λ byte. byte < 256) bytes
