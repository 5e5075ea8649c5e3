use Rattle.std.specs.Prelude.{ℕ}
use Rattle.up_value.specs.declared.fault.TextFault.{TextFault}
use Rattle.up_value.specs.declared.fault.TextFault.TheVariants.{UnterminatedQuote, TrailingBackslash, BadName, BadExpansion, Memory}

-- the number of a refusal
abbrev pub number_of : TextFault → ℕ
number_of UnterminatedQuote = 5
number_of TrailingBackslash = 7
number_of BadName = 12
number_of BadExpansion = 14
number_of Memory = 42
