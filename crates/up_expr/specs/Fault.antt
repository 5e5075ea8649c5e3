use Rattle.std.specs.Prelude.{ℕ}
use Rattle.up_expr.specs.declared.fault.ExprFault.{ExprFault}
use Rattle.up_expr.specs.declared.fault.ExprFault.TheVariants.{BadExpression, ValueBeforeKey, BadName, BadPattern, BadExpansion, TooLarge, Memory}

-- the number of a refusal
abbrev pub number_of : ExprFault → ℕ
number_of BadExpression = 8
number_of ValueBeforeKey = 9
number_of BadName = 12
number_of BadPattern = 13
number_of BadExpansion = 14
number_of TooLarge = 16
number_of Memory = 42
