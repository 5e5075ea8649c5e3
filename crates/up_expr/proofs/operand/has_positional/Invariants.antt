use Rattle.std.proofs.Common.{◌≡◌, drop}
use Rattle.std.specs.List.{list_any}
use Rattle.up_expr.specs.Values as values
use Rattle.up_expr.proofs.operand.has_positional.Given as goal

-- no positional value so far, so that the rest decides
abbrev pub invariant-loop-token : goal.invariant-loop-token
invariant-loop-token l = list_any values.is_positional (values.values_of (drop l.token-index l.tokens)) ≡ list_any values.is_positional (values.values_of l.tokens)
