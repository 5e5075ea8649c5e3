use Rattle.std.proofs.Common.{◌≡◌, drop}
use Rattle.std.specs.List.{list_all}
use Rattle.up_expr.specs.Values as values
use Rattle.up_expr.proofs.operand.check_tests.Given as goal

-- what was checked is good, so that the rest decides
abbrev pub invariant-loop-token : goal.invariant-loop-token
invariant-loop-token l = list_all values.is_good (values.values_of (drop l.token-index l.tokens)) ≡ list_all values.is_good (values.values_of l.tokens)
