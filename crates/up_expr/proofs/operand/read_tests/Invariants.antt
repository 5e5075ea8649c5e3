use Rattle.std.proofs.Common.{◌≡◌, take}
use Rattle.up_expr.specs.Values as values
use Rattle.up_expr.proofs.operand.read_tests.Given as goal

-- the tests of the tokens so far
abbrev pub invariant-loop-token : goal.invariant-loop-token
invariant-loop-token l = l.tests.items ≡ values.values_of (take l.token-index l.tokens)
