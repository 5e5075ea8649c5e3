use Rattle.std.proofs.Common.{◌≡◌, drop}
use Rattle.up_expr.specs.Values as values
use Rattle.up_expr.proofs.operand.is_ordered.Given as goal

-- only positional values so far, so that the rest decides
abbrev pub invariant-loop-place : goal.invariant-loop-place
invariant-loop-place l = values.is_ordered (values.values_of (drop l.place l.tokens)) ≡ values.is_ordered (values.values_of l.tokens)
