use Rattle.std.proofs.Common.{◌≡◌, ◌≤◌, ◌+◌, drop}
use Rattle.up_expr.specs.Parsing as parsing
use Rattle.up_expr.proofs.parse.operators.Given as goal

-- what was counted, with what is left, is all; it is no more than the tokens so far
abbrev pub invariant-loop-token : goal.invariant-loop-token
invariant-loop-token l = record {
  counted : parsing.operators (drop l.token-index l.tokens) + l.count ≡ parsing.operators l.tokens;
  few : l.count ≤ l.token-index;
}
