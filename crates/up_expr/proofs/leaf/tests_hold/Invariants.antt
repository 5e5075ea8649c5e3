use Rattle.std.proofs.Common.{◌≡◌, ◌≤◌, drop}
use Rattle.up_expr.specs.Matching.{tests_hold}
use Rattle.up_expr.proofs.leaf.tests_hold.Given as goal

-- what was read holds, so that the rest decides; no more is counted than was read
abbrev pub invariant-loop-test : goal.invariant-loop-test
invariant-loop-test l = record {
  holds : tests_hold l.vars l.env 0 l.tests ≡ tests_hold l.vars l.env l.k (drop l.test-index l.tests);
  few : l.k ≤ l.test-index;
}
