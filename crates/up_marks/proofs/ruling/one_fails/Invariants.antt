use Rattle.std.proofs.Common.{◌≡◌, ◌≤◌, drop}
use Rattle.up_marks.specs.Ruling.{one_fails}
use Rattle.up_marks.proofs.ruling.one_fails.Given as goal

-- none of those that were read fails, so that the rest decides; no more is counted than was read
abbrev pub invariant-loop-test : goal.invariant-loop-test
invariant-loop-test l = record {
  rest : one_fails l.vars 0 l.tests ≡ one_fails l.vars l.k (drop l.test-index l.tests);
  few : l.k ≤ l.test-index;
}
