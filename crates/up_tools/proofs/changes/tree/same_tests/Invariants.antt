use Rattle.std.proofs.Common.{◌≡◌, drop}
use Rattle.std.specs.Cmp.Lexicographic.{pointwise}
use Rattle.up_tools.specs.Same.{same_test}
use Rattle.up_tools.proofs.changes.tree.same_tests.Given as goal

abbrev pub invariant-loop-i : goal.invariant-loop-i
invariant-loop-i l = pointwise same_test l.tests l.others ≡ pointwise same_test (drop l.i l.tests) (drop l.i l.others)
