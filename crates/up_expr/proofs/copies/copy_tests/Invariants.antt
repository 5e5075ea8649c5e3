use Rattle.std.proofs.Common.{◌≡◌, take}
use Rattle.up_expr.proofs.copies.copy_tests.Given as goal

abbrev pub invariant-loop-test : goal.invariant-loop-test
invariant-loop-test l = l.copied.items ≡ take l.test-index l.tests
