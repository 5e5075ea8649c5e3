use Rattle.std.proofs.Common.{◌≡◌, drop}
use Rattle.std.specs.List.{flat_map}
use Rattle.up_lint.specs.Exports.{test_keys}
use Rattle.up_lint.specs.Names.{with_names}
use Rattle.up_lint.proofs.exports.add_tests.Given as goal

abbrev pub invariant-loop-test : goal.invariant-loop-test
invariant-loop-test l = with_names l.names (flat_map test_keys (drop l.test-index l.tests)) ≡ with_names l.initial.names (flat_map test_keys l.tests)
