use Rattle.std.specs.List.{flat_map}
use Rattle.up_lint.specs.Exports.{test_keys}
use Rattle.up_lint.specs.Names.{with_names}
use Rattle.up_lint.proofs.Adding.{added_next}
use Rattle.up_lint.proofs.exports.add_tests.Goals as goal

pub loop-test-preserved : goal.loop-test-preserved
loop-test-preserved c =
    added_next test_keys c.args.tests.now c.loop-test.test-index c.test-item.result c.loop-test.names c.add_test.new.names (with_names c.args.names.now (flat_map test_keys c.args.tests.now))
    c.loop-test-test.true c.test-item.is c.in_ok-add_test.ensures c.loop-test.invariant
