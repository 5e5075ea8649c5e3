use Rattle.std.proofs.Common.{◌≡◌, ◌++◌, take}
use Rattle.std.specs.List.{flat_map}
use Rattle.up_print.specs.Graph.{test_text}
use Rattle.up_print.proofs.graph.push_tests.Given as goal

abbrev pub invariant-loop-test : goal.invariant-loop-test
invariant-loop-test l = l.text.items ≡ l.initial.text.items ++ flat_map test_text (take l.test-index l.tests)
