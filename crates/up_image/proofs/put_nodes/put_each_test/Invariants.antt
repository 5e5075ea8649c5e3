use Rattle.std.proofs.Common.{◌≡◌, ◌++◌, take}
use Rattle.std.specs.List.{flat_map}
use Rattle.up_image.specs.Image.{test_part}
use Rattle.up_image.proofs.put_nodes.put_each_test.Given as goal

-- what was there, and after it the items so far
abbrev pub invariant-loop-test : goal.invariant-loop-test
invariant-loop-test l = l.out.items ≡ l.fn.out.items ++ flat_map test_part (take l.test-index l.tests)
