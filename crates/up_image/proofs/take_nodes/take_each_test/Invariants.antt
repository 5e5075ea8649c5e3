use Rattle.std.proofs.Common.{◌≡◌, ◌-◌, []}
use Rattle.up_image.specs.Finding.{items_at, test_at}
use Rattle.up_image.proofs.take_nodes.take_each_test.Given as goal

-- what is left gives the whole
abbrev pub invariant-loop-i : goal.invariant-loop-i
invariant-loop-i l = items_at test_at (l.count - l.i) l.tests.items l.rest ≡ items_at test_at l.count [] l.fn.bytes
