use Rattle.std.proofs.Common.{◌≡◌, ◌-◌, []}
use Rattle.up_image.specs.Finding.{items_at, exit_at}
use Rattle.up_image.proofs.take_lists.take_each_exit.Given as goal

-- what is left gives the whole
abbrev pub invariant-loop-i : goal.invariant-loop-i
invariant-loop-i l = items_at exit_at (l.count - l.i) l.exits.items l.rest ≡ items_at exit_at l.count [] l.fn.bytes
