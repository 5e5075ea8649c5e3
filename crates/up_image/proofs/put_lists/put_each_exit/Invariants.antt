use Rattle.std.proofs.Common.{◌≡◌, ◌++◌, take}
use Rattle.std.specs.List.{flat_map}
use Rattle.up_image.specs.Image.{exit_part}
use Rattle.up_image.proofs.put_lists.put_each_exit.Given as goal

-- what was there, and after it the items so far
abbrev pub invariant-loop-exit : goal.invariant-loop-exit
invariant-loop-exit l = l.out.items ≡ l.fn.out.items ++ flat_map exit_part (take l.exit-index l.exits)
