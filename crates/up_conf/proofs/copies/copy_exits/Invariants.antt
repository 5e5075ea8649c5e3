use Rattle.std.proofs.Common.{◌≡◌, take}
use Rattle.up_conf.proofs.copies.copy_exits.Given as goal

abbrev pub invariant-loop-exit : goal.invariant-loop-exit
invariant-loop-exit l = l.copied.items ≡ take l.exit-index l.exits
