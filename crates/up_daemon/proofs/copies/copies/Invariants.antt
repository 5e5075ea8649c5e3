use Rattle.std.proofs.Common.{◌≡◌, take}
use Rattle.up_daemon.proofs.copies.copies.Given as goal

abbrev pub invariant-loop-output : goal.invariant-loop-output
invariant-loop-output l = l.copied.items ≡ take l.output-index l.outputs
