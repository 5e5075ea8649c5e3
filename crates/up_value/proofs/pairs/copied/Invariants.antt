use Rattle.std.proofs.Common.{◌≡◌, take}
use Rattle.up_value.proofs.pairs.copied.Given as goal

abbrev pub invariant-loop-pair : goal.invariant-loop-pair
invariant-loop-pair l = l.copied.items ≡ take l.pair-index l.fn.pairs
