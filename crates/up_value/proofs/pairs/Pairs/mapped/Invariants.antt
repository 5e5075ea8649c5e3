use Rattle.std.proofs.Common.{◌≡◌, [], take}
use Rattle.up_value.specs.Bindings.{set_all, bindings_of}
use Rattle.up_value.specs.Pairs.{pairs_bindings}
use Rattle.up_value.proofs.pairs.Pairs.mapped.Given as goal

abbrev pub invariant-loop-i : goal.invariant-loop-i
invariant-loop-i l = bindings_of l.map.entries ≡ set_all [] (take l.i (pairs_bindings l.fn.self))
