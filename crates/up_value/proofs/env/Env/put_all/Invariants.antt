use Rattle.std.proofs.Common.{◌≡◌, take}
use Rattle.up_value.specs.Bindings.{set_all}
use Rattle.up_value.proofs.env.Env.put_all.Given as goal

abbrev pub invariant-loop-i : goal.invariant-loop-i
invariant-loop-i l = l.self ≡ set_all l.fn.self (take l.i l.other)
