use Rattle.std.proofs.Common.{◌≡◌, take}
use Rattle.up_script.proofs.same.same_inputs.Given as goal

abbrev pub invariant-loop-i : goal.invariant-loop-i
invariant-loop-i l = take l.i l.inputs ≡ take l.i l.others
