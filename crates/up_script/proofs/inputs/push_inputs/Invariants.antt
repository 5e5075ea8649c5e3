use Rattle.std.proofs.Common.{◌≡◌, ◌++◌, ◌≤◌, ◌-◌, drop}
use Rattle.up_script.specs.Written.{script_after, script_of}
use Rattle.up_script.proofs.inputs.push_inputs.Given as goal

abbrev pub invariant-loop-i : goal.invariant-loop-i
invariant-loop-i l = (l.begun ≤ l.i) × (l.text.items ++ script_after (l.i - l.begun) (drop l.i l.inputs) ≡ l.initial.text.items ++ script_of l.inputs)
