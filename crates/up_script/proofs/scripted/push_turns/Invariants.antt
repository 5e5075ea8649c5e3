use Rattle.std.proofs.Common.{◌≡◌, ◌++◌, replicate}
use Rattle.up_model.specs.declared.input.Input.TheVariants.{Turn}
use Rattle.up_script.proofs.scripted.push_turns.Given as goal

abbrev pub invariant-loop : goal.invariant-loop
invariant-loop l = l.inputs.items ≡ l.fn.inputs.items ++ replicate l.counter Turn
