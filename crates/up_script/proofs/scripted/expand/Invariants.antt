use Rattle.std.proofs.Common.{◌≡◌, ◌++◌, length}
use Rattle.std.specs.Vec.Iter.{into_iter_items, into_iter_len}
use Rattle.up_script.specs.ScriptInputs.{inputs_of_steps}
use Rattle.up_script.proofs.scripted.expand.Given as goal

abbrev pub invariant-loop-step : goal.invariant-loop-step
invariant-loop-step l = record {
  whole : l.inputs.items ≡ inputs_of_steps l.yielded;
  rest : l.fn.steps.items ≡ l.yielded ++ into_iter_items l.step-iterator;
  left : into_iter_len l.step-iterator ≡ length (into_iter_items l.step-iterator);
}
