use Rattle.std.proofs.Common.{◌≡◌, ◌++◌, length}
use Rattle.std.specs.Vec.Iter.{into_iter_items, into_iter_len}
use Rattle.up_engine.specs.Stands.{Stands}
use Rattle.up_model.specs.Chronicle.{Chronicle}
use Rattle.up_model.specs.Configuration.{Configuration}
use Rattle.up_disk.specs.Running.{Tells}
use Rattle.up_script.specs.ScriptInputs.{inputs_of_steps}
use Rattle.up_disk.proofs.running.push_answers.Given as goal

-- what the steps so far gave is told of
abbrev pub invariant-loop-given : goal.invariant-loop-given
invariant-loop-given l = record {
  told : (config : Configuration) (c : Chronicle) → Stands l.fn.engine config c → Tells l.fn.text.items l.text.items l.engine config c (inputs_of_steps l.yielded);
  rest : l.fn.steps.items ≡ l.yielded ++ into_iter_items l.given-iterator;
  left : into_iter_len l.given-iterator ≡ length (into_iter_items l.given-iterator);
}
