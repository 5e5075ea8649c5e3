use Rattle.std.proofs.Common.{◌≡◌, ◌≤◌, ◌++◌, length, vec_len, vec_capacity}
use Rattle.std.specs.Vec.Iter.{into_iter_items, into_iter_len}
use Rattle.up_model.specs.Configuration.{Configuration}
use Rattle.up_model.specs.Answers.{answers, after_all}
use Rattle.up_model.specs.Chronicle.{Chronicle}
use Rattle.up_engine.specs.Stands.{Stands}
use Rattle.up_engine.proofs.engine.Engine.run.Given as goal

-- the steps so far are the answers to the inputs so far
abbrev pub invariant-loop-input : goal.invariant-loop-input
invariant-loop-input l = record {
  meaning : (config : Configuration) (c : Chronicle) → Stands l.fn.self config c → (l.steps.items ≡ answers config c l.yielded) × Stands l.self config (after_all config c l.yielded);
  rest : l.fn.inputs.items ≡ l.yielded ++ into_iter_items l.input-iterator;
  left : into_iter_len l.input-iterator ≡ length (into_iter_items l.input-iterator);
  count : vec_len l.steps ≡ length l.yielded;
  room : length l.fn.inputs.items ≤ vec_capacity l.steps;
}
