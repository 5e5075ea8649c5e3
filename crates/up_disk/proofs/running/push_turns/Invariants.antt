use Rattle.std.proofs.Common.{replicate}
use Rattle.up_engine.specs.Stands.{Stands}
use Rattle.up_model.specs.declared.input.Input.TheVariants.{Turn}
use Rattle.up_model.specs.Chronicle.{Chronicle}
use Rattle.up_model.specs.Configuration.{Configuration}
use Rattle.up_disk.specs.Running.{Tells}
use Rattle.up_disk.proofs.running.push_turns.Given as goal

-- the turns so far are told of
abbrev pub invariant-loop : goal.invariant-loop
invariant-loop l = (config : Configuration) (c : Chronicle) → Stands l.fn.engine config c → Tells l.fn.text.items l.text.items l.engine config c (replicate l.counter Turn)
