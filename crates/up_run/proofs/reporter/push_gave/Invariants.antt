use Rattle.std.proofs.Common.{◌≡◌, ◌++◌, take}
use Rattle.std.specs.List.{flat_map}
use Rattle.up_print.specs.Lines.{output_lines}
use Rattle.up_run.proofs.reporter.push_gave.Given as goal

abbrev pub invariant-loop-outputs : goal.invariant-loop-outputs
invariant-loop-outputs l = l.text.items ≡ l.initial.text.items ++ flat_map (flat_map output_lines) (take l.outputs-index l.gave)
