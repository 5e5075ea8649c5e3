use Rattle.std.proofs.Common.{◌≡◌, ◌++◌, take}
use Rattle.std.specs.List.{flat_map}
use Rattle.up_print.specs.Lines.{output_lines}
use Rattle.up_print.proofs.lines.push_outputs.Given as goal

abbrev pub invariant-loop-output : goal.invariant-loop-output
invariant-loop-output l = l.text.items ≡ l.initial.text.items ++ flat_map output_lines (take l.output-index l.outputs)
