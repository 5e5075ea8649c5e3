use Rattle.std.proofs.Common.{◌≡◌, ◌++◌, take}
use Rattle.std.specs.List.{flat_map}
use Rattle.up_chart.specs.Moments.{output_moments}
use Rattle.up_chart.proofs.moment.push_outputs.Given as goal

abbrev pub invariant-loop-output : goal.invariant-loop-output
invariant-loop-output l = l.moments.items ≡ l.initial.moments.items ++ flat_map (output_moments l.time) (take l.output-index l.outputs)
