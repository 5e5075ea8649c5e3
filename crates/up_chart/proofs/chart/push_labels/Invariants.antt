use Rattle.std.proofs.Common.{◌≡◌, ◌++◌, take}
use Rattle.std.specs.List.{flat_map}
use Rattle.up_chart.specs.Charts.{label_of}
use Rattle.up_chart.proofs.chart.push_labels.Given as goal

abbrev pub invariant-loop-i : goal.invariant-loop-i
invariant-loop-i l = l.labels.items ≡ l.initial.labels.items ++ flat_map label_of (take l.i l.rows)
