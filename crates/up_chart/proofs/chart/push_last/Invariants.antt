use Rattle.std.proofs.Common.{◌≡◌, ◌++◌, take}
use Rattle.std.specs.List.{flat_map}
use Rattle.up_chart.specs.Charts.{last_span}
use Rattle.up_chart.proofs.chart.push_last.Given as goal

abbrev pub invariant-loop-i : goal.invariant-loop-i
invariant-loop-i l = l.spans.items ≡ l.initial.spans.items ++ flat_map (last_span l.end) (take l.i l.rows)
