use Rattle.std.proofs.Common.{◌≡◌, ◌++◌, take}
use Rattle.std.specs.List.{flat_map}
use Rattle.up_chart.specs.Svg.{tick_at}
use Rattle.up_chart.proofs.svg.push_ticks.Given as goal

abbrev pub invariant-loop-tick : goal.invariant-loop-tick
invariant-loop-tick l = l.text.items ≡ l.initial.text.items ++ flat_map (tick_at l.end l.bottom l.step) (take l.tick-index l.ticks)
