use Rattle.std.proofs.Common.{◌≡◌, ◌++◌, take}
use Rattle.std.specs.List.{flat_map}
use Rattle.up_chart.specs.Svg.{arrow_text}
use Rattle.up_chart.proofs.svg.push_arrows.Given as goal

abbrev pub invariant-loop-arrow : goal.invariant-loop-arrow
invariant-loop-arrow l = l.text.items ≡ l.initial.text.items ++ flat_map (arrow_text l.end) (take l.arrow-index l.arrows)
