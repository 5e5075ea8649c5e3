use Rattle.std.proofs.Common.{◌≡◌, ◌++◌, take}
use Rattle.std.specs.List.{flat_map}
use Rattle.up_chart.specs.Svg.{mark_text}
use Rattle.up_chart.proofs.svg.push_marks.Given as goal

abbrev pub invariant-loop-mark : goal.invariant-loop-mark
invariant-loop-mark l = l.text.items ≡ l.initial.text.items ++ flat_map (mark_text l.end) (take l.mark-index l.marks)
