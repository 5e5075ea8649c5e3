use Rattle.std.proofs.Common.{◌≡◌, ◌++◌, take}
use Rattle.std.specs.List.{flat_map}
use Rattle.up_chart.specs.Blame.{start_line}
use Rattle.up_chart.proofs.blame.push_lines.Given as goal

abbrev pub invariant-loop-start : goal.invariant-loop-start
invariant-loop-start l = l.text.items ≡ l.initial.text.items ++ flat_map (start_line l.width) (take l.start-index l.starts)
