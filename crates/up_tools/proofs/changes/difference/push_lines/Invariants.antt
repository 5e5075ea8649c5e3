use Rattle.std.proofs.Common.{◌≡◌, ◌++◌, take}
use Rattle.std.specs.List.{flat_map}
use Rattle.up_tools.specs.Changes.{line_of}
use Rattle.up_tools.proofs.changes.difference.push_lines.Given as goal

abbrev pub invariant-loop-difference : goal.invariant-loop-difference
invariant-loop-difference l = l.text.items ≡ l.initial.text.items ++ flat_map line_of (take l.difference-index l.differences)
