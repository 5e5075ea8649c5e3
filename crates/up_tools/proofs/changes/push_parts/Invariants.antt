use Rattle.std.proofs.Common.{◌≡◌, ◌++◌, take}
use Rattle.std.specs.List.{flat_map}
use Rattle.up_tools.specs.Changes.{part_unless}
use Rattle.up_tools.specs.Parts.{same_part}
use Rattle.up_tools.proofs.changes.push_parts.Given as goal

abbrev pub invariant-loop-part : goal.invariant-loop-part
invariant-loop-part l = l.parts.items ≡ l.initial.parts.items ++ flat_map (λ part. part_unless (same_part part l.job l.other) part) (take l.part-index l.all)
