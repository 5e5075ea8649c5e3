use Rattle.std.proofs.Common.{◌≡◌, ◌++◌, codes, take}
use Rattle.std.specs.List.{flat_map}
use Rattle.up_tools.specs.Parts.{name_of}
use Rattle.up_tools.proofs.changes.difference.push_rest.Given as goal

abbrev pub invariant-loop-part : goal.invariant-loop-part
invariant-loop-part l = l.text.items ≡ l.initial.text.items ++ flat_map (λ part. codes ", " ++ name_of part) (take l.part-index l.parts)
