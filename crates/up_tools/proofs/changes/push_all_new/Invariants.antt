use Rattle.std.proofs.Common.{◌≡◌, ◌++◌, take}
use Rattle.std.specs.List.{flat_map}
use Rattle.up_tools.specs.Changes.{change_of}
use Rattle.up_tools.specs.Parts.{same_part}
use Rattle.up_tools.proofs.changes.push_all_new.Given as goal

abbrev pub invariant-loop-job : goal.invariant-loop-job
invariant-loop-job l = l.differences.items ≡ l.initial.differences.items ++ flat_map (change_of same_part l.old) (take l.job-index l.new)
