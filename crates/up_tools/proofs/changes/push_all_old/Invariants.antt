use Rattle.std.proofs.Common.{◌≡◌, ◌++◌, take}
use Rattle.std.specs.List.{flat_map}
use Rattle.up_tools.specs.Changes.{removal_of}
use Rattle.up_tools.proofs.changes.push_all_old.Given as goal

abbrev pub invariant-loop-job : goal.invariant-loop-job
invariant-loop-job l = l.differences.items ≡ l.initial.differences.items ++ flat_map (removal_of l.new) (take l.job-index l.old)
