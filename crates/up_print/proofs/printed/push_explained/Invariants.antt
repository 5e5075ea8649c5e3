use Rattle.std.proofs.Common.{◌≡◌, ◌++◌, List, ℕ, take}
use Rattle.up_print.specs.Folders.{Explains}
use Rattle.up_print.proofs.printed.push_explained.Given as goal

abbrev pub invariant-loop-fault : goal.invariant-loop-fault
invariant-loop-fault l = (added : List ℕ) × Explains l.files (take l.fault-index l.faults) added
    × (l.text.items ≡ l.initial.text.items ++ added)
