use Rattle.std.proofs.Common.{◌≡◌, ◌++◌, map, length}
use Rattle.up_image.specs.Index as index
use Rattle.up_image.proofs.index.runs_of.Given as goal

-- the runs so far, and after them those of the rest
abbrev pub invariant-runs : goal.invariant-runs
invariant-runs l = map (λ run. run.now) l.runs.items ++ index.runs_of l.rest ≡ index.runs_of l.places

abbrev pub decreases-runs : goal.decreases-runs
decreases-runs l = length l.rest
