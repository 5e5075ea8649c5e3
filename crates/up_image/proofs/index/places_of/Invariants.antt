use Rattle.std.proofs.Common.{◌≡◌, take}
use Rattle.up_image.specs.Index as index
use Rattle.up_image.proofs.index.places_of.Given as goal

-- the leaves of the jobs so far
abbrev pub invariant-loop-at : goal.invariant-loop-at
invariant-loop-at l = l.places.items ≡ index.places_of 0 (take l.at l.jobs)
