use Rattle.std.proofs.Common.{◌≡◌, map, take}
use Rattle.up_marks.specs.Finding.{wanting}
use Rattle.up_marks.proofs.wanted.wanting_each.Given as goal

-- the leaves of the places so far
abbrev pub invariant-loop-place : goal.invariant-loop-place
invariant-loop-place l = l.leaves.items ≡ map (wanting l.jobs) (take l.place-index l.places)
