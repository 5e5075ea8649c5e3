use Rattle.std.proofs.Common.{◌≡◌, ◌++◌, take}
use Rattle.std.specs.List.{flat_map}
use Rattle.up_image.specs.Index.{place_part}
use Rattle.up_image.proofs.index.put_each_place.Given as goal

-- what was there, and after it the places so far
abbrev pub invariant-loop-place : goal.invariant-loop-place
invariant-loop-place l = l.out.items ≡ l.fn.out.items ++ flat_map place_part (take l.place-index l.places)
