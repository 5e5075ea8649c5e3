use Rattle.up_disk.specs.Walk.{Keeps}
use Rattle.up_disk.proofs.walk.walk.Given as goal

-- the entries so far were kept
abbrev pub invariant-listing : goal.invariant-listing
invariant-listing g l = Keeps l.found.folder l.found.entries
