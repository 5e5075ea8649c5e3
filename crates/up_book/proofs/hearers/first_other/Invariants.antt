use Rattle.std.proofs.Common.{◌≡◌, drop}
use Rattle.up_book.specs.Hearers.{first_from, has_stop}
use Rattle.up_book.proofs.hearers.first_other.Given as goal

-- the rest decides
abbrev pub invariant-loop-place : goal.invariant-loop-place
invariant-loop-place l = first_from (has_stop l.instances l.event) l.from (drop l.place-index l.places) ≡ first_from (has_stop l.instances l.event) l.fn.from l.places
