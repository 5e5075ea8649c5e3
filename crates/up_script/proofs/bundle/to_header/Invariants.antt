use Rattle.std.proofs.Common.{List, ℕ, length}
use Rattle.up_script.proofs.Passing.{Passed}
use Rattle.up_script.proofs.bundle.to_header.Given as goal

-- what was passed has no header
abbrev pub invariant-place_after : goal.invariant-place_after
invariant-place_after l = (front : List ℕ) × Passed l.text front l.rest l.lines

abbrev pub decreases-place_after : goal.decreases-place_after
decreases-place_after l = length l.rest
