use Rattle.std.proofs.Common.{◌≡◌, ◌≤◌, drop, length, true}
use Rattle.up_image.specs.Definable.{are_apart}
use Rattle.up_image.proofs.definable.are_apart.Given as goal

-- the exits behind are distinct
abbrev pub invariant-loop-i : goal.invariant-loop-i
invariant-loop-i l = record {
  within : l.i ≤ length l.exits;
  apart : are_apart (drop l.i l.exits) ≡ true;
}

abbrev pub decreases-loop-i : goal.decreases-loop-i
decreases-loop-i l = l.i
