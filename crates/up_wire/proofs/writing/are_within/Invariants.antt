use Rattle.std.proofs.Common.{◌≡◌, ◌≤◌, take, length}
use Rattle.std.specs.List.{flat_map}
use Rattle.up_wire.specs.Frames.{variable}
use Rattle.up_wire.proofs.writing.are_within.Given as goal

-- so far they are
abbrev pub invariant-loop-i : goal.invariant-loop-i
invariant-loop-i l = record {
  size_is : l.size ≡ length (flat_map variable (take l.i l.vars));
  within : l.size ≤ l.most;
}
