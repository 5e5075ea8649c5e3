use Rattle.std.proofs.Common.{◌≤◌, length}
use Rattle.up_pattern.specs.Pattern.{symbols}
use Rattle.up_pattern.proofs.SetReading.{Onward}
use Rattle.up_pattern.proofs.pattern.set_end.Given as goal

abbrev pub invariant-items : goal.invariant-items
invariant-items l = record {
  on : Onward (symbols l.fn.set) (symbols l.rest);
  shorter : length l.rest ≤ length l.fn.set;
}

abbrev pub decreases-items : goal.decreases-items
decreases-items l = length l.rest
