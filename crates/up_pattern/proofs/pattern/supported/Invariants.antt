use Rattle.std.proofs.Common.{◌≡◌, false, length}
use Rattle.std.specs.List.{list_any}
use Rattle.up_pattern.specs.Pattern.{all_items, is_class}
use Rattle.up_pattern.specs.Matching.{IsFlat}
use Rattle.up_pattern.proofs.pattern.supported.Given as goal

abbrev pub invariant-items : goal.invariant-items
invariant-items l = record {
  same : list_any is_class (all_items l.rest) ≡ list_any is_class (all_items l.fn.pattern);
  flat : l.ahead ≡ false → IsFlat l.rest;
}

abbrev pub decreases-items : goal.decreases-items
decreases-items l = length l.rest
