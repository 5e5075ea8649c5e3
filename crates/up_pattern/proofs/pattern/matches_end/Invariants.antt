use Rattle.std.proofs.Common.{◌≡◌, length}
use Rattle.up_pattern.specs.Pattern.{all_items}
use Rattle.up_pattern.specs.Matching.{Settled, items_match, star_from}
use Rattle.up_pattern.proofs.pattern.matches_end.Given as goal

abbrev pub invariant-runs : goal.invariant-runs
invariant-runs l = record {
  same : star_from (items_match (all_items l.rest)) l.left ≡ star_from (items_match (all_items l.fn.text)) l.fn.bytes;
  settled : Settled l.unclosed l.rest;
}

abbrev pub decreases-runs : goal.decreases-runs
decreases-runs l = length l.rest
