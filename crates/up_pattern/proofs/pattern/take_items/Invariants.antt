use Rattle.std.proofs.Common.{◌≡◌, ◌≤◌, ◌+◌, ◌-◌, drop, length}
use Rattle.std.specs.Option.{ForSome}
use Rattle.up_pattern.specs.Pattern.{all_items}
use Rattle.up_pattern.specs.Matching.{Settled, Takes, Kept}
use Rattle.up_pattern.proofs.pattern.take_items.Given as goal

abbrev pub invariant-items : goal.invariant-items
invariant-items l = record {
  takes : Takes (all_items l.segment.text.now) l.fn.bytes (all_items l.rest) l.left;
  place : all_items l.rest ≡ drop l.index (all_items l.segment.text.now);
  settled : Settled l.segment.unclosed l.rest;
  shorter : l.index + length l.rest ≤ length l.segment.text.now;
  kept : ForSome l.memo (Kept l.segment.unclosed l.segment.text.now);
}

abbrev pub decreases-items : goal.decreases-items
decreases-items l = length l.segment.text.now - l.index
