use Rattle.std.proofs.Common.{◌≡◌, ◌≤◌, ◌∷◌, length}
use Rattle.std.specs.Option.{ForSome}
use Rattle.up_pattern.specs.Pattern.{all_items}
use Rattle.up_pattern.specs.Matching.{Knows, Kept, item_of_part, items_match, star_from}
use Rattle.up_pattern.proofs.pattern.search.Given as goal

abbrev pub invariant-places : goal.invariant-places
invariant-places l = record {
  same : star_from (items_match (item_of_part l.part ∷ all_items l.text)) l.left ≡ star_from (items_match (item_of_part l.part ∷ all_items l.text)) l.fn.bytes;
  shorter : length l.left ≤ length l.fn.bytes;
  room : length l.known ≡ 256;
  kept : ForSome l.memo (Kept l.unclosed l.text);
  knows : Knows l.known (item_of_part l.part);
}

abbrev pub decreases-places : goal.decreases-places
decreases-places l = length l.left
