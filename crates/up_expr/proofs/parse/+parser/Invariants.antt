use Rattle.std.proofs.Common.{length, ◌≡◌, ◌<◌, ◌+◌, ◌*◌, List, None}
use Rattle.up_expr.specs.Parsing.{Pending, at, Before, After, outcome}
use Rattle.up_expr.specs.Parts.{Keeps}
use Rattle.up_expr.specs.Trees.{Tree}
use Rattle.up_expr.proofs.parse.+parser.Given as goal

-- an item is shorter than the items that it begins
abbrev pub decreases-parse_item : goal.decreases-parse_item
decreases-parse_item l = length l.tokens.now * 2

abbrev pub decreases-parse_items : goal.decreases-parse_items
decreases-parse_items l = length l.tokens.now * 2 + 1

-- what was read ends in the tree so far
abbrev pub invariant-parse_items-operators : goal.invariant-parse_items-operators
invariant-parse_items-operators l = record {
  same : (tree : Tree) × Keeps l.tree tree × ((outer : List Pending) → length outer ≡ l.depth → outcome l.tokens (at outer None Before) ≡ outcome l.rest (at outer None (After tree)));
  within : length l.rest < length l.tokens;
}

abbrev pub decreases-parse_items-operators : goal.decreases-parse_items-operators
decreases-parse_items-operators l = length l.rest
