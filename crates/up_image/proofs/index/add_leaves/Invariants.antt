use Rattle.std.proofs.Common.{◌≡◌, ◌++◌, take}
use Rattle.up_image.specs.Index.{leaf_places}
use Rattle.up_image.proofs.index.add_leaves.Given as goal

-- what was there, and after it the leaves so far
abbrev pub invariant-loop-node : goal.invariant-loop-node
invariant-loop-node l = record {
  counted : l.at ≡ l.node-index;
  added : l.places.items ≡ l.fn.places.items ++ leaf_places l.job l.start 0 (take l.node-index l.nodes);
}
