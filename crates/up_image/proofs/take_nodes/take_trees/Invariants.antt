use Rattle.std.proofs.Common.{◌≡◌, ◌-◌, ◌≤◌, []}
use Rattle.up_expr.specs.Laying.{sizes}
use Rattle.up_image.specs.Finding.{trees_at}
use Rattle.up_image.proofs.take_nodes.take_trees.Given as goal

-- what is left gives the whole, and no tree has more nodes than were read
abbrev pub invariant-loop-i : goal.invariant-loop-i
invariant-loop-i l = record {
  same : trees_at (l.count - l.i) l.builder l.rest ≡ trees_at l.count [] l.fn.bytes;
  few : sizes l.builder ≤ l.i;
}
