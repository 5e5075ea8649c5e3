use Rattle.std.proofs.Common.{◌≡◌, ◌++◌, take}
use Rattle.std.specs.List.{flat_map}
use Rattle.up_image.specs.Image.{node_part}
use Rattle.up_image.proofs.put_nodes.put_each_node.Given as goal

-- what was there, and after it the items so far
abbrev pub invariant-loop-node : goal.invariant-loop-node
invariant-loop-node l = l.out.items ≡ l.fn.out.items ++ flat_map node_part (take l.node-index l.nodes)
