use Rattle.std.proofs.Common.{◌≡◌, drop}
use Rattle.std.specs.List.{flat_map}
use Rattle.up_expr.specs.Flat.{leaves_in}
use Rattle.up_lint.specs.Exports.{leaf_keys}
use Rattle.up_lint.specs.Names.{with_names}
use Rattle.up_lint.proofs.exports.add_nodes.Given as goal

abbrev pub invariant-loop-node : goal.invariant-loop-node
invariant-loop-node l = with_names l.names (flat_map leaf_keys (leaves_in (drop l.node-index l.nodes))) ≡ with_names l.initial.names (flat_map leaf_keys (leaves_in l.nodes))
