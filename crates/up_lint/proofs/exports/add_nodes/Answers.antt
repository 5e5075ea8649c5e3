use Rattle.std.specs.List.{flat_map}
use Rattle.up_expr.specs.Flat.{leaves_in}
use Rattle.up_lint.specs.Exports.{leaf_keys}
use Rattle.up_lint.specs.Names.{with_names}
use Rattle.up_lint.proofs.Adding.{added_node}
use Rattle.up_lint.proofs.exports.add_nodes.Goals as goal

pub loop-node-preserved : goal.loop-node-preserved
loop-node-preserved c =
    added_node leaf_keys c.args.nodes.now c.loop-node.node-index c.node-item.result c.loop-node.names c.add_node.new.names (with_names c.args.names.now (flat_map leaf_keys (leaves_in c.args.nodes.now)))
    c.loop-node-test.true c.node-item.is c.in_ok-add_node.ensures c.loop-node.invariant
