use Rattle.std.proofs.Common.{[]}
use Rattle.up_expr.specs.Flat.{leaves_in}
use Rattle.up_lint.specs.Events.{scene_of}
use Rattle.up_lint.specs.Questions.{about, gathered}
use Rattle.up_lint.proofs.Gathered.{node_next}
use Rattle.up_lint.proofs.question.gather_nodes.Goals as goal

pub loop-node-preserved : goal.loop-node-preserved
loop-node-preserved c =
    let asks = about (scene_of c.args.world.now) c.args.job.now c.args.question c.args.side in
    node_next asks c.args.nodes.now c.loop-node.node-index c.node-item.result c.loop-node.names.items c.add_node.new.names.items (gathered asks [] (leaves_in c.args.nodes.now))
    c.loop-node-test.true c.node-item.is c.in_ok-add_node.ensures c.loop-node.invariant
