use Rattle.std.proofs.Common.{arith}
use Rattle.up_image.proofs.Places.{leaves_more}
use Rattle.up_image.proofs.index.add_leaves.Goals as goal

pub loop-node-preserved : goal.loop-node-preserved
loop-node-preserved c =
    let so_far = c.loop-node.invariant in
    record {
      counted = omega arith;
      added = leaves_more c.args.job c.args.start c.args.places.now.items c.loop-node.places.items c.add_leaf.new.places.items c.args.nodes.now c.loop-node.node-index c.node-item.result
          (omega arith) so_far.added (rw (← c.node-item.is, ← so_far.counted) c.in_ok-add_leaf.ensures);
    }
