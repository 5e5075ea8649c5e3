use Rattle.up_wire.proofs.Chunks.{written}
use Rattle.up_wire.proofs.writing.push_frames.Goals as goal

pub loop-rest-preserved : goal.loop-rest-preserved
loop-rest-preserved c = written c.args.ok c.loop-rest.out.items c.push_frame.new.out.items c.loop-rest.rest.now c.split_at.result.0.now c.split_at.result.1.now _ c.in_ok-push_frame.ensures c.split_at.ensures.front c.split_at.ensures.back c.loop-rest-test.true c.loop-rest.invariant
