use Rattle.up_print.specs.Noting.{inner_of}
use Rattle.up_print.proofs.Beginnings.{goes_on}
use Rattle.up_print.proofs.writes.write_bytes.Goals as goal

pub loop-preserved : goal.loop-preserved
loop-preserved g c =
    goes_on (g.W.Write.contents (inner_of c.args.writer.now)) (g.W.Write.contents (inner_of c.loop.writer)) (g.W.Write.contents (inner_of c.write_some.new.writer))
    c.args.bytes.now c.loop.rest.now c.in-Some.count c.loop.invariant c.in-Some.ensures.written.1
