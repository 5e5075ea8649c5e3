use Rattle.std.proofs.Common.{◌<◌, ap, length, length-append, arith}
use Rattle.up_wire.specs.Frames.{frame}
use Rattle.up_wire.proofs.Joining.{opens_more}
use Rattle.up_wire.proofs.Pending.{front_more, ahead_fault}
use Rattle.up_wire.proofs.answers.join_full.Goals as goal

pub returns-in_err-payload-clause-ahead : goal.returns-in_err-payload-clause-ahead
returns-in_err-payload-clause-ahead c total h =
    let faulty = c.in_err-payload.ensures.fault in
    ahead_fault total c.loop-payload.text.items c.loop-payload.rest.now c.in_err-payload.field-0.0 c.from_residual.result (c.loop-payload.invariant.opens total h) faulty.0 faulty.1 c.from_residual.ensures.1

pub loop-payload-preserved : goal.loop-payload-preserved
loop-payload-preserved c =
    let found = rw c.in-Some.is at c.in_ok-payload.ensures.some in
    let chunk = c.in-Some-chunk_of.ensures.chunk in
    let size : length c.in-Some.after.now < length c.loop-payload.rest.now = omega (arith, ap length found.1, length-append (frame c.in-Some.payload.now) c.in-Some.after.now) in
    record {
      kept = rw c.in_ok-extend_from_slice.ensures.items (front_more c.args.text.now.items c.loop-payload.text.items c.in-Some-chunk_of.chunk.now c.loop-payload.invariant.kept);
      within = omega (arith, size, c.loop-payload.invariant.within);
      whole = λ same. absurd (omega (arith, size, same, c.loop-payload.invariant.within));
      opens = λ total h. rw c.in_ok-extend_from_slice.ensures.items (opens_more total c.loop-payload.text.items c.loop-payload.rest.now c.in-Some.payload.now c.in-Some.after.now c.in-Some-chunk_of.chunk.now (c.loop-payload.invariant.opens total h) found.1 chunk.0 chunk.1);
    }
