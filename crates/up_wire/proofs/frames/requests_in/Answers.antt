use Rattle.up_wire.proofs.Framing.{shorter}
use Rattle.up_wire.proofs.frames.requests_in.Goals as goal

pub loop-requests-smaller : goal.loop-requests-smaller
loop-requests-smaller c =
    let found = rw c.in-Some.is at c.in_ok-request.ensures.some in
    shorter c.loop-requests.rest.now c.in-Some.request c.in-Some.after.now found.1
