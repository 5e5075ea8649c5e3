use Rattle.std.proofs.Common.{arith}
use Rattle.up_wire.proofs.Framing.{begins, sendable, octets_inside}
use Rattle.up_wire.proofs.frames.request_at.Goals as goal

pub returns-in-Err-clause-fault : goal.returns-in-Err-clause-fault
returns-in-Err-clause-fault c =
    let parts = rw c.in-Some.is at c.in_ok-payload.ensures.some in
    begins c.in-Err.fault c.args.bytes.now c.in-Some.payload.now c.in-Some.rest.now parts.0 parts.1 c.in-Err.ensures

pub returns-in-Ok-clause-some : goal.returns-in-Ok-clause-some
returns-in-Ok-clause-some c =
    let parts = rw c.in-Some.is at c.in_ok-payload.ensures.some in
    let are = octets_inside c.args.bytes.now c.in-Some.payload.now c.in-Some.rest.now (λ i. omega (arith, c.type_inv.bytes i)) parts.1 in
    sendable c.args.bytes.now c.in-Some.payload.now c.in-Some.rest.now c.in-Ok.request are parts.0 parts.1 c.in-Ok.ensures
