use Rattle.std.proofs.Common.{◌<◌, length, inr, arith}
use Rattle.up_edge.proofs.child.find_end.Goals as goal

pub loop-next-smaller : goal.loop-next-smaller
loop-next-smaller g c = omega (arith, c.look_end-end.ensures.within)

pub returns-in-Failed : goal.returns-in-Failed
returns-in-Failed g c = omega (arith, c.loop-next.invariant)

pub returns-else-next-children : goal.returns-else-next-children
returns-else-next-children g c =
    let within : c.loop-next.next < length c.args.children.now = omega (arith, c.if-next-children.false) in
    let begins : c.args.next.now < length c.args.children.now = omega (arith, within, c.loop-next.invariant) in
    let further : c.args.next.now < c.loop-next.next = omega (arith, c.look_end-end.ensures.further begins, c.loop-next-test.false) in
    inr (further, within)
