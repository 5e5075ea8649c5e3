use Rattle.std.proofs.Common.{arith, length, ◌<◌}
use Rattle.up_job.specs.Unblocking.{unblocked}
use Rattle.up_job.proofs.Places.{set_with_at}
use Rattle.up_job.proofs.unblocking.unblock_at.Goals as goal

pub returns-then-at-len : goal.returns-then-at-len
returns-then-at-len c =
    let within : c.args.at < length c.args.instances.now.items = omega (arith, c.args.instances.now.ok.0, c.if-at-len.true, c.len.ensures) in
    rw c.unblock.ensures (set_with_at (unblocked c.args.id) c.args.at c.args.instances.now.items _ within c.index_mut.ensures.value)
