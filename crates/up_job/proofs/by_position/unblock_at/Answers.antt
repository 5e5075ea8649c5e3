use Rattle.std.proofs.Common.{arith, length, ◌<◌}
use Rattle.up_job.specs.JobLists.{changed_in}
use Rattle.up_job.specs.Unblocking.{unblocked}
use Rattle.up_job.proofs.Places.{set_with_at}
use Rattle.up_job.proofs.by_position.unblock_at.Goals as goal

pub returns-then-key-len : goal.returns-then-key-len
returns-then-key-len c =
    let within : c.args.key.job < length c.args.jobs.now.items = omega (arith, c.args.jobs.now.ok.0, c.if-key-len.true, c.len.ensures) in
    rw c.unblock_in.ensures (set_with_at (changed_in c.args.key.at (unblocked c.args.id)) c.args.key.job c.args.jobs.now.items _ within c.index_mut.ensures.value)
