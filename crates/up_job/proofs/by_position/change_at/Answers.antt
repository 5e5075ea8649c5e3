use Rattle.std.proofs.Common.{arith, length, ◌<◌}
use Rattle.up_job.specs.Changes.{changed}
use Rattle.up_job.specs.JobLists.{changed_in}
use Rattle.up_job.proofs.Places.{set_with_at}
use Rattle.up_job.proofs.by_position.change_at.Goals as goal

pub returns-then-key-len : goal.returns-then-key-len
returns-then-key-len c =
    let within : c.args.key.job < length c.args.jobs.now.items = omega (arith, c.args.jobs.now.ok.0, c.if-key-len.true, c.len.ensures) in
    rw c.change_in.ensures (set_with_at (changed_in c.args.key.at (changed c.args.its)) c.args.key.job c.args.jobs.now.items _ within c.index_mut.ensures.value)
