use Rattle.std.proofs.Common.{arith, length, ◌<◌}
use Rattle.up_job.specs.Changes.{changed}
use Rattle.up_job.proofs.Places.{set_with_at}
use Rattle.up_job.proofs.instance_list.change_at.Goals as goal

pub returns-then-at-len : goal.returns-then-at-len
returns-then-at-len c =
    let within : c.args.at < length c.args.instances.now.items = omega (arith, c.args.instances.now.ok.0, c.if-at-len.true, c.len.ensures) in
    rw c.apply.ensures (set_with_at (changed c.args.its) c.args.at c.args.instances.now.items _ within c.index_mut.ensures.value)
