use Rattle.std.proofs.Common.{arith, sym, ap, length, ◌<◌, ◌≤◌}
use Rattle.up_job.specs.JobLists.{list_of, removed_in}
use Rattle.up_job.specs.Lists.{nth}
use Rattle.up_job.proofs.Places.{nth_none, set_with_at}
use Rattle.up_job.proofs.by_position.remove_at.Goals as goal

pub returns-then-key-len-clause-rest : goal.returns-then-key-len-clause-rest
returns-then-key-len-clause-rest c =
    let within : c.args.key.job < length c.args.jobs.now.items = omega (arith, c.args.jobs.now.ok.0, c.if-key-len.true, c.len.ensures) in
    rw c.remove_in.ensures.rest (set_with_at (removed_in c.args.key.at) c.args.key.job c.args.jobs.now.items _ within c.index_mut.ensures.value)

pub returns-else-key-len-clause-taken : goal.returns-else-key-len-clause-taken
returns-else-key-len-clause-taken c =
    let past : length c.args.jobs.now.items ≤ c.args.key.job = omega (arith, c.args.jobs.now.ok.0, c.if-key-len.false, c.len.ensures) in
    sym (ap (λ o. nth c.args.key.at (list_of o)) (nth_none c.args.key.job c.args.jobs.now.items past))
