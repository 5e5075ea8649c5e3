use Rattle.std.proofs.Common.{arith, sym, ap, length, ◌<◌, ◌≤◌}
use Rattle.up_job.specs.InstanceLists.{new_instance, refusal}
use Rattle.up_job.specs.JobLists.{list_of, with_made}
use Rattle.up_job.proofs.JobLemmas.{on_ok}
use Rattle.up_job.proofs.Places.{nth_none, set_with_at}
use Rattle.up_job.proofs.by_position.add_at.Goals as goal

pub returns-then-job-len-clause-added : goal.returns-then-job-len-clause-added
returns-then-job-len-clause-added c =
    let within : c.args.job < length c.args.jobs.now.items = omega (arith, c.args.jobs.now.ok.0, c.if-job-len.true, c.len.ensures) in
    on_ok c.add_in.result
    (λ so. rw so (set_with_at (with_made (new_instance c.args.name.now c.args.file c.args.stop_on)) c.args.job c.args.jobs.now.items _ within c.index_mut.ensures.value))
    c.add_in.ensures.added

pub returns-else-job-len-clause-refused : goal.returns-else-job-len-clause-refused
returns-else-job-len-clause-refused c =
    let past : length c.args.jobs.now.items ≤ c.args.job = omega (arith, c.args.jobs.now.ok.0, c.if-job-len.false, c.len.ensures) in
    sym (ap (λ o. refusal (list_of o)) (nth_none c.args.job c.args.jobs.now.items past))
