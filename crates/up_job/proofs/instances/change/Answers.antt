use Rattle.std.proofs.Common.{◌≡◌, rules, arith, length, IsSome, subst, ap}
use Rattle.up_job.specs.Changes.{changed}
use Rattle.up_job.specs.JobLists.{job_of}
use Rattle.up_job.specs.InstanceLists.{named, with_change}
use Rattle.up_job.specs.Named as by_name
use Rattle.up_job.proofs.NamedLemmas.{within_here}
use Rattle.up_job.proofs.JobLemmas.{has_job, list_here, changed_order, changed_job}
use Rattle.up_job.proofs.instances.change.Goals as goal

pub index_mut-requires : goal.index_mut-requires
index_mut-requires c =
    let at : c.position-at.result ≡ by_name.position job_of c.args.job.now c.args.jobs.now.items = search rules in
    let there = has_job c.args.job.now c.args.instance.now c.args.jobs.now.items c.requires.there in
    let within = within_here job_of c.args.job.now c.args.jobs.now.items c.position-at.result at c.requires.order there in
    omega (arith, within, c.as_slice.ensures.len, ap length c.as_slice.ensures.value)

pub change-requires : goal.change-requires
change-requires c =
    let at : c.position-at.result ≡ by_name.position job_of c.args.job.now c.args.jobs.now.items = search rules in
    let there = has_job c.args.job.now c.args.instance.now c.args.jobs.now.items c.requires.there in
    subst (λ l. IsSome (named c.args.instance.now l)) (list_here c.args.job.now c.args.jobs.now.items c.position-at.result c.index_mut.result.now at c.requires.order there c.index_mut.ensures.value) c.requires.there

pub returns-clause-order : goal.returns-clause-order
returns-clause-order c =
    let at : c.position-at.result ≡ by_name.position job_of c.args.job.now c.args.jobs.now.items = search rules in
    let there = has_job c.args.job.now c.args.instance.now c.args.jobs.now.items c.requires.there in
    changed_order c.args.job.now (with_change c.args.instance.now (changed c.args.its)) c.args.jobs.now.items c.position-at.result at c.requires.order c.index_mut.result.now c.change.new.self there c.index_mut.ensures.value

pub returns-clause-after : goal.returns-clause-after
returns-clause-after c =
    let at : c.position-at.result ≡ by_name.position job_of c.args.job.now c.args.jobs.now.items = search rules in
    let there = has_job c.args.job.now c.args.instance.now c.args.jobs.now.items c.requires.there in
    changed_job c.args.job.now (with_change c.args.instance.now (changed c.args.its)) c.args.jobs.now.items c.position-at.result at c.requires.order c.index_mut.result.now c.change.new.self there c.index_mut.ensures.value c.change.ensures
