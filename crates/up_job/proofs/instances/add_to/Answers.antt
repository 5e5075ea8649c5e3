use Rattle.std.proofs.Common.{◌≡◌, ◌<◌, IfErr, rules, arith, length, None, sym, subst, ap}
use Rattle.up_job.specs.JobLists.{job_of}
use Rattle.up_job.specs.InstanceLists.{named, new_instance, with_instance, max_instances, refusal}
use Rattle.up_job.specs.Named as by_name
use Rattle.up_job.proofs.NamedLemmas.{within_here}
use Rattle.up_job.proofs.JobLemmas.{on_ok, list_here, changed_order, changed_job}
use Rattle.up_job.proofs.instances.add_to.Goals as goal

pub index_mut-requires : goal.index_mut-requires
index_mut-requires c =
    let at : c.position-at.result ≡ by_name.position job_of c.args.job.now c.args.jobs.now.items = search rules in
    let there = c.requires.there in
    let within = within_here job_of c.args.job.now c.args.jobs.now.items c.position-at.result at c.requires.order there in
    omega (arith, within, c.as_slice.ensures.len, ap length c.as_slice.ensures.value)

pub add-requires : goal.add-requires
add-requires c =
    let at : c.position-at.result ≡ by_name.position job_of c.args.job.now c.args.jobs.now.items = search rules in
    let there = c.requires.there in
    subst (λ l. named c.args.instance.now l ≡ None) (list_here c.args.job.now c.args.jobs.now.items c.position-at.result c.index_mut.result.now at c.requires.order there c.index_mut.ensures.value) c.requires.absent

pub returns-clause-order : goal.returns-clause-order
returns-clause-order c =
    let at : c.position-at.result ≡ by_name.position job_of c.args.job.now c.args.jobs.now.items = search rules in
    let there = c.requires.there in
    changed_order c.args.job.now (with_instance (new_instance c.args.instance.now c.args.file c.args.stop_on)) c.args.jobs.now.items c.position-at.result at c.requires.order c.index_mut.result.now c.add.new.self there c.index_mut.ensures.value

pub returns-clause-added : goal.returns-clause-added
returns-clause-added c =
    let at : c.position-at.result ≡ by_name.position job_of c.args.job.now c.args.jobs.now.items = search rules in
    let there = c.requires.there in
    on_ok c.add.result (λ so. changed_job c.args.job.now (with_instance (new_instance c.args.instance.now c.args.file c.args.stop_on)) c.args.jobs.now.items c.position-at.result at c.requires.order c.index_mut.result.now c.add.new.self there c.index_mut.ensures.value so) c.add.ensures.added

pub returns-clause-fits : goal.returns-clause-fits
returns-clause-fits c =
    let at : c.position-at.result ≡ by_name.position job_of c.args.job.now c.args.jobs.now.items = search rules in
    let there = c.requires.there in
    on_ok c.add.result (λ less. subst (λ l. length l < max_instances) (sym (list_here c.args.job.now c.args.jobs.now.items c.position-at.result c.index_mut.result.now at c.requires.order there c.index_mut.ensures.value)) less) c.add.ensures.fits

pub returns-clause-refused : goal.returns-clause-refused
returns-clause-refused c =
    let at : c.position-at.result ≡ by_name.position job_of c.args.job.now c.args.jobs.now.items = search rules in
    let there = c.requires.there in
    subst (λ l. IfErr c.add.result (λ fault. fault ≡ refusal l)) (sym (list_here c.args.job.now c.args.jobs.now.items c.position-at.result c.index_mut.result.now at c.requires.order there c.index_mut.ensures.value)) c.add.ensures.refused
