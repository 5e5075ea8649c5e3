use Rattle.std.proofs.Common.{◌≡◌, [], rules, arith, length, sym, subst, ap}
use Rattle.up_job.specs.JobLists.{job_of, Changes}
use Rattle.up_job.specs.InstanceLists.{new_instance, with_instance}
use Rattle.up_job.specs.Named as by_name
use Rattle.up_job.proofs.NamedLemmas.{position_within}
use Rattle.up_job.proofs.JobLemmas.{added_order, added_job}
use Rattle.up_job.proofs.instances.add_first.Goals as goal

pub insert-requires : goal.insert-requires
insert-requires c =
    let at : c.position-at.result ≡ by_name.position job_of c.args.job.now c.args.jobs.now.items = search rules in
    let short = position_within job_of c.args.job.now c.args.jobs.now.items in
    omega (arith, at, short, c.as_slice.ensures.len, ap length c.as_slice.ensures.value)

pub returns-clause-order : goal.returns-clause-order
returns-clause-order c =
    let at : c.position-at.result ≡ by_name.position job_of c.args.job.now c.args.jobs.now.items = search rules in
    let its : c.in_ok-its.its.name ≡ c.args.job.now = search rules in
    subst (by_name.AreInOrder job_of) (sym c.in_ok-insert.ensures.items) (added_order c.args.job.now (with_instance (new_instance c.args.instance.now c.args.file c.args.stop_on)) c.args.jobs.now.items c.position-at.result at c.requires.order c.in_ok-its.its c.requires.absent its)

pub returns-clause-added : goal.returns-clause-added
returns-clause-added c =
    let at : c.position-at.result ≡ by_name.position job_of c.args.job.now c.args.jobs.now.items = search rules in
    let its : c.in_ok-its.its.name ≡ c.args.job.now = search rules in
    let instances : c.in_ok-its.its.instances ≡ with_instance (new_instance c.args.instance.now c.args.file c.args.stop_on) [] = search rules in
    subst (λ gs. Changes c.args.job.now (with_instance (new_instance c.args.instance.now c.args.file c.args.stop_on)) c.args.jobs.now.items gs) (sym c.in_ok-insert.ensures.items) (added_job c.args.job.now (with_instance (new_instance c.args.instance.now c.args.file c.args.stop_on)) c.args.jobs.now.items c.position-at.result at c.requires.order c.in_ok-its.its c.requires.absent its instances)
