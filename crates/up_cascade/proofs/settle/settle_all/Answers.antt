use Rattle.std.proofs.Common.{◌∙◌, ◌<◌, ap, length, refl, arith, add-one}
use Rattle.std.proofs.lemmas.List.{drop_all}
use Rattle.up_cascade.specs.Settling.{settle_each, settle_all}
use Rattle.up_cascade.proofs.KeyLemmas.{job-at, job_name}
use Rattle.up_model.specs.Instances.{instances_of}
use Rattle.up_cascade.proofs.settle.settle_all.Goals as goal

pub loop-index-init : goal.loop-index-init
loop-index-init g c c' s = (c', s, refl)

pub loop-index-preserved : goal.loop-index-preserved
loop-index-preserved g c c' s =
    let config = c.args.setup.now in
    let n = c.loop-index.index in
    let inside : n < length config.jobs = omega (arith, c.loop-index-test.true, ap length c.jobs-jobs.ensures) in
    let at = job-at config config.jobs n refl inside in
    let job = at.0 in
    let so_far = c.loop-index.invariant c' s in
    let its = instances_of job.name so_far.0 in (
      settle_each its so_far.0,
      c.in_ok-settle_each.ensures.after so_far.0 job.name so_far.1 (job_name config n job at.1.0),
      so_far.2 ∙ rw add-one (ap (λ js. settle_all js so_far.0) at.1.1),
    )

pub returns : goal.returns
returns g c c' s =
    let config = c.args.setup.now in
    let so_far = c.loop-index.invariant c' s in
    rw (so_far.2 ∙ ap (λ js. settle_all js so_far.0) (drop_all c.loop-index.index config.jobs (omega (arith, ap length c.jobs-jobs.ensures)))) so_far.1
