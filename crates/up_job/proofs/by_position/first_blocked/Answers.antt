use Rattle.std.proofs.Common.{◌∙◌, ◌<◌, ◌≤◌, length, sym, ap, arith}
use Rattle.up_job.specs.Unblocking.{blocked_from}
use Rattle.up_job.specs.declared.instances.JobInstances.{JobInstances}
use Rattle.up_job.proofs.Blocked.{found-at, free-all, free-more, free-quiet}
use Rattle.up_job.proofs.by_position.first_blocked.Goals as goal

pub loop-job-init : goal.loop-job-init
loop-job-init c = free-quiet c.args.id c.args.quiet c.args.jobs.now c.requires.quiet

pub returns-in-Some : goal.returns-in-Some
returns-in-Some c =
    let within : c.loop-job.job < length c.args.jobs.now = omega (arith, c.search_end-end.ensures.within) in
    let some = ap (λ (job : JobInstances). blocked_from c.args.id 0 job.instances) c.index-jobs-job.is ∙ sym c.first_blocked.ensures ∙ c.in-Some.is in
    found-at c.args.id c.loop-job.job c.in-Some.at c.args.jobs.now c.index-jobs-job.result within c.index-jobs-job.is some

pub loop-job-preserved : goal.loop-job-preserved
loop-job-preserved c =
    let within : c.loop-job.job < length c.args.jobs.now = omega (arith, c.search_end-end.ensures.within) in
    let none = ap (λ (job : JobInstances). blocked_from c.args.id 0 job.instances) c.index-jobs-job.is ∙ sym c.first_blocked.ensures ∙ c.in_default.is in
    free-more c.args.id c.loop-job.job c.args.jobs.now c.index-jobs-job.result within c.index-jobs-job.is none c.loop-job.invariant

pub returns : goal.returns
returns c =
    let past : c.search_end-end.result ≤ c.loop-job.job = omega arith in
    free-all c.args.id c.loop-job.job c.search_end-end.result c.args.jobs.now past c.loop-job.invariant c.search_end-end.ensures.calm
