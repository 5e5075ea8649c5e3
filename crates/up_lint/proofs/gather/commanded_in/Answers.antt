use Rattle.std.proofs.Common.{[], ◌∙◌, ap, codes}
use Rattle.std.specs.List.{flat_map}
use Rattle.up_lint.specs.Commands.{names_by}
use Rattle.up_lint.specs.Lint.{starts_of}
use Rattle.up_lint.specs.Names.{with_names}
use Rattle.up_lint.proofs.Adding.{added_next}
use Rattle.up_lint.proofs.gather.commanded_in.Goals as goal

pub loop-job-preserved : goal.loop-job-preserved
loop-job-preserved c =
    let job = c.job-item.result in
    let step = c.in_ok-add_named.ensures ∙ ap (λ name. with_names c.loop-job.names (names_by (codes "start") name job)) c.as_str.ensures.text in
    added_next starts_of c.args.jobs.now c.loop-job.job-index job c.loop-job.names c.add_named.new.names (with_names [] (flat_map starts_of c.args.jobs.now))
    c.loop-job-test.true c.job-item.is step c.loop-job.invariant
