use Rattle.std.specs.List.{flat_map}
use Rattle.up_lint.specs.Lint.{emits_of}
use Rattle.up_lint.specs.Names.{with_names}
use Rattle.up_lint.proofs.Adding.{added_next}
use Rattle.up_lint.proofs.gather.add_emitted.Goals as goal

pub loop-job-preserved : goal.loop-job-preserved
loop-job-preserved c =
    added_next emits_of c.args.jobs.now c.loop-job.job-index c.job-item.result c.loop-job.names c.add_named.new.names (with_names c.args.names.now (flat_map emits_of c.args.jobs.now))
    c.loop-job-test.true c.job-item.is c.in_ok-add_named.ensures c.loop-job.invariant
