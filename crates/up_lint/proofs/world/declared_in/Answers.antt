use Rattle.std.proofs.Common.{[]}
use Rattle.up_lint.specs.Events.{declared_of}
use Rattle.up_lint.proofs.Steps.{pushed_next}
use Rattle.up_lint.proofs.world.declared_in.Goals as goal

pub loop-job-preserved : goal.loop-job-preserved
loop-job-preserved c =
    pushed_next (declared_of c.args.files.now) c.args.jobs.now c.loop-job.job-index c.job-item.result [] c.loop-job.events.items c.push_declared_of.new.events.items
    c.loop-job-test.true c.job-item.is c.in_ok-push_declared_of.ensures c.loop-job.invariant
