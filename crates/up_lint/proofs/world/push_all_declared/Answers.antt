use Rattle.up_lint.specs.Events.{declared_by}
use Rattle.up_lint.proofs.Steps.{pushed_next}
use Rattle.up_lint.proofs.world.push_all_declared.Goals as goal

pub loop-head-preserved : goal.loop-head-preserved
loop-head-preserved c =
    pushed_next declared_by c.args.sheet.now c.loop-head.head-index c.head-item.result c.args.events.now.items c.loop-head.events.items c.push_declared.new.events.items
    c.loop-head-test.true c.head-item.is c.in_ok-push_declared.ensures c.loop-head.invariant
