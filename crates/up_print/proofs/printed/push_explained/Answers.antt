use Rattle.up_print.proofs.Explaining.{explains-more}
use Rattle.up_print.proofs.printed.push_explained.Goals as goal

pub loop-fault-preserved : goal.loop-fault-preserved
loop-fault-preserved c =
    let so-far = c.loop-fault.invariant in
    let advice = c.in_ok-push_advice.ensures in
    explains-more c.args.files.now c.args.faults.now c.loop-fault.fault-index c.fault-item.result c.args.text.now.items c.loop-fault.text.items
    c.push_fault.new.text.items c.push_advice.new.text.items so-far.0 advice.0 c.loop-fault-test.true c.fault-item.is so-far.1 so-far.2 c.in_ok-push_fault.ensures advice.1
