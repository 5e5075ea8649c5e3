use Rattle.up_conf.proofs.Reports.{report_sorted}
use Rattle.up_conf.proofs.files.read_in_order.Goals as goal

pub returns-clause-report : goal.returns-clause-report
returns-clause-report c = rw c.in_ok-sort_faults.ensures (report_sorted c.args.index.now c.in_ok-jobs.faults.items c.in_ok-jobs.ensures.faults)
