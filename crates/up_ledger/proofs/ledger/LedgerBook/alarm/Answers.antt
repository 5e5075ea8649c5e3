use Rattle.up_ledger.proofs.Overdue.{none-overdue}
use Rattle.up_ledger.proofs.ledger.LedgerBook.alarm.Goals as goal

pub returns : goal.returns
returns c mode config c' s before = none-overdue c.args.self.now.past config c' c.alarm.result s.past c.alarm.ensures before
