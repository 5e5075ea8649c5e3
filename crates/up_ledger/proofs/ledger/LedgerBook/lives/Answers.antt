use Rattle.up_ledger.proofs.Ledgers.{keyed}
use Rattle.up_ledger.proofs.ledger.LedgerBook.lives.Goals as goal

pub returns : goal.returns
returns c mode config c' i s found = c.lives.ensures config c' i s.past (keyed c.args.self.now.past config c' c.args.key i s.past found)
