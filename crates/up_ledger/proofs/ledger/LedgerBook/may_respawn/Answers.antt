use Rattle.up_ledger.proofs.Ledgers.{keyed}
use Rattle.up_ledger.proofs.ledger.LedgerBook.may_respawn.Goals as goal

pub returns : goal.returns
returns c mode config c' i job s found file =
    c.may_respawn.ensures config c' i job s.past (keyed c.args.self.now.past config c' c.args.key i s.past found) file
