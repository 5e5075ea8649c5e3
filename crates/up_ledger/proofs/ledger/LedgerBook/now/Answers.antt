use Rattle.up_ledger.proofs.ledger.LedgerBook.now.Goals as goal

pub returns : goal.returns
returns c mode config c' s = c.now.ensures config c' s.past
