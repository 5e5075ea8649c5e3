use Rattle.up_ledger.proofs.ledger.LedgerBook.name.Goals as goal

pub returns : goal.returns
returns c mode config c' its s here = c.name.ensures config c' its s.past here
