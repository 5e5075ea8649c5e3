use Rattle.up_ledger.proofs.ledger.LedgerBook.is_spoilt.Goals as goal

pub returns : goal.returns
returns c mode config c' e s found = c.is_spoilt.ensures config c' e s.past found
