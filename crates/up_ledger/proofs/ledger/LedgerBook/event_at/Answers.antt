use Rattle.up_ledger.proofs.ledger.LedgerBook.event_at.Goals as goal

pub returns : goal.returns
returns c mode config c' e s found = c.event_at.ensures config c' e s.past found
