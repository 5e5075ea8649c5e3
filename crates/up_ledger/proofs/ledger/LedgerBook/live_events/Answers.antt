use Rattle.up_ledger.proofs.ledger.LedgerBook.live_events.Goals as goal

pub returns : goal.returns
returns c mode config c' s = c.live_events.ensures config c' s.past
