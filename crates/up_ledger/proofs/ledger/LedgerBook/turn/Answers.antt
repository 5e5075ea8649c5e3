use Rattle.up_ledger.proofs.ledger.LedgerBook.turn.Goals as goal

pub returns : goal.returns
returns c config c' s = c.turn.ensures config c' s.past
