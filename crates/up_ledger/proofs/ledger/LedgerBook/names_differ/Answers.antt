use Rattle.up_ledger.proofs.ledger.LedgerBook.names_differ.Goals as goal

pub returns : goal.returns
returns c mode config c' s = s.past.regular.singles
