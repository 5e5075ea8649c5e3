use Rattle.std.proofs.Common.{refl}
use Rattle.up_model.specs.Chronicle.{Handled}
use Rattle.up_ledger.proofs.Ledgers.{silent, calm}
use Rattle.up_ledger.proofs.ledger.LedgerBook.handle.Goals as goal

pub returns-clause-after : goal.returns-clause-after
returns-clause-after c config c' e s found = silent c.args.self.now _ config c' (Handled e) s (c.handle.ensures.after config c' e s.past found) tt tt (calm config c' (Handled e) (λ job. refl) (λ i. refl) (λ i. refl))

pub returns-clause-events : goal.returns-clause-events
returns-clause-events c config c' e s found k j other = c.handle.ensures.events config c' e k j s.past found other
