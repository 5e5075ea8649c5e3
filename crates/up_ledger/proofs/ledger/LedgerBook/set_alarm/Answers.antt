use Rattle.std.proofs.Common.{sym, subst}
use Rattle.up_ledger.specs.Ledgers.{Stands}
use Rattle.up_ledger.specs.declared.past.Past.{Past}
use Rattle.up_ledger.proofs.ledger.LedgerBook.set_alarm.Goals as goal

pub returns : goal.returns
returns c mode config c' s = subst (λ (past : Past). Stands (record c.args.self.now { past = past }) mode config c') (sym c.set_alarm.ensures) s
