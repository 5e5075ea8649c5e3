use Rattle.std.proofs.Common.{refl}
use Rattle.up_ledger.proofs.Deaf.{stands-deaf-start, stands-deaf-stop}
use Rattle.up_ledger.proofs.ledger.LedgerBook.passes_by.Goals as goal

pub returns-clause-start : goal.returns-clause-start
returns-clause-start c config c' n job e s there deaf = stands-deaf-start c.args.self.now config c' n job e s there deaf

pub returns-clause-stop : goal.returns-clause-stop
returns-clause-stop c config c' key job i e s found there deaf = stands-deaf-stop c.args.self.now config c' key job i e s found there deaf

pub returns-clause-events : goal.returns-clause-events
returns-clause-events c c' x e k = refl
