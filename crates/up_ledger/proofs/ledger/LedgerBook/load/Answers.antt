use Rattle.std.proofs.Common.{subst}
use Rattle.up_model.specs.Loads.{with_jobs}
use Rattle.up_ledger.specs.Ledgers.{AreLeaves}
use Rattle.up_ledger.proofs.Ledgers.{stood}
use Rattle.up_ledger.proofs.LoadedLedgers.{loaded-found, step-loaded}
use Rattle.up_ledger.proofs.ledger.LedgerBook.load.Goals as goal

pub returns : goal.returns
returns c config c' jobs s unacted same =
    let old = c.args.self.now in
    let new = with_jobs jobs config c' in
    let f = c.in_ok-load.ensures config c' jobs s.past same in
    stood _ _ new _ f (subst (AreLeaves _) same c.in_ok-index.ensures)
    (step-loaded old.step.outputs.items old.step.asked old.step.on config new c' jobs unacted s.step)
    (loaded-found _ _ _ new _ f.lives.jobs c.in_ok-others.ensures)
