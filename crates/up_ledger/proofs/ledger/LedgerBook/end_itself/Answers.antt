use Rattle.std.proofs.Common.{[], ◌∷◌, sym, refl, subst}
use Rattle.up_model.specs.Readings.{holders}
use Rattle.up_model.specs.declared.state.Goal.TheVariants.{Stop}
use Rattle.up_ledger.proofs.Acting.{step-aimed}
use Rattle.up_ledger.proofs.Ledgers.{keyed}
use Rattle.up_model.specs.Chronicle.{Aimed}
use Rattle.up_ledger.specs.Steps.{IsStep}
use Rattle.up_ledger.specs.declared.step.Step.{Step}
use Rattle.up_ledger.proofs.Ledgers.{found-same, stood}
use Rattle.up_ledger.proofs.ledger.LedgerBook.end_itself.Goals as goal

pub returns : goal.returns
returns c config c' i s found =
    let old = c.args.self.now in
    stood _ _ config _ (c.end_itself.ensures config c' i s.past (keyed old.past config c' c.args.key i s.past found)) s.index
    (subst (λ (st : Step). IsStep st config (Aimed i Stop [] (holders i c') ∷ c')) (sym c.act_on.ensures)
    (step-aimed old.step.outputs.items old.step.asked old.step.on config c' c.args.key i Stop [] (holders i c') found (λ hurried. s.step.unheld hurried i) s.step))
    (found-same old.others config c' _ (λ job. refl) s.found)
