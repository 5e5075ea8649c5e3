use Rattle.std.proofs.Common.{sym, refl, ◌∷◌, ◌++◌, subst}
use Rattle.up_model.specs.Chronicle.{Replied}
use Rattle.up_model.specs.Outputs.{reply_of}
use Rattle.up_ledger.specs.Asking.{number_asked}
use Rattle.up_book.specs.Keys.{given_place}
use Rattle.up_ledger.specs.Steps.{IsStep}
use Rattle.up_ledger.specs.declared.step.Step.{Step}
use Rattle.up_ledger.proofs.Acting.{step-replied}
use Rattle.up_ledger.proofs.Leaving.{forgets-replied}
use Rattle.up_ledger.proofs.Ledgers.{found-same, stood}
use Rattle.up_ledger.proofs.StepFrames.{asks-same}
use Rattle.up_ledger.proofs.ledger.LedgerBook.reply.Goals as goal

pub returns : goal.returns
returns c config c' s =
    let old = c.args.self.now in
    let more = reply_of (number_asked old.step.asked) c.args.answer in
    stood _ _ config _ (forgets-replied old.past config c' (given_place c') c.args.answer s.past) s.index
    (subst (λ (st : Step). IsStep st config (Replied (given_place c') c.args.answer ∷ c')) (sym c.answer.ensures)
    (asks-same (old.step.outputs.items ++ more) _ _ _ old.step.on _ config _ c.in_ok-reply_asked.ensures refl refl
    (step-replied old.step.outputs.items more old.step.asked old.step.on config c' c.args.answer refl s.step)))
    (found-same old.others config c' _ (λ job. refl) s.found)
