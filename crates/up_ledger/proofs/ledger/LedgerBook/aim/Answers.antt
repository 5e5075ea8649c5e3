use Rattle.std.proofs.Common.{◌∙◌, ◌∷◌, sym, ap, refl, subst, List}
use Rattle.up_job.specs.declared.holder.Holder.{Holder}
use Rattle.up_ledger.specs.Holding.{holders_by}
use Rattle.up_ledger.proofs.Acting.{step-aimed}
use Rattle.up_ledger.proofs.Holdings.{Held, held-so}
use Rattle.up_ledger.proofs.Ledgers.{keyed}
use Rattle.up_model.specs.Chronicle.{Aimed}
use Rattle.up_ledger.specs.Steps.{IsStep}
use Rattle.up_ledger.specs.declared.step.Step.{Step}
use Rattle.up_ledger.proofs.Ledgers.{found-same, stood}
use Rattle.up_model.specs.Queue.{queue}
use Rattle.up_ledger.proofs.ledger.LedgerBook.aim.Goals as goal

pub returns-clause-after : goal.returns-clause-after
returns-clause-after c config c' i places s found held =
    let old = c.args.self.now in
    let its = held-so old.past config c' c.args.holders places s.past held in
    let kept : Held old.past c' c.in_ok-holders.holders places = subst (λ (hs : List Holder). Held old.past c' hs places) (sym (c.in_ok-holders.ensures ∙ ap (holders_by c.args.holders) s.step.asked)) its in
    stood _ _ config _ (c.in_ok-aim.ensures.after config c' i places s.past (keyed old.past config c' c.args.key i s.past found) kept.same kept.older kept.live) s.index
    (subst (λ (st : Step). IsStep st config (Aimed i c.args.goal c.args.environment places ∷ c')) (sym c.act_on.ensures)
    (step-aimed old.step.outputs.items old.step.asked old.step.on config c' c.args.key i c.args.goal c.args.environment places found kept.apart s.step))
    (found-same old.others config c' _ (λ job. refl) s.found)

pub returns-clause-events : goal.returns-clause-events
returns-clause-events c config c' i places s found held k j other = c.in_ok-aim.ensures.places (queue c') k ∙ other
