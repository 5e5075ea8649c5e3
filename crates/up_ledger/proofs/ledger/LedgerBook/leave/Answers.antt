use Rattle.std.proofs.Common.{◌∙◌, sym, ap, subst, refl, false, [], ◌∷◌, ◌++◌}
use Rattle.std.specs.Option.{option_copied}
use Rattle.up_model.specs.Replies.{releasing}
use Rattle.up_model.specs.declared.output.Output.TheVariants.{Emitted}
use Rattle.up_ledger.specs.Requesting.{on_left}
use Rattle.up_ledger.specs.Steps.{IsStep}
use Rattle.up_ledger.specs.declared.step.Step.{Step}
use Rattle.up_model.specs.Chronicle.{Queued, Entering, Entered}
use Rattle.up_model.specs.declared.state.State.TheVariants.{Waiting}
use Rattle.up_ledger.specs.Holding.{held_by_kept}
use Rattle.up_ledger.specs.Replying.{replies_to}
use Rattle.up_book.specs.Views.{kept_at}
use Rattle.up_ledger.proofs.LeftLedgers.{step-leaves, forgets-left-released}
use Rattle.up_ledger.proofs.StepFrames.{asks-same}
use Rattle.up_ledger.proofs.Ledgers.{keyed, found-same, found-left, mild-instances, stood}
use Rattle.up_ledger.specs.Eventing.{place_of}
use Rattle.up_ledger.proofs.Ledgers.{mild-queue}
use Rattle.up_ledger.proofs.ledger.LedgerBook.leave.Goals as goal

pub returns-clause-after : goal.returns-clause-after
returns-clause-after c config c' i s found =
    let old = c.args.self.now in
    let d = Queued (Entering i Waiting) c.args.event ∷ Entered i Waiting ∷ c' in
    let here = keyed old.past config c' c.args.key i s.past found in
    stood _ _ config _ (forgets-left-released old.past _ config c' c.args.key i c.args.event s.past found (c.in_ok-leave.ensures.after config c' i s.past here)) s.index
    (subst (λ (st : Step). IsStep st config (releasing i false d ++ d)) (sym c.leave.ensures)
    (asks-same ((old.step.outputs.items ++ Emitted c.args.event ∷ []) ++ replies_to (held_by_kept (kept_at c.args.key old.past.instances)) false c.in_ok-told.told) _ old.step.asked _ (on_left c.args.key c.in_ok-told.told old.step.on) _ config _
    (c.in_ok-reply_held.ensures ∙ ap (λ outs. outs ++ replies_to (held_by_kept (option_copied c.at.result)) false c.in_ok-told.told) c.in_ok-push_emitted.ensures
    ∙ ap (λ k. (old.step.outputs.items ++ Emitted c.args.event ∷ []) ++ replies_to (held_by_kept k) false c.in_ok-told.told) c.at.ensures) refl refl
    (step-leaves old.step.outputs.items old.step.asked old.step.on old.past config c' c.args.key i c.in_ok-told.told c.args.event s.past found (c.in_ok-told.ensures config c' i s.past here) s.step)))
    (found-same old.others config (Entered i Waiting ∷ c') _ (λ job. mild-instances job i false d) (found-left old.others config c' i s.found))

pub returns-clause-events : goal.returns-clause-events
returns-clause-events c config c' i s found k j other =
    let old = c.args.self.now in
    let d = Queued (Entering i Waiting) c.args.event ∷ Entered i Waiting ∷ c' in
    ap (λ lives. place_of c.leave-2.new.self.events lives k) (mild-queue i false d)
    ∙ c.in_ok-leave.ensures.events config c' i k j s.past (keyed old.past config c' c.args.key i s.past found) other
