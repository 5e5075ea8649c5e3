use Rattle.std.proofs.Common.{◌≡◌, ◌∙◌, sym, ap, refl, ◌∷◌, ◌++◌, [], true, subst, List}
use Rattle.up_model.specs.Instances.{instances_of}
use Rattle.up_model.specs.Chronicle.{Entry}
use Rattle.up_model.specs.Replies.{answering_hurried, answering_last}
use Rattle.up_model.specs.declared.output.Output.TheVariants.{Reply}
use Rattle.up_text.specs.Scripts.{is_filled}
use Rattle.up_ledger.specs.Asking.{due_of}
use Rattle.up_book.specs.Keys.{Stepping, given_place}
use Rattle.up_ledger.specs.Ledgers.{Stands}
use Rattle.up_ledger.specs.Standing.{Forgets}
use Rattle.up_ledger.specs.Steps.{IsStep}
use Rattle.up_ledger.specs.declared.step.Step.{Step}
use Rattle.up_ledger.proofs.Acting.{last-so, step-last}
use Rattle.up_ledger.proofs.Leaving.{forgets-replied}
use Rattle.up_ledger.proofs.Ledgers.{found-same, stood}
use Rattle.up_ledger.proofs.StepFrames.{asks-same, due-none}
use Rattle.up_ledger.proofs.ledger.LedgerBook.reply_last.Goals as goal

pub returns-in_ok-reply-in-Some-clause-after : goal.returns-in_ok-reply-in-Some-clause-after
returns-in_ok-reply-in-Some-clause-after c config c' s =
    let old = c.args.self.now in
    let due = sym c.due.ensures ∙ c.in-Some.is in
    let due_c = ap due_of (sym s.step.asked) ∙ due in
    let text = c.in_ok-text-in-Some.ensures config c' s in
    let last = last-so c' c.in-Some.id c.in_ok-text-in-Some.text due_c text in
    stood _ _ config _ (subst (λ (es : List Entry). Forgets old.past config (es ++ c')) (sym last) (forgets-replied old.past config c' (given_place c') (record { ok = true; text = c.in_ok-text-in-Some.text }) s.past)) s.index
    (subst (λ (st : Step). IsStep st config (answering_last c' ++ c')) (sym c.answer.ensures)
    (asks-same (old.step.outputs.items ++ Reply c.in-Some.id (record { ok = true; text = c.in_ok-text-in-Some.text }) ∷ []) _ _ _ old.step.on _ config _ c.in_ok-reply-in-Some.ensures refl refl
    (step-last old.step.outputs.items old.step.asked old.step.on config c' c.in-Some.id c.in_ok-text-in-Some.text due text s.step)))
    (found-same old.others config c' _ (λ job. ap (λ es. instances_of job (es ++ c')) last) s.found)

pub returns-in_ok-reply-in-Some-clause-any : goal.returns-in_ok-reply-in-Some-clause-any
returns-in_ok-reply-in-Some-clause-any c config c' s =
    let due = sym c.due.ensures ∙ c.in-Some.is in
    sym (ap is_filled (last-so c' c.in-Some.id c.in_ok-text-in-Some.text (ap due_of (sym s.step.asked) ∙ due) (c.in_ok-text-in-Some.ensures config c' s)))

pub returns-in-None-clause-after : goal.returns-in-None-clause-after
returns-in-None-clause-after c config c' s =
    let none = due-none c' (ap due_of (sym s.step.asked) ∙ sym c.due.ensures ∙ c.in-None.is) in
    let last : answering_last c' ≡ [] = ap (λ o. answering_hurried o c') none in
    subst (λ (es : List Entry). Stands c.args.self.now Stepping config (es ++ c')) (sym last) s

pub returns-in-None-clause-any : goal.returns-in-None-clause-any
returns-in-None-clause-any c config c' s =
    let none = due-none c' (ap due_of (sym s.step.asked) ∙ sym c.due.ensures ∙ c.in-None.is) in
    sym (ap (λ o. is_filled (answering_hurried o c')) none)
