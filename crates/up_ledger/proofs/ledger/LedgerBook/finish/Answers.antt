use Rattle.std.proofs.Common.{◌≡◌, ◌∙◌, None, IfSome, ap, sym, subst, refl, ◌∷◌, ◌++◌}
use Rattle.up_event.specs.declared.live.Finished.{Finished as Finished_}
use Rattle.up_model.specs.Chronicle.{Finished}
use Rattle.up_model.specs.Held.{is_spoilt}
use Rattle.up_model.specs.Queue.{queue}
use Rattle.up_model.specs.Replies.{waiter}
use Rattle.up_ledger.specs.Eventing.{number_of}
use Rattle.up_ledger.specs.Replying.{waiter_replies}
use Rattle.up_ledger.proofs.Acting.{step-waiter, finished-waiter, unwaited}
use Rattle.up_ledger.proofs.Closing.{event-placed}
use Rattle.up_ledger.proofs.Leaving.{forgets-waiter}
use Rattle.up_ledger.proofs.Ledgers.{found-same, waiter-instances, stood, calm}
use Rattle.up_ledger.proofs.StepFrames.{asks-same, step-silent}
use Rattle.up_ledger.proofs.ledger.LedgerBook.finish.Goals as goal

pub returns-clause-after : goal.returns-clause-after
returns-clause-after c config c' e s found free =
    let old = c.args.self.now in
    let event = event-placed old.past.events (queue c') c' c.args.key e s.past.standings found in
    let spoilt = is_spoilt e c' in
    let finished = Finished e in
    let f = c.finish-finished.ensures.after config c' e s.past found free in
    let silent = step-silent old.step.outputs.items old.step.asked old.step.on config c' finished tt tt (calm config c' finished (λ job. refl) (λ i. refl) (λ i. refl)) s.step in
    let middle = stood _ _ config _ (forgets-waiter _ config (finished ∷ c') (waiter e c') spoilt f) s.index
    (asks-same (old.step.outputs.items ++ waiter_replies (number_of (waiter e c') c') spoilt) _ old.step.asked _ old.step.on _ config _
    (c.in_ok-reply_finished.ensures.after ∙ ap (λ outs. old.step.outputs.items ++ outs) (finished-waiter e c' _ event.0 event.1 (c.finish-finished.ensures.told config c' e s.past found free))) refl refl
    (step-waiter old.step.outputs.items old.step.asked old.step.on config c' e spoilt silent))
    (found-same old.others config c' _ (λ job. waiter-instances job (waiter e c') spoilt (finished ∷ c')) s.found) in
    c.in_ok-tell_if.ensures.after config _ e middle

pub returns-clause-blocked : goal.returns-clause-blocked
returns-clause-blocked c config c' e s found free = c.finish-finished.ensures.blocked config c' e s.past found free

pub returns-clause-free : goal.returns-clause-free
returns-clause-free c config c' e s found free none unasked = refl

pub returns-in_err-reply_finished-clause-free : goal.returns-in_err-reply_finished-clause-free
returns-in_err-reply_finished-clause-free c config c' e s found free none unasked =
    let no = c.in_err-reply_finished.ensures.free (subst (λ o. IfSome {T = Finished_} o (λ its. its.waiter ≡ None)) (sym (c.finish-finished.ensures.told config c' e s.past found free)) (unwaited e c' unasked)) in absurd cc

pub returns-in_err-tell_if-clause-free : goal.returns-in_err-tell_if-clause-free
returns-in_err-tell_if-clause-free c config c' e s found free none unasked = let no = c.in_err-tell_if.ensures.free none in absurd cc
