use Rattle.std.proofs.Common.{◌∷◌, ◌∙◌}
use Rattle.up_book.specs.Keys.{Stepping}
use Rattle.up_cascade.proofs.Entries.{finishing_last}
use Rattle.up_engine.proofs.FreeLemmas.{unseen-concern, unseen-told}
use Rattle.up_engine.proofs.Unblocked.{finished-concerns}
use Rattle.up_model.specs.declared.input.Input.TheVariants.{Turn}
use Rattle.up_model.specs.Chronicle.{Chronicle, Given, Finished}
use Rattle.up_model.specs.Due.{telling, failed_event_of}
use Rattle.up_model.specs.Held.{is_spoilt}
use Rattle.up_model.proofs.HeldLaws.{held-given}
use Rattle.up_model.specs.Replies.{waiter, answering_waiter}
use Rattle.up_engine.proofs.due.finish.Goals as goal

pub returns-clause-after : goal.returns-clause-after
returns-clause-after g c config c' e s known free =
    let d : Chronicle = Given Turn ∷ c' in
    let now = c.begin_step.ensures.after config c' s tt in
    let here = c.begin_step.ensures.events config c' s c.args.key e known in
    let told = c.in_ok-told.ensures.told Stepping config d e now here in
    rw (finishing_last (telling e (failed_event_of e d)) (answering_waiter (waiter e d) (is_spoilt e d)) (Finished e) d, ← told)
    (c.in_ok-on.ensures.after config d e now here (held-given config e Turn c' ∙ free))

pub returns-clause-concerns : goal.returns-clause-concerns
returns-clause-concerns g c config distinct c' e s known free found =
    let d : Chronicle = Given Turn ∷ c' in
    let now = c.begin_step.ensures.after config c' s tt in
    let here = c.begin_step.ensures.events config c' s c.args.key e known in
    rw c.unblocked_concern.ensures
    (finished-concerns (g.B.Book.event_place c.finish.new.self) config c' e c.in_ok-on.on distinct (c.in_ok-on.ensures.blocked config d e now here (held-given config e Turn c' ∙ free)) found)

pub returns-clause-free : goal.returns-clause-free
returns-clause-free g c config c' e s known free unseen =
    let d : Chronicle = Given Turn ∷ c' in
    let now = c.begin_step.ensures.after config c' s tt in
    let here = c.begin_step.ensures.events config c' s c.args.key e known in
    rw c.unblocked_concern.ensures
    (unseen-concern (g.B.Book.event_place c.finish.new.self) config e d _ c.in_ok-on.on unseen (c.in_ok-on.ensures.blocked config d e now here (held-given config e Turn c' ∙ free)))

pub returns-in_err-told-clause-free : goal.returns-in_err-told-clause-free
returns-in_err-told-clause-free g c config c' e s known free unseen =
    let now = c.begin_step.ensures.after config c' s tt in
    let here = c.begin_step.ensures.events config c' s c.args.key e known in
    let never = c.in_err-told.ensures.free Stepping config (Given Turn ∷ c') e now here unseen.unspoilt in
    absurd cc

pub returns-in_err-on-clause-free : goal.returns-in_err-on-clause-free
returns-in_err-on-clause-free g c config c' e s known free unseen =
    let d : Chronicle = Given Turn ∷ c' in
    let now = c.begin_step.ensures.after config c' s tt in
    let here = c.begin_step.ensures.events config c' s c.args.key e known in
    let told = c.in_ok-told.ensures.told Stepping config d e now here in
    let never = c.in_err-on.ensures.free config d e now here (held-given config e Turn c' ∙ free) (told ∙ unseen-told e d unseen) unseen.unasked in
    absurd cc
