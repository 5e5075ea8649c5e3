use Rattle.std.proofs.Common.{◌∙◌, sym, ap, refl, ◌∷◌, subst}
use Rattle.up_model.specs.Chronicle.{Made}
use Rattle.up_model.specs.Queue.{queue}
use Rattle.up_ledger.specs.Requesting.{after_made, moved_on}
use Rattle.up_job.specs.JobLists.{position_at}
use Rattle.up_job.specs.declared.instance_key.InstanceKey.{InstanceKey}
use Rattle.up_book.proofs.Keyed.{job-there, place-keyed}
use Rattle.up_ledger.proofs.Ledgers.{step-made}
use Rattle.up_ledger.proofs.StepFrames.{asks-same}
use Rattle.up_ledger.specs.Steps.{IsStep}
use Rattle.up_ledger.specs.declared.step.Step.{Step}
use Rattle.up_ledger.proofs.Ledgers.{found-made, stood}
use Rattle.up_book.specs.Keys.{request_place}
use Rattle.up_ledger.proofs.Ledgers.{held-same}
use Rattle.up_ledger.proofs.ledger.LedgerBook.make.Goals as goal

pub returns-clause-after : goal.returns-clause-after
returns-clause-after c config c' s there none =
    let old = c.args.self.now in
    let job = job-there config c.args.index c.args.file.now there in
    stood _ _ config _ (c.in_ok-key.ensures.after config c' s.past job none) s.index
    (subst (λ (st : Step). IsStep st config (Made c.args.file.now c.args.name.now ∷ c')) (sym c.in_ok-make.ensures)
    (asks-same _ _ _ _ (moved_on (after_made c.args.index (position_at c.args.name.now c.args.index old.past.instances)) old.step.on) _ config _ refl refl (ap (λ (key : InstanceKey). moved_on (after_made key.job key.at) old.step.on) c.in_ok-key.ensures.key)
    (step-made old.step.outputs.items old.step.asked old.step.on old.past config c' c.args.index c.args.file.now c.args.name.now s.past job s.step)))
    (found-made old.others config c' c.args.index c.args.file.now c.args.name.now s.past.lives.distinct there s.found)

pub returns-clause-made : goal.returns-clause-made
returns-clause-made c config c' s there none =
    let job = job-there config c.args.index c.args.file.now there in
    let d = Made c.args.file.now c.args.name.now ∷ c' in
    let f = c.in_ok-key.ensures.after config c' s.past job none in
    sym (place-keyed _ _ config d c.in_ok-key.key f.lives.jobs) ∙ c.in_ok-key.ensures.made config c' s.past job

pub returns-clause-holders : goal.returns-clause-holders
returns-clause-holders c config c' who places s there none held =
    held-same _ _ (request_place c') (request_place c') who (λ k. c.in_ok-key.ensures.places (queue c') k) refl ∙ held

pub returns-clause-events : goal.returns-clause-events
returns-clause-events c config c' s there none k j other = c.in_ok-key.ensures.places (queue c') k ∙ other
