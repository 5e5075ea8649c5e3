use Rattle.std.proofs.Common.{◌∙◌, ◌++◌, ap, refl, true, ◌∷◌}
use Rattle.up_model.specs.Chronicle.{Failed}
use Rattle.up_model.specs.Replies.{status_of}
use Rattle.up_ledger.proofs.Ledgers.{keyed, failed-so, forgets-released}
use Rattle.up_ledger.specs.Holding.{held_by_kept}
use Rattle.up_ledger.specs.Replying.{replies_to}
use Rattle.up_book.specs.Views.{kept_at}
use Rattle.up_ledger.proofs.Ledgers.{found-same, mild-instances, stood}
use Rattle.up_ledger.proofs.StepFrames.{asks-same}
use Rattle.up_ledger.proofs.ledger.LedgerBook.fail.Goals as goal

pub returns : goal.returns
returns c config c' i s found =
    let old = c.args.self.now in
    let here = keyed old.past config c' c.args.key i s.past found in
    let f = c.fail.ensures.after config c' i s.past here in
    let there = c.fail.ensures.instances c' i c.args.key here in
    stood _ _ config _ (forgets-released _ config (Failed i c.args.failure ∷ c') i true (c.let_go_failed.ensures config (Failed i c.args.failure ∷ c') i f there (c.new-2.ensures ∙ c.new.ensures.items))) s.index
    (asks-same (old.step.outputs.items ++ replies_to (held_by_kept (kept_at c.args.key old.past.instances)) true (status_of i c')) _ old.step.asked _ old.step.on _ config _
    (c.in_ok-reply_held.ensures ∙ ap (λ k. old.step.outputs.items ++ replies_to (held_by_kept k) true c.in_ok-told.told) c.at.ensures
    ∙ ap (λ outs. old.step.outputs.items ++ outs) (c.in_ok-told.ensures config c' i s.past here true)) refl refl
    (failed-so old.step.outputs.items old.step.asked old.step.on old.past _ config c' c.args.key i c.args.failure (status_of i c') s.past f found refl s.step))
    (found-same old.others config c' _ (λ job. mild-instances job i true (Failed i c.args.failure ∷ c')) s.found)
