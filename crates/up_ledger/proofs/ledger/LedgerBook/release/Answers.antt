use Rattle.std.proofs.Common.{◌∙◌, ◌++◌, ap, refl, false}
use Rattle.up_ledger.proofs.Ledgers.{keyed, released, forgets-released}
use Rattle.up_ledger.specs.Holding.{held_by_kept}
use Rattle.up_ledger.specs.Replying.{replies_to}
use Rattle.up_book.specs.Views.{kept_at}
use Rattle.up_ledger.proofs.Ledgers.{found-same, mild-instances, stood}
use Rattle.up_ledger.proofs.StepFrames.{asks-same}
use Rattle.up_model.specs.Queue.{queue}
use Rattle.up_model.specs.Replies.{status_of}
use Rattle.up_ledger.specs.Eventing.{place_of}
use Rattle.up_ledger.proofs.Ledgers.{held-same, mild-queue, mild-request}
use Rattle.up_ledger.proofs.ledger.LedgerBook.release.Goals as goal

pub returns-clause-after : goal.returns-clause-after
returns-clause-after c config c' i s found =
    let old = c.args.self.now in
    let here = keyed old.past config c' c.args.key i s.past found in
    stood _ _ config _ (forgets-released _ config c' i false (c.let_go.ensures.after config c' i s.past here (c.new-2.ensures ∙ c.new.ensures.items))) s.index
    (asks-same (old.step.outputs.items ++ replies_to (held_by_kept (kept_at c.args.key old.past.instances)) false (status_of i c')) _ old.step.asked _ old.step.on _ config _
    (c.in_ok-reply_held.ensures ∙ ap (λ k. old.step.outputs.items ++ replies_to (held_by_kept k) false c.in_ok-told.told) c.at.ensures
    ∙ ap (λ outs. old.step.outputs.items ++ outs) (c.in_ok-told.ensures config c' i s.past here false)) refl refl
    (released old.step.outputs.items old.step.asked old.step.on old.past config c' c.args.key i false (status_of i c') s.past found refl s.step))
    (found-same old.others config c' _ (λ job. mild-instances job i false c') s.found)

pub returns-clause-holders : goal.returns-clause-holders
returns-clause-holders c config c' i who places s found held =
    held-same _ _ _ _ who (λ k. ap (λ lives. place_of c.let_go.new.self.events lives k) (mild-queue i false c') ∙ c.let_go.ensures.places (queue c') k) (mild-request i false c') ∙ held

pub returns-clause-events : goal.returns-clause-events
returns-clause-events c config c' i s found k j other =
    ap (λ lives. place_of c.let_go.new.self.events lives k) (mild-queue i false c') ∙ c.let_go.ensures.places (queue c') k ∙ other
