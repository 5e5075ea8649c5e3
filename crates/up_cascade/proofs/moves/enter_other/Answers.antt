use Rattle.std.proofs.Common.{◌≡◌, ◌∙◌, ◌∷◌, ◌++◌, [], ◌&&◌, Some, false, sym, ap}
use Rattle.up_book.specs.Keys.{Stepping, instance_at}
use Rattle.up_cascade.proofs.KeyLemmas.{placed}
use Rattle.up_cascade.proofs.Entries.{enter_shape}
use Rattle.up_model.specs.Chronicle.{Chronicle, Entered, Signalled}
use Rattle.up_model.specs.Moves.{ordering, emitting, who_of}
use Rattle.up_model.specs.Predicates.{entries_if}
use Rattle.up_cascade.proofs.moves.enter_other.Goals.{then-table, else-table}
use Rattle.up_cascade.proofs.moves.enter_other.Goals as goal

pub returns-clause-events : goal.returns-clause-events
returns-clause-events g c c' its s there in_table other k j event =
    let config = c.args.setup.now in
    let job = c.args.job.now in
    let p = its.place in
    let x : Chronicle = ordering job p c.args.table.orders ++ Entered p c.args.to ∷ c' in
    let d : Chronicle = emitting job (who_of job its) p c.args.to c.args.table.emits x ++ x in
    let s_d = c.in_ok-enter_with.ensures.after c' its s there in_table other in
    let there_d : instance_at config d c.args.key ≡ Some its = c.in_ok-enter_with.ensures.stays c' its s there in_table other in
    let event_d = c.in_ok-enter_with.ensures.events c' its s there in_table other k j event in
    let place_d = placed config d c.args.key its there_d in
    let f : Chronicle = entries_if c.if-table.kill (Signalled p c.number.result false ∷ []) ++ d in
    let s_f = c.in_ok-kill.ensures.after config d p s_d place_d in
    let there_f : instance_at config f c.args.key ≡ Some its = c.in_ok-kill.ensures.stays config d p ∙ there_d in
    let event_f = c.in_ok-kill.ensures.events config d p s_d place_d k j event_d in
    let event_h = c.in_ok-release.ensures.events config f p s_f (placed config f c.args.key its there_f) k j event_f in
    let lives = c.lives-lives.ensures Stepping config c' p s (placed config c' c.args.key its there) in
    let kills : c.if-table.kill ≡ (c.args.table.kills && c.lives-lives.result) =
    elim c.if-table.branch [ then-table w ↦ w.kill-is ∙ sym (ap (λ b. b && c.lives-lives.result) w.if-table.true) | else-table w ↦ w.kill-is ∙ w.if-table.false ∙ sym (ap (λ b. b && c.lives-lives.result) w.if-table.false) ] in
    rw (enter_shape job (who_of job its) p c.args.to c.args.table c', ← lives, ← kills, ← c.number.ensures) event_h
