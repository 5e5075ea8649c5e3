use Rattle.std.proofs.Common.{◌≡◌, ◌∙◌, ◌∷◌, ◌++◌, Some, ap}
use Rattle.up_book.specs.Keys.{instance_at}
use Rattle.up_cascade.proofs.KeyLemmas.{placed, entered_there, file-there}
use Rattle.up_model.specs.Chronicle.{Chronicle, Entered}
use Rattle.up_model.specs.Moves.{ordering}
use Rattle.up_cascade.proofs.moves.enter_with.Goals as goal

pub returns-clause-events : goal.returns-clause-events
returns-clause-events g c c' its s there same other k j event =
    let config = c.args.setup.now in
    let p = its.place in
    let d : Chronicle = Entered p c.args.to ∷ c' in
    let f : Chronicle = ordering c.args.job.now p c.args.table.orders ++ d in
    let place = placed config c' c.args.key its there in
    let s_d = c.in_ok-enter.ensures.after config c' p s place other in
    let there_d = entered_there config c' c.args.key its p c.args.to other there in
    let event_d = c.in_ok-enter.ensures.events config c' p s place other k j event in
    let place_d = placed config d c.args.key its there_d in
    let file = file-there config d c.args.key its there_d ∙ ap Some same in
    let s_f = c.in_ok-order.ensures.after d p s_d place_d file in
    let there_f : instance_at config f c.args.key ≡ Some its = c.in_ok-order.ensures.stays d p ∙ there_d in
    let event_f = c.in_ok-order.ensures.events d p s_d place_d file k j event_d in
    c.in_ok-emit.ensures.events config f its s_f there_f k j event_f

pub returns-clause-after : goal.returns-clause-after
returns-clause-after g c c' its s there same other =
    let config = c.args.setup.now in
    let p = its.place in
    let d : Chronicle = Entered p c.args.to ∷ c' in
    let f : Chronicle = ordering c.args.job.now p c.args.table.orders ++ d in
    let place = placed config c' c.args.key its there in
    let s_d = c.in_ok-enter.ensures.after config c' p s place other in
    let there_d = entered_there config c' c.args.key its p c.args.to other there in
    let file = file-there config d c.args.key its there_d ∙ ap Some same in
    let s_f = c.in_ok-order.ensures.after d p s_d (placed config d c.args.key its there_d) file in
    let there_f : instance_at config f c.args.key ≡ Some its = c.in_ok-order.ensures.stays d p ∙ there_d in
    c.in_ok-emit.ensures.after config f its s_f there_f
