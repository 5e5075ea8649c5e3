use Rattle.std.proofs.Common.{◌≡◌, ◌++◌, ◌∙◌, Some, false, sym, ap}
use Rattle.up_book.specs.Keys.{Stepping, instance_place}
use Rattle.up_cascade.proofs.KeyLemmas.{released_there}
use Rattle.up_model.specs.Chronicle.{Chronicle}
use Rattle.up_model.specs.Predicates.{is_start}
use Rattle.up_model.specs.Readings.{goal as goal_of}
use Rattle.up_model.specs.Replies.{releasing}
use Rattle.up_cascade.proofs.offers.start_old.Goals as goal

pub returns-in_ok-aim-clause-after : goal.returns-in_ok-aim-clause-after
returns-in_ok-aim-clause-after g c config job who c' i places s there held =
    let d : Chronicle = releasing i false c' ++ c' in
    let same : c.is_start.result ≡ is_start (goal_of i c') = c.is_start.ensures ∙ ap is_start (c.goal.ensures Stepping config c' i s there) in
    let now = c.in_ok-release.ensures.after config c' i s there in
    let here : instance_place config d c.args.key ≡ Some i = released_there config c.args.key i false c' ∙ there in
    let their = c.in_ok-release.ensures.holders config c' i c.args.holders places s there held in
    rw (sym same ∙ c.if-not-is_start.true) (c.in_ok-aim.ensures.after config d i places now here their)

pub returns-in_ok-aim-clause-events : goal.returns-in_ok-aim-clause-events
returns-in_ok-aim-clause-events g c config job who c' i places s there held k j event =
    let d : Chronicle = releasing i false c' ++ c' in
    let same : c.is_start.result ≡ is_start (goal_of i c') = c.is_start.ensures ∙ ap is_start (c.goal.ensures Stepping config c' i s there) in
    let now = c.in_ok-release.ensures.after config c' i s there in
    let here : instance_place config d c.args.key ≡ Some i = released_there config c.args.key i false c' ∙ there in
    let their = c.in_ok-release.ensures.holders config c' i c.args.holders places s there held in
    rw (sym same ∙ c.if-not-is_start.true) (c.in_ok-aim.ensures.events config d i places now here their k j (c.in_ok-release.ensures.events config c' i s there k j event))
