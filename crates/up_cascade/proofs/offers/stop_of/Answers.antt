use Rattle.std.proofs.Common.{◌≡◌, ◌++◌, ◌∙◌, Some, false}
use Rattle.up_book.specs.Keys.{instance_place}
use Rattle.up_cascade.proofs.KeyLemmas.{released_there}
use Rattle.up_model.specs.Chronicle.{Chronicle}
use Rattle.up_model.specs.Replies.{releasing}
use Rattle.up_cascade.proofs.offers.stop_of.Goals as goal

pub returns-clause-after : goal.returns-clause-after
returns-clause-after g c config c' i places s there held =
    let d : Chronicle = releasing i false c' ++ c' in
    let now = c.in_ok-release.ensures.after config c' i s there in
    let here : instance_place config d c.args.key ≡ Some i = released_there config c.args.key i false c' ∙ there in
    c.in_ok-aim.ensures.after config d i places now here (c.in_ok-release.ensures.holders config c' i c.args.holders places s there held)

pub returns-clause-events : goal.returns-clause-events
returns-clause-events g c config c' i places s there held k j event =
    let d : Chronicle = releasing i false c' ++ c' in
    let now = c.in_ok-release.ensures.after config c' i s there in
    let here : instance_place config d c.args.key ≡ Some i = released_there config c.args.key i false c' ∙ there in
    c.in_ok-aim.ensures.events config d i places now here (c.in_ok-release.ensures.holders config c' i c.args.holders places s there held) k j (c.in_ok-release.ensures.events config c' i s there k j event)
