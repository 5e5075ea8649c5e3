use Rattle.std.proofs.Common.{◌≡◌, ◌∙◌, sym, ap}
use Rattle.up_book.specs.Keys.{Stepping}
use Rattle.up_model.specs.Predicates.{is_start}
use Rattle.up_model.specs.Readings.{goal as goal_of}
use Rattle.up_cascade.proofs.offers.stop_by.Goals as goal

pub returns-in_ok-stop_of-clause-events : goal.returns-in_ok-stop_of-clause-events
returns-in_ok-stop_of-clause-events g c config c' i events s there held k j event =
    let environment = c.in_ok-environment.ensures Stepping config c' events s (rw c.as_slice.ensures held) in
    let same : c.is_start.result ≡ is_start (goal_of i c') = c.is_start.ensures ∙ ap is_start (c.goal.ensures Stepping config c' i s there) in
    rw (sym same ∙ c.if-is_start.true, ← environment) (c.in_ok-stop_of.ensures.events config c' i events s there held k j event)
