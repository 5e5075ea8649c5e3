use Rattle.std.proofs.Common.{◌≡◌, ◌∷◌, ◌∙◌, sym, ap}
use Rattle.up_book.specs.Keys.{Stepping}
use Rattle.up_model.specs.Chronicle.{Chronicle, Given}
use Rattle.up_model.specs.Readings.{goal as goal_of}
use Rattle.up_model.specs.Predicates.{is_start}
use Rattle.up_engine.proofs.requests.stop_found.Goals as goal

pub returns-in_ok-stop_of : goal.returns-in_ok-stop_of
returns-in_ok-stop_of g c config c' input i places s known held =
    let d : Chronicle = Given input ∷ c' in
    let same : c.is_start.result ≡ is_start (goal_of i c') = c.is_start.ensures ∙ ap is_start (c.goal.ensures Stepping config d i s known) in
    rw (sym same ∙ c.if-is_start.true) (c.in_ok-stop_of.ensures.after config d i places s known held)

pub returns-in_ok-refuse : goal.returns-in_ok-refuse
returns-in_ok-refuse g c config c' input i places s known held =
    let d : Chronicle = Given input ∷ c' in
    let same : c.is_start.result ≡ is_start (goal_of i c') = c.is_start.ensures ∙ ap is_start (c.goal.ensures Stepping config d i s known) in
    rw (sym same ∙ c.if-is_start.false, ← c.in_ok-text.ensures) (c.in_ok-refuse.ensures config c' input s)
