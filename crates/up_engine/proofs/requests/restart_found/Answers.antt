use Rattle.std.proofs.Common.{◌≡◌, ◌∷◌, ◌++◌, ◌∙◌, false, sym, ap}
use Rattle.up_book.specs.Keys.{Stepping}
use Rattle.up_model.specs.Chronicle.{Chronicle, Given}
use Rattle.up_model.specs.Commands.{is_running}
use Rattle.up_model.specs.Readings.{state_of}
use Rattle.up_model.specs.Replies.{releasing}
use Rattle.up_cascade.proofs.KeyLemmas.{released_there}
use Rattle.up_engine.proofs.requests.restart_found.Goals as goal

pub returns-in_ok-restart : goal.returns-in_ok-restart
returns-in_ok-restart g c config c' input i places s known held =
    let d : Chronicle = Given input ∷ c' in
    let same : c.is_running.result ≡ is_running (state_of i c') = c.is_running.ensures ∙ ap is_running (c.state_of.ensures Stepping config d i s known) in
    let now = c.in_ok-release.ensures.after config d i s known in
    rw (sym same ∙ c.if-is_running.true)
    (c.in_ok-restart.ensures config (releasing i false d ++ d) i places now (released_there config c.args.key i false d ∙ known) (c.in_ok-release.ensures.holders config d i c.args.holders places s known held))

pub returns-in_ok-refuse : goal.returns-in_ok-refuse
returns-in_ok-refuse g c config c' input i places s known held =
    let d : Chronicle = Given input ∷ c' in
    let same : c.is_running.result ≡ is_running (state_of i c') = c.is_running.ensures ∙ ap is_running (c.state_of.ensures Stepping config d i s known) in
    rw (sym same ∙ c.if-is_running.false, ← c.in_ok-text.ensures) (c.in_ok-refuse.ensures config c' input s)
