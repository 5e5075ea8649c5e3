use Rattle.std.proofs.Common.{◌≡◌, ◌∷◌, ◌∙◌, ◌&&◌, true, false, sym}
use Rattle.up_stanza.specs.declared.process.Process.TheVariants.{Main}
use Rattle.up_book.specs.Keys.{Stepping}
use Rattle.up_model.specs.Chronicle.{Chronicle, Given}
use Rattle.up_model.specs.Commands.{is_running}
use Rattle.up_model.specs.Readings.{state_of, lives}
use Rattle.up_engine.proofs.requests.reload_by.Goals as goal

pub returns-in_ok-signal_and_reply : goal.returns-in_ok-signal_and_reply
returns-in_ok-signal_and_reply g c config job same c' input i s known =
    let d : Chronicle = Given input ∷ c' in
    let may : (is_running (state_of i c') && lives i Main d) ≡ true = sym (c.can_reload.ensures Stepping config d i s known) ∙ c.if-can_reload.true in
    rw may (rw same at (c.in_ok-signal_and_reply.ensures config c' input i s known))

pub returns-in_ok-refuse : goal.returns-in_ok-refuse
returns-in_ok-refuse g c config job same c' input i s known =
    let d : Chronicle = Given input ∷ c' in
    let may : (is_running (state_of i c') && lives i Main d) ≡ false = sym (c.can_reload.ensures Stepping config d i s known) ∙ c.if-can_reload.false in
    rw (may, ← c.in_ok-text.ensures) (c.in_ok-refuse.ensures config c' input s)
