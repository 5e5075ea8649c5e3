use Rattle.std.proofs.Common.{◌∷◌, false}
use Rattle.up_model.specs.Chronicle.{Chronicle, Given, Signalled}
use Rattle.up_engine.proofs.requests.signal_and_reply.Goals as goal

pub returns : goal.returns
returns g c config c' input i s known =
    let d : Chronicle = Given input ∷ c' in
    rw c.empty-nothing.ensures at (c.in_ok-reply_ok.ensures config (Signalled i c.args.signal false ∷ d) (c.in_ok-signal.ensures.after config d i s known))
