use Rattle.up_engine.proofs.requests.reload.Goals as goal

pub returns-in_ok-reload_who-in-Concerns : goal.returns-in_ok-reload_who-in-Concerns
returns-in_ok-reload_who-in-Concerns g c config indexed c' input s =
    let its = rw c.in-Concerns.is at indexed in
    rw c.in-Concerns.is (c.in_ok-reload_who-in-Concerns.ensures config its.0 c' input s)
