use Rattle.up_engine.proofs.judgement.conclude.Goals as goal

pub returns-in-None : goal.returns-in-None
returns-in-None g c config c' does s judges =
    let none = rw c.in-None.is at judges in
    rw none s

pub returns-in_ok-carry_out-in-Some : goal.returns-in_ok-carry_out-in-Some
returns-in_ok-carry_out-in-Some g c config c' does s judges =
    let found = rw c.in-Some.is at judges in
    let i = found.0 in
    let here = found.1.0 in
    let is = found.1.1 in
    rw is (c.in_ok-carry_out-in-Some.ensures config c' i s here)
