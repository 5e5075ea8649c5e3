use Rattle.std.proofs.Common.{[], refl, arith}
use Rattle.up_daemon.specs.Rounds.{FindsEnd, FindsNone, PollFails}
use Rattle.up_daemon.specs.RoundStates.{FindingEnds}
use Rattle.up_daemon.specs.Working.{state_of}
use Rattle.up_daemon.proofs.work.Work.find_end.Goals as goal

pub returns-in_ok-take-in-Ok-Some-clause-goes : goal.returns-in_ok-take-in-Ok-Some-clause-goes
returns-in_ok-take-in-Ok-Some-clause-goes g c door source config chronicle start at =
    let reports = rw c.in-Ok-Some.field-0-is at c.in-Ok-Some.ensures.reports in
    let end = c.in-Ok-Some.end in
    c.in_ok-take-in-Ok-Some.ensures.takes config chronicle start FindingEnds tt door source at.stands
    (λ outputs is. rw reports (FindsEnd end.0 end.1 end.2 outputs (state_of c.args.self.now (g.H.Host.calls c.args.host.now) door source []) refl is at.reaches))

pub returns-in-Ok-None-clause-goes : goal.returns-in-Ok-None-clause-goes
returns-in-Ok-None-clause-goes g c door source config chronicle start at =
    let reports = rw c.in-Ok-None.field-0-is at c.in-Ok-None.ensures.reports in
    record { stands = at.stands; reaches = rw reports (FindsNone (state_of c.args.self.now (g.H.Host.calls c.args.host.now) door source []) refl at.reaches) }

pub returns-in-Err-clause-goes : goal.returns-in-Err-clause-goes
returns-in-Err-clause-goes g c door source config chronicle start at =
    record { stands = at.stands; reaches = rw c.in-Err.ensures.reports (PollFails (state_of c.args.self.now (g.H.Host.calls c.args.host.now) door source []) refl at.reaches) }

pub returns-in_ok-take-in-Ok-Some-clause-fewer : goal.returns-in_ok-take-in-Ok-Some-clause-fewer
returns-in_ok-take-in-Ok-Some-clause-fewer g c found =
    let lives = rw c.in-Ok-Some.field-0-is at c.in-Ok-Some.ensures.lives in
    omega (arith, lives, c.in_ok-take-in-Ok-Some.ensures.ends refl)
