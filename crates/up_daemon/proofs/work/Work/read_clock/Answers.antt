use Rattle.std.proofs.Common.{[]}
use Rattle.up_daemon.specs.Rounds.{ReadsClock, ClockFails}
use Rattle.up_daemon.specs.RoundStates.{FindingEnds}
use Rattle.up_daemon.specs.Working.{state_of}
use Rattle.up_daemon.proofs.work.Work.read_clock.Goals as goal

pub returns-in_ok-take-in-Ok-clause-goes : goal.returns-in_ok-take-in-Ok-clause-goes
returns-in_ok-take-in-Ok-clause-goes g c door source config chronicle start at =
    c.in_ok-take-in-Ok.ensures.takes config chronicle start FindingEnds tt door source at.stands
    (λ outputs is. rw c.in-Ok.ensures.reports (ReadsClock c.in-Ok.reading outputs (state_of c.args.self.now (g.H.Host.calls c.args.host.now) door source []) is at.reaches))

pub returns-in-Err-clause-goes : goal.returns-in-Err-clause-goes
returns-in-Err-clause-goes g c door source config chronicle start at =
    record { stands = at.stands; reaches = rw c.in-Err.ensures.reports (ClockFails (state_of c.args.self.now (g.H.Host.calls c.args.host.now) door source []) at.reaches) }
