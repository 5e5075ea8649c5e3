use Rattle.std.proofs.Common.{[], refl}
use Rattle.up_daemon.specs.Rounds.{HasServed}
use Rattle.up_daemon.specs.Working.{state_of}
use Rattle.up_daemon.proofs.work.Work.serve.Goals as goal

pub returns-clause-goes : goal.returns-clause-goes
returns-clause-goes g c door config chronicle start at =
    let served = c.in_ok-serve_one.ensures in
    let before = served.goes door config chronicle start (c.loop.invariant.goes door config chronicle start at) in
    record { stands = before.stands; reaches = HasServed (state_of c.serve_one.new.self (g.H.Host.calls c.serve_one.new.host) door (g.S.Source.calls c.serve_one.new.source) []) refl (served.rest c.if-branch.false) before.reaches }
