use Rattle.std.proofs.Common.{◌≡◌, ◌<◌, ◌+◌, [], refl, arith}
use Rattle.up_daemon.specs.Peers.{peers_of, last_number}
use Rattle.up_daemon.specs.Rounds.{Enters}
use Rattle.up_daemon.specs.RoundStates.{TakingRequests}
use Rattle.up_daemon.specs.Working.{state_of}
use Rattle.up_daemon.proofs.Endings.{entered_fewer}
use Rattle.up_daemon.proofs.work.Work.serve_one.Goals as goal

pub returns-in_ok-take-in-Some-enter-clause-goes : goal.returns-in_ok-take-in-Some-enter-clause-goes
returns-in_ok-take-in-Some-enter-clause-goes g c door config chronicle start at =
    let following : c.in-Some.following ≡ c.args.self.now.next + 1 = c.in-Some.ensures.1 in
    let below : c.args.self.now.next < last_number = omega (arith, c.in-Some.ensures.0) in
    let source = g.S.Source.calls c.input_of-given.new.source in
    c.in_ok-take-in-Some-enter.ensures.takes config chronicle start TakingRequests tt door source at.stands
    (λ outputs is. rw following (Enters c.in-Some-enter.request c.input_of-given.result source (peers_of c.enter.new.self.list.items) outputs (state_of c.args.self.now (g.H.Host.calls c.args.host.now) door (g.S.Source.calls c.args.source.now) []) refl below c.in-Some-enter.ensures.entered c.input_of-given.ensures is at.reaches))

pub returns-in_ok-take-in-Some-enter-clause-fewer : goal.returns-in_ok-take-in-Some-enter-clause-fewer
returns-in_ok-take-in-Some-enter-clause-fewer g c served =
    omega (arith, c.in_ok-take-in-Some-enter.ensures.waits, entered_fewer c.args.self.now.next c.in-Some-enter.request (peers_of c.args.self.now.clients.list.items) (peers_of c.enter.new.self.list.items) c.in-Some-enter.ensures.entered)
