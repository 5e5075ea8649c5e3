use Rattle.std.proofs.Common.{[]}
use Rattle.up_daemon.specs.Rounds.{HasRead}
use Rattle.up_daemon.specs.Working.{state_of}
use Rattle.up_daemon.proofs.work.Work.hear.Goals as goal

pub returns-clause-hears : goal.returns-clause-hears
returns-clause-hears g c host source config chronicle start known reaches =
    let state = state_of c.args.self.now host (g.D.Door.calls c.args.door.now) source [] in
    HasRead (state_of (record c.args.self.now { clients = c.read.new.self }) host (g.D.Door.calls c.read.new.door) source [])
    (c.in_ok-read.ensures.reads state config chronicle start (c.in_ok-let_in.ensures.lets_in state config chronicle start known reaches))
