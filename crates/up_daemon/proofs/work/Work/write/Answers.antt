use Rattle.std.proofs.Common.{[]}
use Rattle.up_daemon.specs.Working.{state_of}
use Rattle.up_daemon.proofs.work.Work.write.Goals as goal

pub returns-clause-writes : goal.returns-clause-writes
returns-clause-writes g c host source config chronicle start reaches =
    c.in_ok-write.ensures.writes (state_of c.args.self.now host (g.D.Door.calls c.args.door.now) source []) config chronicle start reaches
