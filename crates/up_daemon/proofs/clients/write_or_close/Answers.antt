use Rattle.std.proofs.Common.{◌++◌, ◌∷◌}
use Rattle.up_daemon.proofs.Connections.{same_clients, goes}
use Rattle.up_daemon.specs.RoundStates.{WritingTo}
use Rattle.up_daemon.proofs.Doors.{writes, closes}
use Rattle.up_daemon.proofs.clients.write_or_close.Goals as goal

pub returns-then-branch-clause-writes : goal.returns-then-branch-clause-writes
returns-then-branch-clause-writes g c unwritten state config chronicle start reaches =
    let wrote = writes config chronicle start unwritten state c.in_ok-write.field-0 c.args.client.now c.write.new.self (g.D.Door.calls c.args.door.now) (g.D.Door.calls c.write.new.door) c.in_ok-write.ensures.none c.in_ok-write.ensures.once reaches in
    rw c.if-branch.true at wrote

pub returns-clause-writes : goal.returns-clause-writes
returns-clause-writes g c unwritten state config chronicle start reaches =
    let wrote = writes config chronicle start unwritten state c.in_ok-write.field-0 c.args.client.now c.write.new.self (g.D.Door.calls c.args.door.now) (g.D.Door.calls c.write.new.door) c.in_ok-write.ensures.none c.in_ok-write.ensures.once reaches in
    let closing = rw c.if-branch.false at wrote in
    closes config chronicle start (WritingTo unwritten) state c.write.new.self.number (g.D.Door.calls c.write.new.door) (g.D.Door.calls c.close.new.self) c.close.ensures.reports closing

pub returns-clause-connected : goal.returns-clause-connected
returns-clause-connected g c before after are =
    let connected = g.D.Door.connected c.args.door.now in
    let kept = same_clients connected (g.D.Door.connected c.write.new.door) (before ++ c.write.new.self.number ∷ after) c.in_ok-write.ensures.connects (rw c.in_ok-write.ensures.same are) in
    goes c.write.new.self.number (g.D.Door.connected c.write.new.door) (g.D.Door.connected c.close.new.self) before after c.close.ensures.connects kept
