use Rattle.std.proofs.Common.{◌++◌, ◌∷◌}
use Rattle.up_daemon.proofs.Connections.{same_clients, goes}
use Rattle.up_daemon.specs.RoundStates.{ReadingFrom}
use Rattle.up_daemon.proofs.Doors.{reads, closes}
use Rattle.up_daemon.proofs.clients.read_or_close.Goals as goal

pub returns-then-branch-clause-reads : goal.returns-then-branch-clause-reads
returns-then-branch-clause-reads g c unread state config chronicle start reaches =
    let read = reads config chronicle start unread state c.in_ok-read.field-0 c.args.client.now c.read.new.self (g.D.Door.calls c.args.door.now) (g.D.Door.calls c.read.new.door) c.in_ok-read.ensures.limit c.in_ok-read.ensures.once reaches in
    rw c.if-branch.true at read

pub returns-clause-reads : goal.returns-clause-reads
returns-clause-reads g c unread state config chronicle start reaches =
    let read = reads config chronicle start unread state c.in_ok-read.field-0 c.args.client.now c.read.new.self (g.D.Door.calls c.args.door.now) (g.D.Door.calls c.read.new.door) c.in_ok-read.ensures.limit c.in_ok-read.ensures.once reaches in
    let closing = rw c.if-branch.false at read in
    closes config chronicle start (ReadingFrom unread) state c.read.new.self.number (g.D.Door.calls c.read.new.door) (g.D.Door.calls c.close.new.self) c.close.ensures.reports closing

pub returns-clause-connected : goal.returns-clause-connected
returns-clause-connected g c before after are =
    let connected = g.D.Door.connected c.args.door.now in
    let kept = same_clients connected (g.D.Door.connected c.read.new.door) (before ++ c.read.new.self.number ∷ after) c.in_ok-read.ensures.connects (rw c.in_ok-read.ensures.same are) in
    goes c.read.new.self.number (g.D.Door.connected c.read.new.door) (g.D.Door.connected c.close.new.self) before after c.close.ensures.connects kept
