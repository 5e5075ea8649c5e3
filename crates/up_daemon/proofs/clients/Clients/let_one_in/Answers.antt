use Rattle.up_daemon.specs.Peers.{peers_of, numbers_of}
use Rattle.up_daemon.proofs.Connections.{comes}
use Rattle.up_daemon.proofs.Seats.{numbers_last}
use Rattle.up_daemon.proofs.clients.Clients.let_one_in.Goals as goal

pub returns-in_ok-push-in-Ok-Some-clause-accepts : goal.returns-in_ok-push-in-Ok-Some-clause-accepts
returns-in_ok-push-in-Ok-Some-clause-accepts g c below =
    let reports = rw c.in-Ok-Some.field-0-is at c.in-Ok-Some.ensures.reports in
    let connects = rw c.in-Ok-Some.field-0-is at c.in-Ok-Some.ensures.connects in
    let last = rw c.in_ok-reserve.ensures.items at c.in_ok-push-in-Ok-Some.ensures.items in
    let client = c.new.ensures in
    (c.in-Ok-Some.number, c.new.result, connects.0, reports, last, record { named = client.number; said = client.feed; waiting = client.waiting; unanswered = client.unanswered; answers = client.answers })

pub returns-in_ok-push-in-Ok-Some-clause-connected : goal.returns-in_ok-push-in-Ok-Some-clause-connected
returns-in_ok-push-in-Ok-Some-clause-connected g c are =
    let connects = rw c.in-Ok-Some.field-0-is at c.in-Ok-Some.ensures.connects in
    let last = rw c.in_ok-reserve.ensures.items at c.in_ok-push-in-Ok-Some.ensures.items in
    let clients = c.args.self.now.list.items in
    let after = g.D.Door.connected c.accept.new.self in
    rw last (numbers_last after clients c.new.result (rw c.new.ensures.number (comes c.in-Ok-Some.number (g.D.Door.connected c.args.door.now) after (numbers_of (peers_of clients)) connects are)))
