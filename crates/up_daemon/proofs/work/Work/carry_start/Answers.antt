use Rattle.std.proofs.Common.{ap, arith}
use Rattle.up_daemon.specs.Ending.{waiting_in}
use Rattle.up_daemon.specs.Peers.{peers_of, numbers_of}
use Rattle.up_daemon.specs.declared.clients.Clients.{Clients}
use Rattle.up_daemon.proofs.Hosts.{carries_start}
use Rattle.up_daemon.proofs.work.Work.carry_start.Goals as goal

pub returns-clause-carries : goal.returns-clause-carries
returns-clause-carries g c =
    carries_start c.args.self.now c.feed.new.self (g.H.Host.calls c.args.host.now) (g.H.Host.calls c.start-given.new.host) c.args.order c.start-given.result c.args.stack.now.items c.feed.new.stack.items c.start-given.ensures.started c.in_ok-feed.ensures.fed

pub returns-clause-starts : goal.returns-clause-starts
returns-clause-starts g c = omega (arith, c.in_ok-feed.ensures.left c.start-given.ensures.calm)

pub returns-clause-ends : goal.returns-clause-ends
returns-clause-ends g c = omega (arith, c.in_ok-feed.ensures.left c.start-given.ensures.calm, c.start-given.ensures.lives)

pub returns-clause-waits : goal.returns-clause-waits
returns-clause-waits g c = ap (λ (clients : Clients). waiting_in (peers_of clients.list.items)) c.in_ok-feed.ensures.fed.clients

pub returns-clause-numbers : goal.returns-clause-numbers
returns-clause-numbers g c = ap (λ (clients : Clients). numbers_of (peers_of clients.list.items)) c.in_ok-feed.ensures.fed.clients
