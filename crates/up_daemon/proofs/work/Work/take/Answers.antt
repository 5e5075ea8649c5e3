use Rattle.std.proofs.Common.{[]}
use Rattle.up_daemon.proofs.Hosts.{fed_at}
use Rattle.up_daemon.proofs.work.Work.take.Goals as goal

pub returns-clause-takes : goal.returns-clause-takes
returns-clause-takes g c config chronicle start part here door source stands comes =
    c.in_ok-carry.ensures.carries part here door source config chronicle start
    (fed_at config chronicle start part c.args.given c.args.self.now c.feed.new.self [] c.feed.new.stack.items (g.H.Host.calls c.args.host.now) door source (rw c.new-stack.ensures.items at c.in_ok-feed.ensures.fed) stands comes)
