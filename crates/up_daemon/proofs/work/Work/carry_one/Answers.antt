use Rattle.std.proofs.Common.{◌∷◌, refl}
use Rattle.up_model.specs.declared.output.Output.TheVariants as output
use Rattle.up_daemon.specs.Peers.{peers_of}
use Rattle.up_daemon.specs.Rounds.{PassesEvent, Replies}
use Rattle.up_daemon.specs.Working.{state_of}
use Rattle.up_daemon.proofs.Hosts.{carries_signal}
use Rattle.up_daemon.proofs.Endings.{queued_same}
use Rattle.up_daemon.proofs.Seats.{queued_numbers}
use Rattle.up_daemon.proofs.work.Work.carry_one.Goals as goal

pub returns-in-Spawn-clause-carries : goal.returns-in-Spawn-clause-carries
returns-in-Spawn-clause-carries g c orders part here door source config chronicle start at = rw c.in-Spawn.is at at

pub returns-in-Signal-clause-carries : goal.returns-in-Signal-clause-carries
returns-in-Signal-clause-carries g c orders =
    rw c.in-Signal.is (carries_signal c.args.self.now (g.H.Host.calls c.args.host.now) (g.H.Host.calls c.send.new.host) c.in-Signal.who c.in-Signal.pid c.in-Signal.signal orders c.send.ensures.sent)

pub returns-in-Emitted-clause-carries : goal.returns-in-Emitted-clause-carries
returns-in-Emitted-clause-carries g c orders part here door source config chronicle start at =
    let order = output.Emitted c.in-Emitted.event in
    let before = rw c.in-Emitted.is at at in
    record {
      stands = before.stands;
      reaches = PassesEvent part here c.in-Emitted.event orders (state_of c.args.self.now (g.H.Host.calls c.args.host.now) door source (order ∷ orders)) refl before.reaches;
    }

pub returns-in_ok-answer-in-Reply-clause-carries : goal.returns-in_ok-answer-in-Reply-clause-carries
returns-in_ok-answer-in-Reply-clause-carries g c orders part here door source config chronicle start at =
    let order = output.Reply c.in-Reply.id c.in-Reply.answer in
    let before = rw c.in-Reply.is at at in
    record {
      stands = before.stands;
      reaches = Replies part here c.in-Reply.id c.in-Reply.answer orders (peers_of c.answer.new.self.list.items) (state_of c.args.self.now (g.H.Host.calls c.args.host.now) door source (order ∷ orders)) refl c.in_ok-answer-in-Reply.ensures before.reaches;
    }

pub returns-in_ok-answer-in-Reply-clause-waits : goal.returns-in_ok-answer-in-Reply-clause-waits
returns-in_ok-answer-in-Reply-clause-waits g c =
    queued_same c.in-Reply.id c.in-Reply.answer (peers_of c.args.self.now.clients.list.items) (peers_of c.answer.new.self.list.items) c.in_ok-answer-in-Reply.ensures

pub returns-in_ok-answer-in-Reply-clause-numbers : goal.returns-in_ok-answer-in-Reply-clause-numbers
returns-in_ok-answer-in-Reply-clause-numbers g c =
    queued_numbers c.in-Reply.id c.in-Reply.answer (peers_of c.args.self.now.clients.list.items) (peers_of c.answer.new.self.list.items) c.in_ok-answer-in-Reply.ensures
