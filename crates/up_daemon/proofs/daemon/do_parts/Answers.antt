use Rattle.std.proofs.Common.{◌≡◌, ◌∙◌, [], sym, ap}
use Rattle.up_model.specs.Answers.{after_all}
use Rattle.up_daemon.specs.Connected.{AreConnected}
use Rattle.up_daemon.specs.Peers.{numbers_of}
use Rattle.up_daemon.specs.Rounds.{Opens}
use Rattle.up_daemon.specs.RoundStates.{Beginning, TakingRequests, RoundState, HasItsClients}
use Rattle.up_daemon.specs.Working.{IsAt, state_of, numbers_in}
use Rattle.up_daemon.proofs.Connections.{same_clients}
use Rattle.up_daemon.proofs.daemon.do_parts.Goals as goal

pub returns-clause-round : goal.returns-clause-round
unfolding after_all
returns-clause-round g c config chronicle start stands connected first is =
    let work = c.args.work.now in
    let door = g.D.Door.calls c.clear_record-2.new.self in
    let source = g.S.Source.calls c.clear_record-3.new.self in
    let source_after = g.S.Source.calls c.serve.new.source in
    let none_fed : work.log.fed.items ≡ [] = ap (λ (state : RoundState). state.fed) is in
    let clients : numbers_in work ≡ numbers_of start.clients = ap (λ (state : RoundState). numbers_of state.clients) is in
    let opens : IsAt config chronicle start (Beginning c.args.first.items) work.engine (state_of work (g.H.Host.calls c.clear_record.new.self) door source [])
    = record { stands = rw none_fed stands; reaches = rw (c.clear_record.ensures.reports, c.clear_record-2.ensures.reports, c.clear_record-3.ensures, is, sym first) Opens } in
    let begun = c.in_ok-begin.ensures.goes door source config chronicle start opens in
    let found = c.in_ok-find_ends.ensures.goes door source config chronicle start (c.in_ok-read_clock.ensures.goes door source config chronicle start begun) in
    let known : HasItsClients start → AreConnected (g.D.Door.connected c.clear_record-2.new.self) (numbers_in c.find_ends.new.self)
    = λ has. rw (c.in_ok-find_ends.ensures.numbers ∙ c.in_ok-read_clock.ensures.numbers ∙ c.in_ok-begin.ensures.numbers ∙ clients)
    (same_clients (g.D.Door.connected c.args.door.now) (g.D.Door.connected c.clear_record-2.new.self) (numbers_of start.clients) c.clear_record-2.ensures.connects (rw connected at has)) in
    let host = g.H.Host.calls c.find_ends.new.host in
    let heard : IsAt config chronicle start TakingRequests c.hear.new.self.engine (state_of c.hear.new.self host (g.D.Door.calls c.hear.new.door) source [])
    = record {
      stands = rw (c.hear.ensures.untouched.engine, c.hear.ensures.untouched.log) found.stands;
      reaches = c.in_ok-hear.ensures.hears host source config chronicle start known found.reaches;
    } in
    let served = c.in_ok-serve.ensures.goes (g.D.Door.calls c.hear.new.door) config chronicle start heard in
    let turned = c.in_ok-turn.ensures.turns (g.D.Door.calls c.hear.new.door) source_after config chronicle start served in
    record {
      stands = rw (c.write.ensures.untouched.engine, c.write.ensures.untouched.log) turned.stands;
      reaches = c.in_ok-write.ensures.writes (g.H.Host.calls c.turn.new.host) source_after config chronicle start turned.reaches;
    }

pub returns-clause-connected : goal.returns-clause-connected
returns-clause-connected g c are =
    let cleared = same_clients (g.D.Door.connected c.args.door.now) (g.D.Door.connected c.clear_record-2.new.self) (numbers_in c.args.work.now) c.clear_record-2.ensures.connects are in
    let heard = c.in_ok-hear.ensures.connected (rw (c.in_ok-find_ends.ensures.numbers ∙ c.in_ok-read_clock.ensures.numbers ∙ c.in_ok-begin.ensures.numbers) cleared) in
    c.in_ok-write.ensures.connected (rw (c.in_ok-turn.ensures.numbers ∙ c.in_ok-serve.ensures.numbers) heard)
