use Rattle.std.proofs.Common.{◌≡◌, [], refl}
use Rattle.up_edge.specs.Calls.{emptied}
use Rattle.up_daemon.specs.Answering.{Told}
use Rattle.up_daemon.specs.Daemons.{daemon_state}
use Rattle.up_daemon.specs.RoundStates.{WritingTo, opened}
use Rattle.up_daemon.specs.Working.{state_of}
use Rattle.up_daemon.proofs.Telling.{gave_answers}
use Rattle.up_daemon.proofs.daemon.Daemon.round.Goals as goal

pub returns-clause-answers : goal.returns-clause-answers
returns-clause-answers g c config chronicle stands =
    let start = daemon_state c.args.self.now (g.H.Host.calls c.args.host.now) (g.D.Door.calls c.args.door.now) (g.S.Source.calls c.args.source.now) (g.D.Door.connected c.args.door.now) in
    let opens : state_of (record c.args.self.now.work { log = c.new.result }) (emptied (g.H.Host.calls c.args.host.now)) (emptied (g.D.Door.calls c.args.door.now)) (emptied (g.S.Source.calls c.args.source.now)) [] ≡ opened start
    = rw (c.new.ensures.fed, c.new.ensures.gave) refl in
    let at = c.in_ok-do_parts.ensures.round config chronicle start stands refl (rw c.replace-first.ensures.value refl) opens in
    let done : Told c.do_parts.new.work.engine c.do_parts.new.work.log.fed.items c.do_parts.new.work.log.gave.items config chronicle
    = record { gave = gave_answers config chronicle start (WritingTo []) _ at.reaches; stands = at.stands } in
    rw (c.into_round.ensures.fed, c.into_round.ensures.gave, c.replace-log.ensures.value) done

pub returns-clause-round : goal.returns-clause-round
returns-clause-round g c config chronicle stands =
    let start = daemon_state c.args.self.now (g.H.Host.calls c.args.host.now) (g.D.Door.calls c.args.door.now) (g.S.Source.calls c.args.source.now) (g.D.Door.connected c.args.door.now) in
    let opens : state_of (record c.args.self.now.work { log = c.new.result }) (emptied (g.H.Host.calls c.args.host.now)) (emptied (g.D.Door.calls c.args.door.now)) (emptied (g.S.Source.calls c.args.source.now)) [] ≡ opened start
    = rw (c.new.ensures.fed, c.new.ensures.gave) refl in
    let at = c.in_ok-do_parts.ensures.round config chronicle start stands refl (rw c.replace-first.ensures.value refl) opens in
    rw (c.into_round.ensures.fed, c.into_round.ensures.gave, c.replace-log.ensures.value) at.reaches
