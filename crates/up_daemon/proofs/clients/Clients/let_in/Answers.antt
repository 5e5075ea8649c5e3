use Rattle.std.proofs.Common.{◌≤◌, ◌≡◌, ◌∙◌, sym, length, arith}
use Rattle.std.proofs.lemmas.List.{length-map}
use Rattle.up_daemon.specs.Peers.{peer_of, peers_of}
use Rattle.up_daemon.specs.Visits.{most_clients}
use Rattle.up_daemon.proofs.Doors.{visits_once, is_full}
use Rattle.up_daemon.proofs.clients.Clients.let_in.Goals as goal

pub returns-then-not-branch-clause-lets_in : goal.returns-then-not-branch-clause-lets_in
returns-then-not-branch-clause-lets_in g c state config chronicle start known reaches =
    rw c.if-not-branch.true at (visits_once config chronicle start state c.in_ok-let_one_in.field-0 (g.D.Door.connected c.loop-turn.door) c.loop-turn.self.list.items c.let_one_in.new.self.list.items (g.D.Door.calls c.loop-turn.door) (g.D.Door.calls c.let_one_in.new.door) c.loop-turn.self.list.len (λ has. c.loop-turn.invariant.connected (known has)) c.loop-turn.self.list.ok.0 c.in_ok-let_one_in.ensures.full c.in_ok-let_one_in.ensures.refuses c.in_ok-let_one_in.ensures.accepts (c.loop-turn.invariant.lets_in state config chronicle start known reaches))

pub loop-turn-preserved : goal.loop-turn-preserved
loop-turn-preserved g c = record {
  lets_in = λ state config chronicle start known reaches. rw c.if-not-branch.false at (visits_once config chronicle start state c.in_ok-let_one_in.field-0 (g.D.Door.connected c.loop-turn.door) c.loop-turn.self.list.items c.let_one_in.new.self.list.items (g.D.Door.calls c.loop-turn.door) (g.D.Door.calls c.let_one_in.new.door) c.loop-turn.self.list.len (λ has. c.loop-turn.invariant.connected (known has)) c.loop-turn.self.list.ok.0 c.in_ok-let_one_in.ensures.full c.in_ok-let_one_in.ensures.refuses c.in_ok-let_one_in.ensures.accepts (c.loop-turn.invariant.lets_in state config chronicle start known reaches));
  connected = λ are. c.in_ok-let_one_in.ensures.connected (c.loop-turn.invariant.connected are);
  many = omega (arith, c.loop-turn.invariant.many, c.in_ok-let_one_in.ensures.grows c.if-not-branch.false);
}

pub returns-clause-lets_in : goal.returns-clause-lets_in
returns-clause-lets_in g c state config chronicle start known reaches =
    let sized : length (peers_of c.loop-turn.self.list.items) ≡ c.loop-turn.self.list.len = length-map c.loop-turn.self.list.items peer_of ∙ sym c.loop-turn.self.list.ok.0 in
    let many : most_clients ≤ length (peers_of c.loop-turn.self.list.items) = omega (arith, sized, c.loop-turn.invariant.many, c.loop-turn-test.false) in
    is_full config chronicle start state c.loop-turn.self.list.items (g.D.Door.calls c.loop-turn.door) many (c.loop-turn.invariant.lets_in state config chronicle start known reaches)
