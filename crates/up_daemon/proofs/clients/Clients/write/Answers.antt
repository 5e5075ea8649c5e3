use Rattle.std.proofs.Common.{◌∷◌, [], ap, length, arith}
use Rattle.std.specs.Vec.Iter.{into_iter_items}
use Rattle.std.proofs.lemmas.List.{map-append}
use Rattle.up_daemon.specs.Peers.{peer_of, peers_of, numbers_of}
use Rattle.up_daemon.specs.RoundStates.{with_clients}
use Rattle.up_daemon.proofs.Seats.{numbers_push}
use Rattle.up_daemon.proofs.clients.Clients.write.Goals as goal

pub loop-client-preserved-in-Continue-branch-3 : goal.loop-client-preserved-in-Continue-branch-3
loop-client-preserved-in-Continue-branch-3 g c =
    let taken = c.in-Some.ensures.steps in
    let before = c.loop-client.invariant in
    let list = c.loop-client.self.list.items in
    record {
      writes = λ state config chronicle start reaches.
          let so_far = rw taken.0 at before.writes state config chronicle start reaches in
          let done = c.in_ok-write_or_close.ensures.writes (peers_of (into_iter_items c.next.new.self)) (with_clients (peers_of list) state) config chronicle start so_far in
          rw (c.in_ok-push.ensures.items, map-append peer_of list (c.write_or_close.new.client ∷ [])) (rw c.if-branch.true at done);
      connected = λ are.
          let so_far = rw taken.0 at before.connected are in
          let done = c.in_ok-write_or_close.ensures.connected (numbers_of (peers_of list)) (numbers_of (peers_of (into_iter_items c.next.new.self))) so_far in
          rw c.in_ok-push.ensures.items (numbers_push (g.D.Door.connected c.write_or_close.new.door) list c.write_or_close.new.client (numbers_of (peers_of (into_iter_items c.next.new.self))) (rw c.if-branch.true at done));
      left = omega (arith, ap length taken.0, taken.1, before.left);
    }

pub loop-client-preserved : goal.loop-client-preserved
loop-client-preserved g c =
    let taken = c.in-Some.ensures.steps in
    let before = c.loop-client.invariant in
    record {
      writes = λ state config chronicle start reaches.
          let so_far = rw taken.0 at before.writes state config chronicle start reaches in
          let done = c.in_ok-write_or_close.ensures.writes (peers_of (into_iter_items c.next.new.self)) (with_clients (peers_of c.loop-client.self.list.items) state) config chronicle start so_far in
          rw c.if-branch.false at done;
      connected = λ are.
          let so_far = rw taken.0 at before.connected are in
          let done = c.in_ok-write_or_close.ensures.connected (numbers_of (peers_of c.loop-client.self.list.items)) (numbers_of (peers_of (into_iter_items c.next.new.self))) so_far in
          rw c.if-branch.false at done;
      left = omega (arith, ap length taken.0, taken.1, before.left);
    }
