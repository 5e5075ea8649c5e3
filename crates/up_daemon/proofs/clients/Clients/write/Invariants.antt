use Rattle.std.proofs.Common.{◌≡◌, ◌++◌, [], length}
use Rattle.std.specs.Vec.Iter.{into_iter_items, into_iter_len}
use Rattle.up_daemon.specs.Connected.{AreConnected}
use Rattle.up_daemon.specs.Peers.{peers_of, numbers_of}
use Rattle.up_daemon.specs.Rounds.{Advances}
use Rattle.up_daemon.specs.RoundStates.{RoundState, WritingTo}
use Rattle.up_daemon.specs.Seating.{seen}
use Rattle.up_daemon.proofs.clients.Clients.write.Given as goal

abbrev pub invariant-loop-client : goal.invariant-loop-client
invariant-loop-client g l = record {
  writes : (state : RoundState)
      → Advances (WritingTo (peers_of l.fn.self.list.items)) (seen [] (g.D.Door.calls l.fn.door) state)
      (WritingTo (peers_of (into_iter_items l.client-iterator))) (seen l.self.list.items (g.D.Door.calls l.door) state);
  connected : AreConnected (g.D.Door.connected l.fn.door) (numbers_of (peers_of l.fn.self.list.items))
      → AreConnected (g.D.Door.connected l.door) (numbers_of (peers_of l.self.list.items) ++ numbers_of (peers_of (into_iter_items l.client-iterator)));
  left : into_iter_len l.client-iterator ≡ length (into_iter_items l.client-iterator);
}
