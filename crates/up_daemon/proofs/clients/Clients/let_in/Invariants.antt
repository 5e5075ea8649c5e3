use Rattle.std.proofs.Common.{◌≤◌, vec_len}
use Rattle.up_daemon.specs.Connected.{AreConnected}
use Rattle.up_daemon.specs.Peers.{peers_of, numbers_of}
use Rattle.up_daemon.specs.Rounds.{AdvancesIf}
use Rattle.up_daemon.specs.RoundStates.{RoundState, LettingIn}
use Rattle.up_daemon.specs.Seating.{seen}
use Rattle.up_daemon.proofs.clients.Clients.let_in.Given as goal

abbrev pub invariant-loop-turn : goal.invariant-loop-turn
invariant-loop-turn g l = record {
  lets_in : (state : RoundState)
      → AdvancesIf (AreConnected (g.D.Door.connected l.fn.door) (numbers_of (peers_of l.fn.self.list.items)))
      LettingIn (seen l.fn.self.list.items (g.D.Door.calls l.fn.door) state)
      LettingIn (seen l.self.list.items (g.D.Door.calls l.door) state);
  connected : AreConnected (g.D.Door.connected l.fn.door) (numbers_of (peers_of l.fn.self.list.items))
      → AreConnected (g.D.Door.connected l.door) (numbers_of (peers_of l.self.list.items));
  many : l.turn ≤ vec_len l.self.list;
}
