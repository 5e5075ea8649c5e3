-- What a contract sees of a daemon.
use Rattle.std.specs.Prelude.{ℕ, Bool, List}
use Rattle.up_engine.specs.declared.engine.Engine.{Engine}
use Rattle.up_daemon.specs.declared.daemon.Daemon.{Daemon}
use Rattle.up_edge.specs.Calls.{Calls}
use Rattle.up_model.specs.declared.event.Event.{Event}
use Rattle.up_model.specs.declared.loaded.Loaded.{Loaded}
use Rattle.up_edge.specs.declared.happened.Happened.{Happened}
use Rattle.up_daemon.specs.RoundStates.{DaemonState}
use Rattle.up_edge.specs.declared.passed.Passed.{Passed}
use Rattle.up_daemon.specs.Peers.{Peer, peers_of}

-- its engine
abbrev pub engine_of : Daemon → Engine
engine_of daemon = daemon.work.engine

-- its clients, in the order in which they came
abbrev pub clients_of : Daemon → List Peer
clients_of daemon = peers_of daemon.work.clients.list.items

-- the number of the next request that enters
abbrev pub next_of : Daemon → ℕ
next_of daemon = daemon.work.next

-- The events that its next round feeds first: those with which it begins, and none after a round. They are no other inputs, since a
-- request, an end or a load is of a client, the host or the source, and counted there.
abbrev pub first_of : Daemon → List Event
first_of daemon = daemon.first.items

-- its clients, the number of the next request and the events that are fed first, with the calls of a host, a door and a source, and which
-- clients the door has
abbrev pub daemon_state : Daemon → Calls Happened → Calls Passed → Calls Loaded → (ℕ → Bool) → DaemonState
daemon_state daemon host door source connected = record {
  clients = clients_of daemon;
  next = next_of daemon;
  first = first_of daemon;
  host = host;
  door = door;
  source = source;
  connected = connected;
}

-- whether a round of it was refused
abbrev pub was_refused : Daemon → Bool
was_refused daemon = daemon.refused
