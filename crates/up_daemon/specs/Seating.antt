-- How the parts of a round see what it did so far, from its door and its clients.
use Rattle.std.specs.Prelude.{ℕ, Bool, true, false, List, ◌∷◌}
use Rattle.up_edge.specs.Calls.{Calls}
use Rattle.up_daemon.specs.declared.clients.client.Client.{Client}
use Rattle.up_edge.specs.declared.passed.Passed.{Passed}
use Rattle.up_daemon.specs.Peers.{peer_of, peers_of}
use Rattle.up_daemon.specs.RoundStates.{RoundState, with_last}

-- these are the door's calls
abbrev pub at_door : Calls Passed → RoundState → RoundState
at_door calls state = record state { door = calls }

-- and these are the clients
abbrev pub seen : List Client → Calls Passed → RoundState → RoundState
seen clients calls state = record state { clients = peers_of clients; door = calls }

-- this client is done with, if it stays
abbrev pub with_stayer : Bool → Client → RoundState → RoundState
with_stayer true client state = with_last (peer_of client) state
with_stayer false client state = state

-- its number comes first, if it stays
abbrev pub stayer : Bool → ℕ → List ℕ → List ℕ
stayer true number numbers = number ∷ numbers
stayer false number numbers = numbers
