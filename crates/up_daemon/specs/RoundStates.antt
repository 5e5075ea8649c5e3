-- What a round is seen as while it goes on: its part, and what it did so far.
use Rattle.std.specs.Prelude.{⊤, ℕ, Bool, List, [], ◌∷◌, ◌++◌}
use Rattle.up_edge.specs.Calls.{Calls, with_entry, with_failure, emptied}
use Rattle.up_edge.specs.declared.happened.Happened.{Happened}
use Rattle.up_model.specs.declared.event.Event.{Event}
use Rattle.up_model.specs.declared.input.Input.{Input}
use Rattle.up_model.specs.declared.loaded.Loaded.{Loaded}
use Rattle.up_model.specs.declared.output.Output.{Output}
use Rattle.up_daemon.specs.Connected.{AreConnected}
use Rattle.up_daemon.specs.Peers.{Peer, numbers_of}
use Rattle.up_edge.specs.declared.passed.Passed.{Passed}

-- The part of a round: these events, with which the daemon begins, are still to be fed; the clock is to be read; ends are looked for;
-- clients are let in; these are still to be read; requests enter; the queue of events has turned so many times; these are still to be
-- written to. Or the client with this number is to be closed first.
pub data Part : Type 0 where
  Beginning : (first : List Event) → Part
  ReadingClock : Part
  FindingEnds : Part
  LettingIn : Part
  ReadingFrom : (unread : List Peer) → Part
  TakingRequests : Part
  TakingTurns : (turns : ℕ) → Part
  WritingTo : (unwritten : List Peer) → Part
  ClosingOf : (number : ℕ) → (part : Part) → Part

-- orders are carried out in this part: no client is missing in it
abbrev pub HasOrders : Part → Type 0
HasOrders (Beginning first) = ⊤
HasOrders ReadingClock = ⊥
HasOrders FindingEnds = ⊤
HasOrders LettingIn = ⊥
HasOrders (ReadingFrom unread) = ⊥
HasOrders TakingRequests = ⊤
HasOrders (TakingTurns turns) = ⊤
HasOrders (WritingTo unwritten) = ⊥
HasOrders (ClosingOf number part) = ⊥

-- what a round begins with, and ends with: the clients, the number of the next request, the events that the next round feeds first, the
-- calls of host, door and source, and which clients the door has
pub record DaemonState : Type 0 where
  pub clients : List Peer
  pub next : ℕ
  pub first : List Event
  pub host : Calls Happened
  pub door : Calls Passed
  pub source : Calls Loaded
  pub connected : ℕ → Bool

-- the door's clients are the daemon's
abbrev pub HasItsClients : DaemonState → Type 0
HasItsClients state = AreConnected state.connected (numbers_of state.clients)

-- what a round did so far: the clients, without those that are still to be read or written to; the number of the next request; the
-- inputs that were fed, and what was given for each; the orders that are left, the next one first; the calls of host, door and source
pub record RoundState : Type 0 where
  pub clients : List Peer
  pub next : ℕ
  pub fed : List Input
  pub gave : List (List Output)
  pub left : List Output
  pub host : Calls Happened
  pub door : Calls Passed
  pub source : Calls Loaded

-- the records are emptied as the round begins
abbrev pub opened : DaemonState → RoundState
opened start = record {
  clients = start.clients;
  next = start.next;
  fed = [];
  gave = [];
  left = [];
  host = emptied start.host;
  door = emptied start.door;
  source = emptied start.source;
}

-- all is done, and no order is left
abbrev pub closed : DaemonState → List Input → List (List Output) → RoundState
closed end fed gave = record {
  clients = end.clients;
  next = end.next;
  fed = fed;
  gave = gave;
  left = [];
  host = end.host;
  door = end.door;
  source = end.source;
}

-- an input is fed, and what is given for it comes before the orders that are left
abbrev pub with_input : Input → List Output → RoundState → RoundState
with_input given outputs state = record state {
  fed = state.fed ++ given ∷ [];
  gave = state.gave ++ outputs ∷ [];
  left = outputs ++ state.left;
}

-- a call of the host succeeded, with this entry, or failed
abbrev pub host_did : Happened → RoundState → RoundState
host_did entry state = record state { host = with_entry entry state.host }

abbrev pub host_failed : RoundState → RoundState
host_failed state = record state { host = with_failure state.host }

-- a call of the door succeeded, with this entry, or failed
abbrev pub door_did : Passed → RoundState → RoundState
door_did entry state = record state { door = with_entry entry state.door }

abbrev pub door_failed : RoundState → RoundState
door_failed state = record state { door = with_failure state.door }

-- these orders are left
abbrev pub with_left : List Output → RoundState → RoundState
with_left left state = record state { left = left }

-- these are the clients
abbrev pub with_clients : List Peer → RoundState → RoundState
with_clients clients state = record state { clients = clients }

-- this client is done with in its part of the round
abbrev pub with_last : Peer → RoundState → RoundState
with_last peer state = record state { clients = state.clients ++ peer ∷ [] }
