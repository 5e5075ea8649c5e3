-- What a round does, call by call: the calls of its host, its door and its source, what is fed and given, and each order carried out.
use Rattle.std.specs.Prelude.{◌≡◌, ◌≢◌, ◌≤◌, ◌<◌, ◌+◌, ◌⊎◌, ℕ, List, [], ◌∷◌, ◌++◌, None, Some, length, take, drop}
use Rattle.std.specs.List.{AllByRecursion}
use Rattle.up_stanza.specs.declared.process.Process.{Process}
use Rattle.up_edge.specs.Calls.{Calls}
use Rattle.up_edge.specs.declared.happened.Happened.TheVariants as happened
use Rattle.up_model.specs.Answers.{answer, after_all}
use Rattle.up_model.specs.Chronicle.{Chronicle}
use Rattle.up_model.specs.Configuration.{Configuration}
use Rattle.up_model.specs.Due.{turn_event}
use Rattle.up_model.specs.Loads.{in_force}
use Rattle.up_model.specs.Queue.{queue}
use Rattle.up_model.specs.Requests.{RequestValue}
use Rattle.up_model.specs.declared.event.Event.{Event}
use Rattle.up_model.specs.declared.input.Input.{Input}
use Rattle.up_model.specs.declared.input.Input.TheVariants as input
use Rattle.up_model.specs.declared.loaded.Loaded.{Loaded}
use Rattle.up_model.specs.declared.output.Order.{Order}
use Rattle.up_model.specs.declared.output.Output.{Output}
use Rattle.up_model.specs.declared.output.Output.TheVariants as output
use Rattle.up_model.specs.declared.process.How.{How}
use Rattle.up_model.specs.declared.request.Answer.{Answer}
use Rattle.up_model.specs.declared.who.Who.{Who}
use Rattle.up_model.specs.Values.{Bytes}
use Rattle.up_wire.specs.Frames.{Frames}
use Rattle.up_daemon.specs.Asking.{IsAsked}
use Rattle.up_daemon.specs.Answering.{outputs_in}
use Rattle.up_daemon.specs.Hearing.{most_waiting, IsPiece, IsBroken}
use Rattle.up_daemon.specs.Peers.{Peer, newcomer, heard, IsAtRest, IsEntered, IsQueued, IsNobody, last_number}
use Rattle.up_daemon.specs.RoundStates.{Part, Beginning, ReadingClock, FindingEnds, LettingIn, ReadingFrom, TakingRequests, TakingTurns, WritingTo, ClosingOf, HasOrders, DaemonState, HasItsClients, RoundState, opened, closed, with_input, host_did, host_failed, door_did, door_failed, with_left, with_clients, with_last}
use Rattle.up_daemon.specs.Visits.{most_clients}
use Rattle.up_edge.specs.declared.passed.Passed.TheVariants as passed

-- the most turns of a round
abbrev pub most_turns : ℕ
most_turns = 256

-- the answer of a process that was ordered
abbrev pub ran : Order → ℕ → Input
ran order pid = input.Spawned order.who order.process pid

abbrev pub ran_not : Order → Input
ran_not order = input.Refused order.who order.process

-- A round that began so, by an engine that stood for this chronicle, comes to this part and state.
pub data Reaches (config : Configuration) (c : Chronicle) (start : DaemonState) : Part → RoundState → Type 0 where
  Opens : Reaches config c start (Beginning start.first) (opened start)
  -- the events with which a daemon begins are fed first, each once all that came of the one before is done
  Begins : (event : Event) → (later : List Event) → (outputs : List Output) → (state : RoundState) → state.left ≡ []
      → outputs ≡ outputs_in (answer config (after_all config c state.fed) (input.Emit event))
      → Reaches config c start (Beginning (event ∷ later)) state
      → Reaches config c start (Beginning later) (with_input (input.Emit event) outputs state)
  HasBegun : (state : RoundState) → state.left ≡ [] → Reaches config c start (Beginning []) state
      → Reaches config c start ReadingClock state
  -- the clock is read once; a reading that fails is left for the next round
  ReadsClock : (reading : ℕ) → (outputs : List Output) → (state : RoundState)
      → outputs ≡ outputs_in (answer config (after_all config c state.fed) (input.Clock reading))
      → Reaches config c start ReadingClock state
      → Reaches config c start FindingEnds (with_input (input.Clock reading) outputs (host_did (happened.Now reading) state))
  ClockFails : (state : RoundState) → Reaches config c start ReadingClock state
      → Reaches config c start FindingEnds (host_failed state)
  -- each end that a poll finds is fed; the first poll that finds none or fails is the last
  FindsEnd : (who : Who) → (its : Process) → (how : How) → (outputs : List Output) → (state : RoundState) → state.left ≡ []
      → outputs ≡ outputs_in (answer config (after_all config c state.fed) (input.Ended who its how))
      → Reaches config c start FindingEnds state
      → Reaches config c start FindingEnds (with_input (input.Ended who its how) outputs
      (host_did (happened.Polled (Some (who, its, how))) state))
  FindsNone : (state : RoundState) → state.left ≡ [] → Reaches config c start FindingEnds state
      → Reaches config c start LettingIn (host_did (happened.Polled None) state)
  PollFails : (state : RoundState) → state.left ≡ [] → Reaches config c start FindingEnds state
      → Reaches config c start LettingIn (host_failed state)
  -- while fewer than 64 are connected and one waits, it is let in, under a number that no client has; an accept that fails is left
  LetsIn : (number : ℕ) → (state : RoundState) → length state.clients < most_clients
      → (HasItsClients start → IsNobody number state.clients)
      → Reaches config c start LettingIn state
      → Reaches config c start LettingIn (with_last (newcomer number) (door_did (passed.Accepted (Some number)) state))
  NobodyWaits : (state : RoundState) → length state.clients < most_clients → Reaches config c start LettingIn state
      → Reaches config c start (ReadingFrom state.clients) (with_clients [] (door_did (passed.Accepted None) state))
  AcceptFails : (state : RoundState) → length state.clients < most_clients → Reaches config c start LettingIn state
      → Reaches config c start (ReadingFrom state.clients) (with_clients [] (door_failed state))
  IsFull : (state : RoundState) → most_clients ≤ length state.clients → Reaches config c start LettingIn state
      → Reaches config c start (ReadingFrom state.clients) (with_clients [] state)
  -- each is read once, in the order in which they came, but one with as many requests as may wait is not
  PassesOver : (peer : Peer) → (unread : List Peer) → (state : RoundState) → most_waiting ≤ length peer.waiting
      → Reaches config c start (ReadingFrom (peer ∷ unread)) state
      → Reaches config c start (ReadingFrom unread) (with_last peer state)
  FindsNothing : (peer : Peer) → (unread : List Peer) → (state : RoundState) → length peer.waiting < most_waiting
      → Reaches config c start (ReadingFrom (peer ∷ unread)) state
      → Reaches config c start (ReadingFrom unread) (with_last peer (door_did (passed.Read peer.number None) state))
  FindsBytes : (piece rest : Bytes) → (requests : List RequestValue) → (peer : Peer) → (unread : List Peer)
      → (state : RoundState) → length peer.waiting < most_waiting → IsPiece piece → Frames (peer.rest ++ piece) requests rest
      → Reaches config c start (ReadingFrom (peer ∷ unread)) state
      → Reaches config c start (ReadingFrom unread) (with_last (heard requests rest peer)
      (door_did (passed.Read peer.number (Some piece)) state))
  -- it is closed if the bytes break a frame, if they are the end of what it sends, or if the read fails
  FindsFault : (piece : Bytes) → (peer : Peer) → (unread : List Peer) → (state : RoundState)
      → length peer.waiting < most_waiting → IsPiece piece → IsBroken peer.fault (peer.rest ++ piece)
      → Reaches config c start (ReadingFrom (peer ∷ unread)) state
      → Reaches config c start (ClosingOf peer.number (ReadingFrom unread)) (door_did (passed.Read peer.number (Some piece)) state)
  FindsLast : (peer : Peer) → (unread : List Peer) → (state : RoundState) → length peer.waiting < most_waiting
      → Reaches config c start (ReadingFrom (peer ∷ unread)) state
      → Reaches config c start (ClosingOf peer.number (ReadingFrom unread)) (door_did (passed.Read peer.number (Some [])) state)
  ReadFails : (peer : Peer) → (unread : List Peer) → (state : RoundState) → length peer.waiting < most_waiting
      → Reaches config c start (ReadingFrom (peer ∷ unread)) state
      → Reaches config c start (ClosingOf peer.number (ReadingFrom unread)) (door_failed state)
  Closes : (number : ℕ) → (part : Part) → (state : RoundState) → Reaches config c start (ClosingOf number part) state
      → Reaches config c start part (door_did (passed.Closed number) state)
  ClosesUnrecorded : (number : ℕ) → (part : Part) → (state : RoundState) → Reaches config c start (ClosingOf number part) state
      → Reaches config c start part (door_failed state)
  -- requests enter, numbered upwards, each once all that came of the one before is done, until none may; for one to reload the
  -- configuration the source is called
  HasRead : (state : RoundState) → Reaches config c start (ReadingFrom []) state → Reaches config c start TakingRequests state
  Enters : (request : RequestValue) → (given : Input) → (source : Calls Loaded) → (clients : List Peer) → (outputs : List Output)
      → (state : RoundState) → state.left ≡ []
      → state.next < last_number → IsEntered state.next request state.clients clients
      → IsAsked state.next request given state.source source
      → outputs ≡ outputs_in (answer config (after_all config c state.fed) given)
      → Reaches config c start TakingRequests state
      → Reaches config c start TakingRequests (with_input given outputs
      (record state { clients = clients; next = state.next + 1; source = source }))
  HasServed : (state : RoundState) → state.left ≡ [] → AllByRecursion IsAtRest state.clients ⊎ (state.next ≡ last_number)
      → Reaches config c start TakingRequests state → Reaches config c start (TakingTurns 0) state
  -- then the queue of events turns, until a turn would touch no event, or as often as may be
  TakesTurn : (turns : ℕ) → (outputs : List Output) → (state : RoundState) → state.left ≡ [] → turns < most_turns
      → turn_event (in_force config (after_all config c state.fed)) (queue (after_all config c state.fed)) (after_all config c state.fed) ≢ None
      → outputs ≡ outputs_in (answer config (after_all config c state.fed) input.Turn)
      → Reaches config c start (TakingTurns turns) state
      → Reaches config c start (TakingTurns (turns + 1)) (with_input input.Turn outputs state)
  HasTurned : (turns : ℕ) → (state : RoundState) → state.left ≡ []
      → (turns ≡ most_turns) ⊎ (turn_event (in_force config (after_all config c state.fed)) (queue (after_all config c state.fed)) (after_all config c state.fed) ≡ None)
      → Reaches config c start (TakingTurns turns) state
      → Reaches config c start (WritingTo state.clients) (with_clients [] state)
  -- each for whom bytes wait is written to once; it is closed if the write fails
  NothingWaits : (peer : Peer) → (unwritten : List Peer) → (state : RoundState) → peer.answers ≡ []
      → Reaches config c start (WritingTo (peer ∷ unwritten)) state
      → Reaches config c start (WritingTo unwritten) (with_last peer state)
  Writes : (count : ℕ) → (peer : Peer) → (unwritten : List Peer) → (state : RoundState) → 0 < length peer.answers
      → Reaches config c start (WritingTo (peer ∷ unwritten)) state
      → Reaches config c start (WritingTo unwritten) (with_last (record peer { answers = drop count peer.answers })
      (door_did (passed.Wrote peer.number (take count peer.answers)) state))
  WriteFails : (peer : Peer) → (unwritten : List Peer) → (state : RoundState) → 0 < length peer.answers
      → Reaches config c start (WritingTo (peer ∷ unwritten)) state
      → Reaches config c start (ClosingOf peer.number (WritingTo unwritten)) (door_failed state)
  -- a process is started by one call, whose answer is the next input
  Starts : (part : Part) → HasOrders part → (order : Order) → (pid : ℕ) → (outputs left : List Output) → (state : RoundState)
      → state.left ≡ output.Spawn order ∷ left
      → outputs ≡ outputs_in (answer config (after_all config c state.fed) (ran order pid))
      → Reaches config c start part state
      → Reaches config c start part (with_input (ran order pid) outputs
      (with_left left (host_did (happened.Spawned order pid) state)))
  StartFails : (part : Part) → HasOrders part → (order : Order) → (outputs left : List Output) → (state : RoundState)
      → state.left ≡ output.Spawn order ∷ left
      → outputs ≡ outputs_in (answer config (after_all config c state.fed) (ran_not order))
      → Reaches config c start part state
      → Reaches config c start part (with_input (ran_not order) outputs (with_left left (host_failed state)))
  -- a signal is sent by one call, which is not tried again
  Signals : (part : Part) → HasOrders part → (who : Who) → (pid signal : ℕ) → (left : List Output) → (state : RoundState)
      → state.left ≡ output.Signal who pid signal ∷ left → Reaches config c start part state
      → Reaches config c start part (with_left left (host_did (happened.Signalled who pid signal) state))
  SignalFails : (part : Part) → HasOrders part → (who : Who) → (pid signal : ℕ) → (left : List Output) → (state : RoundState)
      → state.left ≡ output.Signal who pid signal ∷ left → Reaches config c start part state
      → Reaches config c start part (with_left left (host_failed state))
  PassesEvent : (part : Part) → HasOrders part → (event : Event) → (left : List Output) → (state : RoundState)
      → state.left ≡ output.Emitted event ∷ left → Reaches config c start part state
      → Reaches config c start part (with_left left state)
  -- a reply waits to be written to the client whose request it answers, if that is still connected
  Replies : (part : Part) → HasOrders part → (id : ℕ) → (answer : Answer) → (left : List Output) → (clients : List Peer)
      → (state : RoundState) → state.left ≡ output.Reply id answer ∷ left → IsQueued id answer state.clients clients
      → Reaches config c start part state
      → Reaches config c start part (with_left left (with_clients clients state))

-- A whole round: all are written to, and no order is left.
abbrev pub IsRound : Configuration → Chronicle → DaemonState → List Input → List (List Output) → DaemonState → Type 0
IsRound config c start fed gave end = Reaches config c start (WritingTo []) (closed end fed gave)

-- whatever round reaches the one reaches the other afterwards
abbrev pub Advances : Part → RoundState → Part → RoundState → Type 0
Advances part state part_after state_after = (config : Configuration) (c : Chronicle) (start : DaemonState)
    → Reaches config c start part state → Reaches config c start part_after state_after

-- so does one of which this is known, if it began with its clients
abbrev pub AdvancesIf : (known : Type 0) → Part → RoundState → Part → RoundState → Type 0
AdvancesIf known part state part_after state_after = (config : Configuration) (c : Chronicle) (start : DaemonState)
    → (HasItsClients start → known)
    → Reaches config c start part state → Reaches config c start part_after state_after
