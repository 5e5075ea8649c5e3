-- The laws of a round.
use Rattle.std.specs.Prelude.{◌≡◌, ◌++◌, ◌⊎◌, ℕ, Bool, false, List, []}
use Rattle.std.specs.List.{AllByRecursion}
use Rattle.up_model.specs.Chronicle.{Chronicle}
use Rattle.up_model.specs.Configuration.{Configuration}
use Rattle.up_model.specs.Requests.{RequestValue}
use Rattle.up_model.specs.declared.input.Input.{Input}
use Rattle.up_model.specs.declared.output.Output.{Output}
use Rattle.up_model.specs.declared.request.Answer.{Answer}
use Rattle.up_daemon.specs.Peers.{Peer, newcomer, IsNobody}
use Rattle.up_edge.specs.declared.passed.Passed.{Passed}
use Rattle.up_daemon.specs.Rounds.{IsRound}
use Rattle.up_daemon.specs.RoundStates.{DaemonState, HasItsClients}
use Rattle.up_daemon.specs.Counting.{MakesCalls}
use Rattle.up_daemon.specs.Departing.{Departs}
use Rattle.up_daemon.specs.Numbering.{AreNumbered}
use Rattle.up_daemon.specs.Wholeness.{AreWhole}
use Rattle.up_daemon.specs.Exchanges.{Exchange, open_after, frames_for, written_to, weight_given, weight_replied, requests_in, requests_of, AreFedAs, asked_by, IsHeard, IsAmong, IsNumbered}

-- A client as it is after these exchanges and entries: it was there, or has just come with a number that nobody had, and the bytes that were written to it and those that
-- wait are the bytes that waited before, then the frames of the replies to its requests;
-- its requests that entered and those that wait are those that waited before, then those of the bytes that were read from it.
pub record IsServed (clients : List Peer) (exchanges : List Exchange) (entries : List Passed) (peer : Peer) : Type 0 where
  pub before : Peer
  pub from : IsAmong before clients ⊎ ((before ≡ newcomer peer.number) × IsNobody peer.number clients)
  pub same : before.number ≡ peer.number
  pub unanswered : peer.unanswered ≡ open_after peer.number before.unanswered exchanges
  pub bytes : written_to peer.number entries ++ peer.answers
      ≡ before.answers ++ frames_for peer.number before.unanswered exchanges
  pub heard : List RequestValue
  pub pieces : IsHeard peer.number before.rest entries heard peer.rest
  pub requests : before.waiting ++ heard ≡ asked_by peer.number exchanges ++ peer.waiting

-- The requests that were fed, as loads if they reload the configuration, are those that entered, in order; each reply that was given was sent to the client whose request it
-- answers, if that was still there, as often as it was given; and each client is served.
pub record IsJust (start : DaemonState) (fed : List Input) (gave : List (List Output)) (end : DaemonState) : Type 0 where
  pub exchanges : List Exchange
  pub asked : AreFedAs (requests_of exchanges) (requests_in fed)
  pub replied : (w : ℕ → Answer → ℕ) → weight_replied w exchanges ≡ weight_given w gave
  pub served : AllByRecursion (IsServed start.clients exchanges end.door.entries) end.clients
  pub numbered : IsNumbered end.clients end.next

-- between rounds the door's clients are the daemon's, no two of them and no two of their unanswered requests have one number, and none has
-- broken a frame
pub record IsAtRest (state : DaemonState) : Type 0 where
  pub connected : HasItsClients state
  pub numbered : IsNumbered state.clients state.next
  pub whole : AreWhole state.clients

-- a daemon and its door, between rounds
pub record Resting : Type 0 where
  pub state : DaemonState
  pub is : IsAtRest state

-- so are a daemon that has no client and a door without any
abbrev pub BeginsAtRest : Type 0
BeginsAtRest = (state : DaemonState) → state.clients ≡ [] → ((number : ℕ) → state.connected number ≡ false) → IsAtRest state

-- and so are both after a round, which leaves the door's clients the daemon's
abbrev pub StaysAtRest : Type 0
StaysAtRest = (config : Configuration) (c : Chronicle) (start : Resting) (fed : List Input) (gave : List (List Output))
    (end : DaemonState) → IsRound config c start.state fed gave end → HasItsClients end → IsAtRest end

-- nothing that a client said is lost, and no reply to it
abbrev pub LosesNothing : Type 0
LosesNothing = (config : Configuration) (c : Chronicle) (start : Resting) (fed : List Input) (gave : List (List Output))
    (end : DaemonState) → IsRound config c start.state fed gave end → IsJust start.state fed gave end

-- the requests of a round have the numbers from the next one on, one after another
abbrev pub NumbersRequests : Type 0
NumbersRequests = (config : Configuration) (c : Chronicle) (start : DaemonState) (fed : List Input) (gave : List (List Output))
    (end : DaemonState) → IsRound config c start fed gave end → AreNumbered start.next fed end.next

-- no call is made but those of a round's parts and orders, and each that fails is counted
abbrev pub CountsCalls : Type 0
CountsCalls = (config : Configuration) (c : Chronicle) (start : DaemonState) (fed : List Input) (gave : List (List Output))
    (end : DaemonState) → IsRound config c start fed gave end → MakesCalls start fed gave end

-- a client is closed for an end of input, a broken frame or a call of it that failed, and for nothing else
abbrev pub ClosesForCause : Type 0
ClosesForCause = (config : Configuration) (c : Chronicle) (start : DaemonState) (fed : List Input) (gave : List (List Output))
    (end : DaemonState) → IsRound config c start fed gave end → Departs start end
