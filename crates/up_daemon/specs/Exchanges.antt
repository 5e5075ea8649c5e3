-- What is asked and answered in a round.
use Rattle.std.specs.Prelude.{⊤, ◌≡◌, ◌≢◌, ◌<◌, ◌⊎◌, ◌++◌, ◌∷◌, ◌==◌, ◌+◌, ℕ, Bool, false, List, [], Option, None, Some, if◌then◌else◌}
use Rattle.std.specs.List.{AllByRecursion}
use Rattle.up_model.specs.declared.input.Input.{Input}
use Rattle.up_model.specs.declared.input.Input.TheVariants as input
use Rattle.up_model.specs.declared.output.Output.{Output}
use Rattle.up_model.specs.declared.output.Output.TheVariants as output
use Rattle.up_model.specs.declared.request.Answer.{Answer}
use Rattle.up_model.specs.declared.request.Command.TheVariants.{ReloadConfiguration}
use Rattle.up_wire.specs.Answers.{answer_frames}
use Rattle.up_model.specs.Values.{Bytes}
use Rattle.up_wire.specs.Frames.{Frames}
use Rattle.up_model.specs.Requests.{RequestValue}
use Rattle.up_daemon.specs.Peers.{Peer}
use Rattle.up_edge.specs.declared.passed.Passed.{Passed}
use Rattle.up_edge.specs.declared.passed.Passed.TheVariants as passed

-- a request of a client entered under a number, or the request of a number was answered
pub data Exchange : Type 0 where
  Asked : (client id : ℕ) → (request : RequestValue) → Exchange
  Replied : (id : ℕ) → (answer : Answer) → Exchange

-- whether this is the number of the unanswered request
abbrev pub is_open : ℕ → Option ℕ → Bool
is_open id None = false
is_open id (Some other) = id == other

-- The unanswered request of a client, which had this one before, after these exchanges (the latest first).
abbrev pub open_after : (client : ℕ) → Option ℕ → List Exchange → Option ℕ
open_after client before [] = before
open_after client before (Asked other id request ∷ exchanges) = if other == client then Some id else open_after client before exchanges
open_after client before (Replied id answer ∷ exchanges) =
    if is_open id (open_after client before exchanges) then None else open_after client before exchanges

-- the frames of the replies to its requests
abbrev pub frames_for : (client : ℕ) → Option ℕ → List Exchange → Bytes
frames_for client before [] = []
frames_for client before (Asked other id request ∷ exchanges) = frames_for client before exchanges
frames_for client before (Replied id answer ∷ exchanges) =
    frames_for client before exchanges
    ++ (if is_open id (open_after client before exchanges) then answer_frames answer else [])

-- the bytes that were written to it
abbrev pub written_to : (client : ℕ) → List Passed → Bytes
written_to client [] = []
written_to client (passed.Wrote other bytes ∷ entries) = (if other == client then bytes else []) ++ written_to client entries
written_to client (passed.Accepted other ∷ entries) = written_to client entries
written_to client (passed.Read other bytes ∷ entries) = written_to client entries
written_to client (passed.Closed other ∷ entries) = written_to client entries

-- its requests that entered
abbrev pub asked_by : (client : ℕ) → List Exchange → List RequestValue
asked_by client [] = []
asked_by client (Asked other id request ∷ exchanges) = asked_by client exchanges ++ (if other == client then request ∷ [] else [])
asked_by client (Replied id answer ∷ exchanges) = asked_by client exchanges

-- the entry is no bytes that were read from the client
abbrev pub IsQuiet : (client : ℕ) → Passed → Type 0
IsQuiet client (passed.Read other (Some piece)) = other ≢ client
IsQuiet client (passed.Read other None) = ⊤
IsQuiet client (passed.Wrote other bytes) = ⊤
IsQuiet client (passed.Accepted other) = ⊤
IsQuiet client (passed.Closed other) = ⊤

-- after the bytes of an unwhole frame, those that were read from the client are the whole frames of these requests, and the bytes left
pub data IsHeard (client : ℕ) (rest : Bytes) : List Passed → List RequestValue → Bytes → Type 0 where
  HearsNothing : IsHeard client rest [] [] rest
  HearsOther : (entries : List Passed) → (requests : List RequestValue) → (last : Bytes) → (entry : Passed)
      → IsQuiet client entry → IsHeard client rest entries requests last
      → IsHeard client rest (entries ++ entry ∷ []) requests last
  HearsPiece : (entries : List Passed) → (requests more : List RequestValue) → (middle piece last : Bytes)
      → Frames (middle ++ piece) more last → IsHeard client rest entries requests middle
      → IsHeard client rest (entries ++ passed.Read client (Some piece) ∷ []) (requests ++ more) last

-- how many replies there are, each counted by a weight
abbrev pub weight : (ℕ → Answer → ℕ) → List Output → ℕ
weight w [] = 0
weight w (output.Reply id answer ∷ outputs) = w id answer + weight w outputs
weight w (output.Spawn order ∷ outputs) = weight w outputs
weight w (output.Signal who pid signal ∷ outputs) = weight w outputs
weight w (output.Emitted event ∷ outputs) = weight w outputs

abbrev pub weight_given : (ℕ → Answer → ℕ) → List (List Output) → ℕ
weight_given w [] = 0
weight_given w (outputs ∷ gave) = weight w outputs + weight_given w gave

abbrev pub weight_replied : (ℕ → Answer → ℕ) → List Exchange → ℕ
weight_replied w [] = 0
weight_replied w (Asked client id request ∷ exchanges) = weight_replied w exchanges
weight_replied w (Replied id answer ∷ exchanges) = w id answer + weight_replied w exchanges

-- two clients have not the same number, and not the same request
pub record Apart (one other : Peer) : Type 0 where
  pub numbers : one.number ≢ other.number
  pub requests : (id : ℕ) → one.unanswered ≡ Some id → other.unanswered ≢ Some id

abbrev pub AreApart : List Peer → Type 0
AreApart [] = ⊤
AreApart (peer ∷ peers) = AllByRecursion (Apart peer) peers × AreApart peers

-- a client's unanswered request has a number below the next
abbrev pub IsBelow : ℕ → Peer → Type 0
IsBelow next peer = (id : ℕ) → peer.unanswered ≡ Some id → id < next

-- no two clients or requests have one number, and the next request has none of theirs
pub record IsNumbered (clients : List Peer) (next : ℕ) : Type 0 where
  pub apart : AreApart clients
  pub below : AllByRecursion (IsBelow next) clients

-- it is one of these
abbrev pub IsAmong : Peer → List Peer → Type 0
IsAmong one [] = ⊥
IsAmong one (peer ∷ peers) = (peer ≡ one) ⊎ IsAmong one peers

-- the requests among inputs, of which those to reload the configuration are fed as loads
abbrev pub requests_in : List Input → List Input
requests_in [] = []
requests_in (input.Request id request ∷ inputs) = input.Request id request ∷ requests_in inputs
requests_in (input.Emit event ∷ inputs) = requests_in inputs
requests_in (input.Spawned who process pid ∷ inputs) = requests_in inputs
requests_in (input.Refused who process ∷ inputs) = requests_in inputs
requests_in (input.Ended who process how ∷ inputs) = requests_in inputs
requests_in (input.Clock now ∷ inputs) = requests_in inputs
requests_in (input.Turn ∷ inputs) = requests_in inputs
requests_in (input.Load id loaded ∷ inputs) = input.Load id loaded ∷ requests_in inputs

-- the requests that entered, each with its number, the oldest first
abbrev pub requests_of : List Exchange → List (ℕ × RequestValue)
requests_of [] = []
requests_of (Asked client id request ∷ exchanges) = requests_of exchanges ++ (id, request) ∷ []
requests_of (Replied id answer ∷ exchanges) = requests_of exchanges

-- the request is fed as it is, or as a load with its number if it is one to reload the configuration
abbrev pub IsFedAs : ℕ × RequestValue → Input → Type 0
IsFedAs (id, request) (input.Request number same) = (number ≡ id) × (same ≡ request) × (request.command ≢ ReloadConfiguration)
IsFedAs (id, request) (input.Load number loaded) = (number ≡ id) × (request.command ≡ ReloadConfiguration)
IsFedAs asked (input.Emit event) = ⊥
IsFedAs asked (input.Spawned who process pid) = ⊥
IsFedAs asked (input.Refused who process) = ⊥
IsFedAs asked (input.Ended who process how) = ⊥
IsFedAs asked (input.Clock now) = ⊥
IsFedAs asked input.Turn = ⊥

-- each request is fed, in order, and nothing else
abbrev pub AreFedAs : List (ℕ × RequestValue) → List Input → Type 0
AreFedAs [] [] = ⊤
AreFedAs [] (given ∷ inputs) = ⊥
AreFedAs (asked ∷ requests) [] = ⊥
AreFedAs (asked ∷ requests) (given ∷ inputs) = IsFedAs asked given × AreFedAs requests inputs
