-- What a round knows of a client.
use Rattle.std.specs.Prelude.{◌≡◌, ◌≢◌, ◌⊎◌, ◌++◌, ◌∷◌, ◌&&◌, ◌||◌, ◌==◌, ℕ, Bool, false, nat_lt, length, [], List, Option, None, Some, is_none, is_some, map}
use Rattle.std.specs.List.{AllByRecursion, list_any}
use Rattle.up_model.specs.Requests.{RequestValue}
use Rattle.up_model.specs.declared.request.Answer.{Answer}
use Rattle.up_wire.specs.Answers.{answer_frames}
use Rattle.up_model.specs.Values.{Bytes}
use Rattle.up_wire.specs.declared.fault.FrameFault.{FrameFault}
use Rattle.up_daemon.specs.declared.clients.client.Client.{Client}

-- a client: its number, the bytes of a frame that isn't whole yet, or the fault of one that was broken, the requests that haven't
-- entered, the oldest first, the number of the one that entered and isn't answered, and the bytes that wait to be written
pub record Peer : Type 0 where
  pub number : ℕ
  pub rest : Bytes
  pub fault : Option FrameFault
  pub waiting : List RequestValue
  pub unanswered : Option ℕ
  pub answers : Bytes

abbrev pub peer_of : Client → Peer
peer_of client =
    record {
      number = client.number;
      rest = client.feed.rest;
      fault = client.feed.fault;
      waiting = client.waiting.items;
      unanswered = client.unanswered;
      answers = client.answers.items;
    }

abbrev pub peers_of : List Client → List Peer
peers_of clients = map peer_of clients

-- their numbers
abbrev pub numbers_of : List Peer → List ℕ
numbers_of peers = map (λ (peer : Peer). peer.number) peers

-- its next request may enter: it has one, and none before that is unanswered
abbrev pub is_ready : Peer → Bool
is_ready peer = is_none peer.unanswered && nat_lt 0 (length peer.waiting)

-- it waits for something: a request of it waits or is unanswered, or bytes wait to be written to it
abbrev pub is_waiting : Peer → Bool
is_waiting peer = is_some peer.unanswered || nat_lt 0 (length peer.waiting) || nat_lt 0 (length peer.answers)

-- it has this number, and waits for something
abbrev pub waits : ℕ → Peer → Bool
waits number peer = (peer.number == number) && is_waiting peer

-- some client with this number waits for something
abbrev pub one_waits : ℕ → List Peer → Bool
one_waits number peers = list_any (waits number) peers

-- a client that has just come
abbrev pub newcomer : ℕ → Peer
newcomer number = record {
  number = number;
  rest = [];
  fault = None;
  waiting = [];
  unanswered =
      None;
  answers = [];
}

-- more requests wait, and these bytes are not a whole frame yet
abbrev pub heard : List RequestValue → Bytes → Peer → Peer
heard requests rest peer = record peer { rest = rest; fault = None; waiting = peer.waiting ++ requests }

-- a request entered under a number, and these still wait
abbrev pub asked : ℕ → List RequestValue → Peer → Peer
asked id waiting peer = record peer { waiting = waiting; unanswered = Some id }

-- its request is answered, by frames after the bytes that wait
abbrev pub answered : Answer → Peer → Peer
answered answer peer = record peer { unanswered = None; answers = peer.answers ++ answer_frames answer }

-- the number of 64 bits at which no request enters
abbrev pub last_number : ℕ
last_number = 18446744073709551615

-- no request of a client may enter now
abbrev pub IsAtRest : Peer → Type 0
IsAtRest peer = is_ready peer ≡ false

-- the oldest request of the first client that is ready enters under this number
abbrev pub IsEntered : ℕ → RequestValue → (old new : List Peer) → Type 0
IsEntered id request old new =
    (before after : List Peer) × (peer : Peer) × (waiting : List RequestValue)
    × (old ≡ before ++ peer ∷ after)
    × (peer.unanswered ≡ None) × (peer.waiting ≡ request ∷ waiting)
    × (new ≡ before ++ asked id waiting peer ∷ after)
    × AllByRecursion IsAtRest before

-- an answer waits to be written to the client whose request it answers, if that is still connected
abbrev pub IsQueued : ℕ → Answer → (old new : List Peer) → Type 0
IsQueued id answer old new =
    ((before after : List Peer) × (peer : Peer) × (old ≡ before ++ peer ∷ after) × (peer.unanswered ≡ Some id)
    × (new ≡ before ++ answered answer peer ∷ after))
    ⊎ ((new ≡ old) × AllByRecursion (λ peer. peer.unanswered ≢ Some id) old)

-- the number is that of no client
abbrev pub IsNobody : ℕ → List Peer → Type 0
IsNobody number peers = AllByRecursion (λ peer. number ≢ peer.number) peers
