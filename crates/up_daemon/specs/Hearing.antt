-- What is said and answered at one client.
use Rattle.std.specs.Prelude.{◌≡◌, ◌≢◌, ◌++◌, ◌∷◌, ◌⊎◌, ◌≤◌, ℕ, Bool, true, false, List, [], length, take, drop, Option, None, Some, IfSome, MatchOption, ⊤}
use Rattle.up_edge.specs.Calls.{Calls, with_entry, with_failure}
use Rattle.up_model.specs.Requests.{RequestValue}
use Rattle.up_model.specs.declared.request.Answer.{Answer}
use Rattle.up_wire.specs.Answers.{answer_frames}
use Rattle.up_model.specs.Values.{Bytes}
use Rattle.up_wire.specs.Frames.{Frames, Breaks}
use Rattle.up_wire.specs.declared.fault.FrameFault.{FrameFault}
use Rattle.up_daemon.specs.declared.clients.client.Client.{Client}
use Rattle.up_daemon.specs.Peers.{peer_of, is_ready}
use Rattle.up_edge.specs.declared.passed.Passed.{Passed}
use Rattle.up_edge.specs.declared.passed.Passed.TheVariants.{Read, Wrote}

-- the client keeps its number
abbrev pub IsSame : Client → Client → Type 0
IsSame old new = new.number ≡ old.number

-- the requests of the whole frames in these bytes, after those that weren't whole, wait after the others
pub record Takes (piece : Bytes) (old new : Client) : Type 0 where
  pub same : IsSame old new
  pub requests : List RequestValue
  pub whole : new.feed.fault ≡ None
  pub frames : Frames (old.feed.rest ++ piece) requests new.feed.rest
  pub waiting : new.waiting.items ≡ old.waiting.items ++ requests
  pub unanswered : new.unanswered ≡ old.unanswered
  pub answers : new.answers.items ≡ old.answers.items

-- these bytes break a frame, or earlier ones did
abbrev pub IsBroken : Option FrameFault → Bytes → Type 0
IsBroken earlier bytes = MatchOption earlier ((fault : FrameFault) × Breaks fault bytes) (λ _. ⊤)

-- bytes are taken whole, or they break a frame and nothing of them waits
abbrev pub Hears : Bool → Bytes → Client → Client → Type 0
Hears true piece old new = Takes piece old new
Hears false piece old new = IsSame old new × IsBroken old.feed.fault (old.feed.rest ++ piece)
    × (new.waiting.items ≡ old.waiting.items) × (new.answers.items ≡ old.answers.items)

-- a client with so many requests that haven't entered is not read
abbrev pub most_waiting : ℕ
most_waiting = 64

-- the most bytes that one read takes
abbrev pub most_read : ℕ
most_read = 4096

-- bytes that one read may find
abbrev pub IsPiece : Bytes → Type 0
IsPiece [] = ⊥
IsPiece (byte ∷ piece) = length (byte ∷ piece) ≤ most_read

-- the oldest request enters under a number if none is unanswered
abbrev pub Enters : ℕ → Option RequestValue → Client → Client → Type 0
Enters id None old new = (new ≡ old) × (is_ready (peer_of old) ≡ false)
Enters id (Some request) old new =
    IsSame old new × (old.unanswered ≡ None) × (old.waiting.items ≡ request ∷ new.waiting.items)
    × (new.unanswered ≡ Some id) × (new.feed ≡ old.feed) × (new.answers ≡ old.answers)

-- an answer is queued for the client whose request it is, and nothing changes at any other
abbrev pub IsAnswered : ℕ → Answer → Bool → Client → Client → Type 0
IsAnswered id answer true old new =
    IsSame old new × (old.unanswered ≡ Some id) × (new.unanswered ≡ None)
    × (new.answers.items ≡ old.answers.items ++ answer_frames answer) × (new.waiting ≡ old.waiting)
    × (new.feed ≡ old.feed)
IsAnswered id answer false old new = (new ≡ old) × (old.unanswered ≢ Some id)

-- what a read found is taken: nothing yet, the end, which is no bytes, or bytes
abbrev pub IsTaken : Bool → Option Bytes → Client → Client → Type 0
IsTaken stays None old new = (stays ≡ true) × (new ≡ old)
IsTaken stays (Some []) old new = (stays ≡ false) × (new ≡ old)
IsTaken stays (Some (byte ∷ piece)) old new = Hears stays (byte ∷ piece) old new

-- one read by the door: it failed and was counted, or its entry is what was found
abbrev pub IsReadOnce : Bool → Client → Client → (before after : Calls Passed) → Type 0
IsReadOnce stays old new before after =
    ((after ≡ with_failure before) × (stays ≡ false) × (new ≡ old))
    ⊎ ((found : Option Bytes) × IfSome found (λ piece. length piece ≤ most_read)
    × (after ≡ with_entry (Read old.number found) before) × IsTaken stays found old new)

-- no call was made for the client, who stays
abbrev pub IsPassedOver : Bool → Client → Client → (before after : Calls Passed) → Type 0
IsPassedOver stays old new before after = (after ≡ before) × (stays ≡ true) × (new ≡ old)

-- one write by the door of all the bytes that wait: it failed and was counted, or those that it took wait no longer
abbrev pub IsWrittenOnce : Bool → Client → Client → (before after : Calls Passed) → Type 0
IsWrittenOnce stays old new before after =
    ((after ≡ with_failure before) × (stays ≡ false) × (new ≡ old))
    ⊎ ((count : ℕ) × (after ≡ with_entry (Wrote old.number (take count old.answers.items)) before)
    × (stays ≡ true) × (new.answers.items ≡ drop count old.answers.items) × (new.waiting ≡ old.waiting)
    × (new.unanswered ≡ old.unanswered) × (new.feed ≡ old.feed) × IsSame old new)
