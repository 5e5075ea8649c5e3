-- How long clients have been silent.
use Rattle.std.specs.Prelude.{◌≡◌, ◌⊎◌, ℕ, ◌-◌, ◌==◌, Bool, not, ◌&&◌, nat_lt, nat_le, if◌then◌else◌, List, [], ◌∷◌, ◌++◌, Option, Some, None, set}
use Rattle.std.specs.List.{filter, find, position}
use Rattle.up_daemon.specs.declared.daemon.Daemon.{Daemon}
use Rattle.up_edge.specs.declared.passed.Passed.{Passed}
use Rattle.up_edge.specs.declared.passed.Passed.TheVariants.{Accepted, Read, Wrote, Closed}
use Rattle.up_daemon.specs.Daemons.{clients_of}
use Rattle.up_daemon.specs.Peers.{one_waits}
use Rattle.up_edge.specs.declared.happened.Happened.{Happened}
use Rattle.up_edge.specs.declared.happened.Happened.TheVariants.{Spawned, Polled, Signalled, Now}
use Rattle.up_run.specs.declared.silence.Silence.{Silence}

-- a client that has been silent since then has been so for too long, unless it may be silent for ever
abbrev pub is_over : ℕ → ℕ → ℕ → Bool
is_over since now most = nat_lt 0 most && nat_le most (now - since)

-- the first reading of the clock in a host's record, or the one before
abbrev pub reading_in : ℕ → List Happened → ℕ
reading_in before [] = before
reading_in before (Now reading ∷ happened) = reading
reading_in before (Spawned order pid ∷ happened) = reading_in before happened
reading_in before (Polled found ∷ happened) = reading_in before happened
reading_in before (Signalled who pid signal ∷ happened) = reading_in before happened

-- a silence of this client
abbrev pub is_of : ℕ → Silence → Bool
is_of client silence = silence.client == client

-- the silence of a client begins now: the one at this place, or one more, unless there was no memory for it
abbrev pub BeginsAt : Option ℕ → Silence → List Silence → List Silence → Type 0
BeginsAt (Some place) silence old new = new ≡ set old place silence
BeginsAt None silence old new = (new ≡ old ++ silence ∷ []) ⊎ (new ≡ old)

abbrev pub Begins : ℕ → ℕ → List Silence → List Silence → Type 0
Begins client now old new =
    BeginsAt (position (is_of client) old) (record { client = client; since = now }) old new

-- the silences without those of this client
abbrev pub without : ℕ → List Silence → List Silence
without client silences = filter (λ silence. not (is_of client silence)) silences

-- the same if these bytes were written to the client
abbrev pub NotesWritten : ℕ → ℕ → List ℕ → List Silence → List Silence → Type 0
NotesWritten now client [] old new = new ≡ old
NotesWritten now client (byte ∷ bytes) old new = Begins client now old new

-- what a call of the door makes of the silences: a client that comes, or to which something is written, is silent from now on, and one
-- that is closed not at all
abbrev pub Notes : ℕ → Passed → List Silence → List Silence → Type 0
Notes now (Accepted None) old new = new ≡ old
Notes now (Accepted (Some client)) old new = Begins client now old new
Notes now (Read client bytes) old new = new ≡ old
Notes now (Wrote client bytes) old new = NotesWritten now client bytes old new
Notes now (Closed client) old new = new ≡ without client old

-- the same of the calls of a round
abbrev pub NotesAll : ℕ → List Passed → List Silence → List Silence → Type 0
NotesAll now [] old new = new ≡ old
NotesAll now (passed ∷ others) old new =
    (between : List Silence) × Notes now passed old between × NotesAll now others between new

-- the silence of a client that waits for something begins now, if it has lasted for too long
abbrev pub excused : ℕ → ℕ → Daemon → Silence → Silence
excused now most daemon silence =
    if is_over silence.since now most && one_waits silence.client (clients_of daemon)
    then record { client = silence.client; since = now } else silence

-- the first that has lasted for too long
abbrev pub first_over : ℕ → ℕ → List Silence → Option Silence
first_over now most silences = find (λ silence. is_over silence.since now most) silences

-- the client that is named, and the silences then: it comes last, unless there was no memory for it
abbrev pub Names : List Silence → Option Silence → Option ℕ → List Silence → Type 0
Names old None named new = (named ≡ None) × (new ≡ old)
Names old (Some silence) named new = (named ≡ Some silence.client)
    × ((new ≡ without silence.client old ++ silence ∷ []) ⊎ (new ≡ without silence.client old))
