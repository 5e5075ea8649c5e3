-- No client is closed without a cause.
use Rattle.std.proofs.Common.{◌≡◌, sym, ◌∙◌, ◌++◌, ◌∷◌, ◌≤◌, ◌+◌, ◌⊎◌, [], ℕ, suc, List, None, Some, length, take, refl, ap, inl, inr, arith}
use Rattle.std.specs.List.{AllByRecursion}
use Rattle.std.proofs.lemmas.List.{append-nil, length-append}
use Rattle.up_edge.specs.Calls.{Calls, with_entry, with_failure}
use Rattle.up_model.specs.Chronicle.{Chronicle}
use Rattle.up_model.specs.Configuration.{Configuration}
use Rattle.up_model.specs.Requests.{RequestValue}
use Rattle.up_model.specs.declared.request.Answer.{Answer}
use Rattle.up_daemon.specs.Connected.{count_of}
use Rattle.up_daemon.specs.Counting.{faults_after}
use Rattle.up_daemon.specs.Departing.{Cause, SendsNoMore, BreaksFrame, CallFails, Departure, departed, failed_for, calls_failed, IsEntry, IsCause, IsCaused, let_in, closed_in}
use Rattle.up_daemon.specs.Exchanges.{IsAmong}
use Rattle.up_daemon.specs.Laws.{ClosesForCause}
use Rattle.up_daemon.specs.Peers.{Peer, newcomer, heard, answered, numbers_of, IsEntered, IsQueued}
use Rattle.up_edge.specs.declared.passed.Passed.{Passed}
use Rattle.up_edge.specs.declared.passed.Passed.TheVariants as passed
use Rattle.up_daemon.specs.Rounds.{Reaches, Opens, Begins, HasBegun, ReadsClock, ClockFails, FindsEnd, FindsNone, PollFails, LetsIn, NobodyWaits, AcceptFails, IsFull, PassesOver, FindsNothing, FindsBytes, FindsFault, FindsLast, ReadFails, Closes, ClosesUnrecorded, HasRead, Enters, HasServed, TakesTurn, HasTurned, NothingWaits, Writes, WriteFails, Starts, StartFails, Signals, SignalFails, PassesEvent, Replies}
use Rattle.up_daemon.specs.RoundStates.{Part, Beginning, ReadingClock, FindingEnds, LettingIn, ReadingFrom, TakingRequests, TakingTurns, WritingTo, ClosingOf, HasOrders, DaemonState, RoundState}
use Rattle.up_daemon.proofs.Connections.{count_append}

-- what a part of a round still has to do: clients that are to be read or written to; that are to be read; and that are to be closed
abbrev pub todo : Part → List Peer
todo (Beginning first) = []
todo ReadingClock = []
todo FindingEnds = []
todo LettingIn = []
todo (ReadingFrom unread) = unread
todo TakingRequests = []
todo (TakingTurns turns) = []
todo (WritingTo unwritten) = unwritten
todo (ClosingOf number part) = todo part

abbrev pub to_read : List Peer → Part → List Peer
to_read clients (Beginning first) = clients
to_read clients ReadingClock = clients
to_read clients FindingEnds = clients
to_read clients LettingIn = clients
to_read clients (ReadingFrom unread) = unread
to_read clients TakingRequests = []
to_read clients (TakingTurns turns) = []
to_read clients (WritingTo unwritten) = []
to_read clients (ClosingOf number part) = to_read clients part

abbrev pub to_close : Part → List ℕ
to_close (Beginning first) = []
to_close ReadingClock = []
to_close FindingEnds = []
to_close LettingIn = []
to_close (ReadingFrom unread) = []
to_close TakingRequests = []
to_close (TakingTurns turns) = []
to_close (WritingTo unwritten) = []
to_close (ClosingOf number part) = number ∷ to_close part

-- how many accepts may have failed
abbrev pub most_missed : Part → ℕ
most_missed (Beginning first) = 0
most_missed ReadingClock = 0
most_missed FindingEnds = 0
most_missed LettingIn = 0
most_missed (ReadingFrom unread) = 1
most_missed TakingRequests = 1
most_missed (TakingTurns turns) = 1
most_missed (WritingTo unwritten) = 1
most_missed (ClosingOf number part) = most_missed part

-- a client that is still to be read has sent what it had as the round began, or has just come
abbrev pub IsKnown : List Peer → Peer → Type 0
IsKnown clients peer =
    (before : Peer) × (before.number ≡ peer.number) × (IsAmong before clients ⊎ (before ≡ newcomer peer.number))
    × (before.rest ≡ peer.rest) × (before.fault ≡ peer.fault)

pub record Gone (start : DaemonState) (clients left unread : List Peer) (closing : List ℕ) (most : ℕ) (door : Calls Passed) : Type 0 where
  pub departures : List Departure
  pub all : (number : ℕ) → count_of number (numbers_of start.clients) + count_of number (let_in door.entries)
      ≡ count_of number (numbers_of clients) + count_of number (numbers_of left) + count_of number (departed departures)
  pub caused : AllByRecursion (IsCaused start.clients door.entries) departures
  pub closed : (number : ℕ) → count_of number (closed_in door.entries) + count_of number closing ≤ count_of number (departed departures)
  pub unrecorded : ℕ
  pub recorded : length (closed_in door.entries) + length closing + unrecorded ≡ length departures
  pub missed : ℕ
  pub few : missed ≤ most
  pub failed : ℕ
  pub counted : failed ≡ calls_failed departures + unrecorded + missed
  pub faults : door.faults ≡ faults_after failed start.door.faults
  pub known : AllByRecursion (IsKnown start.clients) unread

-- one entry more
entry_more : (one : Passed) (entries : List Passed) (entry : Passed) → IsEntry one entries → IsEntry one (entries ++ entry ∷ [])
entry_more one [] entry is = absurd is
entry_more one (other ∷ entries) entry (inl same) = inl same
entry_more one (other ∷ entries) entry (inr is) = inr (entry_more one entries entry is)

entry_last : (entries : List Passed) (entry : Passed) → IsEntry entry (entries ++ entry ∷ [])
entry_last [] entry = inl refl
entry_last (other ∷ entries) entry = inr (entry_last entries entry)

cause_more : (clients : List Peer) (entries : List Passed) (entry : Passed) (number : ℕ) (cause : Cause)
    → IsCause clients entries number cause → IsCause clients (entries ++ entry ∷ []) number cause
cause_more clients entries entry number SendsNoMore is = entry_more (passed.Read number (Some [])) entries entry is
cause_more clients entries entry number (BreaksFrame piece) is = (entry_more (passed.Read number (Some piece)) entries entry is.0, is.1)
cause_more clients entries entry number CallFails is = tt

caused_more : (clients : List Peer) (entries : List Passed) (entry : Passed) (departures : List Departure)
    → AllByRecursion (IsCaused clients entries) departures → AllByRecursion (IsCaused clients (entries ++ entry ∷ [])) departures
caused_more clients entries entry [] all = tt
caused_more clients entries entry (departure ∷ departures) all =
    (cause_more clients entries entry departure.number departure.cause all.0, caused_more clients entries entry departures all.1)

let_in_append : (entries : List Passed) (entry : Passed) → let_in (entries ++ entry ∷ []) ≡ let_in entries ++ let_in (entry ∷ [])
let_in_append [] entry = refl
let_in_append (passed.Accepted (Some number) ∷ entries) entry = ap (λ those. number ∷ those) (let_in_append entries entry)
let_in_append (passed.Accepted None ∷ entries) entry = let_in_append entries entry
let_in_append (passed.Read number found ∷ entries) entry = let_in_append entries entry
let_in_append (passed.Wrote number bytes ∷ entries) entry = let_in_append entries entry
let_in_append (passed.Closed number ∷ entries) entry = let_in_append entries entry

closed_append : (entries : List Passed) (entry : Passed) → closed_in (entries ++ entry ∷ []) ≡ closed_in entries ++ closed_in (entry ∷ [])
closed_append [] entry = refl
closed_append (passed.Accepted found ∷ entries) entry = closed_append entries entry
closed_append (passed.Read number found ∷ entries) entry = closed_append entries entry
closed_append (passed.Wrote number bytes ∷ entries) entry = closed_append entries entry
closed_append (passed.Closed number ∷ entries) entry = ap (λ those. number ∷ those) (closed_append entries entry)

-- nobody more
none_more : (numbers more : List ℕ) → more ≡ [] → numbers ++ more ≡ numbers
none_more numbers more none = ap (λ those. numbers ++ those) none ∙ append-nil numbers

-- one client more
numbers_push : (number : ℕ) (peers : List Peer) (peer : Peer)
    → count_of number (numbers_of (peers ++ peer ∷ [])) ≡ count_of number (numbers_of peers) + count_of number (peer.number ∷ [])
numbers_push number [] peer = omega arith
numbers_push number (other ∷ peers) peer = let so_far = numbers_push number peers peer in omega arith

-- one client changes, but not its number
numbers_put : (before after : List Peer) (old new : Peer) → new.number ≡ old.number
    → numbers_of (before ++ new ∷ after) ≡ numbers_of (before ++ old ∷ after)
numbers_put [] after old new same = ap (λ number. number ∷ numbers_of after) same
numbers_put (other ∷ before) after old new same = ap (λ those. other.number ∷ those) (numbers_put before after old new same)

entered_numbers : (id : ℕ) (request : RequestValue) (old new : List Peer) → IsEntered id request old new → numbers_of new ≡ numbers_of old
entered_numbers id request old new (before, after, peer, waiting, was, none, first, is, rest) = rw (is, was) (numbers_put before after peer _ refl)

queued_numbers : (id : ℕ) (answer : Answer) (old new : List Peer) → IsQueued id answer old new → numbers_of new ≡ numbers_of old
queued_numbers id answer old new (inl (before, after, peer, was, waits, is)) = rw (is, was) (numbers_put before after peer _ refl)
queued_numbers id answer old new (inr (same, none)) = ap numbers_of same

-- who is known
known_first : (clients peers : List Peer) → ((peer : Peer) → IsAmong peer peers → IsAmong peer clients) → AllByRecursion (IsKnown clients) peers
known_first clients [] among = tt
known_first clients (peer ∷ peers) among =
    ((peer, refl, inl (among peer (inl refl)), refl, refl), known_first clients peers (λ other is. among other (inr is)))

known_push : (clients peers : List Peer) (number : ℕ) → AllByRecursion (IsKnown clients) peers
    → AllByRecursion (IsKnown clients) (peers ++ newcomer number ∷ [])
known_push clients [] number all = ((newcomer number, refl, inr refl, refl, refl), tt)
known_push clients (peer ∷ peers) number all = (all.0, known_push clients peers number all.1)

known_put : (clients before after : List Peer) (peer : Peer) (answer : Answer)
    → AllByRecursion (IsKnown clients) (before ++ peer ∷ after) → AllByRecursion (IsKnown clients) (before ++ answered answer peer ∷ after)
known_put clients [] after peer answer all = (all.0, all.1)
known_put clients (other ∷ before) after peer answer all = (all.0, known_put clients before after peer answer all.1)

known_queued : (clients : List Peer) (id : ℕ) (answer : Answer) (old new : List Peer) → IsQueued id answer old new
    → AllByRecursion (IsKnown clients) old → AllByRecursion (IsKnown clients) new
known_queued clients id answer old new (inl (before, after, peer, was, waits, is)) all =
    rw is (known_put clients before after peer answer (rw was at all))
known_queued clients id answer old new (inr (same, none)) all = rw same all

known_here : (clients : List Peer) (id : ℕ) (answer : Answer) (old new : List Peer) (part : Part) → HasOrders part → IsQueued id answer old new
    → AllByRecursion (IsKnown clients) (to_read old part) → AllByRecursion (IsKnown clients) (to_read new part)
known_here clients id answer old new (Beginning first) here queued all = known_queued clients id answer old new queued all
known_here clients id answer old new ReadingClock here queued all = absurd here
known_here clients id answer old new FindingEnds here queued all = known_queued clients id answer old new queued all
known_here clients id answer old new LettingIn here queued all = absurd here
known_here clients id answer old new (ReadingFrom unread) here queued all = absurd here
known_here clients id answer old new TakingRequests here queued all = tt
known_here clients id answer old new (TakingTurns turns) here queued all = tt
known_here clients id answer old new (WritingTo unwritten) here queued all = absurd here
known_here clients id answer old new (ClosingOf number part) here queued all = absurd here

-- a call of the door that lets nobody in and closes nobody
says : (start : DaemonState) (clients left unread : List Peer) (closing : List ℕ) (most : ℕ) (door : Calls Passed) (entry : Passed)
    → let_in (entry ∷ []) ≡ [] → closed_in (entry ∷ []) ≡ []
    → Gone start clients left unread closing most door → Gone start clients left unread closing most (with_entry entry door)
says start clients left unread closing most door entry nobody none was =
    let same_in : let_in (door.entries ++ entry ∷ []) ≡ let_in door.entries =
    let_in_append door.entries entry ∙ none_more (let_in door.entries) (let_in (entry ∷ [])) nobody in
    let same_closed : closed_in (door.entries ++ entry ∷ []) ≡ closed_in door.entries =
    closed_append door.entries entry ∙ none_more (closed_in door.entries) (closed_in (entry ∷ [])) none in
    record {
      departures = was.departures;
      all = λ number. rw same_in (was.all number);
      caused = caused_more start.clients door.entries entry was.departures was.caused;
      closed = λ number. rw same_closed (was.closed number);
      unrecorded = was.unrecorded;
      recorded = rw same_closed was.recorded;
      missed = was.missed;
      few = was.few;
      failed = was.failed;
      counted = was.counted;
      faults = was.faults;
      known = was.known;
    }

-- a client is let in
comes : (start : DaemonState) (clients : List Peer) (door : Calls Passed) (number : ℕ)
    → Gone start clients [] clients [] 0 door
    → Gone start (clients ++ newcomer number ∷ []) [] (clients ++ newcomer number ∷ []) [] 0 (with_entry (passed.Accepted (Some number)) door)
comes start clients door number was =
    let entry : Passed = passed.Accepted (Some number) in
    let more_in : let_in (door.entries ++ entry ∷ []) ≡ let_in door.entries ++ number ∷ [] = let_in_append door.entries entry in
    let same_closed : closed_in (door.entries ++ entry ∷ []) ≡ closed_in door.entries =
    closed_append door.entries entry ∙ append-nil (closed_in door.entries) in
    record {
      departures = was.departures;
      all = λ other. rw more_in (
          let before = was.all other in let came = count_append other (let_in door.entries) (number ∷ []) in
          let here = numbers_push other clients (newcomer number) in omega arith);
      caused = caused_more start.clients door.entries entry was.departures was.caused;
      closed = λ other. rw same_closed (was.closed other);
      unrecorded = was.unrecorded;
      recorded = rw same_closed was.recorded;
      missed = was.missed;
      few = was.few;
      failed = was.failed;
      counted = was.counted;
      faults = was.faults;
      known = known_push start.clients clients number was.known;
    }

-- one more accept failed
misses : (start : DaemonState) (clients left unread : List Peer) (closing : List ℕ) (door : Calls Passed)
    → Gone start clients left unread closing 0 door → Gone start clients left unread closing 1 (with_failure door)
misses start clients left unread closing door was = record {
  departures = was.departures;
  all = was.all;
  caused = was.caused;
  closed = was.closed;
  unrecorded = was.unrecorded;
  recorded = was.recorded;
  missed = was.missed + 1;
  few = let none = was.few in omega arith;
  failed = suc was.failed;
  counted = let so_far = was.counted in omega arith;
  faults = rw was.faults refl;
  known = was.known;
}

-- all clients are to be read now, or to be written to
opens : (start : DaemonState) (clients before unread : List Peer) (most : ℕ) (door : Calls Passed)
    → most ≤ 1 → AllByRecursion (IsKnown start.clients) unread
    → Gone start clients [] before [] most door → Gone start [] clients unread [] 1 door
opens start clients before unread most door few known was = record {
  departures = was.departures;
  all = λ number. let so_far = was.all number in omega arith;
  caused = was.caused;
  closed = was.closed;
  unrecorded = was.unrecorded;
  recorded = was.recorded;
  missed = was.missed;
  few = let so_few = was.few in omega arith;
  failed = was.failed;
  counted = was.counted;
  faults = was.faults;
  known = known;
}

-- the next client stays, with the same number
stays : (start : DaemonState) (clients left unread_before unread : List Peer) (most : ℕ) (door : Calls Passed) (peer new : Peer)
    → new.number ≡ peer.number → AllByRecursion (IsKnown start.clients) unread
    → Gone start clients (peer ∷ left) unread_before [] most door → Gone start (clients ++ new ∷ []) left unread [] most door
stays start clients left unread_before unread most door peer new same known was = record {
  departures = was.departures;
  all = λ number.
      let so_far = was.all number in
      let pushed : count_of number (numbers_of (clients ++ new ∷ [])) ≡ count_of number (numbers_of clients) + count_of number (peer.number ∷ []) =
      rw (sym same) (numbers_push number clients new) in
      omega arith;
  caused = was.caused;
  closed = was.closed;
  unrecorded = was.unrecorded;
  recorded = was.recorded;
  missed = was.missed;
  few = was.few;
  failed = was.failed;
  counted = was.counted;
  faults = was.faults;
  known = known;
}

-- the next client departs, by what was read from it
leaves : (start : DaemonState) (clients left unread_before unread : List Peer) (most : ℕ) (door : Calls Passed) (peer : Peer) (cause : Cause)
    → failed_for cause ≡ 0 → IsCause start.clients door.entries peer.number cause → AllByRecursion (IsKnown start.clients) unread
    → Gone start clients (peer ∷ left) unread_before [] most door → Gone start clients left unread (peer.number ∷ []) most door
leaves start clients left unread_before unread most door peer cause none is known was = record {
  departures = record { number = peer.number; cause = cause } ∷ was.departures;
  all = λ number. let so_far = was.all number in omega arith;
  caused = (is, was.caused);
  closed = λ number. let so_far = was.closed number in omega arith;
  unrecorded = was.unrecorded;
  recorded = let so_far = was.recorded in omega arith;
  missed = was.missed;
  few = was.few;
  failed = was.failed;
  counted = let so_far = was.counted in omega arith;
  faults = was.faults;
  known = known;
}

-- or by a call that failed
fails : (start : DaemonState) (clients left unread_before unread : List Peer) (most : ℕ) (door : Calls Passed) (peer : Peer)
    → AllByRecursion (IsKnown start.clients) unread
    → Gone start clients (peer ∷ left) unread_before [] most door → Gone start clients left unread (peer.number ∷ []) most (with_failure door)
fails start clients left unread_before unread most door peer known was = record {
  departures = record { number = peer.number; cause = CallFails } ∷ was.departures;
  all = λ number. let so_far = was.all number in omega arith;
  caused = (tt, was.caused);
  closed = λ number. let so_far = was.closed number in omega arith;
  unrecorded = was.unrecorded;
  recorded = let so_far = was.recorded in omega arith;
  missed = was.missed;
  few = was.few;
  failed = suc was.failed;
  counted = let so_far = was.counted in omega arith;
  faults = rw was.faults refl;
  known = known;
}

-- it is closed, with an entry or without
closes : (start : DaemonState) (clients left unread : List Peer) (closing : List ℕ) (most : ℕ) (door : Calls Passed) (number : ℕ)
    → Gone start clients left unread (number ∷ closing) most door → Gone start clients left unread closing most (with_entry (passed.Closed number) door)
closes start clients left unread closing most door number was =
    let entry : Passed = passed.Closed number in
    let same_in : let_in (door.entries ++ entry ∷ []) ≡ let_in door.entries = let_in_append door.entries entry ∙ append-nil (let_in door.entries) in
    let more_closed : closed_in (door.entries ++ entry ∷ []) ≡ closed_in door.entries ++ number ∷ [] = closed_append door.entries entry in
    record {
      departures = was.departures;
      all = λ other. rw same_in (was.all other);
      caused = caused_more start.clients door.entries entry was.departures was.caused;
      closed = λ other. rw more_closed (
          let so_far = was.closed other in let both = count_append other (closed_in door.entries) (number ∷ []) in omega arith);
      unrecorded = was.unrecorded;
      recorded = rw more_closed (let so_far = was.recorded in let both = length-append (closed_in door.entries) (number ∷ []) in omega arith);
      missed = was.missed;
      few = was.few;
      failed = was.failed;
      counted = was.counted;
      faults = was.faults;
      known = was.known;
    }

closes_unrecorded : (start : DaemonState) (clients left unread : List Peer) (closing : List ℕ) (most : ℕ) (door : Calls Passed) (number : ℕ)
    → Gone start clients left unread (number ∷ closing) most door → Gone start clients left unread closing most (with_failure door)
closes_unrecorded start clients left unread closing most door number was = record {
  departures = was.departures;
  all = was.all;
  caused = was.caused;
  closed = λ other. let so_far = was.closed other in omega arith;
  unrecorded = was.unrecorded + 1;
  recorded = let so_far = was.recorded in omega arith;
  missed = was.missed;
  few = was.few;
  failed = suc was.failed;
  counted = let so_far = was.counted in omega arith;
  faults = rw was.faults refl;
  known = was.known;
}

-- other clients with the same numbers
changes : (start : DaemonState) (old new left unread_before unread : List Peer) (closing : List ℕ) (most : ℕ) (door : Calls Passed)
    → numbers_of new ≡ numbers_of old → AllByRecursion (IsKnown start.clients) unread
    → Gone start old left unread_before closing most door → Gone start new left unread closing most door
changes start old new left unread_before unread closing most door same known was = record {
  departures = was.departures;
  all = λ number. rw same (was.all number);
  caused = was.caused;
  closed = was.closed;
  unrecorded = was.unrecorded;
  recorded = was.recorded;
  missed = was.missed;
  few = was.few;
  failed = was.failed;
  counted = was.counted;
  faults = was.faults;
  known = known;
}

-- in each part of a round, who is gone departed for a cause
pub gone : (config : Configuration) (c : Chronicle) (start : DaemonState) (part : Part) (state : RoundState) → Reaches config c start part state
    → Gone start state.clients (todo part) (to_read state.clients part) (to_close part) (most_missed part) state.door
gone config c start part state Opens = record {
  departures = [];
  all = λ number. omega arith;
  caused = tt;
  closed = λ number. omega arith;
  unrecorded = 0;
  recorded = refl;
  missed = 0;
  few = omega arith;
  failed = 0;
  counted = refl;
  faults = refl;
  known = known_first start.clients start.clients (λ peer is. is);
}
gone config c start part state (Begins event later outputs was none is reaches) =
    let so_far = gone config c start _ _ reaches in
    so_far
gone config c start part state (HasBegun was none reaches) =
    let so_far = gone config c start _ _ reaches in
    so_far
gone config c start part state (ReadsClock reading outputs was is reaches) =
    let so_far = gone config c start _ _ reaches in
    so_far
gone config c start part state (ClockFails was reaches) =
    let so_far = gone config c start _ _ reaches in
    so_far
gone config c start part state (FindsEnd who its how outputs was none is reaches) =
    let so_far = gone config c start _ _ reaches in
    so_far
gone config c start part state (FindsNone was none reaches) =
    let so_far = gone config c start _ _ reaches in
    so_far
gone config c start part state (PollFails was none reaches) =
    let so_far = gone config c start _ _ reaches in
    so_far
gone config c start part state (LetsIn number was few nobody reaches) =
    comes start was.clients was.door number (gone config c start _ _ reaches)
gone config c start part state (NobodyWaits was few reaches) =
    let so_far = gone config c start _ _ reaches in
    says start [] was.clients was.clients [] 1 was.door (passed.Accepted None) refl refl
    (opens start was.clients was.clients was.clients 0 was.door (omega arith) so_far.known so_far)
gone config c start part state (AcceptFails was few reaches) =
    let so_far = gone config c start _ _ reaches in
    opens start was.clients was.clients was.clients 1 (with_failure was.door) (omega arith) so_far.known
    (misses start was.clients [] was.clients [] was.door so_far)
gone config c start part state (IsFull was many reaches) =
    let so_far = gone config c start _ _ reaches in
    opens start was.clients was.clients was.clients 0 was.door (omega arith) so_far.known so_far
gone config c start part state (PassesOver peer unread was many reaches) =
    let so_far = gone config c start _ _ reaches in
    stays start was.clients unread (peer ∷ unread) unread 1 was.door peer peer refl so_far.known.1 so_far
gone config c start part state (FindsNothing peer unread was few reaches) =
    let so_far = gone config c start _ _ reaches in
    says start _ unread unread [] 1 was.door (passed.Read peer.number None) refl refl
    (stays start was.clients unread (peer ∷ unread) unread 1 was.door peer peer refl so_far.known.1 so_far)
gone config c start part state (FindsBytes piece rest requests peer unread was few is frames reaches) =
    let so_far = gone config c start _ _ reaches in
    says start _ unread unread [] 1 was.door (passed.Read peer.number (Some piece)) refl refl
    (stays start was.clients unread (peer ∷ unread) unread 1 was.door peer (heard requests rest peer) refl so_far.known.1 so_far)
gone config c start part state (FindsFault piece peer unread was few is broken reaches) =
    let so_far = gone config c start _ _ reaches in
    broke so_far.known.0 so_far
  where
    entry : Passed
    entry = passed.Read peer.number (Some piece)

    broke : IsKnown start.clients peer → Gone start was.clients (peer ∷ unread) (peer ∷ unread) [] 1 was.door
        → Gone start was.clients unread unread (peer.number ∷ []) 1 (with_entry entry was.door)
    broke (before, same, from, rest, fault) so_far =
        let more = says start was.clients (peer ∷ unread) (peer ∷ unread) [] 1 was.door entry refl refl so_far in
        leaves start was.clients unread (peer ∷ unread) unread 1 (with_entry entry was.door) peer (BreaksFrame piece) refl
        (entry_last was.door.entries entry, (before, same, from, rw (rest, fault) broken)) so_far.known.1 more
gone config c start part state (FindsLast peer unread was few reaches) =
    let so_far = gone config c start _ _ reaches in
    let more = says start was.clients (peer ∷ unread) (peer ∷ unread) [] 1 was.door (passed.Read peer.number (Some [])) refl refl so_far in
    leaves start was.clients unread (peer ∷ unread) unread 1 _ peer SendsNoMore refl
    (entry_last was.door.entries (passed.Read peer.number (Some []))) so_far.known.1 more
gone config c start part state (ReadFails peer unread was few reaches) =
    let so_far = gone config c start _ _ reaches in
    fails start was.clients unread (peer ∷ unread) unread 1 was.door peer so_far.known.1 so_far
gone config c start part state (Closes number among was reaches) =
    closes start was.clients (todo among) (to_read was.clients among) (to_close among) (most_missed among) was.door number (gone config c start _ _ reaches)
gone config c start part state (ClosesUnrecorded number among was reaches) =
    closes_unrecorded start was.clients (todo among) (to_read was.clients among) (to_close among) (most_missed among) was.door number (gone config c start _ _ reaches)
gone config c start part state (HasRead was reaches) =
    let so_far = gone config c start _ _ reaches in
    so_far
gone config c start part state (Enters request given source clients outputs was none below entered asked is reaches) =
    changes start was.clients clients [] [] [] [] 1 was.door (entered_numbers was.next request was.clients clients entered) tt (gone config c start _ _ reaches)
gone config c start part state (HasServed was none rest reaches) =
    let so_far = gone config c start _ _ reaches in
    so_far
gone config c start part state (TakesTurn turns outputs was none few touches is reaches) =
    let so_far = gone config c start _ _ reaches in
    so_far
gone config c start part state (HasTurned turns was none rest reaches) =
    opens start was.clients [] [] 1 was.door (omega arith) tt (gone config c start _ _ reaches)
gone config c start part state (NothingWaits peer unwritten was none reaches) =
    stays start was.clients unwritten [] [] 1 was.door peer peer refl tt (gone config c start _ _ reaches)
gone config c start part state (Writes count peer unwritten was some reaches) =
    says start _ unwritten [] [] 1 was.door (passed.Wrote peer.number (take count peer.answers)) refl refl
    (stays start was.clients unwritten [] [] 1 was.door peer _ refl tt (gone config c start _ _ reaches))
gone config c start part state (WriteFails peer unwritten was some reaches) =
    fails start was.clients unwritten [] [] 1 was.door peer tt (gone config c start _ _ reaches)
gone config c start part state (Starts among here order pid outputs left was first is reaches) = gone config c start _ _ reaches
gone config c start part state (StartFails among here order outputs left was first is reaches) = gone config c start _ _ reaches
gone config c start part state (Signals among here who pid signal left was first reaches) = gone config c start _ _ reaches
gone config c start part state (SignalFails among here who pid signal left was first reaches) = gone config c start _ _ reaches
gone config c start part state (PassesEvent among here event left was first reaches) = gone config c start _ _ reaches
gone config c start part state (Replies among here id answer left clients was first is reaches) =
    let so_far = gone config c start _ _ reaches in
    changes start was.clients clients (todo among) (to_read was.clients among) (to_read clients among) (to_close among) (most_missed among) was.door
    (queued_numbers id answer was.clients clients is) (known_here start.clients id answer was.clients clients among here is so_far.known) so_far

pub closes_for_cause : ClosesForCause
closes_for_cause config c start fed gave end round =
    let all = gone config c start _ _ round in
    record {
      departures = all.departures;
      all = λ number. let so_far = all.all number in omega arith;
      caused = all.caused;
      closed = λ number. let so_far = all.closed number in omega arith;
      unrecorded = all.unrecorded;
      recorded = let so_far = all.recorded in omega arith;
      missed = all.missed;
      few = all.few;
      failed = all.failed;
      counted = all.counted;
      faults = all.faults;
    }
