-- Who is closed in a round, and why.
use Rattle.std.specs.Prelude.{⊤, ◌≡◌, ◌≤◌, ◌⊎◌, ◌+◌, ◌++◌, ℕ, List, [], ◌∷◌, None, Some, length, map}
use Rattle.std.specs.List.{AllByRecursion}
use Rattle.up_model.specs.Values.{Bytes}
use Rattle.up_daemon.specs.Connected.{count_of}
use Rattle.up_daemon.specs.Counting.{faults_after}
use Rattle.up_daemon.specs.Exchanges.{IsAmong}
use Rattle.up_daemon.specs.Hearing.{IsBroken}
use Rattle.up_daemon.specs.Peers.{Peer, newcomer, numbers_of}
use Rattle.up_daemon.specs.RoundStates.{DaemonState}
use Rattle.up_edge.specs.declared.passed.Passed.{Passed}
use Rattle.up_edge.specs.declared.passed.Passed.TheVariants as passed

-- Why a client is closed: it sends no more; these bytes that were read from it break a frame; a read or a write of it failed.
pub data Cause : Type 0 where
  SendsNoMore : Cause
  BreaksFrame : (piece : Bytes) → Cause
  CallFails : Cause

-- a client that was closed, and why
pub record Departure : Type 0 where
  pub number : ℕ
  pub cause : Cause

abbrev pub departed : List Departure → List ℕ
departed departures = map (λ (departure : Departure). departure.number) departures

-- how many calls failed for the cause
abbrev pub failed_for : Cause → ℕ
failed_for SendsNoMore = 0
failed_for (BreaksFrame piece) = 0
failed_for CallFails = 1

abbrev pub calls_failed : List Departure → ℕ
calls_failed [] = 0
calls_failed (departure ∷ departures) = failed_for departure.cause + calls_failed departures

-- it is one of the entries
abbrev pub IsEntry : Passed → List Passed → Type 0
IsEntry one [] = ⊥
IsEntry one (entry ∷ entries) = (entry ≡ one) ⊎ IsEntry one entries

-- The record shows the cause: the end that was read from the client, or the bytes, which break a frame after those that it had sent
-- before, if it was there. A call that failed has no entry, and is counted.
abbrev pub IsCause : (clients : List Peer) → (entries : List Passed) → (number : ℕ) → Cause → Type 0
IsCause clients entries number SendsNoMore = IsEntry (passed.Read number (Some [])) entries
IsCause clients entries number (BreaksFrame piece) =
    IsEntry (passed.Read number (Some piece)) entries
    × ((before : Peer) × (before.number ≡ number) × (IsAmong before clients ⊎ (before ≡ newcomer number))
    × IsBroken before.fault (before.rest ++ piece))
IsCause clients entries number CallFails = ⊤

abbrev pub IsCaused : (clients : List Peer) → (entries : List Passed) → Departure → Type 0
IsCaused clients entries departure = IsCause clients entries departure.number departure.cause

-- the numbers of the clients that were let in
abbrev pub let_in : List Passed → List ℕ
let_in [] = []
let_in (passed.Accepted (Some number) ∷ entries) = number ∷ let_in entries
let_in (passed.Accepted None ∷ entries) = let_in entries
let_in (passed.Read number found ∷ entries) = let_in entries
let_in (passed.Wrote number bytes ∷ entries) = let_in entries
let_in (passed.Closed number ∷ entries) = let_in entries

-- and of those that were closed
abbrev pub closed_in : List Passed → List ℕ
closed_in [] = []
closed_in (passed.Closed number ∷ entries) = number ∷ closed_in entries
closed_in (passed.Accepted found ∷ entries) = closed_in entries
closed_in (passed.Read number found ∷ entries) = closed_in entries
closed_in (passed.Wrote number bytes ∷ entries) = closed_in entries

-- Each client that was there or came is still there or departed, once, and each that departed had a cause. The door closed no other. Its
-- faults are the calls that failed for those, their closes without an entry, and at most one accept.
pub record Departs (start end : DaemonState) : Type 0 where
  pub departures : List Departure
  pub all : (number : ℕ) → count_of number (numbers_of start.clients) + count_of number (let_in end.door.entries)
      ≡ count_of number (numbers_of end.clients) + count_of number (departed departures)
  pub caused : AllByRecursion (IsCaused start.clients end.door.entries) departures
  pub closed : (number : ℕ) → count_of number (closed_in end.door.entries) ≤ count_of number (departed departures)
  pub unrecorded : ℕ
  pub recorded : length (closed_in end.door.entries) + unrecorded ≡ length departures
  pub missed : ℕ
  pub few : missed ≤ 1
  pub failed : ℕ
  pub counted : failed ≡ calls_failed departures + unrecorded + missed
  pub faults : end.door.faults ≡ faults_after failed start.door.faults
