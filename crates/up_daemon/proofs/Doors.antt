-- One call of the door more.
use Rattle.std.proofs.Common.{◌≡◌, ◌∙◌, sym, ◌≤◌, ◌<◌, ◌∷◌, ◌⊎◌, [], ℕ, Bool, true, false, nat_lt, arith, List, Option, None, Some, IfSome, length, take, refl, inl, inr}
use Rattle.std.proofs.lemmas.List.{map-append, length-map, length-take}
use Rattle.std.specs.Prelude.{option_map}
use Rattle.std.proofs.lemmas.Bool.{ltb-true, ltb-false}
use Rattle.up_model.specs.Values.{Bytes}
use Rattle.up_daemon.specs.declared.clients.client.Client.{Client}
use Rattle.up_edge.specs.declared.passed.Passed.{Passed}
use Rattle.up_edge.specs.declared.passed.Passed.TheVariants.{Read}
use Rattle.up_edge.specs.Calls.{Calls, with_entry}
use Rattle.up_model.specs.Chronicle.{Chronicle}
use Rattle.up_model.specs.Configuration.{Configuration}
use Rattle.up_edge.specs.Closing.{ReportsClose}
use Rattle.up_daemon.specs.Connected.{AreConnected}
use Rattle.up_daemon.specs.Hearing.{most_waiting, most_read, Takes, Hears, IsTaken, IsPassedOver, IsReadOnce, IsWrittenOnce}
use Rattle.up_daemon.specs.Peers.{Peer, peer_of, peers_of, numbers_of, heard, newcomer}
use Rattle.up_daemon.specs.Rounds.{Reaches, PassesOver, FindsNothing, FindsBytes, FindsFault, FindsLast, ReadFails, Closes, ClosesUnrecorded, NothingWaits, Writes, WriteFails, LetsIn, NobodyWaits, AcceptFails, IsFull}
use Rattle.up_daemon.specs.RoundStates.{Part, ReadingFrom, WritingTo, LettingIn, ClosingOf, DaemonState, RoundState, HasItsClients, with_last}
use Rattle.up_daemon.specs.Seating.{seen, at_door}
use Rattle.up_daemon.specs.Visits.{most_clients, IsNew}
use Rattle.up_daemon.specs.Visits as visits
use Rattle.up_daemon.proofs.Connections.{nobody}

-- after a call for a client that stays, or that is to be closed
abbrev pub AfterCall : Bool → Configuration → Chronicle → DaemonState → Part → Client → RoundState → Type 0
AfterCall true config c start part client state = Reaches config c start part (with_last (peer_of client) state)
AfterCall false config c start part client state = Reaches config c start (ClosingOf client.number part) state

same_peer : (piece : Bytes) (old new : Client) → (takes : Takes piece old new) → peer_of new ≡ heard takes.requests new.feed.rest (peer_of old)
same_peer piece old new takes = rw (takes.same, takes.whole, takes.waiting, takes.unanswered, takes.answers) refl

hears : (config : Configuration) (c : Chronicle) (start : DaemonState) (unread : List Peer) (state : RoundState) (stays : Bool) (old new : Client) (byte : ℕ) (piece : Bytes)
    → length old.waiting.items < most_waiting → length (byte ∷ piece) ≤ most_read → Hears stays (byte ∷ piece) old new
    → (before : Calls Passed)
    → Reaches config c start (ReadingFrom (peer_of old ∷ unread)) (at_door before state)
    → AfterCall stays config c start (ReadingFrom unread) new (at_door (with_entry (Read old.number (Some (byte ∷ piece))) before) state)
hears config c start unread state true old new byte piece few within takes before reaches =
    rw (same_peer (byte ∷ piece) old new takes) (FindsBytes (byte ∷ piece) new.feed.rest takes.requests (peer_of old) unread (at_door before state) few within takes.frames reaches)
hears config c start unread state false old new byte piece few within breaks before reaches =
    rw breaks.0 (FindsFault (byte ∷ piece) (peer_of old) unread (at_door before state) few within breaks.1 reaches)

finds : (config : Configuration) (c : Chronicle) (start : DaemonState) (unread : List Peer) (state : RoundState) (stays : Bool) (old new : Client) (found : Option Bytes)
    → length old.waiting.items < most_waiting → IfSome found (λ piece. length piece ≤ most_read) → IsTaken stays found old new
    → (before : Calls Passed)
    → Reaches config c start (ReadingFrom (peer_of old ∷ unread)) (at_door before state)
    → AfterCall stays config c start (ReadingFrom unread) new (at_door (with_entry (Read old.number found) before) state)
finds config c start unread state stays old new None few within taken before reaches =
    rw (taken.0, taken.1) (FindsNothing (peer_of old) unread (at_door before state) few reaches)
finds config c start unread state stays old new (Some []) few within taken before reaches =
    rw (taken.0, taken.1) (FindsLast (peer_of old) unread (at_door before state) few reaches)
finds config c start unread state stays old new (Some (byte ∷ piece)) few within taken before reaches =
    hears config c start unread state stays old new byte piece few within taken before reaches

reads_once : (config : Configuration) (c : Chronicle) (start : DaemonState) (unread : List Peer) (state : RoundState) (stays : Bool) (old new : Client) (before after : Calls Passed)
    → length old.waiting.items < most_waiting → IsReadOnce stays old new before after
    → Reaches config c start (ReadingFrom (peer_of old ∷ unread)) (at_door before state)
    → AfterCall stays config c start (ReadingFrom unread) new (at_door after state)
reads_once config c start unread state stays old new before after few (inl failed) reaches =
    rw (failed.0, failed.1, failed.2) (ReadFails (peer_of old) unread (at_door before state) few reaches)
reads_once config c start unread state stays old new before after few (inr read) reaches =
    rw read.2 (finds config c start unread state stays old new read.0 few read.1 read.3 before reaches)

passes_over : (config : Configuration) (c : Chronicle) (start : DaemonState) (unread : List Peer) (state : RoundState) (stays : Bool) (old new : Client) (before after : Calls Passed)
    → most_waiting ≤ length old.waiting.items → IsPassedOver stays old new before after
    → Reaches config c start (ReadingFrom (peer_of old ∷ unread)) (at_door before state)
    → AfterCall stays config c start (ReadingFrom unread) new (at_door after state)
passes_over config c start unread state stays old new before after many same reaches =
    rw (same.0, same.1, same.2) (PassesOver (peer_of old) unread (at_door before state) many reaches)

below_or_not : (a b : ℕ) → (a < b) ⊎ (b ≤ a)
below_or_not a b = by_test (nat_lt a b) refl
  where
    by_test : (t : Bool) → nat_lt a b ≡ t → (a < b) ⊎ (b ≤ a)
    by_test true is = inl (ltb-true a b is)
    by_test false is = inr (ltb-false a b is)

-- a client is read, or passed over
pub reads : (config : Configuration) (c : Chronicle) (start : DaemonState) (unread : List Peer) (state : RoundState) (stays : Bool) (old new : Client) (before after : Calls Passed)
    → (most_waiting ≤ length old.waiting.items → IsPassedOver stays old new before after)
    → (length old.waiting.items < most_waiting → IsReadOnce stays old new before after)
    → Reaches config c start (ReadingFrom (peer_of old ∷ unread)) (at_door before state)
    → AfterCall stays config c start (ReadingFrom unread) new (at_door after state)
reads config c start unread state stays old new before after limit once reaches = by_count (below_or_not (length old.waiting.items) most_waiting)
  where
    by_count : (length old.waiting.items < most_waiting) ⊎ (most_waiting ≤ length old.waiting.items) → AfterCall stays config c start (ReadingFrom unread) new (at_door after state)
    by_count (inl few) = reads_once config c start unread state stays old new before after few (once few) reaches
    by_count (inr many) = passes_over config c start unread state stays old new before after many (limit many) reaches

writes_once : (config : Configuration) (c : Chronicle) (start : DaemonState) (unwritten : List Peer) (state : RoundState) (stays : Bool) (old new : Client) (before after : Calls Passed)
    → 0 < length old.answers.items → IsWrittenOnce stays old new before after
    → Reaches config c start (WritingTo (peer_of old ∷ unwritten)) (at_door before state)
    → AfterCall stays config c start (WritingTo unwritten) new (at_door after state)
writes_once config c start unwritten state stays old new before after some (inl failed) reaches =
    rw (failed.0, failed.1, failed.2) (WriteFails (peer_of old) unwritten (at_door before state) some reaches)
writes_once config c start unwritten state stays old new before after some (inr wrote) reaches =
    rw (wrote.1, wrote.2, wrote.3, wrote.4, wrote.5, wrote.6, wrote.7) (Writes wrote.0 (peer_of old) unwritten (at_door before state) some reaches)

none_waits : (config : Configuration) (c : Chronicle) (start : DaemonState) (unwritten : List Peer) (state : RoundState) (stays : Bool) (old new : Client) (before after : Calls Passed)
    → old.answers.items ≡ [] → IsPassedOver stays old new before after
    → Reaches config c start (WritingTo (peer_of old ∷ unwritten)) (at_door before state)
    → AfterCall stays config c start (WritingTo unwritten) new (at_door after state)
none_waits config c start unwritten state stays old new before after none same reaches =
    rw (same.0, same.1, same.2) (NothingWaits (peer_of old) unwritten (at_door before state) none reaches)

nil_or_some : (bytes : Bytes) → (bytes ≡ []) ⊎ (0 < length bytes)
nil_or_some [] = inl refl
nil_or_some (byte ∷ bytes) = inr (omega arith)

length_nil : (bytes : Bytes) → bytes ≡ [] → length bytes ≡ 0
length_nil bytes none = rw none refl

-- a client is written to, or nothing waits for it
pub writes : (config : Configuration) (c : Chronicle) (start : DaemonState) (unwritten : List Peer) (state : RoundState) (stays : Bool) (old new : Client) (before after : Calls Passed)
    → (length old.answers.items ≡ 0 → IsPassedOver stays old new before after)
    → (0 < length old.answers.items → IsWrittenOnce stays old new before after)
    → Reaches config c start (WritingTo (peer_of old ∷ unwritten)) (at_door before state)
    → AfterCall stays config c start (WritingTo unwritten) new (at_door after state)
writes config c start unwritten state stays old new before after none once reaches = by_count (nil_or_some old.answers.items)
  where
    by_count : (old.answers.items ≡ []) ⊎ (0 < length old.answers.items) → AfterCall stays config c start (WritingTo unwritten) new (at_door after state)
    by_count (inl empty) = none_waits config c start unwritten state stays old new before after empty (none (length_nil old.answers.items empty)) reaches
    by_count (inr some) = writes_once config c start unwritten state stays old new before after some (once some) reaches

-- a client is closed
pub closes : (config : Configuration) (c : Chronicle) (start : DaemonState) (part : Part) (state : RoundState) (number : ℕ) (before after : Calls Passed)
    → ReportsClose number before after → Reaches config c start (ClosingOf number part) (at_door before state)
    → Reaches config c start part (at_door after state)
closes config c start part state number before after (inl recorded) reaches = rw recorded (Closes number part (at_door before state) reaches)
closes config c start part state number before after (inr unrecorded) reaches = rw unrecorded (ClosesUnrecorded number part (at_door before state) reaches)

-- what a read found is no longer than the buffer
pub found_within : (found : Option ℕ) (buffer : Bytes) → length buffer ≡ most_read
    → IfSome (option_map (λ count. take count buffer) found) (λ piece. length piece ≤ most_read)
found_within None buffer size = tt
found_within (Some count) buffer size = omega (arith, length-take count buffer, size)

-- after an accept: another may come, or the clients are to be read
abbrev pub AfterAccept : Bool → Configuration → Chronicle → DaemonState → List Client → Calls Passed → RoundState → Type 0
AfterAccept true config c start clients calls state = Reaches config c start LettingIn (seen clients calls state)
AfterAccept false config c start clients calls state = Reaches config c start (ReadingFrom (peers_of clients)) (seen [] calls state)

-- as many are connected as may be
pub is_full : (config : Configuration) (c : Chronicle) (start : DaemonState) (state : RoundState) (clients : List Client) (calls : Calls Passed)
    → most_clients ≤ length (peers_of clients) → Reaches config c start LettingIn (seen clients calls state)
    → AfterAccept false config c start clients calls state
is_full config c start state clients calls many reaches = IsFull (seen clients calls state) many reaches

new_peer : (number : ℕ) (client : Client) → IsNew number client → peer_of client ≡ newcomer number
new_peer number client is_new = rw (is_new.named, is_new.said, is_new.waiting, is_new.unanswered, is_new.answers) refl

-- a client is let in, or none comes
pub accepts : (config : Configuration) (c : Chronicle) (start : DaemonState) (state : RoundState) (came : Bool) (connected : ℕ → Bool) (old new : List Client) (before after : Calls Passed)
    → (HasItsClients start → AreConnected connected (numbers_of (peers_of old)))
    → length (peers_of old) < most_clients → visits.LetsIn came connected old new before after
    → Reaches config c start LettingIn (seen old before state) → AfterAccept came config c start new after state
accepts config c start state true connected old new before after known few (number, client, unconnected, calls, list, is_new) reaches =
    rw (calls, list, map-append peer_of old (client ∷ []), new_peer number client is_new)
    (LetsIn number (seen old before state) few (λ has. nobody number (peers_of old) connected unconnected (known has)) reaches)
accepts config c start state false connected old new before after known few (list, inl none_waits) reaches =
    rw (list, none_waits) (NobodyWaits (seen old before state) few reaches)
accepts config c start state false connected old new before after known few (list, inr failed) reaches =
    rw (list, failed) (AcceptFails (seen old before state) few reaches)

-- a client is let in, or none comes, or there is no room
pub visits_once : (config : Configuration) (c : Chronicle) (start : DaemonState) (state : RoundState) (came : Bool) (connected : ℕ → Bool) (old new : List Client) (before after : Calls Passed) (size : ℕ)
    → (HasItsClients start → AreConnected connected (numbers_of (peers_of old)))
    → size ≡ length old
    → (most_clients ≤ size → (new ≡ old) × (after ≡ before)) → (most_clients ≤ size → came ≡ false)
    → (size < most_clients → visits.LetsIn came connected old new before after)
    → Reaches config c start LettingIn (seen old before state) → AfterAccept came config c start new after state
visits_once config c start state came connected old new before after size known is same none lets reaches = by_count (below_or_not size most_clients)
  where
    sized : length (peers_of old) ≡ size
    sized = length-map old peer_of ∙ sym is

    by_count : (size < most_clients) ⊎ (most_clients ≤ size) → AfterAccept came config c start new after state
    by_count (inl few) = accepts config c start state came connected old new before after known (rw sized few) (lets few) reaches
    by_count (inr many) =
        let kept = same many in
        rw (none many, kept.0, kept.1) (is_full config c start state old before (rw sized many) reaches)
