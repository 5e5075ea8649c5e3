-- Clients at their places.
use Rattle.std.proofs.Common.{◌≡◌, ◌<◌, ◌+◌, ◌∙◌, ◌++◌, ◌∷◌, [], ℕ, Bool, List, Some, true, length, take, drop, get_or, suc, refl, sym, ap, inl, inr, slice_set, append_assoc}
use Rattle.std.specs.List.{AllByRecursion}
use Rattle.std.proofs.Math.Seq.{drop-cons}
use Rattle.std.proofs.lemmas.List.{map-append, set-get_or, set_split, take-append-drop, take_more}
use Rattle.up_model.specs.Requests.{RequestValue}
use Rattle.up_model.specs.declared.request.Answer.{Answer}
use Rattle.up_daemon.specs.declared.clients.client.Client.{Client}
use Rattle.up_daemon.specs.Connected.{AreConnected}
use Rattle.up_daemon.specs.Hearing.{Enters, IsAnswered}
use Rattle.up_daemon.specs.Peers.{Peer, peer_of, peers_of, numbers_of, asked, answered, IsAtRest, IsEntered, IsQueued}

all_append : (P : Peer → Type 0) (peers others : List Peer) → AllByRecursion P peers → AllByRecursion P others → AllByRecursion P (peers ++ others)
all_append P [] others all more = more
all_append P (peer ∷ peers) others all more = (all.0, all_append P peers others all.1 more)

-- what holds of the first clients, and of the next
pub all_more : (P : Peer → Type 0) (clients : List Client) (place : ℕ) (d : Client) → place < length clients
    → AllByRecursion P (peers_of (take place clients)) → P (peer_of (get_or clients place d)) → AllByRecursion P (peers_of (take (place + 1) clients))
all_more P clients place d within all one =
    rw (take_more clients place d within, map-append peer_of (take place clients) (get_or clients place d ∷ []))
    (all_append P (peers_of (take place clients)) (peer_of (get_or clients place d) ∷ []) all (one, tt))

split_at : (clients : List Client) (place : ℕ) (d : Client) → place < length clients
    → peers_of clients ≡ peers_of (take place clients) ++ peer_of (get_or clients place d) ∷ peers_of (drop (suc place) clients)
split_at clients place d within =
    ap peers_of (sym (take-append-drop place clients) ∙ ap (λ rest. take place clients ++ rest) (drop-cons clients place d within))
    ∙ map-append peer_of (take place clients) (get_or clients place d ∷ drop (suc place) clients)

split_set : (clients : List Client) (place : ℕ) (client : Client) → place < length clients
    → peers_of (slice_set clients place client) ≡ peers_of (take place clients) ++ peer_of client ∷ peers_of (drop (suc place) clients)
split_set clients place client within =
    ap peers_of (set_split clients place client within) ∙ map-append peer_of (take place clients) (client ∷ drop (suc place) clients)

entered_peer : (id : ℕ) (request : RequestValue) (old new : Client) → Enters id (Some request) old new → peer_of new ≡ asked id new.waiting.items (peer_of old)
entered_peer id request old new entered = rw (entered.0, entered.3, entered.4, entered.5) refl

-- a request of the client at a place enters
pub entered_at : (id : ℕ) (request : RequestValue) (clients : List Client) (place : ℕ) (d new : Client) → place < length clients
    → AllByRecursion IsAtRest (peers_of (take place clients))
    → Enters id (Some request) (get_or clients place d) new → IsEntered id request (peers_of clients) (peers_of (slice_set clients place new))
entered_at id request clients place d new within rest entered =
    let old = get_or clients place d in (
      peers_of (take place clients),
      peers_of (drop (suc place) clients),
      peer_of old,
      new.waiting.items,
      split_at clients place d within,
      entered.1,
      entered.2,
      rw (sym (entered_peer id request old new entered)) (split_set clients place new within),
      rest,
    )

answered_peer : (id : ℕ) (answer : Answer) (old new : Client) → IsAnswered id answer true old new → peer_of new ≡ answered answer (peer_of old)
answered_peer id answer old new done = rw (done.0, done.2, done.3, done.4, done.5) refl

-- the client at a place is answered
pub answered_at : (id : ℕ) (answer : Answer) (clients : List Client) (place : ℕ) (d new : Client) → place < length clients
    → IsAnswered id answer true (get_or clients place d) new → IsQueued id answer (peers_of clients) (peers_of (slice_set clients place new))
answered_at id answer clients place d new within done =
    let old = get_or clients place d in
    inl (
      peers_of (take place clients),
      peers_of (drop (suc place) clients),
      peer_of old,
      split_at clients place d within,
      done.1,
      rw (sym (answered_peer id answer old new done)) (split_set clients place new within),
    )

-- the client at a place is as it was
pub same_at : (clients : List Client) (place : ℕ) (client new : Client) → new ≡ client → get_or clients place client ≡ client
    → slice_set clients place new ≡ clients
same_at clients place client new is value = ap (λ c. slice_set clients place c) (is ∙ sym value) ∙ set-get_or clients place client

numbers_append : (peers others : List Peer) → numbers_of (peers ++ others) ≡ numbers_of peers ++ numbers_of others
numbers_append peers others = map-append (λ (peer : Peer). peer.number) peers others

-- a client who changes keeps its number
pub entered_numbers : (id : ℕ) (request : RequestValue) (old new : List Peer) → IsEntered id request old new → numbers_of new ≡ numbers_of old
entered_numbers id request old new (before, after, peer, waiting, was, unanswered, next, is, rest) =
    rw (was, is, numbers_append before (peer ∷ after), numbers_append before (asked id waiting peer ∷ after)) refl

pub queued_numbers : (id : ℕ) (answer : Answer) (old new : List Peer) → IsQueued id answer old new → numbers_of new ≡ numbers_of old
queued_numbers id answer old new (inl (before, after, peer, was, unanswered, is)) =
    rw (was, is, numbers_append before (peer ∷ after), numbers_append before (answered answer peer ∷ after)) refl
queued_numbers id answer old new (inr same) = ap numbers_of same.0

-- one client more is done with
pub numbers_push : (connected : ℕ → Bool) (clients : List Client) (client : Client) (rest : List ℕ)
    → AreConnected connected (numbers_of (peers_of clients) ++ client.number ∷ rest)
    → AreConnected connected (numbers_of (peers_of (clients ++ client ∷ [])) ++ rest)
numbers_push connected clients client rest are =
    rw (map-append peer_of clients (client ∷ []), numbers_append (peers_of clients) (peer_of client ∷ []), append_assoc (numbers_of (peers_of clients)) (client.number ∷ []) rest) are

-- one client more has come
pub numbers_last : (connected : ℕ → Bool) (clients : List Client) (client : Client)
    → AreConnected connected (numbers_of (peers_of clients) ++ client.number ∷ [])
    → AreConnected connected (numbers_of (peers_of (clients ++ client ∷ [])))
numbers_last connected clients client are =
    rw (map-append peer_of clients (client ∷ []), numbers_append (peers_of clients) (peer_of client ∷ [])) are
