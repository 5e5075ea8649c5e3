-- What an entry and a exchange change for a client.
use Rattle.std.proofs.Common.{◌≡◌, sym, ◌∙◌, ◌++◌, ◌∷◌, ◌+◌, ◌==◌, [], ℕ, true, false, List, Option, None, Some, refl, ap, arith, eq-eqb, if◌then◌else◌, append_assoc, take, drop}
use Rattle.std.proofs.lemmas.List.{append-nil, take-append-drop}
use Rattle.up_model.specs.declared.output.Output.{Output}
use Rattle.up_model.specs.declared.output.Output.TheVariants as output
use Rattle.up_model.specs.declared.request.Answer.{Answer}
use Rattle.up_model.specs.Requests.{RequestValue}
use Rattle.up_wire.specs.Answers.{answer_frames}
use Rattle.up_model.specs.Values.{Bytes}
use Rattle.up_wire.specs.Frames.{Frames}
use Rattle.up_daemon.specs.Peers.{Peer, asked, answered, heard}
use Rattle.up_edge.specs.declared.passed.Passed.{Passed}
use Rattle.up_edge.specs.declared.passed.Passed.TheVariants as passed
use Rattle.up_daemon.specs.Exchanges.{Exchange, Asked, Replied, is_open, open_after, frames_for, written_to, weight, weight_given, asked_by, IsQuiet, HearsOther, HearsPiece}
use Rattle.up_daemon.specs.Laws.{IsServed}
use Rattle.up_daemon.proofs.Changes.{differ}

pub written_append : (n : ℕ) (entries more : List Passed) → written_to n (entries ++ more) ≡ written_to n entries ++ written_to n more
written_append n [] more = refl
written_append n (passed.Wrote other bytes ∷ entries) more =
    rw (written_append n entries more) (sym (append_assoc (if other == n then bytes else []) (written_to n entries) (written_to n more)))
written_append n (passed.Accepted other ∷ entries) more = written_append n entries more
written_append n (passed.Read other bytes ∷ entries) more = written_append n entries more
written_append n (passed.Closed other ∷ entries) more = written_append n entries more

-- an entry that is no write
pub silent : (n : ℕ) (entries : List Passed) (entry : Passed) → written_to n (entry ∷ []) ≡ [] → written_to n (entries ++ entry ∷ []) ≡ written_to n entries
silent n entries entry none = written_append n entries (entry ∷ []) ∙ ap (λ bytes. written_to n entries ++ bytes) none ∙ append-nil (written_to n entries)

pub silent_served : (clients : List Peer) (exchanges : List Exchange) (entries : List Passed) (entry : Passed) (peer : Peer)
    → written_to peer.number (entry ∷ []) ≡ [] → IsQuiet peer.number entry → IsServed clients exchanges entries peer → IsServed clients exchanges (entries ++ entry ∷ []) peer
silent_served clients exchanges entries entry peer none quiet served = record {
  before = served.before;
  from = served.from;
  same = served.same;
  unanswered = served.unanswered;
  bytes = ap (λ bytes. bytes ++ peer.answers) (silent peer.number entries entry none) ∙ served.bytes;
  heard = served.heard;
  requests = served.requests;
  pieces = HearsOther entries served.heard peer.rest entry quiet served.pieces;
}

-- bytes are written to another
pub other_written : (clients : List Peer) (exchanges : List Exchange) (entries : List Passed) (number : ℕ) (bytes : Bytes) (peer : Peer)
    → (number ≡ peer.number → ⊥) → IsServed clients exchanges entries peer → IsServed clients exchanges (entries ++ passed.Wrote number bytes ∷ []) peer
other_written clients exchanges entries number bytes peer apart served =
    silent_served clients exchanges entries (passed.Wrote number bytes) peer (rw (differ number peer.number apart) refl) tt served

wrote_self : (n : ℕ) (bytes : Bytes) → written_to n (passed.Wrote n bytes ∷ []) ≡ bytes
wrote_self n bytes = rw (eq-eqb n n refl) (append-nil bytes)

-- bytes are written to it, and wait no longer
pub self_written : (clients : List Peer) (exchanges : List Exchange) (entries : List Passed) (count : ℕ) (peer : Peer)
    → IsServed clients exchanges entries peer
    → IsServed clients exchanges (entries ++ passed.Wrote peer.number (take count peer.answers) ∷ []) (record peer { answers = drop count peer.answers })
self_written clients exchanges entries count peer served = record {
  before = served.before;
  from = served.from;
  same = served.same;
  unanswered = served.unanswered;
  bytes = ap (λ bytes. bytes ++ drop count peer.answers) (written_append peer.number entries (passed.Wrote peer.number (take count peer.answers) ∷ []))
      ∙ ap (λ bytes. (written_to peer.number entries ++ bytes) ++ drop count peer.answers) (wrote_self peer.number (take count peer.answers))
      ∙ append_assoc (written_to peer.number entries) (take count peer.answers) (drop count peer.answers)
      ∙ ap (λ bytes. written_to peer.number entries ++ bytes) (take-append-drop count peer.answers)
      ∙ served.bytes;
  heard = served.heard;
  requests = served.requests;
  pieces = HearsOther entries served.heard peer.rest (passed.Wrote peer.number (take count peer.answers)) tt served.pieces;
}

-- another's request enters
pub other_asked : (clients : List Peer) (exchanges : List Exchange) (entries : List Passed) (number id : ℕ) (request : RequestValue) (peer : Peer)
    → (number ≡ peer.number → ⊥) → IsServed clients exchanges entries peer → IsServed clients (Asked number id request ∷ exchanges) entries peer
other_asked clients exchanges entries number id request peer apart served = record {
  before = served.before;
  from = served.from;
  same = served.same;
  unanswered = rw (differ number peer.number apart) served.unanswered;
  bytes = served.bytes;
  heard = served.heard;
  pieces = served.pieces;
  requests = rw (differ number peer.number apart) (served.requests ∙ ap (λ those. those ++ peer.waiting) (sym (append-nil (asked_by peer.number exchanges))));
}

pub self_asked : (clients : List Peer) (exchanges : List Exchange) (entries : List Passed) (id : ℕ) (request : RequestValue) (waiting : List RequestValue) (peer : Peer)
    → peer.waiting ≡ request ∷ waiting → IsServed clients exchanges entries peer → IsServed clients (Asked peer.number id request ∷ exchanges) entries (asked id waiting peer)
self_asked clients exchanges entries id request waiting peer first served = record {
  before = served.before;
  from = served.from;
  same = served.same;
  unanswered = rw (eq-eqb peer.number peer.number refl) refl;
  bytes = served.bytes;
  heard = served.heard;
  pieces = served.pieces;
  requests = rw (eq-eqb peer.number peer.number refl) (served.requests ∙ ap (λ those. asked_by peer.number exchanges ++ those) first
      ∙ sym (append_assoc (asked_by peer.number exchanges) (request ∷ []) waiting));
}

not_open : (id : ℕ) (was : Option ℕ) → (was ≡ Some id → ⊥) → is_open id was ≡ false
not_open id None apart = refl
not_open id (Some other) apart = differ id other (λ same. apart (ap Some (sym same)))

-- another's request is answered
pub other_replied : (clients : List Peer) (exchanges : List Exchange) (entries : List Passed) (id : ℕ) (answer : Answer) (peer : Peer)
    → (peer.unanswered ≡ Some id → ⊥) → IsServed clients exchanges entries peer → IsServed clients (Replied id answer ∷ exchanges) entries peer
other_replied clients exchanges entries id answer peer apart served =
    let shut : is_open id (open_after peer.number served.before.unanswered exchanges) ≡ false
    = not_open id (open_after peer.number served.before.unanswered exchanges) (λ is. apart (served.unanswered ∙ is)) in
    record {
      before = served.before;
      from = served.from;
      same = served.same;
      unanswered = rw shut served.unanswered;
      heard = served.heard;
      pieces = served.pieces;
      requests = served.requests;
      bytes = rw shut (served.bytes ∙ ap (λ frames. served.before.answers ++ frames) (sym (append-nil (frames_for peer.number served.before.unanswered exchanges))));
    }

open_self : (id : ℕ) (was : Option ℕ) → was ≡ Some id → is_open id was ≡ true
open_self id was is = rw is (eq-eqb id id refl)

pub self_replied : (clients : List Peer) (exchanges : List Exchange) (entries : List Passed) (id : ℕ) (answer : Answer) (peer : Peer)
    → peer.unanswered ≡ Some id → IsServed clients exchanges entries peer → IsServed clients (Replied id answer ∷ exchanges) entries (answered answer peer)
self_replied clients exchanges entries id answer peer is served =
    let opened : is_open id (open_after peer.number served.before.unanswered exchanges) ≡ true
    = open_self id (open_after peer.number served.before.unanswered exchanges) (sym served.unanswered ∙ is) in
    record {
      before = served.before;
      from = served.from;
      same = served.same;
      unanswered = rw opened refl;
      heard = served.heard;
      pieces = served.pieces;
      requests = served.requests;
      bytes = rw opened (sym (append_assoc (written_to peer.number entries) peer.answers (answer_frames answer))
          ∙ ap (λ bytes. bytes ++ answer_frames answer) served.bytes
          ∙ append_assoc served.before.answers (frames_for peer.number served.before.unanswered exchanges) (answer_frames answer));
    }

-- weights
pub weight_append : (w : ℕ → Answer → ℕ) (outputs more : List Output) → weight w (outputs ++ more) ≡ weight w outputs + weight w more
weight_append w [] more = omega arith
weight_append w (output.Reply id answer ∷ outputs) more = let so_far = weight_append w outputs more in omega arith
weight_append w (output.Spawn order ∷ outputs) more = weight_append w outputs more
weight_append w (output.Signal who pid signal ∷ outputs) more = weight_append w outputs more
weight_append w (output.Emitted event ∷ outputs) more = weight_append w outputs more

pub weight_push : (w : ℕ → Answer → ℕ) (gave : List (List Output)) (outputs : List Output) → weight_given w (gave ++ outputs ∷ []) ≡ weight_given w gave + weight w outputs
weight_push w [] outputs = omega arith
weight_push w (those ∷ gave) outputs = let so_far = weight_push w gave outputs in omega arith

-- bytes are read from it
pub self_heard : (clients : List Peer) (exchanges : List Exchange) (entries : List Passed) (piece rest : Bytes) (requests : List RequestValue) (peer : Peer)
    → Frames (peer.rest ++ piece) requests rest → IsServed clients exchanges entries peer
    → IsServed clients exchanges (entries ++ passed.Read peer.number (Some piece) ∷ []) (heard requests rest peer)
self_heard clients exchanges entries piece rest requests peer frames served = record {
  before = served.before;
  from = served.from;
  same = served.same;
  unanswered = served.unanswered;
  bytes = ap (λ bytes. bytes ++ peer.answers) (silent peer.number entries (passed.Read peer.number (Some piece)) refl) ∙ served.bytes;
  heard = served.heard ++ requests;
  pieces = HearsPiece entries served.heard requests peer.rest piece rest frames served.pieces;
  requests = sym (append_assoc served.before.waiting served.heard requests) ∙ ap (λ those. those ++ requests) served.requests
      ∙ append_assoc (asked_by peer.number exchanges) peer.waiting requests;
}
