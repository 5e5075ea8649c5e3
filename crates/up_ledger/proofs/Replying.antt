-- The replies of a release are those to the clients that are kept as holders.
use Rattle.std.proofs.Common.{◌≡◌, ℕ, ◌+◌, ◌<◌, ◌≤◌, Bool, false, List, [], ◌∷◌, ◌++◌, length, map, Option, None, Some, option_map, refl, sym, ◌∙◌, ap, arith, add-one, append_assoc, append-nil, drop, drop-cons, get_or}
use Rattle.up_model.specs.declared.input.Input.TheVariants as input
use Rattle.up_model.specs.declared.output.Output.{Output}
use Rattle.up_model.specs.Chronicle.{Chronicle, Entry, Given, Queued, Replied}
use Rattle.up_model.specs.Configuration.{Configuration}
use Rattle.up_model.specs.Outputs.{outputs_of, reply_of}
use Rattle.up_model.specs.Readings.{entry_at, id_of, id_at}
use Rattle.up_model.specs.Replies.{answering, answering_one, answer_to, request_in, request_at}
use Rattle.up_model.specs.Requests.{RequestValue}
use Rattle.up_model.specs.Values.{Bytes}
use Rattle.up_model.proofs.Places.{older-other}
use Rattle.up_job.specs.declared.holder.Holder.{Holder}
use Rattle.up_job.specs.declared.holder.Holder.TheVariants as holder
use Rattle.up_book.specs.Keeps.{AreOlder}
use Rattle.up_ledger.specs.Replying.{any_client, reply_to, replies_to}
use Rattle.up_book.specs.Summaries.{ByEvent, ByClient, holding_in, holding_at}
use Rattle.up_book.specs.Views.{Places, holding_of}

-- a chronicle with more entries in front
pub record Extends (c d : Chronicle) : Type 0 where
  pub longer : length c ≤ length d
  pub same : (p : ℕ) → p < length c → entry_at p d ≡ entry_at p c

extends-more : (c d : Chronicle) (e : Entry) → Extends c d → Extends c (e ∷ d)
extends-more c d e x = record {
  longer = omega (arith, x.longer);
  same = λ p older. rw (older-other (length d) p (omega (arith, older, x.longer))) (x.same p older);
}

abbrev one_reply : ℕ → Option RequestValue → Option ℕ → (failed : Bool) → Bytes → List Output
one_reply place None id failed told = []
one_reply place (Some request) id failed told = reply_of id (answer_to request.command failed told)

-- what is answered by a place is what is answered to the holder
reply-same : (places : Places) (h : Holder) (p : ℕ) (its : Option Entry) (failed : Bool) (told : Bytes) → holding_of places h ≡ holding_in p its → one_reply p (request_in its) (id_of its) failed told ≡ reply_to h failed told
reply-same places (holder.Client id command) p (Some (Given (input.Request number request))) failed told same =
    let numbers : number ≡ id = cc in
    let commands : request.command ≡ command = cc in
    rw (numbers, commands) refl
reply-same places (holder.Client id command) p (Some (Queued origin event)) failed told same = absurd cc
reply-same places (holder.Client id command) p other failed told same = absurd cc
reply-same places (holder.Event id) p (Some (Given (input.Request number request))) failed told same = absurd (by_place (places id) same)
  where
    by_place : (found : Option ℕ) → option_map ByEvent found ≡ Some (ByClient number request.command) → ⊥
    by_place None h = absurd cc
    by_place (Some q) h = absurd cc
reply-same places (holder.Event id) p other failed told same = refl

-- one more
one-out : (config : Configuration) (p : ℕ) (request : Option RequestValue) (failed : Bool) (told : Bytes) (c d : Chronicle) → id_at p d ≡ id_at p c
    → outputs_of (answering_one p request failed told ++ d) ≡ outputs_of d ++ one_reply p request (id_at p c) failed told
unfolding outputs_of
one-out config p None failed told c d same = sym (append-nil (outputs_of d))
one-out config p (Some request) failed told c d same = ap (λ id. outputs_of d ++ reply_of id (answer_to request.command failed told)) same

extends-one : (p : ℕ) (request : Option RequestValue) (failed : Bool) (told : Bytes) (c d : Chronicle) → Extends c d → Extends c (answering_one p request failed told ++ d)
extends-one p None failed told c d x = x
extends-one p (Some request) failed told c d x = extends-more c d (Replied p (answer_to request.command failed told)) x

pub replies-out : (places : Places) (config : Configuration) (c : Chronicle) (hs : List ℕ) (its : List Holder) (failed : Bool) (told : Bytes) (d : Chronicle) → AreOlder (length c) hs
    → map (holding_of places) its ≡ map (holding_at c) hs → Extends c d → outputs_of (answering hs failed told c ++ d) ≡ outputs_of d ++ replies_to its failed told
replies-out places config c [] [] failed told d older same x = sym (append-nil (outputs_of d))
replies-out places config c [] (h ∷ its) failed told d older same x = absurd cc
replies-out places config c (p ∷ hs) [] failed told d older same x = absurd cc
replies-out places config c (p ∷ hs) (h ∷ its) failed told d older same x =
    let first : holding_of places h ≡ holding_at c p = cc in
    let rest : map (holding_of places) its ≡ map (holding_at c) hs = cc in
    let next = answering_one p (request_at p c) failed told ++ d in
    let order : answering (p ∷ hs) failed told c ++ d ≡ answering hs failed told c ++ next = append_assoc (answering hs failed told c) (answering_one p (request_at p c) failed told) d in
    let one = one-out config p (request_at p c) failed told c d (ap id_of (x.same p older.0)) in
    let reply = reply-same places h p (entry_at p c) failed told first in
    ap (outputs_of) order
    ∙ replies-out places config c hs its failed told next older.1 rest (extends-one p (request_at p c) failed told c d x)
    ∙ ap (λ outs. outs ++ replies_to its failed told) (one ∙ ap (λ outs. outputs_of d ++ outs) reply)
    ∙ append_assoc (outputs_of d) (reply_to h failed told) (replies_to its failed told)

-- the replies from one holder on
pub replies_left : (its : List Holder) (i : ℕ) (d : Holder) (failed : Bool) (told : Bytes) (outs : List Output) → i < length its
    → outs ++ replies_to (drop i its) failed told ≡ (outs ++ reply_to (get_or its i d) failed told) ++ replies_to (drop (i + 1) its) failed told
replies_left its i d failed told outs within =
    let one : drop i its ≡ get_or its i d ∷ drop (i + 1) its = rw add-one (drop-cons its i d within) in
    ap (λ hs. outs ++ replies_to hs failed told) one ∙ sym (append_assoc outs (reply_to (get_or its i d) failed told) (replies_to (drop (i + 1) its) failed told))

-- nobody is told anything if no client holds an instance
pub nobody-told : (holders : List Holder) → any_client holders ≡ false → (failed : Bool) (told : Bytes) → replies_to holders failed told ≡ []
nobody-told [] none failed told = refl
nobody-told (holder.Event id ∷ later) none failed told = nobody-told later none failed told
nobody-told (holder.Client id command ∷ later) none failed told = absurd cc

-- so it doesn't matter what
pub nobody_asks : (holders : List Holder) → any_client holders ≡ false → (failed : Bool) (told other : Bytes) → replies_to holders failed told ≡ replies_to holders failed other
nobody_asks holders none failed told other = nobody-told holders none failed told ∙ sym (nobody-told holders none failed other)
