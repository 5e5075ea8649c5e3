-- Those who hold an instance from now on, by what is kept of them.
use Rattle.std.proofs.Common.{◌≡◌, ℕ, ◌<◌, ◌==◌, Bool, true, false, not, List, [], ◌∷◌, length, map, Option, None, Some, is_some, option_map, if◌then◌else◌, refl, sym, ◌∙◌, ap, arith, eqb-true}
use Rattle.std.specs.List.{AllByRecursion}
use Rattle.up_model.specs.declared.event.Event.{Event}
use Rattle.up_model.specs.declared.event_id.EventId.{EventId}
use Rattle.up_model.specs.declared.input.Input.{Input}
use Rattle.up_model.specs.declared.input.Input.TheVariants as input
use Rattle.up_model.specs.Chronicle.{Chronicle, Entry, Origin, Given, Queued}
use Rattle.up_model.specs.Configuration.{Configuration}
use Rattle.up_model.specs.Queue.{queue}
use Rattle.up_model.specs.Readings.{entry_at}
use Rattle.up_model.specs.Replies.{was_answered}
use Rattle.up_model.specs.Requests.{RequestValue}
use Rattle.up_job.specs.declared.holder.Holder.{Holder}
use Rattle.up_job.specs.declared.holder.Holder.TheVariants as holder
use Rattle.up_book.specs.declared.holders.Holders.{Holders}
use Rattle.up_book.specs.declared.holders.Holders.TheVariants.{Taken, Client, Nobody}
use Rattle.up_ledger.specs.declared.past.Past.{Past}
use Rattle.up_ledger.specs.Asking.{given_input, asked_in, asked_of, is_hurried, client_of}
use Rattle.up_ledger.specs.Holding.{AllLive, as_holders, holders_by}
use Rattle.up_book.specs.Keeps.{AreOlder}
use Rattle.up_book.specs.Keys.{request_place, held_as, given_place}
use Rattle.up_ledger.specs.Standing.{Forgets, event_place}
use Rattle.up_book.specs.Summaries.{ByEvent, ByClient, holding_in, holding_at}
use Rattle.up_book.specs.Views.{holding_of}
use Rattle.up_ledger.proofs.Closing.{event-placed, named-there}
use Rattle.up_ledger.proofs.StepFrames.{given-there}
use Rattle.up_ledger.proofs.Turning.{queued-there}

-- these holders are kept of those at these places
pub record Held (past : Past) (c : Chronicle) (its : List Holder) (places : List ℕ) : Type 0 where
  pub same : map (holding_of (event_place past c)) its ≡ map (holding_at c) places
  pub older : AreOlder (length c) places
  pub live : AllLive past.events its
  pub apart : is_hurried (given_input c) ≡ true → AllByRecursion (λ place. (place == given_place c) ≡ false) places

pub entry-older : (p : ℕ) (c : Chronicle) (e : Entry) → entry_at p c ≡ Some e → p < length c
entry-older p [] e there = absurd cc
entry-older p (x ∷ c) e there = by_case (length c == p) refl there (entry-older p c e)
  where
    by_case : (b : Bool) → (length c == p) ≡ b → (if b then Some x else entry_at p c) ≡ Some e → (entry_at p c ≡ Some e → p < length c) → p < length (x ∷ c)
    by_case true same there ih = omega (arith, eqb-true (length c) p same)
    by_case false differs there ih = omega (arith, ih there)

hurried-input : (its : Option Input) → is_hurried its ≡ true → (one : Input) × (its ≡ Some one)
hurried-input None is = absurd cc
hurried-input (Some one) is = (one, refl)

-- where an event was queued no input was given
queued-apart : (p : ℕ) (c : Chronicle) (origin : Origin) (event : Event) → entry_at p c ≡ Some (Queued origin event) → is_hurried (given_input c) ≡ true → (p == given_place c) ≡ false
queued-apart p c origin event queued hurried = by_case (p == given_place c) refl
  where
    by_case : (b : Bool) → (p == given_place c) ≡ b → b ≡ false
    by_case true same =
        let its = hurried-input (given_input c) hurried in
        let there = given-there c its.0 its.1 in
        let both : Some (Queued origin event) ≡ Some (Given its.0) = sym queued ∙ ap (λ q. entry_at q c) (eqb-true p (given_place c) same) ∙ there.1 in
        absurd cc
    by_case false differs = refl

some-there : {X : Type 0} {o : Option X} {x : X} → o ≡ Some x → is_some o ≡ true
some-there there = ap is_some there

pub taken-so : (past : Past) (config : Configuration) (c : Chronicle) (ids : List EventId) (places : List ℕ) → Forgets past config c → map (event_place past c) ids ≡ map Some places → Held past c (as_holders ids) places
taken-so past config c [] [] f same = record { same = refl; older = tt; live = tt; apart = λ h. tt }
taken-so past config c [] (p ∷ places) f same = absurd cc
taken-so past config c (id ∷ ids) [] f same = absurd cc
taken-so past config c (id ∷ ids) (p ∷ places) f same =
    let first : event_place past c id ≡ Some p = cc in
    let rest : map (event_place past c) ids ≡ map Some places = cc in
    let ih = taken-so past config c ids places f rest in
    let event = event-placed past.events (queue c) c id p f.standings first in
    let queued = queued-there (entry_at p c) event.0 event.1 in
    let named = named-there past.events (queue c) id p first in
    let held : option_map ByEvent (event_place past c id) ≡ holding_at c p = ap (option_map ByEvent) first ∙ sym (ap (holding_in p) queued.1) in
    record {
      same = rw (held, ih.same) refl;
      older = (entry-older p c (Queued queued.0 event.0) queued.1, ih.older);
      live = (λ other is. some-there (ap (λ i. Rattle.up_event.specs.LiveEvents.named i past.events) (event-same is) ∙ named.1), ih.live);
      apart = λ h. (queued-apart p c queued.0 event.0 queued.1 h, ih.apart h);
    }
  where
    event-same : {other : EventId} → Some id ≡ Some other → other ≡ id
    event-same e = cc

-- the request of a step whose client waits
request-there : (c : Chronicle) (p : ℕ) → request_place c ≡ Some p → (id : ℕ) × (request : RequestValue) × (given_input c ≡ Some (input.Request id request)) × (given_place c ≡ p) × (request.wait ≡ true)
request-there [] p there = absurd cc
request-there (Given (input.Request id request) ∷ c) p there = by_case request.wait refl there
  where
    by_case : (b : Bool) → request.wait ≡ b → (if b then Some (length c) else None) ≡ Some p
        → (i : ℕ) × (r : RequestValue) × (Some (input.Request id request) ≡ Some (input.Request i r)) × (length c ≡ p) × (r.wait ≡ true)
    by_case true waits there = (id, request, refl, cc, waits)
    by_case false waits there = absurd cc
request-there (Given other ∷ c) p there = absurd cc
request-there (e ∷ c) p there = request-there c p there

client-so : (past : Past) (config : Configuration) (c : Chronicle) (p : ℕ) → request_place c ≡ Some p → Held past c (client_of (asked_of c)) (p ∷ [])
client-so past config c p there =
    let its = request-there c p there in
    let id = its.0 in
    let request = its.1 in
    let given = given-there c (input.Request id request) its.2 in
    let place : given_place c ≡ p = its.3 in
    let held : holding_at c p ≡ Some (ByClient id request.command) = ap (λ q. holding_in p (entry_at q c)) (sym place) ∙ ap (holding_in p) given.1 in
    let kept : client_of (asked_of c) ≡ holder.Client id request.command ∷ [] = ap (λ o. client_of (asked_in o (was_answered (given_place c) c))) its.2 in
    rw kept (record {
      same = rw held refl;
      older = (omega (arith, place, given.0), tt);
      live = (λ other is. absurd cc, tt);
      apart = λ h. absurd (not-hurried request h its.2 its.4);
    })
  where
    not-hurried : {id : ℕ} (request : RequestValue) → is_hurried (given_input c) ≡ true → given_input c ≡ Some (input.Request id request) → request.wait ≡ true → ⊥
    not-hurried request h is waits =
        let no : not request.wait ≡ true = ap is_hurried (sym is) ∙ h in
        let no_more : not true ≡ true = ap not (sym waits) ∙ no in
        absurd cc

pub held-so : (past : Past) (config : Configuration) (c : Chronicle) (who : Holders) (places : List ℕ) → Forgets past config c → held_as (event_place past c) (request_place c) who ≡ map Some places
    → Held past c (holders_by who (asked_of c)) places
held-so past config c (Taken ids) places f same = taken-so past config c ids places f same
held-so past config c Client [] f same = absurd cc
held-so past config c Client (p ∷ []) f same =
    let there : request_place c ≡ Some p = cc in
    client-so past config c p there
held-so past config c Client (p ∷ (q ∷ places)) f same = absurd cc
held-so past config c Nobody [] f same = record { same = refl; older = tt; live = tt; apart = λ h. tt }
held-so past config c Nobody (p ∷ places) f same = absurd cc
