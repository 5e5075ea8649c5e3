-- Where keys stand as events come and go.
use Rattle.std.proofs.Common.{◌≡◌, ℕ, ◌<◌, ◌==◌, Bool, true, false, List, [], ◌∷◌, ◌++◌, length, map, Option, None, Some, option_map, if◌then◌else◌, refl, sym, ◌∙◌, ap, arith, eqb-true, eq-eqb, ne_eqb}
use Rattle.std.proofs.lemmas.Bool.{eqb-false}
use Rattle.std.specs.List.{AllByRecursion}
use Rattle.up_event.specs.declared.live.LiveEvent.{LiveEvent}
use Rattle.up_event.specs.LiveEvents.{named, without}
use Rattle.up_model.specs.declared.event_id.EventId.{EventId}
use Rattle.up_model.specs.Chronicle.{Chronicle}
use Rattle.up_model.specs.Laws.{AreByAge}
use Rattle.up_model.specs.Queue.{Live, live_at, queue, without_event}
use Rattle.up_model.proofs.QueueLaws.{queue_by_age}
use Rattle.up_job.specs.declared.holder.Holder.{Holder}
use Rattle.up_job.specs.declared.holder.Holder.TheVariants as holder
use Rattle.up_job.specs.declared.instances.JobInstances.{JobInstances}
use Rattle.up_job.specs.declared.instance.Instance.{Instance as Kept}
use Rattle.up_ledger.specs.Counting.{one_if, holder_uses, kept_uses, uses}
use Rattle.up_ledger.specs.Eventing.{place_of, holds_of}
use Rattle.up_book.specs.Summaries.{Summary}
use Rattle.up_book.specs.Views.{Places, view, job_view, holding_of}
use Rattle.up_ledger.proofs.Counting.{Names}
use Rattle.up_book.proofs.Lists.{cons_same}

-- two ways to place agree on an id
abbrev pub Agree : Places → Places → EventId → Type 0
Agree old new id = new id ≡ old id

self-used : (id : EventId) → one_if (id.key == id.key) ≡ 1
self-used id = ap one_if (eq-eqb id.key id.key refl)

pub holders-agree : (old new : Places) (its : List Holder) → ((id : EventId) → 0 < holder_uses id its → Agree old new id) → map (holding_of new) its ≡ map (holding_of old) its
holders-agree old new [] agree = refl
holders-agree old new (holder.Event one ∷ its) agree =
    cons_same (ap (option_map Rattle.up_book.specs.Summaries.ByEvent) (agree one (omega (arith, self-used one)))) (holders-agree old new its (λ id used. agree id (omega (arith, used))))
holders-agree old new (holder.Client number command ∷ its) agree = cons_same refl (holders-agree old new its (λ id used. agree id (omega (arith, used))))

blocker-agree : (old new : Places) (its : Option EventId) → ((id : EventId) → its ≡ Some id → Agree old new id) → option_map new its ≡ option_map old its
blocker-agree old new None agree = refl
blocker-agree old new (Some id) agree = ap Some (agree id refl)

-- what is kept is seen alike by both, if they agree on what it uses
pub view-agrees : (old new : Places) (k : Kept) → ((id : EventId) → 0 < holder_uses id k.holders → Agree old new id) → ((id : EventId) → k.blocker ≡ Some id → Agree old new id)
    → view new k ≡ view old k
view-agrees old new k used blocks =
    rw (holders-agree old new k.holders (λ id one. used id (omega (arith, one))), blocker-agree old new k.blocker blocks) refl

views-agree : (old new : Places) (its : List Kept) → ((id : EventId) → 0 < kept_uses id its → Agree old new id) → AllByRecursion (λ k. (id : EventId) → k.blocker ≡ Some id → Agree old new id) its
    → map (view new) its ≡ map (view old) its
views-agree old new [] used blocks = refl
views-agree old new (k ∷ its) used blocks =
    cons_same (view-agrees old new k (λ id one. used id (omega (arith, one))) blocks.0) (views-agree old new its (λ id one. used id (omega (arith, one))) blocks.1)

abbrev pub BlockersAgree : Places → Places → List JobInstances → Type 0
BlockersAgree old new jobs = AllByRecursion (λ job. AllByRecursion (λ k. (id : EventId) → k.blocker ≡ Some id → Agree old new id) job.instances) jobs

-- all that is kept
pub jobs-agree : (old new : Places) (jobs : List JobInstances) → ((id : EventId) → 0 < uses id jobs → Agree old new id) → BlockersAgree old new jobs → map (job_view new) jobs ≡ map (job_view old) jobs
jobs-agree old new [] used blocks = refl
jobs-agree old new (job ∷ jobs) used blocks =
    cons_same (ap (λ (its : List Summary). record { name = job.name; instances = its }) (views-agree old new job.instances (λ id one. used id (omega (arith, one))) blocks.0))
    (jobs-agree old new jobs (λ id one. used id (omega (arith, one))) blocks.1)

-- a new event, at the end of both lists
pub place-queued : (events : List LiveEvent) (lives : List Live) (live : LiveEvent) (place : ℕ) (other : EventId) → length events ≡ length lives → (live.id.key == other.key) ≡ false
    → place_of (events ++ live ∷ []) (lives ++ live_at place false ∷ []) other ≡ place_of events lives other
place-queued [] [] live place other same apart = rw apart refl
place-queued [] (l ∷ lives) live place other same apart = absurd (omega arith)
place-queued (e ∷ events) [] live place other same apart = absurd (omega arith)
place-queued (e ∷ events) (l ∷ lives) live place other same apart = by_case (e.id.key == other.key) (place-queued events lives live place other (omega arith) apart)
  where
    by_case : (b : Bool) → place_of (events ++ live ∷ []) (lives ++ live_at place false ∷ []) other ≡ place_of events lives other
        → (if b then Some l.place else place_of (events ++ live ∷ []) (lives ++ live_at place false ∷ []) other) ≡ (if b then Some l.place else place_of events lives other)
    by_case true ih = refl
    by_case false ih = ih

pub place-new : (events : List LiveEvent) (lives : List Live) (live : LiveEvent) (place : ℕ) → length events ≡ length lives → named live.id events ≡ None
    → place_of (events ++ live ∷ []) (lives ++ live_at place false ∷ []) live.id ≡ Some place
place-new [] [] live place same none = rw (eq-eqb live.id.key live.id.key refl) refl
place-new [] (l ∷ lives) live place same none = absurd (omega arith)
place-new (e ∷ events) [] live place same none = absurd (omega arith)
place-new (e ∷ events) (l ∷ lives) live place same none = by_case (e.id.key == live.id.key) none (place-new events lives live place (omega arith))
  where
    by_case : (b : Bool) → (if b then Some e else named live.id events) ≡ None
        → (named live.id events ≡ None → place_of (events ++ live ∷ []) (lives ++ live_at place false ∷ []) live.id ≡ Some place)
        → (if b then Some l.place else place_of (events ++ live ∷ []) (lives ++ live_at place false ∷ []) live.id) ≡ Some place
    by_case true none ih = absurd cc
    by_case false none ih = ih none

-- an event that nobody uses gets a new id: those in use stay where they are
pub used-queued : (events : List LiveEvent) (lives : List Live) (live : LiveEvent) (place : ℕ) (other : EventId) → length events ≡ length lives → named live.id events ≡ None → 0 < holds_of other events
    → Agree (place_of events lives) (place_of (events ++ live ∷ []) (lives ++ live_at place false ∷ [])) other
used-queued events lives live place other same fresh used = place-queued events lives live place other same (by_case (live.id.key == other.key) refl)
  where
    with_key : ℕ → EventId
    with_key key = record { key = key }

    by_case : (b : Bool) → (live.id.key == other.key) ≡ b → b ≡ false
    by_case true same_key =
        let its : other ≡ live.id = ap with_key (sym (eqb-true live.id.key other.key same_key)) in
        let none : holds_of other events ≡ 0 = ap (λ id. holds_of id events) its ∙ ap (λ (found : Option LiveEvent). Rattle.up_ledger.specs.Eventing.holds_in found) fresh in
        absurd (omega (arith, none, used))
    by_case false differs = refl

-- a key stands for one place, and no other key does
pub older-than : (n : ℕ) (events : List LiveEvent) (lives : List Live) (id : EventId) (p : ℕ) → AllByRecursion (λ (l : Live). n < l.place) lives → place_of events lives id ≡ Some p → n < p
older-than n [] lives id p all found = absurd cc
older-than n (e ∷ events) [] id p all found = absurd cc
older-than n (e ∷ events) (l ∷ lives) id p all found = by_case (e.id.key == id.key) found (older-than n events lives id p all.1)
  where
    by_case : (b : Bool) → (if b then Some l.place else place_of events lives id) ≡ Some p → (place_of events lives id ≡ Some p → n < p) → n < p
    by_case true found ih =
        let here : l.place ≡ p = cc in
        omega (arith, here, all.0)
    by_case false found ih = ih found

pub places-apart : (events : List LiveEvent) (lives : List Live) (end : ℕ) (id other : EventId) (p : ℕ) → AreByAge lives end → place_of events lives id ≡ Some p → place_of events lives other ≡ Some p → other.key ≡ id.key
places-apart [] lives end id other p age one two = absurd cc
places-apart (e ∷ events) [] end id other p age one two = absurd cc
places-apart (e ∷ events) (l ∷ lives) end id other p age one two = by_case (e.id.key == id.key) (e.id.key == other.key) refl refl one two (places-apart events lives end id other p age.2)
  where
    by_case : (b d : Bool) → (e.id.key == id.key) ≡ b → (e.id.key == other.key) ≡ d → (if b then Some l.place else place_of events lives id) ≡ Some p
        → (if d then Some l.place else place_of events lives other) ≡ Some p → (place_of events lives id ≡ Some p → place_of events lives other ≡ Some p → other.key ≡ id.key) → other.key ≡ id.key
    by_case true true h k one two ih = sym (eqb-true e.id.key other.key k) ∙ eqb-true e.id.key id.key h
    by_case true false h k one two ih =
        let here : l.place ≡ p = cc in
        absurd (omega (arith, here, older-than l.place events lives other p age.1 two))
    by_case false true h k one two ih =
        let here : l.place ≡ p = cc in
        absurd (omega (arith, here, older-than l.place events lives id p age.1 one))
    by_case false false h k one two ih = ih one two

pub names : (events : List LiveEvent) (c : Chronicle) (id : EventId) (p : ℕ) → place_of events (queue c) id ≡ Some p → Names (place_of events (queue c)) id p
names events c id p found = record {
  is = found;
  alone = λ other its. places-apart events (queue c) (length c) id other p (queue_by_age c) found its;
}

-- an event that finishes takes its place with it
pub gone-older : (n p : ℕ) (lives : List Live) → AllByRecursion (λ (l : Live). n < l.place) lives → p ≡ n → without_event p lives ≡ lives
gone-older n p [] all same = refl
gone-older n p (l ∷ lives) all same =
    let apart : (l.place == p) ≡ false = ne_eqb l.place p (λ e. omega (arith, all.0)) in
    rw apart (cons_same refl (gone-older n p lives all.1 same))

pub place-finished : (events : List LiveEvent) (lives : List Live) (end : ℕ) (id other : EventId) (p : ℕ) → AreByAge lives end → place_of events lives id ≡ Some p → (id.key == other.key) ≡ false
    → place_of (without id events) (without_event p lives) other ≡ place_of events lives other
place-finished [] lives end id other p age found apart = absurd cc
place-finished (e ∷ events) [] end id other p age found apart = absurd cc
place-finished (e ∷ events) (l ∷ lives) end id other p age found apart =
    by_case (e.id.key == id.key) refl found (λ there. place-finished events lives end id other p age.2 there apart)
  where
    by_case : (b : Bool) → (e.id.key == id.key) ≡ b → (if b then Some l.place else place_of events lives id) ≡ Some p
        → (place_of events lives id ≡ Some p → place_of (without id events) (without_event p lives) other ≡ place_of events lives other)
        → place_of (if b then events else e ∷ without id events) (without_event p (l ∷ lives)) other ≡ place_of (e ∷ events) (l ∷ lives) other
    by_case true same found ih =
        let here : l.place ≡ p = cc in
        let mine : (l.place == p) ≡ true = eq-eqb l.place p here in
        let others : (e.id.key == other.key) ≡ false = ne_eqb e.id.key other.key (λ k. eqb-false id.key other.key apart (sym (eqb-true e.id.key id.key same) ∙ k)) in
        rw (mine, others, gone-older l.place p lives age.1 (sym here)) refl
    by_case false differs found ih =
        let past : l.place < p = older-than l.place events lives id p age.1 found in
        let kept : (l.place == p) ≡ false = ne_eqb l.place p (λ k. omega arith) in
        rw kept (by_other (e.id.key == other.key) (ih found))
      where
        by_other : (d : Bool) → place_of (without id events) (without_event p lives) other ≡ place_of events lives other
            → (if d then Some l.place else place_of (without id events) (without_event p lives) other) ≡ (if d then Some l.place else place_of events lives other)
        by_other true ih = refl
        by_other false ih = ih
