-- The whole book after an event has finished.
use Rattle.std.proofs.Common.{◌≡◌, ℕ, zero, suc, ◌+◌, ◌<◌, ◌==◌, Bool, true, false, not, List, [], ◌∷◌, length, map, Some, option_map, if◌then◌else◌, refl, sym, ◌∙◌, ap, arith, eqb-true, eq-eqb, ne_eqb}
use Rattle.up_job.specs.Unblocking.{unblocked, unblocked_in}
use Rattle.std.proofs.lemmas.Bool.{eqb-false}
use Rattle.up_event.specs.declared.live.LiveEvent.{LiveEvent}
use Rattle.up_event.specs.LiveEvents.{named, is, without, with_change, as_handled, outcome_of, AreDistinct, MayFinish, IsLive}
use Rattle.up_model.specs.declared.event.Event.{Event}
use Rattle.up_model.specs.declared.event_id.EventId.{EventId}
use Rattle.up_model.specs.Chronicle.{Chronicle, Origin, Queued, Finished}
use Rattle.up_model.specs.Configuration.{Configuration}
use Rattle.up_model.specs.Held.{is_held}
use Rattle.up_model.specs.Laws.{AreByAge}
use Rattle.up_model.specs.Queue.{Live, queue, without_event}
use Rattle.up_model.specs.Readings.{entry_at, event_at}
use Rattle.up_model.proofs.QueueLaws.{queue_by_age}
use Rattle.up_ledger.specs.declared.past.Past.{Past}
use Rattle.up_job.specs.declared.instances.JobInstances.{JobInstances}
use Rattle.up_job.specs.declared.instance.Instance.{Instance as Kept}
use Rattle.up_ledger.specs.Counting.{kept_uses, uses, start_uses}
use Rattle.up_ledger.proofs.Triggers.{remembered-agrees, remembered-later, remembered-unblocked}
use Rattle.up_ledger.specs.Eventing.{Standing, standing_of, standing_at, place_of, holds_of, holds_in}
use Rattle.up_book.specs.Keeps.{Keeps}
use Rattle.up_ledger.specs.Standing.{Forgets, event_place}
use Rattle.up_book.specs.Unblocking.{unblocked_summary}
use Rattle.up_ledger.proofs.Counting.{held}
use Rattle.up_ledger.proofs.Regulars.{regular-next}
use Rattle.up_ledger.proofs.Entering.{older-after}
use Rattle.up_ledger.proofs.Finishing as finishing
use Rattle.up_book.proofs.Lists.{cons_same}
use Rattle.up_ledger.proofs.Turning.{queued-there}
use Rattle.up_ledger.proofs.Placing.{names, gone-older, older-than, place-finished}
use Rattle.up_ledger.proofs.Standing.{age-all, standings-later, head-same, tail-same}

-- standings without the event
pub standings-finished : (events : List LiveEvent) (lives : List Live) (end p : ℕ) (id : EventId) (c d : Chronicle) → AreByAge lives end → place_of events lives id ≡ Some p → map standing_of events ≡ map (standing_at c) lives
    → map (standing_at d) lives ≡ map (standing_at c) lives → map standing_of (without id events) ≡ map (standing_at d) (without_event p lives)
standings-finished [] lives end p id c d age found same later = absurd cc
standings-finished (e ∷ events) [] end p id c d age found same later = absurd cc
standings-finished (e ∷ events) (l ∷ lives) end p id c d age found same later =
    by_case (e.id.key == id.key) found (λ there. standings-finished events lives end p id c d age.2 there (tail-same same) (tail-same later))
  where
    by_case : (b : Bool) → (if b then Some l.place else place_of events lives id) ≡ Some p → (place_of events lives id ≡ Some p → map standing_of (without id events) ≡ map (standing_at d) (without_event p lives))
        → map standing_of (if b then events else e ∷ without id events) ≡ map (standing_at d) (without_event p (l ∷ lives))
    by_case true found ih =
        let here : l.place ≡ p = cc in
        let mine : (l.place == p) ≡ true = eq-eqb l.place p here in
        rw (mine, gone-older l.place p lives age.1 (sym here)) (tail-same same ∙ sym (tail-same later))
    by_case false found ih =
        let past : l.place < p = older-than l.place events lives id p age.1 found in
        let kept : (l.place == p) ≡ false = ne_eqb l.place p (λ k. omega arith) in
        rw kept (cons_same (head-same same ∙ sym (head-same later)) (ih found))

-- holds without it
pub holds-without : (id other : EventId) (events : List LiveEvent) → AreDistinct events → holds_of other (without id events) ≡ (if id.key == other.key then 0 else holds_of other events)
holds-without id other [] distinct = by_case (id.key == other.key)
  where
    by_case : (b : Bool) → holds_of other [] ≡ (if b then 0 else holds_of other [])
    by_case true = refl
    by_case false = refl
holds-without id other (e ∷ events) distinct = by_case (e.id.key == id.key) (e.id.key == other.key) (id.key == other.key) refl refl refl (holds-without id other events distinct.1)
  where
    gone : (e.id.key == other.key) ≡ true → holds_of other events ≡ 0
    gone same =
        let with_key : ℕ → EventId = λ key. record { key = key } in
        ap (λ key. holds_in (named (record { key = key }) events)) (sym (eqb-true e.id.key other.key same)) ∙ ap holds_in distinct.0

    by_case : (b d f : Bool) → (e.id.key == id.key) ≡ b → (e.id.key == other.key) ≡ d → (id.key == other.key) ≡ f → holds_of other (without id events) ≡ (if f then 0 else holds_of other events)
        → holds_of other (if b then events else e ∷ without id events) ≡ (if f then 0 else holds_in (if d then Some e else named other events))
    by_case true true true h k m ih = gone k
    by_case true true false h k m ih = absurd (eqb-false id.key other.key m (sym (eqb-true e.id.key id.key h) ∙ eqb-true e.id.key other.key k))
    by_case true false true h k m ih = absurd (eqb-false e.id.key other.key k (eqb-true e.id.key id.key h ∙ eqb-true id.key other.key m))
    by_case true false false h k m ih = refl
    by_case false true true h k m ih = absurd (eqb-false e.id.key id.key h (eqb-true e.id.key other.key k ∙ sym (eqb-true id.key other.key m)))
    by_case false true false h k m ih = rw k refl
    by_case false false true h k m ih = rw k ih
    by_case false false false h k m ih = rw k ih

-- what is used stays
kept-unblocked : (id other : EventId) (its : List Kept) → kept_uses other (map (unblocked id) its) ≡ kept_uses other its
kept-unblocked id other [] = refl
kept-unblocked id other (k ∷ its) = omega (arith, kept-unblocked id other its)

uses-unblocked : (id other : EventId) (jobs : List JobInstances) → uses other (map (unblocked_in id) jobs) ≡ uses other jobs
uses-unblocked id other [] = refl
uses-unblocked id other (j ∷ jobs) = omega (arith, kept-unblocked id other j.instances, uses-unblocked id other jobs)

none-used : (n : ℕ) → not (n == 0) ≡ false → n ≡ 0
none-used zero h = refl
none-used (suc n) h =
    let apart : (suc n == 0) ≡ false = ne_eqb (suc n) 0 (λ e. omega arith) in
    let both : true ≡ false = ap not (sym apart) ∙ h in
    absurd cc

pub forgets-finished : (book after : Past) (config : Configuration) (c : Chronicle) (id : EventId) (e : ℕ) (origin : Origin) (event : Event) → Forgets book config c → AreDistinct book.events → event_place book c id ≡ Some e
    → entry_at e c ≡ Some (Queued origin event) → is_held config e c ≡ false → after.events ≡ without id book.events → after.instances ≡ map (unblocked_in id) book.instances → after.starts ≡ book.starts → after.reading ≡ book.reading
    → Forgets after config (Finished e ∷ c)
forgets-finished book after config c id e origin event f distinct found queued free does jobs starts reading =
    let old = place_of book.events (queue c) in
    let new = place_of (without id book.events) (without_event e (queue c)) in
    let its = names book.events c id e found in
    let all : uses id book.instances + start_uses id book.starts.items ≡ 0 =
    none-used (uses id book.instances + start_uses id book.starts.items) (sym (held old book.instances book.starts.items config c id e origin event f.lives.jobs f.remembered f.lives.distinct its queued) ∙ free) in
    let none : uses id book.instances ≡ 0 = omega (arith, all) in
    let gone : finishing.Forgets old new id e = record { names = its; agree = λ other apart. place-finished book.events (queue c) (length c) id other e (queue_by_age c) found apart } in
    let later = standings-later (Finished e) c (queue c) f.regular.origins (age-all (queue c) (length c) (queue_by_age c)) (λ p. refl) in
    let lives : Keeps new after.instances config (Finished e ∷ c) = record {
      jobs = rw jobs (finishing.keeps-finished old new id e book.instances config c f.lives.jobs f.lives.older gone none);
      older = older-after (Finished e) c tt f.lives.older;
      later = λ x past. finishing.summary-finished e c x (f.lives.older x.place) ∙ ap (unblocked_summary e) (f.lives.later x (omega (arith, past)));
      distinct = f.lives.distinct;
    } in
    record {
      lives = rw does lives;
      remembered = rw (does, jobs, starts) (remembered-unblocked new id book.instances book.starts.items config (Finished e ∷ c)
          (remembered-agrees old new book.instances book.starts.items config (Finished e ∷ c)
          (finishing.used-agree old new id e 0 (λ other. uses other book.instances + start_uses other book.starts.items) gone all)
          (remembered-later old book.instances book.starts.items config c (Finished e) (record { instances = λ job. refl; seen = λ x. refl }) f.remembered)));
      standings = rw does (standings-finished book.events (queue c) (length c) e id c (Finished e ∷ c) (queue_by_age c) found f.standings later);
      counted = λ other. rw (does, jobs, starts) (counted all other);
      regular = regular-next config c (Finished e) f.regular tt;
      reading = reading ∙ f.reading;
    }
  where
    counted : uses id book.instances + start_uses id book.starts.items ≡ 0 → (other : EventId)
        → holds_of other (without id book.events) ≡ uses other (map (unblocked_in id) book.instances) + start_uses other book.starts.items
    counted none other = by_case (id.key == other.key) refl (holds-without id other book.events distinct)
      where
        by_case : (b : Bool) → (id.key == other.key) ≡ b → holds_of other (without id book.events) ≡ (if b then 0 else holds_of other book.events) → holds_of other (without id book.events) ≡ uses other (map (unblocked_in id) book.instances) + start_uses other book.starts.items
        by_case true same is =
            let with_key : ℕ → ℕ = λ key. uses (record { key = key }) book.instances + start_uses (record { key = key }) book.starts.items in
            is ∙ sym none ∙ ap with_key (eqb-true id.key other.key same) ∙ ap (λ n. n + start_uses other book.starts.items) (sym (uses-unblocked id other book.instances))
        by_case false differs is = is ∙ f.counted other ∙ ap (λ n. n + start_uses other book.starts.items) (sym (uses-unblocked id other book.instances))

-- an event that is taken up first finishes alike
pub without_handled : (id : EventId) (events : List LiveEvent) → without id (with_change id as_handled events) ≡ without id events
without_handled id [] = refl
without_handled id (e ∷ events) = by_case (e.id.key == id.key) refl (without_handled id events)
  where
    by_case : (b : Bool) → (e.id.key == id.key) ≡ b → without id (with_change id as_handled events) ≡ without id events → without id (if b then as_handled e ∷ events else e ∷ with_change id as_handled events) ≡ (if b then events else e ∷ without id events)
    by_case true same ih = rw same refl
    by_case false differs ih = rw differs (cons_same refl ih)

pub is_there : (id : EventId) (live : LiveEvent) (events : List LiveEvent) → named id events ≡ Some live → IsLive id events
is_there id live events found = rw found refl

pub handled_free : (id : EventId) (live : LiveEvent) (events : List LiveEvent) → named id events ≡ Some live → live.holds ≡ 0 → MayFinish id (with_change id as_handled events)
handled_free id live [] found free = absurd cc
handled_free id live (e ∷ events) found free = by_case (e.id.key == id.key) refl found (handled_free id live events)
  where
    by_case : (b : Bool) → (e.id.key == id.key) ≡ b → (if b then Some e else named id events) ≡ Some live → (named id events ≡ Some live → live.holds ≡ 0 → MayFinish id (with_change id as_handled events))
        → MayFinish id (if b then as_handled e ∷ events else e ∷ with_change id as_handled events)
    by_case true same found ih =
        let its : e ≡ live = cc in
        rw same (refl, ap (λ (l : LiveEvent). l.holds) its ∙ free)
    by_case false differs found ih = rw differs (ih found free)

-- what stands at the place of an id was queued
pub event-placed : (events : List LiveEvent) (lives : List Live) (c : Chronicle) (id : EventId) (p : ℕ) → map standing_of events ≡ map (standing_at c) lives → place_of events lives id ≡ Some p → (event : Event) × (event_at p c ≡ Some event)
event-placed [] lives c id p same found = absurd cc
event-placed (e ∷ events) [] c id p same found = absurd cc
event-placed (e ∷ events) (l ∷ lives) c id p same found = by_case (e.id.key == id.key) found (event-placed events lives c id p (tail-same same))
  where
    by_case : (b : Bool) → (if b then Some l.place else place_of events lives id) ≡ Some p → (place_of events lives id ≡ Some p → (event : Event) × (event_at p c ≡ Some event)) → (event : Event) × (event_at p c ≡ Some event)
    by_case true found ih =
        let here : l.place ≡ p = cc in
        (e.event, ap (λ q. event_at q c) (sym here) ∙ sym (ap (λ (s : Standing). s.event) (head-same same)))
    by_case false found ih = ih found

pub named-there : (events : List LiveEvent) (lives : List Live) (id : EventId) (p : ℕ) → place_of events lives id ≡ Some p → (live : LiveEvent) × (named id events ≡ Some live)
named-there [] lives id p found = absurd cc
named-there (e ∷ events) [] id p found = absurd cc
named-there (e ∷ events) (l ∷ lives) id p found = by_case (e.id.key == id.key) found (named-there events lives id p)
  where
    by_case : (b : Bool) → (if b then Some l.place else place_of events lives id) ≡ Some p → (place_of events lives id ≡ Some p → (live : LiveEvent) × (named id events ≡ Some live)) → (live : LiveEvent) × ((if b then Some e else named id events) ≡ Some live)
    by_case true found ih = (e, refl)
    by_case false found ih = ih found

-- an event that isn't held may leave
pub may-leave : (book : Past) (config : Configuration) (c : Chronicle) (id : EventId) (e : ℕ) → Forgets book config c → event_place book c id ≡ Some e → is_held config e c ≡ false
    → ((live : LiveEvent) → named id book.events ≡ Some live → live.holds ≡ 0 → ⊥) → ⊥
may-leave book config c id e f found free never =
    let there = event-placed book.events (queue c) c id e f.standings found in
    let its = queued-there (entry_at e c) there.0 there.1 in
    let none : uses id book.instances + start_uses id book.starts.items ≡ 0 = none-used (uses id book.instances + start_uses id book.starts.items)
    (sym (held (place_of book.events (queue c)) book.instances book.starts.items config c id e its.0 there.0 f.lives.jobs f.remembered f.lives.distinct (names book.events c id e found) its.1) ∙ free) in
    let live = named-there book.events (queue c) id e found in
    never live.0 live.1 (sym (ap holds_in live.1) ∙ f.counted id ∙ none)

pub finishes : (book after : Past) (config : Configuration) (c : Chronicle) (id : EventId) (e : ℕ) → Forgets book config c → AreDistinct book.events → event_place book c id ≡ Some e → is_held config e c ≡ false
    → after.events ≡ without id book.events → after.instances ≡ map (unblocked_in id) book.instances → after.starts ≡ book.starts → after.reading ≡ book.reading → Forgets after config (Finished e ∷ c)
finishes book after config c id e f distinct found free does jobs starts reading =
    let there = event-placed book.events (queue c) c id e f.standings found in
    let its = queued-there (entry_at e c) there.0 there.1 in
    forgets-finished book after config c id e its.0 there.0 f distinct found its.1 free does jobs starts reading

pub outcome_handled : (id : EventId) (events : List LiveEvent) → option_map outcome_of (named id (with_change id as_handled events)) ≡ option_map outcome_of (named id events)
outcome_handled id [] = refl
outcome_handled id (e ∷ events) = by_case (e.id.key == id.key) refl (outcome_handled id events)
  where
    by_case : (b : Bool) → (e.id.key == id.key) ≡ b → option_map outcome_of (named id (with_change id as_handled events)) ≡ option_map outcome_of (named id events)
        → option_map outcome_of (named id (if b then as_handled e ∷ events else e ∷ with_change id as_handled events)) ≡ option_map outcome_of (if b then Some e else named id events)
    by_case true same ih = rw same refl
    by_case false differs ih = rw differs ih
