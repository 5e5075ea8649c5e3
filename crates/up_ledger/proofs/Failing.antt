-- An instance that fails spoils the events that it held.
use Rattle.std.proofs.Common.{◌≡◌, ℕ, ◌+◌, ◌<◌, ◌≤◌, ◌==◌, ◌||◌, Bool, true, false, not, List, [], ◌∷◌, length, map, None, Some, if◌then◌else◌, refl, sym, ◌∙◌, ap, arith, eqb-true, eq-eqb, ne_eqb}
use Rattle.std.proofs.lemmas.Bool.{eqb-false}
use Rattle.std.specs.List.{AllByRecursion}
use Rattle.up_event.specs.declared.live.LiveEvent.{LiveEvent}
use Rattle.up_event.specs.LiveEvents.{AreDistinct, named, with_change}
use Rattle.up_model.specs.declared.event_id.EventId.{EventId}
use Rattle.up_model.specs.Chronicle.{Chronicle, Released}
use Rattle.up_model.specs.Held.{has, is_spoilt}
use Rattle.up_model.specs.Queue.{Live, queue}
use Rattle.up_model.specs.Readings.{entry_at, event_at, holders}
use Rattle.up_job.specs.declared.holder.Holder.{Holder}
use Rattle.up_job.specs.declared.holder.Holder.TheVariants as holder
use Rattle.up_ledger.specs.Counting.{one_if, holder_uses}
use Rattle.up_ledger.specs.Eventing.{Standing, standing_of, standing_at, place_of, holds_of, holds_in}
use Rattle.up_ledger.specs.Holding.{freed, all_changed}
use Rattle.up_ledger.specs.Regular.{AreOlderOrigins}
use Rattle.up_book.specs.Summaries.{holding_at}
use Rattle.up_book.specs.Views.{Places, holding_of}
use Rattle.up_ledger.proofs.Counting.{Names, has-count, holders-count, holders-used}
use Rattle.up_ledger.proofs.Holds.{freed-id, less-holds}
use Rattle.up_book.proofs.Lists.{cons_same}
use Rattle.up_ledger.proofs.Placing.{names}
use Rattle.up_ledger.proofs.Standing.{standing-but}
use Rattle.up_ledger.proofs.Turning.{Match, queued-there}

-- what is to be known of an event that these let go as failed
abbrev pub marked : List Holder → LiveEvent → Standing
marked its live = record { event = Some live.event; handled = live.handled; spoilt = live.spoilt || not (holder_uses live.id its == 0); waiter = live.waiter }

or-true : (b : Bool) → (b || true) ≡ true
or-true true = refl
or-true false = refl

or-false : (b : Bool) → (b || false) ≡ b
or-false true = refl
or-false false = refl

some-more : (n : ℕ) → not (1 + n == 0) ≡ true
some-more n = ap not (ne_eqb (1 + n) 0 (λ e. omega arith))

none-more : (n : ℕ) → not (0 + n == 0) ≡ not (n == 0)
none-more n =
    let same : 0 + n ≡ n = omega arith in
    ap (λ m. not (m == 0)) same

-- an event that isn't among those that are let go
unmarked : (id : EventId) (its : List Holder) (live : LiveEvent) → (id.key == live.id.key) ≡ false → marked (holder.Event id ∷ its) live ≡ marked its live
unmarked id its live apart = rw (apart, none-more (holder_uses live.id its)) refl

flip : (m n : ℕ) → (m == n) ≡ false → (n == m) ≡ false
flip m n apart = ne_eqb n m (λ e. eqb-false m n apart (sym e))

unmarked-all : (id : EventId) (its : List Holder) (events : List LiveEvent) → named id events ≡ None → map (marked (holder.Event id ∷ its)) events ≡ map (marked its) events
unmarked-all id its [] none = refl
unmarked-all id its (e ∷ events) none = by_case (e.id.key == id.key) refl none (unmarked-all id its events)
  where
    by_case : (b : Bool) → (e.id.key == id.key) ≡ b → (if b then Some e else named id events) ≡ None → (named id events ≡ None → map (marked (holder.Event id ∷ its)) events ≡ map (marked its) events)
        → map (marked (holder.Event id ∷ its)) (e ∷ events) ≡ map (marked its) (e ∷ events)
    by_case true same none ih = absurd cc
    by_case false differs none ih = cons_same (unmarked id its e (flip e.id.key id.key differs)) (ih none)

abbrev with_key : ℕ → EventId
with_key key = record { key = key }

-- one that is
marked-one : (id : EventId) (its : List Holder) (e : LiveEvent) → (e.id.key == id.key) ≡ true → 0 < e.holds → marked its (freed true e) ≡ marked (holder.Event id ∷ its) e
marked-one id its e same some =
    let more : (e.holds == 0) ≡ false = ne_eqb e.holds 0 (λ none. omega (arith, none, some)) in
    let here : (id.key == e.id.key) ≡ true = eq-eqb id.key e.id.key (sym (eqb-true e.id.key id.key same)) in
    rw (more, here, some-more (holder_uses e.id its), or-true e.spoilt) refl

marked-first : (id : EventId) (its : List Holder) (events : List LiveEvent) → AreDistinct events → 0 < holds_of id events → map (marked its) (with_change id (freed true) events) ≡ map (marked (holder.Event id ∷ its)) events
marked-first id its [] distinct some = refl
marked-first id its (e ∷ events) distinct some = by_case (e.id.key == id.key) refl some (marked-first id its events distinct.1)
  where
    by_case : (b : Bool) → (e.id.key == id.key) ≡ b → 0 < holds_in (if b then Some e else named id events)
        → (0 < holds_of id events → map (marked its) (with_change id (freed true) events) ≡ map (marked (holder.Event id ∷ its)) events)
        → map (marked its) (if b then freed true e ∷ events else e ∷ with_change id (freed true) events) ≡ map (marked (holder.Event id ∷ its)) (e ∷ events)
    by_case true same some ih =
        let none : named id events ≡ None = ap (λ key. named (with_key key) events) (sym (eqb-true e.id.key id.key same)) ∙ distinct.0 in
        cons_same (marked-one id its e same some) (sym (unmarked-all id its events none))
    by_case false differs some ih = cons_same (sym (unmarked id its e (flip e.id.key id.key differs))) (ih some)

changed-distinct : (id : EventId) (events : List LiveEvent) → AreDistinct events → AreDistinct (with_change id (freed true) events)
changed-distinct id [] distinct = tt
changed-distinct id (e ∷ events) distinct = by_case (e.id.key == id.key) (changed-distinct id events distinct.1)
  where
    with_key' : ℕ → EventId
    with_key' key = record { key = key }

    none-changed : (other : EventId) (es : List LiveEvent) → named other es ≡ None → named other (with_change id (freed true) es) ≡ None
    none-changed other [] none = refl
    none-changed other (x ∷ es) none = by_id (x.id.key == id.key) (x.id.key == other.key) refl none (none-changed other es)
      where
        by_id : (b d : Bool) → (x.id.key == other.key) ≡ d → (if d then Some x else named other es) ≡ None → (named other es ≡ None → named other (with_change id (freed true) es) ≡ None)
            → named other (if b then freed true x ∷ es else x ∷ with_change id (freed true) es) ≡ None
        by_id b true same none ih = absurd cc
        by_id true false differs none ih =
            let its : ((freed true x).id.key == other.key) ≡ false = ap (λ (i : EventId). i.key == other.key) (freed-id true x (x.holds == 0)) ∙ differs in
            rw its none
        by_id false false differs none ih = rw differs (ih none)

    by_case : (b : Bool) → AreDistinct (with_change id (freed true) events) → AreDistinct (if b then freed true e ∷ events else e ∷ with_change id (freed true) events)
    by_case true ih = (ap (λ (i : EventId). named i events) (freed-id true e (e.holds == 0)) ∙ distinct.0, distinct.1)
    by_case false ih = (none-changed e.id events distinct.0, ih)

-- all of them
pub marked-all : (its : List Holder) (events : List LiveEvent) → AreDistinct events → ((id : EventId) → holder_uses id its ≤ holds_of id events) → map standing_of (all_changed (freed true) its events) ≡ map (marked its) events
marked-all [] events distinct enough = none-marked events
  where
    none-marked : (es : List LiveEvent) → map standing_of es ≡ map (marked []) es
    none-marked [] = refl
    none-marked (e ∷ es) = cons_same (rw (or-false e.spoilt) refl) (none-marked es)
marked-all (holder.Client number command ∷ its) events distinct enough = marked-all its events distinct (λ id. omega (arith, enough id)) ∙ by-client events
  where
    by-client : (es : List LiveEvent) → map (marked its) es ≡ map (marked (holder.Client number command ∷ its)) es
    by-client [] = refl
    by-client (e ∷ es) = cons_same (sym (rw (none-more (holder_uses e.id its)) refl)) (by-client es)
marked-all (holder.Event id ∷ its) events distinct enough =
    let mine : (id.key == id.key) ≡ true = eq-eqb id.key id.key refl in
    let some : 0 < holds_of id events = omega (arith, enough id, ap one_if mine) in
    marked-all its (with_change id (freed true) events) (changed-distinct id events distinct) (less-holds true id its events enough) ∙ marked-first id its events distinct some

-- it is spoilt by the chronicle too
spoilt-same : (places : Places) (c : Chronicle) (i : ℕ) (its : List Holder) (event : LiveEvent) (live : Live) → Names places event.id live.place → map (holding_of places) its ≡ map (holding_at c) (holders i c)
    → event_at live.place c ≡ Some event.event → is_spoilt live.place c ≡ event.spoilt → is_spoilt live.place (Released i true ∷ c) ≡ event.spoilt || not (holder_uses event.id its == 0)
spoilt-same places c i its event live named same queued so =
    let there = queued-there (entry_at live.place c) event.event queued in
    let among : has live.place (holders i c) ≡ not (holder_uses event.id its == 0) =
    has-count live.place (holders i c) ∙ ap (λ n. not (n == 0)) (holders-count live.place c there.0 event.event (holders i c) there.1 ∙ ap (Rattle.up_ledger.specs.Counting.holder_count live.place) (sym same) ∙ sym (holders-used places event.id its live.place named)) in
    by_case (has live.place (holders i c)) (not (holder_uses event.id its == 0)) among
  where
    by_case : (b d : Bool) → b ≡ d → (if b then true else is_spoilt live.place c) ≡ event.spoilt || d
    by_case true true h = sym (or-true event.spoilt)
    by_case true false h = absurd cc
    by_case false true h = absurd cc
    by_case false false h = so ∙ sym (or-false event.spoilt)

-- so the standings are those of the chronicle after the release
pub standings-spoilt : (all : List LiveEvent) (c : Chronicle) (i : ℕ) (its : List Holder) (events : List LiveEvent) (lives : List Live) → AreOlderOrigins c → AllByRecursion (λ (l : Live). l.place < length c) lives
    → map (holding_of (place_of all (queue c))) its ≡ map (holding_at c) (holders i c) → Match all (queue c) c events lives → map (marked its) events ≡ map (standing_at (Released i true ∷ c)) lives
standings-spoilt all c i its [] [] origins older same m = refl
standings-spoilt all c i its [] (live ∷ lives) origins older same m = absurd m
standings-spoilt all c i its (event ∷ events) [] origins older same m = absurd m
standings-spoilt all c i its (event ∷ events) (live ∷ lives) origins older same m =
    let known : standing_of event ≡ standing_at c live = m.0.standing in
    let queued : event_at live.place c ≡ Some event.event = sym (ap (λ (s : Standing). s.event) known) in
    let so : is_spoilt live.place c ≡ event.spoilt = sym (ap (λ (s : Standing). s.spoilt) known) in
    let spoils = spoilt-same (place_of all (queue c)) c i its event live (names all c event.id live.place m.0.place) same queued so in
    let head : marked its event ≡ standing_at (Released i true ∷ c) live =
    ap (λ (s : Standing). record s { spoilt = event.spoilt || not (holder_uses event.id its == 0) }) known ∙ ap (λ b. record (standing_at c live) { spoilt = b }) (sym spoils) ∙ sym (standing-but (Released i true) c live origins older.0) in
    cons_same head (standings-spoilt all c i its events lives origins older.1 same m.1)
