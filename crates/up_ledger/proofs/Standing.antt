-- What is to be known of live events, one entry later.
use Rattle.std.proofs.Common.{◌≡◌, ℕ, ◌<◌, ◌==◌, Bool, true, false, List, [], ◌∷◌, ◌++◌, length, map, Option, None, Some, if◌then◌else◌, refl, sym, ◌∙◌, ap, arith, eq-eqb, ne_eqb}
use Rattle.std.specs.List.{AllByRecursion}
use Rattle.up_event.specs.declared.live.LiveEvent.{LiveEvent}
use Rattle.up_event.specs.LiveEvents.{new_live, with_change, as_handled}
use Rattle.up_model.specs.declared.event.Event.{Event}
use Rattle.up_model.specs.declared.event_id.EventId.{EventId}
use Rattle.up_model.specs.Chronicle.{Chronicle, Entry, Origin, Queued, Outside, Entering, Spoilt}
use Rattle.up_model.specs.Held.{is_spoilt}
use Rattle.up_model.specs.Laws.{AreByAge}
use Rattle.up_model.specs.Queue.{Live, live_at, queue, with_handled}
use Rattle.up_model.specs.Readings.{entry_at, id_of}
use Rattle.up_model.specs.Replies.{waiter_in, if_waits, request_in}
use Rattle.up_model.specs.Requests.{RequestValue}
use Rattle.up_model.proofs.Places.{older-other}
use Rattle.up_model.proofs.QueueLaws.{queue_by_age}
use Rattle.up_ledger.specs.Eventing.{Standing, standing_of, standing_at, number_of, place_of}
use Rattle.up_ledger.specs.Regular.{AreOlderOrigins}
use Rattle.up_book.proofs.Lists.{cons_same}
use Rattle.up_ledger.proofs.Placing.{older-than}

pub age-all : (lives : List Live) (end : ℕ) → AreByAge lives end → AllByRecursion (λ (l : Live). l.place < end) lives
age-all [] end age = tt
age-all (l ∷ lives) end age = (age.0, age-all lives end age.2)

pub same-entry : (e : Entry) (c : Chronicle) (p : ℕ) → p < length c → entry_at p (e ∷ c) ≡ entry_at p c
same-entry e c p older = rw (older-other (length c) p older) refl

origin-older : (c : Chronicle) (p given : ℕ) (event : Event) → AreOlderOrigins c → entry_at p c ≡ Some (Queued (Outside given) event) → given < length c
origin-older [] p given event older there = absurd cc
origin-older (Queued (Outside g) ev ∷ c) p given event older there = by_case (length c == p) there (origin-older c p given event older.1)
  where
    by_case : (b : Bool) → (if b then Some (Queued (Outside g) ev) else entry_at p c) ≡ Some (Queued (Outside given) event) → (entry_at p c ≡ Some (Queued (Outside given) event) → given < length c)
        → given < length (Queued (Outside g) ev ∷ c)
    by_case true there ih =
        let same : g ≡ given = cc in
        omega (arith, same, older.0)
    by_case false there ih = omega (arith, ih there)
origin-older (e ∷ c) p given event older there = past e (length c == p) there (origin-older c p given event (rest e older))
  where
    rest : (x : Entry) → AreOlderOrigins (x ∷ c) → AreOlderOrigins c
    rest (Queued (Outside g) ev) h = h.1
    rest x h = h

    none : (x : Entry) → AreOlderOrigins (x ∷ c) → Some x ≡ Some (Queued (Outside given) event) → given < length c
    none (Queued (Outside g) ev) h same =
        let its : g ≡ given = cc in
        omega (arith, its, h.0)
    none x h same = absurd cc

    past : (x : Entry) (b : Bool) → (if b then Some e else entry_at p c) ≡ Some (Queued (Outside given) event) → (entry_at p c ≡ Some (Queued (Outside given) event) → given < length c) → given < length (e ∷ c)
    past x true there ih = omega (arith, none e older there)
    past x false there ih = omega (arith, ih there)

waits-later : (e : Entry) (c : Chronicle) (its : Option Entry) → ((given : ℕ) (event : Event) → its ≡ Some (Queued (Outside given) event) → given < length c)
    → number_of (waiter_in its (e ∷ c)) (e ∷ c) ≡ number_of (waiter_in its c) c
waits-later e c (Some (Queued (Outside given) event)) older =
    let there : entry_at given (e ∷ c) ≡ entry_at given c = same-entry e c given (older given event refl) in
    rw there (by_request (request_in (entry_at given c)) there)
  where
    by_request : (its : Option RequestValue) → entry_at given (e ∷ c) ≡ entry_at given c → number_of (if_waits given its) (e ∷ c) ≡ number_of (if_waits given its) c
    by_request None same = refl
    by_request (Some request) same = by_wait request.wait
      where
        by_wait : (b : Bool) → number_of (if b then Some given else None) (e ∷ c) ≡ number_of (if b then Some given else None) c
        by_wait true = ap id_of same
        by_wait false = refl
waits-later e c None older = refl
waits-later e c (Some (Queued (Entering i s) event)) older = refl
waits-later e c (Some (Queued (Spoilt s) event)) older = refl
waits-later e c (Some other) older = refl

pub standing-later : (e : Entry) (c : Chronicle) (l : Live) → AreOlderOrigins c → l.place < length c → is_spoilt l.place (e ∷ c) ≡ is_spoilt l.place c → standing_at (e ∷ c) l ≡ standing_at c l
standing-later e c l origins older spoilt =
    rw (same-entry e c l.place older, spoilt, waits-later e c (entry_at l.place c) (λ given event its. origin-older c l.place given event origins its)) refl

-- but for whether it was spoilt
pub standing-but : (e : Entry) (c : Chronicle) (l : Live) → AreOlderOrigins c → l.place < length c → standing_at (e ∷ c) l ≡ record (standing_at c l) { spoilt = is_spoilt l.place (e ∷ c) }
standing-but e c l origins older =
    rw (same-entry e c l.place older, waits-later e c (entry_at l.place c) (λ given event its. origin-older c l.place given event origins its)) refl

pub standings-later : (e : Entry) (c : Chronicle) (lives : List Live) → AreOlderOrigins c → AllByRecursion (λ (l : Live). l.place < length c) lives → ((p : ℕ) → is_spoilt p (e ∷ c) ≡ is_spoilt p c)
    → map (standing_at (e ∷ c)) lives ≡ map (standing_at c) lives
standings-later e c [] origins older spoilt = refl
standings-later e c (l ∷ lives) origins older spoilt = cons_same (standing-later e c l origins older.0 (spoilt l.place)) (standings-later e c lives origins older.1 spoilt)

-- one event more
map-append : (f : LiveEvent → Standing) (xs : List LiveEvent) (x : LiveEvent) → map f (xs ++ x ∷ []) ≡ map f xs ++ f x ∷ []
map-append f [] x = refl
map-append f (y ∷ xs) x = cons_same refl (map-append f xs x)

map-append-live : (f : Live → Standing) (xs : List Live) (x : Live) → map f (xs ++ x ∷ []) ≡ map f xs ++ f x ∷ []
map-append-live f [] x = refl
map-append-live f (y ∷ xs) x = cons_same refl (map-append-live f xs x)

pub standings-queued : (events : List LiveEvent) (c : Chronicle) (id : EventId) (event : Event) (origin : Origin) (waits : Option ℕ) → AreOlderOrigins c → map standing_of events ≡ map (standing_at c) (queue c)
    → is_spoilt (length c) c ≡ false → number_of (waiter_in (Some (Queued origin event)) (Queued origin event ∷ c)) (Queued origin event ∷ c) ≡ waits
    → map standing_of (events ++ new_live id event waits ∷ []) ≡ map (standing_at (Queued origin event ∷ c)) (queue (Queued origin event ∷ c))
standings-queued events c id event origin waits origins same fresh who =
    let d : Chronicle = Queued origin event ∷ c in
    let older = age-all (queue c) (length c) (queue_by_age c) in
    let rest = standings-later (Queued origin event) c (queue c) origins older (λ p. refl) in
    let here : (length c == length c) ≡ true = eq-eqb (length c) (length c) refl in
    let last : standing_of (new_live id event waits) ≡ standing_at d (live_at (length c) false) = rw (here, fresh, who) refl in
    map-append standing_of events (new_live id event waits) ∙ ap (λ xs. xs ++ standing_of (new_live id event waits) ∷ []) (same ∙ sym rest) ∙ ap (λ x. map (standing_at d) (queue c) ++ x ∷ []) last
    ∙ sym (map-append-live (standing_at d) (queue c) (live_at (length c) false))

-- a turn takes an event up
handled-past : (n p : ℕ) (lives : List Live) → AllByRecursion (λ (l : Live). n < l.place) lives → p ≡ n → with_handled p lives ≡ lives
handled-past n p [] all same = refl
handled-past n p (l ∷ lives) all same =
    let apart : (l.place == p) ≡ false = ne_eqb l.place p (λ e. omega (arith, all.0)) in
    rw apart (cons_same refl (handled-past n p lives all.1 same))

pub head-same : {x y : Standing} {xs ys : List Standing} → x ∷ xs ≡ y ∷ ys → x ≡ y
head-same e = cc

pub tail-same : {x y : Standing} {xs ys : List Standing} → x ∷ xs ≡ y ∷ ys → xs ≡ ys
tail-same e = cc

pub standings-handled : (events : List LiveEvent) (lives : List Live) (end p : ℕ) (id : EventId) (c d : Chronicle) → AreByAge lives end → place_of events lives id ≡ Some p → map standing_of events ≡ map (standing_at c) lives
    → map (standing_at d) lives ≡ map (standing_at c) lives → map standing_of (with_change id as_handled events) ≡ map (standing_at d) (with_handled p lives)
standings-handled [] lives end p id c d age found same later = absurd cc
standings-handled (e ∷ events) [] end p id c d age found same later = absurd cc
standings-handled (e ∷ events) (l ∷ lives) end p id c d age found same later =
    by_case (e.id.key == id.key) found (λ there. standings-handled events lives end p id c d age.2 there (tail-same same) (tail-same later))
  where
    by_case : (b : Bool) → (if b then Some l.place else place_of events lives id) ≡ Some p
        → (place_of events lives id ≡ Some p → map standing_of (with_change id as_handled events) ≡ map (standing_at d) (with_handled p lives))
        → map standing_of (if b then as_handled e ∷ events else e ∷ with_change id as_handled events) ≡ map (standing_at d) (with_handled p (l ∷ lives))
    by_case true found ih =
        let here : l.place ≡ p = cc in
        let mine : (l.place == p) ≡ true = eq-eqb l.place p here in
        let first : standing_of e ≡ standing_at d l = head-same same ∙ sym (head-same later) in
        let marked : standing_of (as_handled e) ≡ standing_at d (live_at l.place true) = ap (λ (x : Standing). record x { handled = true }) first in
        rw (mine, handled-past l.place p lives age.1 (sym here)) (cons_same marked (tail-same same ∙ sym (tail-same later)))
    by_case false found ih =
        let past : l.place < p = older-than l.place events lives id p age.1 found in
        let kept : (l.place == p) ≡ false = ne_eqb l.place p (λ k. omega arith) in
        rw kept (cons_same (head-same same ∙ sym (head-same later)) (ih found))

-- places stay where they are
pub place-handled : (events : List LiveEvent) (lives : List Live) (p : ℕ) (id other : EventId) → place_of (with_change id as_handled events) (with_handled p lives) other ≡ place_of events lives other
place-handled [] [] p id other = refl
place-handled [] (l ∷ lives) p id other = refl
place-handled (e ∷ events) [] p id other = by_case (e.id.key == id.key)
  where
    by_case : (b : Bool) → place_of (if b then as_handled e ∷ events else e ∷ with_change id as_handled events) [] other ≡ None
    by_case true = refl
    by_case false = refl
place-handled (e ∷ events) (l ∷ lives) p id other = by_case (e.id.key == id.key) (l.place == p) (place-handled events lives p id other) (same-places events lives p other)
  where
    by_other : (b : Bool) (x y : Option ℕ) → x ≡ y → (if b then Some l.place else x) ≡ (if b then Some l.place else y)
    by_other true x y same = refl
    by_other false x y same = same

    same-places : (es : List LiveEvent) (ls : List Live) (q : ℕ) (k : EventId) → place_of es (with_handled q ls) k ≡ place_of es ls k
    same-places [] ls q k = refl
    same-places (x ∷ es) [] q k = refl
    same-places (x ∷ es) (m ∷ ls) q k = by_place (m.place == q) (same-places es ls q k)
      where
        if-same : (b : Bool) (u v : Option ℕ) → u ≡ v → (if b then Some m.place else u) ≡ (if b then Some m.place else v)
        if-same true u v same = refl
        if-same false u v same = same

        by_place : (b : Bool) → place_of es (with_handled q ls) k ≡ place_of es ls k → place_of (x ∷ es) (if b then live_at m.place true ∷ with_handled q ls else m ∷ with_handled q ls) k ≡ place_of (x ∷ es) (m ∷ ls) k
        by_place true ih = if-same (x.id.key == k.key) _ _ ih
        by_place false ih = if-same (x.id.key == k.key) _ _ ih

    by_case : (b d : Bool) → place_of (with_change id as_handled events) (with_handled p lives) other ≡ place_of events lives other → place_of events (with_handled p lives) other ≡ place_of events lives other
        → place_of (if b then as_handled e ∷ events else e ∷ with_change id as_handled events) (if d then live_at l.place true ∷ with_handled p lives else l ∷ with_handled p lives) other ≡ place_of (e ∷ events) (l ∷ lives) other
    by_case true true ih rest = by_other (e.id.key == other.key) _ _ rest
    by_case true false ih rest = by_other (e.id.key == other.key) _ _ rest
    by_case false true ih rest = by_other (e.id.key == other.key) _ _ ih
    by_case false false ih rest = by_other (e.id.key == other.key) _ _ ih
