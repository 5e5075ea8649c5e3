-- Turns.
use Rattle.up_isolation.proofs.Names.{◌≡◌, ℕ, ◌<◌, ◌≤◌, ◌==◌, ◌||◌, inl, inr, Bool, true, false, List, [], ◌∷◌}
use Rattle.up_isolation.proofs.Names.{◌++◌, Option, None, Some, is_some, length, if◌then◌else◌, refl, sym, ◌∙◌, ap}
use Rattle.up_isolation.proofs.Names.{ap₂, subst, arith, not, append_assoc, eq-eqb, eqb-true, suc, ◌+◌}
use Rattle.up_isolation.proofs.Names.{AllByRecursion, Event, Chronicle, Entry, Given, Queued, Handled, Finished}
use Rattle.up_isolation.proofs.Names.{Entering, Outside, Configuration, telling, failed_event_of, finishing}
use Rattle.up_isolation.proofs.Names.{turn_event, turn_of, effect, is_spoilt, Instance, instances_of}
use Rattle.up_isolation.proofs.Names.{instance_named, place_named, is_open, offering, Live, queue, entry_at}
use Rattle.up_isolation.proofs.Names.{event_at, blocker, event_of, request_at, asked, request_in, unless_answered}
use Rattle.up_isolation.proofs.Names.{waiter, answering_waiter, RequestValue, Bytes, called, count, one_if}
use Rattle.up_isolation.proofs.Names.{answering_waiter-all, hears_event, Arrived, Unblocked, hears, is_blocked_by}
use Rattle.up_isolation.proofs.Names.{unblocked, arrivals, was_asked}
use Rattle.up_model.specs.declared.input.Input.TheVariants as input
use Rattle.up_model.specs.Replies.{if_waits, waiter_in}
use Rattle.up_model.specs.Held.{is_held}
use Rattle.up_model.specs.Laws.{AreByAge}
use Rattle.up_model.proofs.QueueLaws.{queue_by_age}
use Rattle.up_isolation.proofs.Lives.{Life}
use Rattle.up_isolation.proofs.Twins.{Twins, Match, At, at-twins, twins_map}
use Rattle.up_isolation.proofs.Likes.{Twin, Like, hears_event-kept, foreign, IsOuter}
use Rattle.up_isolation.proofs.Pairs.{Pair}
use Rattle.up_isolation.proofs.Offering.{pair-at, found, Found, Neither, Two, event-content, at-known-left}
use Rattle.up_isolation.proofs.Offering.{once-of}
use Rattle.up_isolation.proofs.Ends.{IsMute}
use Rattle.up_isolation.proofs.Resting.{AreApart, like-apart}
use Rattle.up_isolation.proofs.Acting.{Plain, None', Open, same-later}
use Rattle.up_isolation.proofs.Known.{entry-later}
use Rattle.up_isolation.proofs.Steps.{like_turn, like_queued, like_handled, like_finished, waits-own, blocker-own}
use Rattle.up_isolation.proofs.Steps.{emitter}
use Rattle.up_isolation.proofs.Alone.{freeing, blocker_of, begin, Effected, Unnoticed, Noticed, Base, still-of}
use Rattle.up_isolation.proofs.Alone.{mutes-view, other-view, mutes-offering, mutes-asked, unnoticed}
use Rattle.up_isolation.proofs.Steady.{view}

clash : (o : Option ℕ) (a : ℕ) → o ≡ None → o ≡ Some a → ⊥
clash o a none some = absurd (cc)

same-some : (o : Option ℕ) (a b : ℕ) → o ≡ Some a → o ≡ Some b → a ≡ b
same-some o a b one other = cc

none-not-some : (r : ℕ) → None ≡ Some r → ⊥
none-not-some r bad = cc

-- a turn that touches no event
turn-none : (job : Bytes) (config : Configuration) (c d : Chronicle) → Base job config c d
    → Effected job config c d (Given input.Turn ∷ c)
turn-none job config c d base =
    unnoticed job config input.Turn [] c d base refl tt tt (λ r some. absurd (none-some r some))
  where
    none-some : (r : ℕ) → None ≡ Some r → ⊥
    none-some r bad = none-not-some r bad

-- a turn takes an event up
taken-up : (job : Bytes) (config : Configuration) (p : ℕ) (c d : Chronicle) → p < length c
    → Base job config c d → Effected job config c d (Handled p ∷ Given input.Turn ∷ c)
unfolding view
taken-up job config p c d older base = by_event (event_at p e) refl
  where
    e : Chronicle
    e = Given input.Turn ∷ c

    next : Like job config e d
    next = foreign job config (Given input.Turn) c d refl base.like

    none-some : (r : ℕ) → None ≡ Some r → ⊥
    none-some r bad = none-not-some r bad

    some-same : (k : ℕ) → Some p ≡ Some k → p ≡ k
    some-same k same = cc

    quiet : arrivals job config (event_at p e) e ≡ [] → hears_event job config (event_at p e) e ≡ false
        → Effected job config c d (Handled p ∷ e)
    quiet none unheard =
        Unnoticed (record {
          like = foreign job config (Handled p) e d none next;
          still = still-of job config d base.rest;
          calm = base.calm;
          offers = λ k some.
              subst (λ q. (q < length (Handled p ∷ e))
              × (hears_event job config (event_at q (Handled p ∷ e)) (Handled p ∷ e) ≡ false)) (some-same k some) (
                omega (arith, older),
                ap (λ o. hears_event job config (event_of o) (Handled p ∷ e))
                    (entry-later p (Handled p) e (omega (arith, older)))
                    ∙ hears_event-kept job config (event_at p e) e (Handled p ∷ e) refl ∙ unheard,
              );
          asks = λ r some. absurd (none-some r some);
        }) (ap (λ ns. ns ++ view job config c) none)

    noted : (event : Event) → event_at p e ≡ Some event → hears job config event.name e ≡ true
        → Effected job config c d (Handled p ∷ e)
    noted event is heard =
        Noticed (Arrived event) tt (ap (λ o. arrivals job config o e ++ view job config c) is ∙ rw heard refl)
        (record {
          like = like_handled job config e there p q same
              (like_queued job config e (Given input.Turn ∷ d) (length d) event
              (like_turn job config e d next));
          offers = Open p q refl refl
              (same-later e there p q (Handled p ∷ []) (Handled q ∷ []) (record {
                event = same;
                content = event-content (entry_at p e) event is
                    ∙ sym (event-content (entry_at q there) event right);
                older = omega (arith, older);
                older_there = omega arith;
              })) refl refl
              (twins_map (Twin job config c d) (λ x y. is_open x.place (Handled p ∷ e)
              ≡ is_open y.place (Handled q ∷ there)) (λ x y twin. refl) (instances_of job c)
              (instances_of job d) base.like.twins);
          silent = refl;
          silent_there = refl;
        })
      where
        q : ℕ
        q = suc (length d)

        there : Chronicle
        there = Queued (Outside (length d)) event ∷ Given input.Turn ∷ d

        right : event_at q there ≡ Some event
        right = rw (eq-eqb q q refl) refl

        same : event_at p e ≡ event_at q there
        same = is ∙ sym right

    by_name : (event : Event) → event_at p e ≡ Some event → (b : Bool) → hears job config event.name e ≡ b
        → Effected job config c d (Handled p ∷ e)
    by_name event is true heard = noted event is heard
    by_name event is false unheard =
        quiet (ap (λ o. arrivals job config o e) is ∙ rw unheard refl) (ap (λ o. hears_event job config o e) is ∙ unheard)

    by_event : (o : Option Event) → event_at p e ≡ o → Effected job config c d (Handled p ∷ e)
    by_event None is = quiet (ap (λ o. arrivals job config o e) is) (ap (λ o. hears_event job config o e) is)
    by_event (Some event) is = by_name event is (hears job config event.name e) refl

-- whether one of the job's instances waits for the event
data Freeing (p : ℕ) (c : Chronicle) (xs ys : List Instance) : Type 0 where
  NoneFreed : unblocked p xs c ≡ [] → Freeing p c xs ys
  OneFreed : (x y : Instance) → At x y xs ys → is_blocked_by p (blocker x.place c) ≡ true → Freeing p c xs ys

freeing-of : (p : ℕ) (c : Chronicle) (xs ys : List Instance) → Twins (λ x y. Unit {0}) xs ys
    → Freeing p c xs ys
freeing-of p c [] [] twins = NoneFreed refl
freeing-of p c (x ∷ xs) (y ∷ ys) twins =
    by_case (is_blocked_by p (blocker x.place c)) refl (freeing-of p c xs ys twins.1)
  where
    by_case : (b : Bool) → is_blocked_by p (blocker x.place c) ≡ b → Freeing p c xs ys
        → Freeing p c (x ∷ xs) (y ∷ ys)
    by_case true is ih = OneFreed x y (inl (refl, refl)) is
    by_case false is (NoneFreed none) = NoneFreed (rw is none)
    by_case false is (OneFreed u v at waits) = OneFreed u v (inr at) waits
freeing-of p c [] (y ∷ ys) twins = absurd twins
freeing-of p c (x ∷ xs) [] twins = absurd twins

none-freed : (p i : ℕ) (c : Chronicle) (xs : List Instance)
    → ((k : ℕ) → is_blocked_by p (blocker k c) ≡ (k == i)) → count i xs ≡ 0 → unblocked p xs c ≡ []
none-freed p i c [] own none = refl
none-freed p i c (x ∷ xs) own none = by_case (x.place == i) refl none (none-freed p i c xs own)
  where
    by_case : (b : Bool) → (x.place == i) ≡ b → one_if b + count i xs ≡ 0
        → (count i xs ≡ 0 → unblocked p xs c ≡ [])
        → (if is_blocked_by p (blocker x.place c) then Unblocked x.name ∷ unblocked p xs c
        else unblocked p xs c) ≡ []
    by_case true is none ih = absurd (omega arith)
    by_case false is none ih = rw (own x.place ∙ is) (ih (omega arith))

at-count : (x y : Instance) (xs ys : List Instance) → At x y xs ys → 0 < count x.place xs
at-count x y (u ∷ us) (v ∷ vs) (inl here) =
    let one : one_if (u.place == x.place) ≡ 1 =
    ap one_if (eq-eqb u.place x.place (ap (λ w. w.place) here.0)) in
    omega (arith, one)
at-count x y (u ∷ us) (v ∷ vs) (inr there) = omega (arith, at-count x y us vs there)
at-count x y [] vs at = absurd at
at-count x y (u ∷ us) [] at = absurd at

one-freed : (p : ℕ) (c : Chronicle) (x y : Instance) (xs ys : List Instance)
    → ((k : ℕ) → is_blocked_by p (blocker k c) ≡ (k == x.place)) → At x y xs ys → count x.place xs ≤ 1
    → unblocked p xs c ≡ Unblocked x.name ∷ []
one-freed p c x y (u ∷ us) (v ∷ vs) own (inl here) once =
    let is : (u.place == x.place) ≡ true = eq-eqb u.place x.place (ap (λ w. w.place) here.0) in
    let one : one_if (u.place == x.place) ≡ 1 = ap one_if is in
    rw (own u.place ∙ is) (ap₂ (λ name rest. Unblocked name ∷ rest) (ap (λ w. w.name) here.0)
    (none-freed p x.place c us own (omega (arith, one, once))))
one-freed p c x y (u ∷ us) (v ∷ vs) own (inr there) once =
    by_case (u.place == x.place) refl once (one-freed p c x y us vs own there) (at-count x y us vs there)
  where
    by_case : (b : Bool) → (u.place == x.place) ≡ b → one_if b + count x.place us ≤ 1
        → (count x.place us ≤ 1 → unblocked p us c ≡ Unblocked x.name ∷ []) → 0 < count x.place us
        → (if is_blocked_by p (blocker u.place c) then Unblocked u.name ∷ unblocked p us c
        else unblocked p us c) ≡ Unblocked x.name ∷ []
    by_case true is once ih some = absurd (omega arith)
    by_case false is once ih some = rw (own u.place ∙ is) (ih (omega arith))
one-freed p c x y [] vs own at once = absurd at
one-freed p c x y (u ∷ us) [] own at once = absurd at

pub waits-some : (p : ℕ) (o : Option ℕ) → is_blocked_by p o ≡ true → o ≡ Some p
waits-some p None h = absurd (cc)
waits-some p (Some other) h = ap (λ k. Some k) (eqb-true other p h)

some-of : (o : Option ℕ) → is_some o ≡ true → (q : ℕ) × (o ≡ Some q)
some-of None h = absurd (cc)
some-of (Some q) h = (q, refl)

-- who waits for an event asked for that event
waiter-foreign : (job : Bytes) (o : Option Entry) (c : Chronicle) (r : ℕ) → IsOuter job o c
    → waiter_in o c ≡ Some r → (r < length c) × (was_asked job (request_at r c) ≡ false)
waiter-foreign job (Some (Queued (Outside given) event)) c r outer some =
    by_request (request_at given c) refl some
  where
    by_wait : (b : Bool) → (if b then Some given else None) ≡ Some r → given ≡ r
    by_wait true some = cc
    by_wait false some = absurd (cc)

    by_request : (o : Option RequestValue) → request_at given c ≡ o → if_waits given o ≡ Some r
        → (r < length c) × (was_asked job (request_at r c) ≡ false)
    by_request None is some = absurd (cc)
    by_request (Some request) is some = subst (λ k. (k < length c) × (was_asked job (request_at k c) ≡ false))
        (by_wait request.wait some) outer
waiter-foreign job o c r outer some = absurd (cc)

emitter-waiter : (o : Option Entry) (i : ℕ) (c : Chronicle) → emitter o ≡ Some i → waiter_in o c ≡ None
emitter-waiter (Some (Queued (Entering k to) event)) i c is = refl
emitter-waiter o i c is = absurd (cc)

telling-apart : (job : Bytes) (config : Configuration) (p : ℕ) (o : Option Event) (c : Chronicle)
    → AreApart job config (telling p o) c
telling-apart job config p None c = tt
telling-apart job config p (Some told) c = (tt, tt)

telling-mute : (p : ℕ) (o : Option Event) → AllByRecursion IsMute (telling p o)
telling-mute p None = tt
telling-mute p (Some told) = (tt, tt)

waiting-apart : (job : Bytes) (config : Configuration) (p : ℕ) (o : Option ℕ) (b : Bool) (c : Chronicle)
    → ((r : ℕ) → o ≡ Some r → (r < length c) × (was_asked job (request_at r c) ≡ false))
    → AreApart job config (answering_waiter o b) (Finished p ∷ c)
waiting-apart job config p None b c other = tt
waiting-apart job config p (Some r) b c other =
    let h = other r refl in
    (ap (λ o. was_asked job (request_in o)) (entry-later r (Finished p) c h.0) ∙ h.1, tt)

finished-view : (job : Bytes) (config : Configuration) (p : ℕ) (c : Chronicle)
    → view job config (Finished p ∷ c) ≡ unblocked p (instances_of job c) c ++ view job config c
unfolding view
finished-view job config p c = refl

-- a turn finishes an event
finished : (job : Bytes) (config : Configuration) (p : ℕ) (c d : Chronicle) → Base job config c d
    → Effected job config c d (finishing p (Given input.Turn ∷ c) ++ Given input.Turn ∷ c)
finished job config p c d base =
    subst (λ (t : Chronicle). Effected job config c d t) (sym whole)
    (by_freeing (freeing-of p e (instances_of job c) (instances_of job d)
    (twins_map (Twin job config c d) (λ x y. Unit {0}) (λ x y twin. tt) (instances_of job c)
    (instances_of job d) base.like.twins)))
  where
    e : Chronicle
    e = Given input.Turn ∷ c

    next : Like job config e d
    next = foreign job config (Given input.Turn) c d refl base.like

    tells : List Entry
    tells = telling p (failed_event_of p e)

    waits : List Entry
    waits = answering_waiter (waiter p e) (is_spoilt p e)

    whole : finishing p e ++ e ≡ tells ++ (waits ++ Finished p ∷ e)
    whole = append_assoc tells (waits ++ Finished p ∷ []) e ∙ ap (λ (es : List Entry). tells ++ es)
        (append_assoc waits (Finished p ∷ []) e)

    none-some : (r : ℕ) → None ≡ Some r → ⊥
    none-some r bad = none-not-some r bad

    mute-waits : AllByRecursion IsMute waits
    mute-waits = answering_waiter-all IsMute (λ request answer. tt) (waiter p e) (is_spoilt p e)

    mute-tells : AllByRecursion IsMute tells
    mute-tells = telling-mute p (failed_event_of p e)

    offers : offering (tells ++ (waits ++ Finished p ∷ e)) ≡ None
    offers = mutes-offering tells (waits ++ Finished p ∷ e) mute-tells ∙ mutes-offering waits (Finished p ∷ e)
        mute-waits

    asks : asked (tells ++ (waits ++ Finished p ∷ e)) ≡ None
    asks =
        mutes-asked tells (waits ++ Finished p ∷ e) mute-tells ∙ mutes-asked waits (Finished p ∷ e) mute-waits

    seen-view : view job config (tells ++ (waits ++ Finished p ∷ e)) ≡ unblocked p (instances_of job c) e
        ++ view job config c
    seen-view =
        mutes-view job config tells (waits ++ Finished p ∷ e) mute-tells
        ∙ mutes-view job config waits (Finished p ∷ e) mute-waits ∙ finished-view job config p e
        ∙ ap (λ ns. unblocked p (instances_of job c) e ++ ns) (other-view job config input.Turn c refl)

    told : (t : Chronicle) → Like job config (waits ++ Finished p ∷ e) t
        → Like job config (tells ++ (waits ++ Finished p ∷ e)) t
    told t like = like-apart job config tells (waits ++ Finished p ∷ e) t
        (telling-apart job config p (failed_event_of p e) (waits ++ Finished p ∷ e)) like

    by_freeing : Freeing p e (instances_of job c) (instances_of job d)
        → Effected job config c d (tells ++ (waits ++ Finished p ∷ e))
    by_freeing (NoneFreed none) =
        Unnoticed (record {
          like = told d (like-apart job config waits (Finished p ∷ e) d
              (waiting-apart job config p (waiter p e) (is_spoilt p e) e
              (λ r some. waiter-foreign job (entry_at p e) e r (next.fair.outer p) some))
              (foreign job config (Finished p) e d none next));
          still = still-of job config d base.rest;
          calm = base.calm;
          offers = λ k some. absurd (none-some k (sym offers ∙ some));
          asks = λ r some. absurd (none-some r (sym asks ∙ some));
        }) (seen-view ∙ ap (λ ns. ns ++ view job config c) none)
    by_freeing (OneFreed x y at waiting) =
        Noticed (Unblocked x.name) tt
        (seen-view ∙ ap (λ ns. ns ++ view job config c)
        (one-freed p e x y (instances_of job c) (instances_of job d) (λ k. waits-own x.place k p e is) at
        (once-of job c x.place)))
        (subst (λ (t : Chronicle). Plain job config (tells ++ (waits ++ Finished p ∷ e)) t) there
        (record {
          like = told (Finished q ∷ f)
              (subst (λ (es : List Entry). Like job config (es ++ Finished p ∷ e) (Finished q ∷ f))
              (sym silence) (like_finished job config e f x y p q is are pair));
          offers = None' offers refl;
          silent = ap (λ o. unless_answered o (tells ++ (waits ++ Finished p ∷ e))) asks;
          silent_there = refl;
        }))
      where
        f : Chronicle
        f = Given input.Turn ∷ d

        is : blocker x.place e ≡ Some p
        is = waits-some p (blocker x.place e) waiting

        silence : waits ≡ []
        silence = ap (λ o. answering_waiter o (is_spoilt p e))
            (emitter-waiter (entry_at p e) x.place e (blocker-own x.place p e is).1)

        pair : Pair job config e f x y
        pair = pair-at job config e f x y at (like_turn job config e d next)

        blocked : is_some (blocker y.place d) ≡ true
        blocked =
            sym (ap (λ (l : Life). l.blocked) pair.twin.bond.alike) ∙ ap (λ (o : Option ℕ). is_some o) is

        found-one : (q : ℕ) × (blocker y.place d ≡ Some q)
        found-one = some-of (blocker y.place d) blocked

        q : ℕ
        q = found-one.0

        are : blocker y.place f ≡ Some q
        are = found-one.1

        single : place_named x.name (instances_of job c) ≡ Some x.place
        single = at-known-left (λ u. place_named u.name (instances_of job c) ≡ Some u.place) x y
            (instances_of job c) (instances_of job d) at (base.like.singles job)

        named : Found x.name (instances_of job c) (instances_of job d)
            → instance_named (called job x.name) d ≡ Some y.place
        named (Neither none void) =
            absurd (clash (place_named x.name (instances_of job c)) x.place none single)
        named (Two u v beside left right) =
            let same : u.place ≡ x.place =
            same-some (place_named x.name (instances_of job c)) u.place x.place left single in
            let match = at-twins (Match x.place y.place) u v (instances_of job c) (instances_of job d) beside
            pair.match in
            right ∙ ap (λ k. Some k) (eqb-true v.place y.place (sym match ∙ eq-eqb u.place x.place same))

        there : Finished q ∷ f ≡ begin job config (Unblocked x.name) d
        there = sym (ap (λ o. freeing (blocker_of o d) d)
            (named (found job config c d x.name (instances_of job c) (instances_of job d) base.like.twins))
            ∙ ap (λ o. freeing o d) found-one.1)

-- a turn
older-live : (config : Configuration) (n : ℕ) (lives : List Live) (c : Chronicle) (live : Live)
    → AllByRecursion (λ l. l.place < n) lives → turn_event config lives c ≡ Some live → live.place < n
older-live config n [] c live older some = absurd (cc)
older-live config n (l ∷ lives) c live older some =
    by_case (not l.handled || not (is_held config l.place c)) some (older-live config n lives c live older.1)
  where
    by_case : (b : Bool) → (if b then Some l else turn_event config lives c) ≡ Some live
        → (turn_event config lives c ≡ Some live → live.place < n) → live.place < n
    by_case true some ih = let same : l ≡ live = cc in subst (λ k. k.place < n) same older.0
    by_case false some ih = ih some

all-older : (lives : List Live) (n : ℕ) → AreByAge lives n → AllByRecursion (λ l. l.place < n) lives
all-older [] n by = tt
all-older (l ∷ lives) n by = (by.0, all-older lives n by.2)

pub effect-turn : (job : Bytes) (config : Configuration) (c d : Chronicle) → Base job config c d
    → Effected job config c d (effect config input.Turn c ++ c)
unfolding effect
effect-turn job config c d base = rw append_assoc (by_event (turn_event config (queue c) c) refl)
  where
    by_handled : (live : Live) → live.place < length c → (b : Bool)
        → Effected job config c d
        ((if b then finishing live.place (Given input.Turn ∷ c) else Handled live.place ∷ [])
        ++ Given input.Turn ∷ c)
    by_handled live older true = finished job config live.place c d base
    by_handled live older false = taken-up job config live.place c d older base

    by_event : (o : Option Live) → turn_event config (queue c) c ≡ o
        → Effected job config c d (turn_of o (Given input.Turn ∷ c) ++ Given input.Turn ∷ c)
    by_event None is = turn-none job config c d base
    by_event (Some live) is = by_handled live
        (older-live config (length c) (queue c) c live (all-older (queue c) (length c) (queue_by_age c)) is)
        live.handled
