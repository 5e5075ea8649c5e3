-- Laws of the list of live events.
use Rattle.std.proofs.Common.{◌≡◌, Bool, true, false, List, [], ◌∷◌, ◌++◌, length, None, Some, suc, cond, refl, sym, ◌∙◌, ap, eqb-true, eq-eqb, ne_eqb}
use Rattle.up_event.specs.declared.live.LiveEvent.{LiveEvent}
use Rattle.up_event.specs.LiveEvents.{is, named, AreDistinct, with_change, without}
use Rattle.up_model.specs.declared.event_id.EventId.{EventId}

-- what names none of them names neither the oldest nor one of the others
pub absent_parts : (id : EventId) (live : LiveEvent) (lives : List LiveEvent) → named id (live ∷ lives) ≡ None
    → (is id live ≡ false) × (named id lives ≡ None)
absent_parts id live lives h = by_case (is id live) h
  where
    by_case : (b : Bool) → cond b (Some live) (named id lives) ≡ None → (b ≡ false) × (named id lives ≡ None)
    by_case true e = absurd cc
    by_case false e = (refl, e)

pub absent_cons : (id : EventId) (live : LiveEvent) (lives : List LiveEvent) → is id live ≡ false → named id lives ≡ None
    → named id (live ∷ lives) ≡ None
absent_cons id live lives other absent = rw other absent

pub is_other : (a b : LiveEvent) → is a.id b ≡ false → is b.id a ≡ false
is_other a b h = ne_eqb a.id.key b.id.key (λ same. absurd (cc (eq-eqb b.id.key a.id.key (sym same))))

-- a new one among the others
pub absent_push : (id : EventId) (lives : List LiveEvent) (live : LiveEvent) → named id lives ≡ None → is id live ≡ false
    → named id (lives ++ live ∷ []) ≡ None
absent_push id [] live absent other = absent_cons id live [] other refl
absent_push id (first ∷ lives) live absent other =
    let parts = absent_parts id first lives absent in
    absent_cons id first (lives ++ live ∷ []) parts.0 (absent_push id lives live parts.1 other)

pub present_push : (lives : List LiveEvent) (live : LiveEvent) → named live.id lives ≡ None → named live.id (lives ++ live ∷ []) ≡ Some live
present_push [] live absent = rw (eq-eqb live.id.key live.id.key refl) refl
present_push (first ∷ lives) live absent =
    let parts = absent_parts live.id first lives absent in
    rw parts.0 (present_push lives live parts.1)

pub distinct_push : (lives : List LiveEvent) (live : LiveEvent) → AreDistinct lives → named live.id lives ≡ None
    → AreDistinct (lives ++ live ∷ [])
distinct_push [] live d absent = (refl, tt)
distinct_push (first ∷ lives) live d absent =
    let parts = absent_parts live.id first lives absent in
    (absent_push first.id lives live d.0 (is_other live first parts.0), distinct_push lives live d.1 parts.1)

-- a change keeps ids
pub absent_changed : (id other : EventId) (change : LiveEvent → LiveEvent) (lives : List LiveEvent) → ((live : LiveEvent) → (change live).id ≡ live.id)
    → named other lives ≡ None → named other (with_change id change lives) ≡ None
absent_changed id other change [] keeps absent = refl
absent_changed id other change (live ∷ lives) keeps absent =
    let parts = absent_parts other live lives absent in
    by_case (is id live) parts.0 parts.1 (absent_changed id other change lives keeps parts.1)
  where
    by_case : (b : Bool) → is other live ≡ false → named other lives ≡ None → named other (with_change id change lives) ≡ None
        → named other (cond b (change live ∷ lives) (live ∷ with_change id change lives)) ≡ None
    by_case true differs later ih = absent_cons other (change live) lives (rw (keeps live) differs) later
    by_case false differs later ih = absent_cons other live (with_change id change lives) differs ih

pub distinct_changed : (id : EventId) (change : LiveEvent → LiveEvent) (lives : List LiveEvent) → ((live : LiveEvent) → (change live).id ≡ live.id)
    → AreDistinct lives → AreDistinct (with_change id change lives)
distinct_changed id change [] keeps d = tt
distinct_changed id change (live ∷ lives) keeps d = by_case (is id live) (distinct_changed id change lives keeps d.1)
  where
    by_case : (b : Bool) → AreDistinct (with_change id change lives) → AreDistinct (cond b (change live ∷ lives) (live ∷ with_change id change lives))
    by_case true ih = (rw (keeps live) d.0, d.1)
    by_case false ih = (absent_changed id live.id change lives keeps d.0, ih)

pub length_changed : (id : EventId) (change : LiveEvent → LiveEvent) (lives : List LiveEvent) → length (with_change id change lives) ≡ length lives
length_changed id change [] = refl
length_changed id change (live ∷ lives) = by_case (is id live) (length_changed id change lives)
  where
    by_case : (b : Bool) → length (with_change id change lives) ≡ length lives → length (cond b (change live ∷ lives) (live ∷ with_change id change lives)) ≡ length (live ∷ lives)
    by_case true h = refl
    by_case false h = ap (λ n. suc n) h

-- one of them, with those before it and those after it
pub record Split (id : EventId) (live : LiveEvent) (lives : List LiveEvent) : Type 0 where
  pub before : List LiveEvent
  pub after : List LiveEvent
  pub whole : lives ≡ before ++ live ∷ after
  pub others : without id lives ≡ before ++ after
  pub same : id.key ≡ live.id.key

pub split : (id : EventId) (live : LiveEvent) (lives : List LiveEvent) → named id lives ≡ Some live → Split id live lives
split id live [] h = absurd cc
split id live (first ∷ lives) h = by_case (is id first) refl h (split id live lives)
  where
    by_case : (b : Bool) → is id first ≡ b → cond b (Some first) (named id lives) ≡ Some live → (named id lives ≡ Some live → Split id live lives)
        → Split id live (first ∷ lives)
    by_case true e found ih =
        let it : first ≡ live = cc in
        record { before = []; after = lives; whole = ap (λ l. l ∷ lives) it; others = rw e refl; same = sym (eqb-true first.id.key id.key e) ∙ ap (λ (l : LiveEvent). l.id.key) it }
    by_case false e found ih =
        let s = ih found in
        record { before = first ∷ s.before; after = s.after; whole = ap (λ ls. first ∷ ls) s.whole; others = rw e (ap (λ ls. first ∷ ls) s.others); same = s.same }

-- what names none of them, if one is taken out
pub absent_middle : (id : EventId) (before : List LiveEvent) (live : LiveEvent) (after : List LiveEvent) → named id (before ++ live ∷ after) ≡ None
    → (is id live ≡ false) × (named id before ≡ None) × (named id after ≡ None)
absent_middle id [] live after absent =
    let parts = absent_parts id live after absent in (parts.0, refl, parts.1)
absent_middle id (first ∷ before) live after absent =
    let parts = absent_parts id first (before ++ live ∷ after) absent in
    let later = absent_middle id before live after parts.1 in
    (later.0, absent_cons id first before parts.0 later.1, later.2)

pub absent_append : (id : EventId) (before after : List LiveEvent) → named id before ≡ None → named id after ≡ None → named id (before ++ after) ≡ None
absent_append id [] after h k = k
absent_append id (first ∷ before) after h k =
    let parts = absent_parts id first before h in
    absent_cons id first (before ++ after) parts.0 (absent_append id before after parts.1 k)

pub distinct_without : (before : List LiveEvent) (live : LiveEvent) (after : List LiveEvent) → AreDistinct (before ++ live ∷ after) → AreDistinct (before ++ after)
distinct_without [] live after d = d.1
distinct_without (first ∷ before) live after d =
    let parts = absent_middle first.id before live after d.0 in
    (absent_append first.id before after parts.1 parts.2, distinct_without before live after d.1)
