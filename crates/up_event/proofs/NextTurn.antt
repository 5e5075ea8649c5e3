-- The turn that is due, and what each change of the list makes of it.
use Rattle.std.proofs.Common.{◌≡◌, ℕ, zero, suc, ◌+◌, ◌-◌, ◌==◌, Bool, true, false, List, [], ◌∷◌, ◌++◌, Option, None, Some, IfSome, IsSomeAnd, is_some, not, cond, refl, sym, ◌∙◌, ap, subst, arith, eqb-true, eq-eqb, ne_eqb, inl, inr}
use Rattle.std.proofs.lemmas.Bool.Decides.{eqb_tells}
use Rattle.std.proofs.lemmas.Option.{same_Some}
use Rattle.up_event.specs.declared.live.LiveEvent.{LiveEvent}
use Rattle.up_event.specs.declared.live.TurnKind.{TurnKind}
use Rattle.up_event.specs.declared.live.TurnKind.TheVariants.{Handle, Finish}
use Rattle.up_event.specs.Links.{after, from_key}
use Rattle.up_event.specs.LiveEvents.{is, named, AreDistinct, as_handled, next_turn, or_later, turn_of, with_change, with_hold, without, without_hold, IsLive, MayFinish}
use Rattle.up_event.specs.Turns.{has_turn, is_turn_of}
use Rattle.up_event.proofs.Linking.{id_at}
use Rattle.up_model.specs.declared.event_id.EventId.{EventId}

-- the event of the turn that is due
pub record Due (lives : List LiveEvent) (turn : EventId × TurnKind) : Type 0 where
  pub live : LiveEvent
  pub named : named turn.0 lives ≡ Some live
  pub due : turn_of live ≡ Some turn

id_of_turn : (live : LiveEvent) (turn : EventId × TurnKind) → turn_of live ≡ Some turn → live.id ≡ turn.0
id_of_turn live turn h = by_case live.handled (live.holds == 0) h
  where
    by_case : (handled unheld : Bool) → cond (not handled) (Some (live.id, Handle)) (cond unheld (Some (live.id, Finish)) None) ≡ Some turn → live.id ≡ turn.0
    by_case false unheld h = ap (λ (t : EventId × TurnKind). t.0) (same_Some (live.id, Handle) turn h)
    by_case true true h = ap (λ (t : EventId × TurnKind). t.0) (same_Some (live.id, Finish) turn h)
    by_case true false h = absurd cc

pub due : (lives : List LiveEvent) (turn : EventId × TurnKind) → AreDistinct lives → next_turn lives ≡ Some turn → Due lives turn
due [] turn d h = absurd cc
due (x ∷ xs) turn d h = by_case (turn_of x) refl h (due xs turn d.1)
  where
    by_case : (now : Option (EventId × TurnKind)) → turn_of x ≡ now → or_later now (next_turn xs) ≡ Some turn → (next_turn xs ≡ Some turn → Due xs turn) → Due (x ∷ xs) turn
    by_case None e h ih =
        let later = ih h in
        elim (eqb_tells x.id.key turn.0.key) [
          | inl same ↦ absurd (cc (ap (λ key. named (id_at key) xs) same.1, d.0, later.named))
          | inr other ↦ record { live = later.live; named = rw other.0 later.named; due = later.due }
        ]
    by_case (Some now) e h ih =
        let same : x.id ≡ turn.0 = id_of_turn x turn (e ∙ h) in
        record { live = x; named = rw (eq-eqb x.id.key turn.0.key (ap (λ (id : EventId). id.key) same)) refl; due = e ∙ h }

finishes : (live : LiveEvent) (turn : EventId × TurnKind) → turn_of live ≡ Some turn → turn.1 ≡ Finish → (live.handled ≡ true) × (live.holds ≡ 0)
finishes live turn h finish = by_case live.handled (live.holds == 0) refl refl h
  where
    by_case : (handled unheld : Bool) → live.handled ≡ handled → (live.holds == 0) ≡ unheld
        → cond (not handled) (Some (live.id, Handle)) (cond unheld (Some (live.id, Finish)) None) ≡ Some turn → (live.handled ≡ true) × (live.holds ≡ 0)
    by_case false unheld a b h = absurd (cc (ap (λ (t : EventId × TurnKind). t.1) (same_Some (live.id, Handle) turn h), finish))
    by_case true true a b h = (a, eqb-true live.holds 0 b)
    by_case true false a b h = absurd cc

pub is_live : (lives : List LiveEvent) (turn : EventId × TurnKind) → AreDistinct lives → next_turn lives ≡ Some turn → IsLive turn.0 lives
is_live lives turn d h = ap is_some (due lives turn d h).named

pub may_finish : (lives : List LiveEvent) (turn : EventId × TurnKind) → AreDistinct lives → next_turn lives ≡ Some turn → turn.1 ≡ Finish → MayFinish turn.0 lives
may_finish lives turn d h finish =
    let it = due lives turn d h in
    subst (λ (o : Option LiveEvent). IsSomeAnd o (λ live. (live.handled ≡ true) × (live.holds ≡ 0))) (sym it.named) (finishes it.live turn it.due finish)

-- a turn for one event isn't one for another
not-its : (id : EventId) (x : LiveEvent) (turn : EventId × TurnKind) → is id x ≡ false → turn_of x ≡ Some turn → is_turn_of id (Some turn) ≡ false
not-its id x turn other now = rw (sym (ap (λ (i : EventId). i.key) (id_of_turn x turn now))) other

its : (id : EventId) (x : LiveEvent) (turn : EventId × TurnKind) → is id x ≡ true → turn_of x ≡ Some turn → is_turn_of id (Some turn) ≡ true
its id x turn same now = rw (sym (ap (λ (i : EventId). i.key) (id_of_turn x turn now))) same

-- if the turn is for the event that changes, all before it are without one
pub since : (id : EventId) (change : LiveEvent → LiveEvent) (lives : List LiveEvent) → ((live : LiveEvent) → (change live).id ≡ live.id) → is_turn_of id (next_turn lives) ≡ true
    → next_turn (with_change id change lives) ≡ next_turn (from_key id.key (with_change id change lives))
since id change [] keeps due = absurd cc
since id change (x ∷ xs) keeps due = by_case (is id x) refl (since id change xs keeps)
  where
    by_turn : (now : Option (EventId × TurnKind)) → turn_of x ≡ now → is id x ≡ false → is_turn_of id (or_later now (next_turn xs)) ≡ true
        → (is_turn_of id (next_turn xs) ≡ true → next_turn (with_change id change xs) ≡ next_turn (from_key id.key (with_change id change xs)))
        → or_later now (next_turn (with_change id change xs)) ≡ next_turn (from_key id.key (with_change id change xs))
    by_turn None now other due ih = ih due
    by_turn (Some turn) now other due ih = absurd (cc (due, not-its id x turn other now))

    by_case : (b : Bool) → is id x ≡ b
        → (is_turn_of id (next_turn xs) ≡ true → next_turn (with_change id change xs) ≡ next_turn (from_key id.key (with_change id change xs)))
        → next_turn (cond b (change x ∷ xs) (x ∷ with_change id change xs)) ≡ next_turn (from_key id.key (cond b (change x ∷ xs) (x ∷ with_change id change xs)))
    by_case true same ih = rw (keeps x, same) refl
    by_case false other ih = rw other (by_turn (turn_of x) refl other due ih)

-- and else it stays, unless the event gets one
pub beside : (id : EventId) (change : LiveEvent → LiveEvent) (lives : List LiveEvent) → ((live : LiveEvent) → turn_of live ≡ None → turn_of (change live) ≡ None)
    → is_turn_of id (next_turn lives) ≡ false → next_turn (with_change id change lives) ≡ next_turn lives
beside id change [] gets other = refl
beside id change (x ∷ xs) gets other = by_case (is id x) refl (turn_of x) refl other (beside id change xs gets)
  where
    by_case : (b : Bool) → is id x ≡ b → (now : Option (EventId × TurnKind)) → turn_of x ≡ now → is_turn_of id (or_later now (next_turn xs)) ≡ false
        → (is_turn_of id (next_turn xs) ≡ false → next_turn (with_change id change xs) ≡ next_turn xs)
        → next_turn (cond b (change x ∷ xs) (x ∷ with_change id change xs)) ≡ or_later now (next_turn xs)
    by_case true same None now other ih = rw (gets x now) refl
    by_case true same (Some turn) now other ih = absurd (cc (other, its id x turn same now))
    by_case false differs None now other ih = rw now (ih other)
    by_case false differs (Some turn) now other ih = rw now refl

-- a change that leaves its event without a turn, as it was
pub idle : (id : EventId) (change : LiveEvent → LiveEvent) (lives : List LiveEvent) → ((live : LiveEvent) → (change live).id ≡ live.id)
    → ((live : LiveEvent) → turn_of (change live) ≡ None → turn_of live ≡ None) → has_turn (named id (with_change id change lives)) ≡ false
    → next_turn (with_change id change lives) ≡ next_turn lives
idle id change [] keeps had none = refl
idle id change (x ∷ xs) keeps had none = by_case (is id x) refl none (idle id change xs keeps had)
  where
    is_none : (now : Option (EventId × TurnKind)) → is_some now ≡ false → now ≡ None
    is_none None h = refl
    is_none (Some turn) h = absurd cc

    by_case : (b : Bool) → is id x ≡ b → has_turn (named id (cond b (change x ∷ xs) (x ∷ with_change id change xs))) ≡ false
        → (has_turn (named id (with_change id change xs)) ≡ false → next_turn (with_change id change xs) ≡ next_turn xs)
        → next_turn (cond b (change x ∷ xs) (x ∷ with_change id change xs)) ≡ next_turn (x ∷ xs)
    by_case true same none ih =
        let named-so : is id (change x) ≡ true = ap (λ (i : EventId). i.key == id.key) (keeps x) ∙ same in
        let after : turn_of (change x) ≡ None = is_none (turn_of (change x)) (rw named-so at none) in
        rw (after, had x after) refl
    by_case false other none ih = ap (or_later (turn_of x)) (ih (rw other at none))

-- the event of the turn is taken out
pub beyond : (id : EventId) (lives : List LiveEvent) → is_turn_of id (next_turn lives) ≡ true → next_turn (without id lives) ≡ next_turn (after id.key lives)
beyond id [] due = absurd cc
beyond id (x ∷ xs) due = by_case (is id x) refl (turn_of x) refl due (beyond id xs)
  where
    by_case : (b : Bool) → is id x ≡ b → (now : Option (EventId × TurnKind)) → turn_of x ≡ now → is_turn_of id (or_later now (next_turn xs)) ≡ true
        → (is_turn_of id (next_turn xs) ≡ true → next_turn (without id xs) ≡ next_turn (after id.key xs))
        → next_turn (cond b xs (x ∷ without id xs)) ≡ next_turn (cond b xs (after id.key xs))
    by_case true same now e due ih = refl
    by_case false other None e due ih = rw e (ih due)
    by_case false other (Some turn) e due ih = absurd (cc (due, not-its id x turn other e))

-- or another
pub apart : (id : EventId) (lives : List LiveEvent) → is_turn_of id (next_turn lives) ≡ false → next_turn (without id lives) ≡ next_turn lives
apart id [] other = refl
apart id (x ∷ xs) other = by_case (is id x) refl (turn_of x) refl other (apart id xs)
  where
    by_case : (b : Bool) → is id x ≡ b → (now : Option (EventId × TurnKind)) → turn_of x ≡ now → is_turn_of id (or_later now (next_turn xs)) ≡ false
        → (is_turn_of id (next_turn xs) ≡ false → next_turn (without id xs) ≡ next_turn xs)
        → next_turn (cond b xs (x ∷ without id xs)) ≡ or_later now (next_turn xs)
    by_case true same None e other ih = refl
    by_case true same (Some turn) e other ih = absurd (cc (other, its id x turn same e))
    by_case false differs None e other ih = rw e (ih other)
    by_case false differs (Some turn) e other ih = rw e refl

-- one more event
pub pushed : (lives : List LiveEvent) (live : LiveEvent) → next_turn (lives ++ live ∷ []) ≡ or_later (next_turn lives) (turn_of live)
pushed [] live = by_case (turn_of live)
  where
    by_case : (now : Option (EventId × TurnKind)) → or_later now None ≡ now
    by_case None = refl
    by_case (Some turn) = refl
pushed (x ∷ xs) live = by_case (turn_of x) (pushed xs live)
  where
    by_case : (now : Option (EventId × TurnKind)) → next_turn (xs ++ live ∷ []) ≡ or_later (next_turn xs) (turn_of live)
        → or_later now (next_turn (xs ++ live ∷ [])) ≡ or_later (or_later now (next_turn xs)) (turn_of live)
    by_case None ih = ih
    by_case (Some turn) ih = refl

-- what each call makes of the turn of its event
pub handled-idle : (live : LiveEvent) → turn_of live ≡ None → turn_of (as_handled live) ≡ None
handled-idle live none = by_case live.handled (live.holds == 0) none
  where
    by_case : (handled unheld : Bool) → cond {A = Option (EventId × TurnKind)} (not handled) (Some (live.id, Handle)) (cond unheld (Some (live.id, Finish)) None) ≡ None
        → cond {A = Option (EventId × TurnKind)} unheld (Some (live.id, Finish)) None ≡ None
    by_case false unheld none = absurd cc
    by_case true unheld none = none

pub hold-idle : (live : LiveEvent) → turn_of live ≡ None → turn_of (with_hold live) ≡ None
hold-idle live none = by_case live.handled none
  where
    by_case : (handled : Bool) → cond {A = Option (EventId × TurnKind)} (not handled) (Some (live.id, Handle)) (cond (live.holds == 0) (Some (live.id, Finish)) None) ≡ None
        → cond {A = Option (EventId × TurnKind)} (not handled) (Some (live.id, Handle)) (cond (live.holds + 1 == 0) (Some (live.id, Finish)) None) ≡ None
    by_case false none = absurd cc
    by_case true none =
        let held : (live.holds + 1 == 0) ≡ false = ne_eqb (live.holds + 1) 0 (λ e. omega (arith, e)) in
        rw held refl

pub release-idle : (failed : Bool) (live : LiveEvent) → turn_of (without_hold failed live) ≡ None → turn_of live ≡ None
release-idle failed live none = by_case live.handled live.holds none
  where
    by_case : (handled : Bool) (holds : ℕ) → cond {A = Option (EventId × TurnKind)} (not handled) (Some (live.id, Handle)) (cond (holds - 1 == 0) (Some (live.id, Finish)) None) ≡ None
        → cond {A = Option (EventId × TurnKind)} (not handled) (Some (live.id, Handle)) (cond (holds == 0) (Some (live.id, Finish)) None) ≡ None
    by_case false holds none = absurd cc
    by_case true zero none = absurd cc
    by_case true (suc holds) none =
        let held : (suc holds == 0) ≡ false = ne_eqb (suc holds) 0 (λ e. omega (arith, e)) in
        rw held refl

-- what a call that changes one event finds to be due
pub found-since : (id : EventId) (change : LiveEvent → LiveEvent) (old new : List LiveEvent) (next later : Option (EventId × TurnKind)) (mine : Bool)
    → ((live : LiveEvent) → (change live).id ≡ live.id) → new ≡ with_change id change old → next ≡ next_turn old → mine ≡ is_turn_of id next → mine ≡ true
    → later ≡ next_turn (from_key id.key new) → later ≡ next_turn new
found-since id change old new next later mine keeps changed was known holds found =
    let due : is_turn_of id (next_turn old) ≡ true = cc (was, known, holds) in
    found ∙ sym (rw changed (since id change old keeps due))

pub found-beside : (id : EventId) (change : LiveEvent → LiveEvent) (old new : List LiveEvent) (next : Option (EventId × TurnKind)) (mine : Bool)
    → ((live : LiveEvent) → turn_of live ≡ None → turn_of (change live) ≡ None) → new ≡ with_change id change old → next ≡ next_turn old → mine ≡ is_turn_of id next → mine ≡ false
    → next ≡ next_turn new
found-beside id change old new next mine gets changed was known holds =
    let other : is_turn_of id (next_turn old) ≡ false = cc (was, known, holds) in
    was ∙ sym (rw changed (beside id change old gets other))

pub live-changed : (id : EventId) (change : LiveEvent → LiveEvent) (lives : List LiveEvent) → ((live : LiveEvent) → (change live).id ≡ live.id) → IsLive id lives
    → IsLive id (with_change id change lives)
live-changed id change [] keeps live = absurd cc
live-changed id change (x ∷ xs) keeps live = by_case (is id x) refl live (live-changed id change xs keeps)
  where
    by_case : (b : Bool) → is id x ≡ b → is_some (cond b (Some x) (named id xs)) ≡ true → (IsLive id xs → IsLive id (with_change id change xs))
        → IsLive id (cond b (change x ∷ xs) (x ∷ with_change id change xs))
    by_case true same live ih = rw (keeps x, same) refl
    by_case false other live ih = rw other (ih live)

-- and what one that takes an event out does
pub found-beyond : (id : EventId) (old new : List LiveEvent) (next later after-all : Option (EventId × TurnKind)) (mine : Bool)
    → new ≡ without id old → next ≡ next_turn old → mine ≡ is_turn_of id next → mine ≡ true → later ≡ next_turn (after id.key old) → after-all ≡ later → after-all ≡ next_turn new
found-beyond id old new next later after-all mine gone was known holds found stored =
    let due : is_turn_of id (next_turn old) ≡ true = cc (was, known, holds) in
    stored ∙ found ∙ sym (rw gone (beyond id old due))

pub found-apart : (id : EventId) (old new : List LiveEvent) (next after-all : Option (EventId × TurnKind)) (mine : Bool)
    → new ≡ without id old → next ≡ next_turn old → mine ≡ is_turn_of id next → mine ≡ false → after-all ≡ next → after-all ≡ next_turn new
found-apart id old new next after-all mine gone was known holds stored =
    let other : is_turn_of id (next_turn old) ≡ false = cc (was, known, holds) in
    stored ∙ was ∙ sym (rw gone (apart id old other))

pub for-turn : (next : Option (EventId × TurnKind)) (P : EventId × TurnKind → Type 0) → ((turn : EventId × TurnKind) → next ≡ Some turn → P turn) → IfSome next P
for-turn None P h = tt
for-turn (Some turn) P h = h turn refl
