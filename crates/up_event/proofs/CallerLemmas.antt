-- For callers: what each change of the list leaves of the event that an id names.
use Rattle.std.proofs.Common.{◌≡◌, ◌==◌, Bool, true, false, List, [], ◌∷◌, ◌++◌, Option, None, Some, option_map, cond, if◌then◌else◌, refl, sym, ◌∙◌, ap, subst, eqb-true, ne_eqb, inl, inr}
use Rattle.std.proofs.lemmas.Bool.{eqb-false}
use Rattle.std.proofs.lemmas.Bool.Decides.{eqb_tells}
use Rattle.up_event.specs.declared.live.LiveEvent.{LiveEvent}
use Rattle.up_event.specs.LiveEvents.{is, named, or_later, AreDistinct, with_change, without}
use Rattle.up_model.specs.declared.event_id.EventId.{EventId}

pub named_push : (lives : List LiveEvent) (live : LiveEvent) (id : EventId)
    → named id (lives ++ live ∷ []) ≡ or_later (named id lives) (if is id live then Some live else None)
named_push [] live id = refl
named_push (x ∷ xs) live id = by_case (is id x) (named_push xs live id)
  where
    by_case : (b : Bool) → named id (xs ++ live ∷ []) ≡ or_later (named id xs) (if is id live then Some live else None)
        → cond b (Some x) (named id (xs ++ live ∷ [])) ≡ or_later (cond b (Some x) (named id xs)) (if is id live then Some live else None)
    by_case true ih = refl
    by_case false ih = ih

-- a change keeps ids, as that of each call does by `refl`
pub named_changed : (id other : EventId) (change : LiveEvent → LiveEvent) (lives : List LiveEvent) → ((live : LiveEvent) → (change live).id ≡ live.id)
    → named other (with_change id change lives) ≡ (if id.key == other.key then option_map change (named other lives) else named other lives)
named_changed id other change [] keeps = none (id.key == other.key)
  where
    none : (b : Bool) → None ≡ cond b (option_map change None) (let absent : Option LiveEvent = None in absent)
    none true = refl
    none false = refl
named_changed id other change (x ∷ xs) keeps = by_case (is id x) refl (named_changed id other change xs keeps)
  where
    by_case : (b : Bool) → is id x ≡ b → named other (with_change id change xs) ≡ (if id.key == other.key then option_map change (named other xs) else named other xs)
        → named other (cond b (change x ∷ xs) (x ∷ with_change id change xs))
        ≡ (if id.key == other.key then option_map change (named other (x ∷ xs)) else named other (x ∷ xs))
    by_case true e ih =
        let kept : (id.key == other.key) ≡ (x.id.key == other.key) = ap (λ k. k == other.key) (sym (eqb-true x.id.key id.key e)) in
        let new : ((change x).id.key == other.key) ≡ (x.id.key == other.key) = ap (λ (i : EventId). i.key == other.key) (keeps x) in
        rw (kept, new) (at_other (x.id.key == other.key))
      where
        at_other : (b : Bool) → cond b (Some (change x)) (named other xs) ≡ cond b (option_map change (cond b (Some x) (named other xs))) (cond b (Some x) (named other xs))
        at_other true = refl
        at_other false = refl
    by_case false e ih =
        elim (eqb_tells x.id.key other.key) [
          | inl same ↦
              let differs : (id.key == other.key) ≡ false = ne_eqb id.key other.key (λ k. eqb-false x.id.key id.key e (same.1 ∙ sym k)) in
              rw (same.0, differs) refl
          | inr apart ↦ rw apart.0 ih
        ]

pub named_without : (id other : EventId) (lives : List LiveEvent) → AreDistinct lives
    → named other (without id lives) ≡ (if id.key == other.key then None else named other lives)
named_without id other [] d = none (id.key == other.key)
  where
    none : (b : Bool) → None ≡ cond b None (let absent : Option LiveEvent = None in absent)
    none true = refl
    none false = refl
named_without id other (x ∷ xs) d = by_case (is id x) refl (named_without id other xs d.1)
  where
    by_case : (b : Bool) → is id x ≡ b → named other (without id xs) ≡ (if id.key == other.key then None else named other xs)
        → named other (cond b xs (x ∷ without id xs)) ≡ (if id.key == other.key then None else named other (x ∷ xs))
    by_case true e ih =
        let kept : (id.key == other.key) ≡ (x.id.key == other.key) = ap (λ k. k == other.key) (sym (eqb-true x.id.key id.key e)) in
        elim (eqb_tells x.id.key other.key) [
          | inl same ↦
              let gone : named other xs ≡ None = subst (λ key. named (record { key = key }) xs ≡ None) same.1 d.0 in
              rw (kept, same.0) gone
          | inr apart ↦ rw (kept, apart.0) refl
        ]
    by_case false e ih =
        elim (eqb_tells x.id.key other.key) [
          | inl same ↦
              let differs : (id.key == other.key) ≡ false = ne_eqb id.key other.key (λ k. eqb-false x.id.key id.key e (same.1 ∙ sym k)) in
              rw (same.0, differs) refl
          | inr apart ↦ rw apart.0 ih
        ]
