-- What an expression says depends on the names, variables and environments of the events whose names stand in it, and
-- not on their places.
use Rattle.std.proofs.Common.{◌≡◌, ℕ, Bool, true, false, ◌&&◌, ◌||◌, List, [], ◌∷◌, ◌++◌, Option, None, Some}
use Rattle.std.proofs.Common.{is_some, option_to_list, if◌then◌else◌, bytes_eq, refl, sym, ◌∙◌, ap, ap₂}
use Rattle.std.specs.List.{AllByRecursion}
use Rattle.up_expr.specs.declared.expr.Leaf.{Leaf}
use Rattle.up_expr.specs.Matching.{matches, tests_hold}
use Rattle.up_expr.specs.Trees.{Tree, One, Both, Either}
use Rattle.up_expr.specs.Truth.{Sight, first, holds, taken}
use Rattle.up_model.specs.declared.event.Event.{Event}
use Rattle.up_model.specs.Chronicle.{Chronicle}
use Rattle.up_model.specs.Events.{with_event, events_at}
use Rattle.up_model.specs.Readings.{event_at}
use Rattle.up_model.specs.Values.{Bytes}
use Rattle.up_model.proofs.Places.{bytes_same, bytes_refl}
use Rattle.up_isolation.specs.Views.{has_leaf, stands_in}

-- the sights of events whose names stand in an expression, without places
abbrev pub told : Option Tree → List Sight → List Sight
told tree [] = []
told tree (s ∷ ss) = if stands_in s.name tree
    then record { event = 0; name = s.name; vars = s.vars; env = s.env } ∷ told tree ss else told tree ss

abbrev pub event_of_sight : Sight → Event
event_of_sight s = record { name = s.name; vars = s.vars }

-- each event is the one at its place
abbrev pub AreKnown : Chronicle → List Sight → Type 0
AreKnown c ss = AllByRecursion (λ s. event_at s.event c ≡ Some (event_of_sight s)) ss

-- the first that a leaf matches, and those that are taken, as events
abbrev pub first_event : Leaf → List Sight → Option Event
first_event leaf [] = None
first_event leaf (s ∷ ss) =
    if matches leaf s.name s.vars s.env then Some (event_of_sight s) else first_event leaf ss

abbrev pub taken_events : Tree → List Sight → List Event
taken_events (One leaf) ss = option_to_list (first_event leaf ss)
taken_events (Both left right) ss =
    if holds left ss && holds right ss then taken_events left ss ++ taken_events right ss else []
taken_events (Either left right) ss = taken_events left ss ++ taken_events right ss

-- the leaves of a part stand in the whole
abbrev Covers : (whole part : Tree) → Type 0
Covers whole (One leaf) = has_leaf leaf.event whole ≡ true
Covers whole (Both left right) = Covers whole left × Covers whole right
Covers whole (Either left right) = Covers whole left × Covers whole right

or-true : (b : Bool) → (b || true) ≡ true
or-true true = refl
or-true false = refl

covers : (whole tree : Tree) → ((event : Bytes) → has_leaf event tree ≡ true → has_leaf event whole ≡ true)
    → Covers whole tree
covers whole (One leaf) stands = stands leaf.event (bytes_refl leaf.event)
covers whole (Both left right) stands = (
  covers whole left (λ event is. stands event (ap (λ b. b || has_leaf event right) is)),
  covers whole right (λ event is. stands event (ap (λ b. has_leaf event left || b) is
      ∙ or-true (has_leaf event left))),
)
covers whole (Either left right) stands = (
  covers whole left (λ event is. stands event (ap (λ b. b || has_leaf event right) is)),
  covers whole right (λ event is. stands event (ap (λ b. has_leaf event left || b) is
      ∙ or-true (has_leaf event left))),
)

covers-itself : (tree : Tree) → Covers tree tree
covers-itself tree = covers tree tree (λ event is. is)

-- an event whose name doesn't stand there matches no leaf
no-match : (whole : Tree) (leaf : Leaf) (s : Sight) → has_leaf leaf.event whole ≡ true
    → has_leaf s.name whole ≡ false
    → matches leaf s.name s.vars s.env ≡ false
no-match whole leaf s stands not = by_case (bytes_eq s.name leaf.event) refl
  where
    by_case : (b : Bool) → bytes_eq s.name leaf.event ≡ b
        → (if b then tests_hold s.vars s.env 0 leaf.values else false) ≡ false
    by_case true same =
        let there : has_leaf s.name whole ≡ true =
        ap (λ name. has_leaf name whole) (bytes_same s.name leaf.event same) ∙ stands in
        absurd (cc)
    by_case false differs = refl

first-told : (whole : Tree) (leaf : Leaf) (ss : List Sight) → has_leaf leaf.event whole ≡ true
    → first_event leaf (told (Some whole) ss) ≡ first_event leaf ss
first-told whole leaf [] stands = refl
first-told whole leaf (s ∷ ss) stands =
    by_case (has_leaf s.name whole) refl (first-told whole leaf ss stands)
  where
    by_case : (b : Bool) → has_leaf s.name whole ≡ b
        → first_event leaf (told (Some whole) ss) ≡ first_event leaf ss
        → first_event leaf (if b then record { event = 0; name = s.name; vars = s.vars; env = s.env }
        ∷ told (Some whole) ss else told (Some whole) ss) ≡ first_event leaf (s ∷ ss)
    by_case true is ih =
        ap (λ rest. if matches leaf s.name s.vars s.env then Some (event_of_sight s) else rest) ih
    by_case false is ih = rw (no-match whole leaf s stands is) ih

-- it matches the same with and without places
some-first : (leaf : Leaf) (ss : List Sight) → is_some (first leaf ss) ≡ is_some (first_event leaf ss)
some-first leaf [] = refl
some-first leaf (s ∷ ss) = by_case (matches leaf s.name s.vars s.env) (some-first leaf ss)
  where
    by_case : (b : Bool) → is_some (first leaf ss) ≡ is_some (first_event leaf ss)
        → is_some (if b then Some s.event else first leaf ss)
        ≡ is_some (if b then Some (event_of_sight s) else first_event leaf ss)
    by_case true ih = refl
    by_case false ih = ih

-- whether an expression is true
holds-part : (whole tree : Tree) (ss : List Sight) → Covers whole tree
    → holds tree (told (Some whole) ss) ≡ holds tree ss
holds-part whole (One leaf) ss covers =
    some-first leaf (told (Some whole) ss) ∙ ap (λ o. is_some o) (first-told whole leaf ss covers)
    ∙ sym (some-first leaf ss)
holds-part whole (Both left right) ss covers =
    ap₂ (λ a b. a && b) (holds-part whole left ss covers.0) (holds-part whole right ss covers.1)
holds-part whole (Either left right) ss covers =
    ap₂ (λ a b. a || b) (holds-part whole left ss covers.0) (holds-part whole right ss covers.1)

pub holds-told : (tree : Tree) (ss : List Sight) → holds tree (told (Some tree) ss) ≡ holds tree ss
holds-told tree ss = holds-part tree tree ss (covers-itself tree)

-- and what it takes
taken-part : (whole tree : Tree) (ss : List Sight) → Covers whole tree
    → taken_events tree (told (Some whole) ss) ≡ taken_events tree ss
taken-part whole (One leaf) ss covers = ap (λ o. option_to_list o) (first-told whole leaf ss covers)
taken-part whole (Both left right) ss covers =
    rw (
      holds-part whole left ss covers.0,
      holds-part whole right ss covers.1,
      taken-part whole left ss covers.0,
      taken-part whole right ss covers.1,
    ) refl
taken-part whole (Either left right) ss covers =
    ap₂ (λ a b. a ++ b) (taken-part whole left ss covers.0) (taken-part whole right ss covers.1)

pub taken-told : (tree : Tree) (ss : List Sight) → taken_events tree (told (Some tree) ss) ≡ taken_events tree ss
taken-told tree ss = taken-part tree tree ss (covers-itself tree)

events-append : (xs ys : List ℕ) (c : Chronicle) → events_at (xs ++ ys) c ≡ events_at xs c ++ events_at ys c
events-append [] ys c = refl
events-append (x ∷ xs) ys c = by_case (event_at x c) (events-append xs ys c)
  where
    by_case : (o : Option Event) → events_at (xs ++ ys) c ≡ events_at xs c ++ events_at ys c
        → with_event o (events_at (xs ++ ys) c) ≡ with_event o (events_at xs c) ++ events_at ys c
    by_case None ih = ih
    by_case (Some event) ih = ap (λ rest. event ∷ rest) ih

first-known : (leaf : Leaf) (ss : List Sight) (c : Chronicle) → AreKnown c ss
    → events_at (option_to_list (first leaf ss)) c ≡ option_to_list (first_event leaf ss)
first-known leaf [] c known = refl
first-known leaf (s ∷ ss) c known = by_case (matches leaf s.name s.vars s.env) (first-known leaf ss c known.1)
  where
    by_case : (b : Bool) → events_at (option_to_list (first leaf ss)) c ≡ option_to_list (first_event leaf ss)
        → events_at (option_to_list (if b then Some s.event else first leaf ss)) c
        ≡ option_to_list (if b then Some (event_of_sight s) else first_event leaf ss)
    by_case true ih = ap (λ o. with_event o []) known.0
    by_case false ih = ih

-- the events at the places that are taken
pub taken-known : (tree : Tree) (ss : List Sight) (c : Chronicle) → AreKnown c ss
    → events_at (taken tree ss) c ≡ taken_events tree ss
taken-known (One leaf) ss c known = first-known leaf ss c known
taken-known (Both left right) ss c known =
    by_case (holds left ss && holds right ss) (taken-known left ss c known) (taken-known right ss c known)
  where
    by_case : (b : Bool) → events_at (taken left ss) c ≡ taken_events left ss
        → events_at (taken right ss) c ≡ taken_events right ss
        → events_at (if b then taken left ss ++ taken right ss else []) c
        ≡ (if b then taken_events left ss ++ taken_events right ss else [])
    by_case true ih other = events-append (taken left ss) (taken right ss) c ∙ ap₂ (λ a b. a ++ b) ih other
    by_case false ih other = refl
taken-known (Either left right) ss c known =
    events-append (taken left ss) (taken right ss) c ∙ ap₂ (λ a b. a ++ b) (taken-known left ss c known)
    (taken-known right ss c known)
