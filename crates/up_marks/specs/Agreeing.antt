-- What it means that marks agree with what an expression has seen.
use Rattle.std.specs.Prelude.{◌≡◌, ℕ, ◌+◌, List, [], ◌∷◌, ◌++◌, Option, Some, if◌then◌else◌, is_some, map, option_map}
use Rattle.std.specs.Str.{bytes_eq}
use Rattle.up_value.specs.Values.{Bytes, Bindings}
use Rattle.up_expr.specs.Flat.{size}
use Rattle.up_expr.specs.Matching.{matches}
use Rattle.up_expr.specs.Trees.{Tree, One, Both, Either}
use Rattle.up_expr.specs.Truth.{Sight, first}
use Rattle.up_image.specs.declared.index.Place.{Place}
use Rattle.up_model.specs.declared.event.Event.{Event}
use Rattle.up_model.specs.declared.event_id.EventId.{EventId}
use Rattle.up_marks.specs.declared.mark.Mark.{Mark}
use Rattle.up_marks.specs.Marking.{Kept, marks_of}

-- each leaf keeps the first event that it matches among those that were seen, by the event that each id
-- stands for
abbrev pub KeepsFirst : (EventId → Option ℕ) → ℕ → Tree → Kept → List Sight → Type 0
KeepsFirst event_of start (One leaf) kept sights =
    option_map event_of (kept start) ≡ option_map Some (first leaf sights)
KeepsFirst event_of start (Both left right) kept sights =
    KeepsFirst event_of start left kept sights × KeepsFirst event_of (start + size left) right kept sights
KeepsFirst event_of start (Either left right) kept sights =
    KeepsFirst event_of start left kept sights × KeepsFirst event_of (start + size left) right kept sights

-- marks agree with what an expression has seen: each leaf keeps the first event that it matches, and each
-- node is true if its part is
pub record Agrees (event_of : EventId → Option ℕ) (marks : List Mark) (tree : Tree) (sights : List Sight) : Type 0 where
  pub kept : Kept
  pub laid : marks ≡ marks_of 0 tree kept
  pub firsts : KeepsFirst event_of 0 tree kept sights

-- an event that is offered, with the environment by which the expression's values expand at that moment
abbrev pub sight_of : ℕ → Bytes → Bindings → Bindings → Sight
sight_of event name vars env = record { event = event; name = name; vars = vars; env = env }

-- the places of the leaves that name an event, from left to right
abbrev pub naming : ℕ → Tree → Bytes → List ℕ
naming start (One leaf) name = if bytes_eq name leaf.event then start ∷ [] else []
naming start (Both left right) name = naming start left name ++ naming (start + size left) right name
naming start (Either left right) name = naming start left name ++ naming (start + size left) right name

-- how many leaves an event is new to: those that match it, and none that was seen before
abbrev pub newly : Tree → List Sight → Sight → ℕ
newly (One leaf) sights sight =
    if is_some (first leaf sights) then 0
    else (if matches leaf sight.name sight.vars sight.env then 1 else 0)
newly (Both left right) sights sight = newly left sights sight + newly right sights sight
newly (Either left right) sights sight = newly left sights sight + newly right sights sight

-- these places are those of the leaves that name an event
abbrev pub AreNaming : List Place → Tree → Bytes → Type 0
AreNaming places tree name = map (λ place. place.node) places ≡ naming 0 tree name

-- an event is offered to the leaves that name it: what is said of the sights before, and of its own, holds of
-- all that the marks agree with
abbrev pub OnOffer : List Mark → Tree → List Place → EventId → Event → (env : Bindings)
    → ((EventId → Option ℕ) → List Sight → Sight → Type 0) → Type 0
OnOffer marks tree places id event env says = (event_of : EventId → Option ℕ) (sights : List Sight) (e : ℕ)
    → Agrees event_of marks tree sights → event_of id ≡ Some e → AreNaming places tree event.name
    → says event_of sights (sight_of e event.name event.vars env)

-- and so does what is said of each id
abbrev pub OfEachId : List Mark → Tree → List Place → Event → (EventId → Type 0) → Type 0
OfEachId marks tree places event says = (event_of : EventId → Option ℕ) (sights : List Sight) (id : EventId)
    → Agrees event_of marks tree sights → AreNaming places tree event.name → says id
