-- What it means that a trigger agrees with what an expression has seen, which a job file may not have.
use Rattle.std.specs.Prelude.{◌≡◌, ℕ, List, [], Option, None, Some, map}
use Rattle.up_expr.specs.Trees.{Tree}
use Rattle.up_expr.specs.Truth.{Sight}
use Rattle.up_image.specs.declared.index.Place.{Place}
use Rattle.up_model.specs.declared.event.Event.{Event}
use Rattle.up_model.specs.declared.event_id.EventId.{EventId}
use Rattle.up_value.specs.Values.{Bytes, Bindings}
use Rattle.up_marks.specs.declared.mark.Mark.{Mark}
use Rattle.up_marks.specs.Agreeing.{Agrees, newly, sight_of}
use Rattle.up_marks.specs.Marking.{kept_in, uses}
use Rattle.up_marks.specs.Naming.{naming_in}

-- it has marks that agree, if there is an expression
abbrev pub Remembers : (EventId → Option ℕ) → Option (List Mark) → Option Tree → List Sight → Type 0
Remembers event_of None None sights = Unit {0}
Remembers event_of (Some marks) (Some tree) sights = Agrees event_of marks tree sights
Remembers event_of None (Some tree) sights = ⊥
Remembers event_of (Some marks) None sights = ⊥

-- how many leaves an event is new to
abbrev pub newly_in : Option Tree → List Sight → Sight → ℕ
newly_in None sights sight = 0
newly_in (Some tree) sights sight = newly tree sights sight

-- the events that it keeps, and how often it keeps one
abbrev pub kept_by : Option (List Mark) → List EventId
kept_by None = []
kept_by (Some marks) = kept_in marks

abbrev pub uses_by : EventId → Option (List Mark) → ℕ
uses_by id None = 0
uses_by id (Some marks) = uses id marks

-- these places are those of its leaves that name an event
abbrev pub AreNamingIn : List Place → Option Tree → Bytes → Type 0
AreNamingIn places condition name = map (λ place. place.node) places ≡ naming_in condition name

-- an event is offered to the leaves that name it: what is said of the sights before, and of its own, holds of
-- all that a trigger remembers
abbrev pub OnOfferIn : Option (List Mark) → Option Tree → List Place → EventId → Event → (env : Bindings)
    → ((EventId → Option ℕ) → List Sight → Sight → Type 0) → Type 0
OnOfferIn trigger condition places id event env says =
    (event_of : EventId → Option ℕ) (sights : List Sight) (e : ℕ)
    → Remembers event_of trigger condition sights → event_of id ≡ Some e
    → AreNamingIn places condition event.name → says event_of sights (sight_of e event.name event.vars env)

-- and so does what is said of each id
abbrev pub OfEachIdIn : Option (List Mark) → Option Tree → List Place → Event → (EventId → Type 0) → Type 0
OfEachIdIn trigger condition places event says =
    (event_of : EventId → Option ℕ) (sights : List Sight) (id : EventId)
    → Remembers event_of trigger condition sights → AreNamingIn places condition event.name → says id
