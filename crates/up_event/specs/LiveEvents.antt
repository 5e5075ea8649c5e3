-- What a contract sees of the live events: a list of them, the oldest first.
use Rattle.std.specs.Prelude.{◌≡◌, ℕ, ◌+◌, ◌-◌, ◌^◌, ◌<◌, ◌==◌, Bool, true, false, not, ◌||◌, List, [], ◌∷◌, Option, None, Some, IsSome, IsSomeAnd, if◌then◌else◌}
use Rattle.up_event.specs.declared.live.Finished.{Finished}
use Rattle.up_event.specs.declared.live.LiveEvent.{LiveEvent}
use Rattle.up_event.specs.declared.live.TurnKind.{TurnKind}
use Rattle.up_event.specs.declared.live.TurnKind.TheVariants.{Handle, Finish}
use Rattle.up_model.specs.declared.event.Event.{Event}
use Rattle.up_model.specs.declared.event_id.EventId.{EventId}

abbrev pub is : EventId → LiveEvent → Bool
is id live = live.id.key == id.key

-- the live event that an id names
abbrev pub named : EventId → List LiveEvent → Option LiveEvent
named id [] = None
named id (live ∷ lives) = if is id live then Some live else named id lives

-- no id names two of them
abbrev pub AreDistinct : List LiveEvent → Type 0
AreDistinct [] = Unit {0}
AreDistinct (live ∷ lives) = (named live.id lives ≡ None) × AreDistinct lives

-- an event that was just queued
abbrev pub new_live : EventId → Event → Option ℕ → LiveEvent
new_live id event waiter =
    record { id = id; event = event; handled = false; holds = 0; spoilt = false; waiter = waiter }

-- the list after a change of the one that an id names
abbrev pub with_change : EventId → (LiveEvent → LiveEvent) → List LiveEvent → List LiveEvent
with_change id change [] = []
with_change id change (live ∷ lives) = if is id live then change live ∷ lives
    else live ∷ with_change id change lives

-- the list without the one that an id names
abbrev pub without : EventId → List LiveEvent → List LiveEvent
without id [] = []
without id (live ∷ lives) = if is id live then lives else live ∷ without id lives

abbrev pub as_handled : LiveEvent → LiveEvent
as_handled live = record live { handled = true }

-- held once more
abbrev pub with_hold : LiveEvent → LiveEvent
with_hold live = record live { holds = live.holds + 1 }

-- held once less, and spoilt if that hold failed
abbrev pub without_hold : (failed : Bool) → LiveEvent → LiveEvent
without_hold failed live = record live { holds = live.holds - 1; spoilt = live.spoilt || failed }

-- what is left to do for an event that finishes
abbrev pub outcome_of : LiveEvent → Finished
outcome_of live = record { event = live.event; spoilt = live.spoilt; waiter = live.waiter }

-- the turn that is due for one event
abbrev pub turn_of : LiveEvent → Option (EventId × TurnKind)
turn_of live =
    if not live.handled then Some (live.id, Handle)
    else (if live.holds == 0 then Some (live.id, Finish) else None)

abbrev pub or_later : {A : Type 0} → Option A → Option A → Option A
or_later None later = later
or_later (Some turn) later = Some turn

-- the turn that is due for the oldest event that has one
abbrev pub next_turn : List LiveEvent → Option (EventId × TurnKind)
next_turn [] = None
next_turn (live ∷ lives) = or_later (turn_of live) (next_turn lives)

abbrev pub IsLive : EventId → List LiveEvent → Type 0
IsLive id lives = IsSome (named id lives)

-- the id is live, and its holds can still be counted with one more
abbrev pub MayBeHeld : EventId → List LiveEvent → Type 0
MayBeHeld id lives = IsSomeAnd (named id lives) (λ live. live.holds + 1 < 2 ^ 128)

abbrev pub IsHeld : EventId → List LiveEvent → Type 0
IsHeld id lives = IsSomeAnd (named id lives) (λ live. 0 < live.holds)

-- the id names a handled event that nobody holds
abbrev pub MayFinish : EventId → List LiveEvent → Type 0
MayFinish id lives = IsSomeAnd (named id lives) (λ live. (live.handled ≡ true) × (live.holds ≡ 0))
