-- The live events, and where they were queued.
use Rattle.std.specs.Prelude.{◌≡◌, ◌+◌, ℕ, ◌==◌, Bool, List, [], ◌∷◌, Option, None, Some, option_map, if◌then◌else◌}
use Rattle.up_event.specs.declared.live.Finished.{Finished}
use Rattle.up_event.specs.declared.live.LiveEvent.{LiveEvent}
use Rattle.up_event.specs.LiveEvents.{named}
use Rattle.up_model.specs.declared.event.Event.{Event}
use Rattle.up_model.specs.declared.event_id.EventId.{EventId}
use Rattle.up_model.specs.Chronicle.{Chronicle}
use Rattle.up_model.specs.Held.{is_spoilt}
use Rattle.up_model.specs.Queue.{Live}
use Rattle.up_model.specs.Readings.{event_at, id_at}
use Rattle.up_model.specs.Replies.{waiter}
use Rattle.up_job.specs.declared.instances.JobInstances.{JobInstances}
use Rattle.up_ledger.specs.Counting.{uses, start_uses}
use Rattle.up_marks.specs.declared.mark.Mark.{Mark}

-- what is to be known of a live event
pub record Standing : Type 0 where
  pub event : Option Event
  pub handled : Bool
  pub spoilt : Bool
  pub waiter : Option ℕ

abbrev pub standing_of : LiveEvent → Standing
standing_of live = record { event = Some live.event; handled = live.handled; spoilt = live.spoilt; waiter = live.waiter }

-- the number of the client that waits for it
abbrev pub number_of : Option ℕ → Chronicle → Option ℕ
number_of None c = None
number_of (Some request) c = id_at request c

abbrev pub standing_at : Chronicle → Live → Standing
standing_at c live = record {
  event = event_at live.place c;
  handled = live.handled;
  spoilt = is_spoilt live.place c;
  waiter = number_of (waiter live.place c) c;
}

-- what is left of one that finishes
abbrev pub finished_at : ℕ → Chronicle → Option Finished
finished_at place c = option_map (λ event. record {
  event = event;
  spoilt = is_spoilt place c;
  waiter = number_of (waiter place c) c;
}) (event_at place c)

-- where the event of an id was queued: both lists are by age
abbrev pub place_of : List LiveEvent → List Live → EventId → Option ℕ
place_of [] lives id = None
place_of (event ∷ events) [] id = None
place_of (event ∷ events) (live ∷ lives) id = if event.id.key == id.key then Some live.place
    else place_of events lives id

abbrev pub holds_in : Option LiveEvent → ℕ
holds_in None = 0
holds_in (Some live) = live.holds

-- how often an event is held: not at all, if it doesn't live
abbrev pub holds_of : EventId → List LiveEvent → ℕ
holds_of id events = holds_in (named id events)

-- each is held as often as it is used, and what doesn't live isn't
abbrev pub AreCounted : List LiveEvent → List JobInstances → List (Option (List Mark)) → Type 0
AreCounted events jobs starts = (id : EventId) → holds_of id events ≡ uses id jobs + start_uses id starts

-- ids stand for the same places among whatever lives
abbrev pub SamePlaces : (news olds : List LiveEvent) → Type 0
SamePlaces news olds = (lives : List Live) (id : EventId) → place_of news lives id ≡ place_of olds lives id
