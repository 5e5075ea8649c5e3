-- The queue of events, oldest first (starting(7), stopping(7)).
use Rattle.std.specs.Prelude.{ℕ, Bool, true, false, ◌==◌, List, [], ◌∷◌, ◌++◌, if◌then◌else◌, length}
use Rattle.up_model.specs.Chronicle.{Chronicle, Queued, Handled, Finished}

-- an event in the queue, and whether a turn took it up
pub record Live : Type 0 where
  pub place : ℕ
  pub handled : Bool

abbrev pub live_at : ℕ → Bool → Live
live_at place handled = record { place = place; handled = handled }

-- the queue, with the event marked as handled
abbrev pub with_handled : ℕ → List Live → List Live
with_handled event [] = []
with_handled event (live ∷ queue) = if live.place == event then live_at live.place true
    ∷ with_handled event queue else live ∷ with_handled event queue

-- the queue without the event
abbrev pub without_event : ℕ → List Live → List Live
without_event event [] = []
without_event event (live ∷ queue) = if live.place == event then without_event event queue
    else live ∷ without_event event queue

-- the events that were queued and have not finished, by age
abbrev pub queue : Chronicle → List Live
queue [] = []
queue (Queued origin event ∷ c) = queue c ++ live_at (length c) false ∷ []
queue (Handled event ∷ c) = with_handled event (queue c)
queue (Finished event ∷ c) = without_event event (queue c)
queue (entry ∷ c) = queue c
