-- The inputs that a step takes without memory, and for which it asks for nothing.
use Rattle.std.specs.Prelude.{◌≡◌, ℕ, Bool, true, false, List, [], ◌∷◌, length, take, drop, Option, None, Some}
use Rattle.up_model.specs.declared.event_id.EventId.{EventId}
use Rattle.up_model.specs.declared.input.Input.{Input}
use Rattle.up_model.specs.declared.input.Input.TheVariants as input
use Rattle.up_model.specs.declared.step.Step.{Step}
use Rattle.up_model.specs.Answers.{after_all}
use Rattle.up_model.specs.Chronicle.{Chronicle, Given}
use Rattle.up_model.specs.Clock.{all_overdue}
use Rattle.up_model.specs.Configuration.{Configuration}
use Rattle.up_book.specs.Histories.{adding}
use Rattle.up_model.specs.Due.{turn_event, turn_of}
use Rattle.up_model.specs.Files.{names_in_order}
use Rattle.up_model.specs.Held.{is_spoilt}
use Rattle.up_model.specs.Loads.{in_force}
use Rattle.up_model.specs.Queue.{Live, live_at, queue}
use Rattle.up_model.specs.Readings.{blocker, event_at}
use Rattle.up_model.specs.Replies.{waiter}
use Rattle.up_engine.specs.declared.due.Concern.{Concern}
use Rattle.up_engine.specs.declared.due.Concern.TheVariants.{Nobody, Client, Instance as Instance', Event as Event', Anybody}
use Rattle.up_cascade.specs.Unheard.{NoneHears}

-- an event is over of which nobody is told: no instance let it go as failed, and no client and no instance waits for it
pub record EndsUnseen (event : ℕ) (c : Chronicle) : Type 0 where
  pub unspoilt : is_spoilt event c ≡ false
  pub unasked : waiter event c ≡ None
  pub unblocking : (i : ℕ) → blocker i c ≡ Some event → ⊥

-- a turn takes this event up, or, if it was taken up before, finishes it
abbrev pub IsTurnOf : Configuration → (event : ℕ) → (handled : Bool) → Chronicle → Type 0
IsTurnOf config event handled c = turn_event config (queue c) c ≡ Some (live_at event handled)

-- the history with a turn as its last input
abbrev pub in_turn : Chronicle → Chronicle
in_turn c = Given input.Turn ∷ c

-- and after such a turn
abbrev pub after_turn : (event : ℕ) → (handled : Bool) → Chronicle → Chronicle
after_turn event handled c = adding (turn_of (Some (live_at event handled))) (in_turn c)

-- a turn takes an event up of which no job hears, or, if it was taken up before, finishes one of which nobody is told
abbrev pub IsFreeOf : Configuration → (event : ℕ) → (handled : Bool) → Chronicle → Type 0
IsFreeOf config event false c = NoneHears config (event_at event c) c
IsFreeOf config event true c = EndsUnseen event c

-- so does a turn with an event, if it has one
abbrev pub TurnIsFree : Configuration → Option Live → Chronicle → Type 0
TurnIsFree config None c = Unit {0}
TurnIsFree config (Some live) c = IsFreeOf config live.place live.handled c

-- such a turn, or a reading of the clock at which no process is to be killed
abbrev pub IsFree : Configuration → Chronicle → Input → Type 0
IsFree config c input.Turn = TurnIsFree config (turn_event config (queue c) c) (in_turn c)
IsFree config c (input.Clock reading) =
    let d = Given (input.Clock reading) ∷ c in all_overdue (names_in_order config d) d ≡ []
IsFree config c given = ⊥

-- the input after so many steps isn't one of these
abbrev pub StopsAtNoFree : List Step → Configuration → Chronicle → List Input → Type 0
StopsAtNoFree steps config c inputs = (given : Input) (left : List Input) → drop (length steps) inputs ≡ given ∷ left
    → IsFree (in_force config (after_all config c (take (length steps) inputs)))
    (after_all config c (take (length steps) inputs)) given → ⊥

-- whom the effect of such an input concerns: nobody, or those that hear of an event, and nobody does
abbrev pub ConcernsNone : (Chronicle → EventId → Option ℕ) → Configuration → Chronicle → Concern → Type 0
ConcernsNone places config c Nobody = Unit {0}
ConcernsNone places config c (Event' key) = (e : ℕ) × ((places c key ≡ Some e) × NoneHears config (event_at e c) c)
ConcernsNone places config c (Instance' key) = ⊥
ConcernsNone places config c Client = ⊥
ConcernsNone places config c Anybody = ⊥
