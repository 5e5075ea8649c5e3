-- What is said of each history that a book forgets.
use Rattle.std.specs.Prelude.{◌≡◌, ℕ, true, List, ◌∷◌, Option, Some, map, length}
use Rattle.up_book.specs.Hearers.{HasLeaves}
use Rattle.up_book.specs.Keeps.{AreOlder}
use Rattle.up_book.specs.Summaries.{holding_at}
use Rattle.up_book.specs.Views.{holding_of}
use Rattle.up_conf.specs.declared.job.JobDef.{JobDef}
use Rattle.up_image.specs.declared.index.Place.{Place}
use Rattle.up_job.specs.Lists.{nth}
use Rattle.up_job.specs.declared.holder.Holder.{Holder}
use Rattle.up_job.specs.declared.instance_key.InstanceKey.{InstanceKey}
use Rattle.up_ledger.specs.Eventing.{number_of}
use Rattle.up_ledger.specs.Holding.{AllLive}
use Rattle.up_ledger.specs.Standing.{Forgets, event_place, instance_place}
use Rattle.up_ledger.specs.declared.past.Past.{Past}
use Rattle.up_model.specs.declared.event.Event.{Event}
use Rattle.up_model.specs.declared.event_id.EventId.{EventId}
use Rattle.up_model.specs.declared.input.Input.{Input}
use Rattle.up_model.specs.declared.state.State.TheVariants.{Waiting}
use Rattle.up_model.specs.Chronicle.{Chronicle, Entry, Entered, Entering, Given, Outside, Queued}
use Rattle.up_model.specs.Configuration.{Configuration}
use Rattle.up_model.specs.Environments.{env_of_job}
use Rattle.up_model.specs.Readings.{file_of}
use Rattle.up_model.specs.Replies.{waiter_in}
use Rattle.up_model.specs.Values.{Bindings}

-- a history whose last input was an event from outside, which has gone to the end of the queue
abbrev pub with_outside : Event → Input → Chronicle → Chronicle
with_outside event input c = Queued (Outside (length c)) event ∷ Given input ∷ c

-- and the number of the client that waits for it
abbrev pub outside_waiter : Event → Input → Chronicle → Option ℕ
outside_waiter event input c =
    let after = with_outside event input c in
    number_of (waiter_in (Some (Queued (Outside (length c)) event)) after) after

-- a history in which an instance has entered waiting, with its last event
abbrev pub with_last : (instance : ℕ) → Event → Chronicle → Chronicle
with_last instance event c = Queued (Entering instance Waiting) event ∷ Entered instance Waiting ∷ c

-- A book that forgot a history forgets it with one more entry, by which the instance of a key takes these holders: their events live, and
-- were queued before.
abbrev pub TakesHolders : (old new : Past) → InstanceKey → List Holder → ((instance : ℕ) → (events : List ℕ) → Entry) → Type 0
TakesHolders old new key holders entry = (config : Configuration) (c : Chronicle) (i : ℕ) (events : List ℕ) → Forgets old config c
    → instance_place old c key ≡ Some i → map (holding_of (event_place old c)) holders ≡ map (holding_at c) events
    → AreOlder (length c) events → AllLive old.events holders → Forgets new config (entry i events ∷ c)

-- what is said of a history, of an instance of this file and of an event holds of each that a book forgets: an event is offered to a `stop on`
abbrev pub OfPastStopOffer : Past → InstanceKey → JobDef → EventId → (Configuration → Chronicle → (instance event : ℕ) → Type 0) → Type 0
OfPastStopOffer book key file event says = (config : Configuration) (c : Chronicle) (i e : ℕ) → Forgets book config c
    → instance_place book c key ≡ Some i → file_of i c ≡ Some file → event_place book c event ≡ Some e → says config c i e

-- the same of an event that is offered to the `start on` of a job, by its place in the table and its environment
abbrev pub OfPastStartOffer : Past → List Place → (place : ℕ) → JobDef → Bindings → EventId → (Configuration → Chronicle → (event : ℕ) → Type 0) → Type 0
OfPastStartOffer book index place job env event says = (config : Configuration) (c : Chronicle) (e : ℕ) → Forgets book config c
    → nth place config.jobs ≡ Some job → env ≡ env_of_job config job.name → HasLeaves index place true job.start_on
    → event_place book c event ≡ Some e → says config c e

-- the same of a `stop on` that fires, whatever events the history says that it takes
abbrev pub OfPastStopFiring : Past → InstanceKey → JobDef → (Configuration → Chronicle → (instance : ℕ) → (events : List ℕ) → Type 0) → Type 0
OfPastStopFiring book key file says = (config : Configuration) (c : Chronicle) (i : ℕ) (events : List ℕ) → Forgets book config c
    → instance_place book c key ≡ Some i → file_of i c ≡ Some file → says config c i events

-- and of a `start on`
abbrev pub OfPastStartFiring : Past → (place : ℕ) → JobDef → (Configuration → Chronicle → (events : List ℕ) → Type 0) → Type 0
OfPastStartFiring book place job says = (config : Configuration) (c : Chronicle) (events : List ℕ) → Forgets book config c
    → nth place config.jobs ≡ Some job → says config c events
