-- What is said of each history for which a book stands.
use Rattle.std.specs.Prelude.{◌≡◌, ℕ, false, List, ◌∷◌, ◌++◌, map, Option, None, Some}
use Rattle.up_book.specs.declared.holders.Holders.{Holders}
use Rattle.up_job.specs.declared.instance_key.InstanceKey.{InstanceKey}
use Rattle.up_model.specs.declared.event_id.EventId.{EventId}
use Rattle.up_model.specs.Chronicle.{Chronicle, Entry, Entered, Entering, Made, Queued, StartOn, StopOn}
use Rattle.up_model.specs.Configuration.{Configuration}
use Rattle.up_model.specs.Environments.{env_of_job}
use Rattle.up_model.specs.Instances.{Instance, instance_named}
use Rattle.up_model.specs.Readings.{event_at, file_of}
use Rattle.up_model.specs.Values.{Bindings, Bytes}
use Rattle.up_marks.specs.Ruling.{may_hear}
use Rattle.up_book.specs.Keys.{called, held_as, request_place, instance_at, instance_place, job_at}
use Rattle.up_book.specs.Views.{Places}
use Rattle.up_model.specs.declared.event.Event.{Event}
use Rattle.up_model.specs.declared.state.State.TheVariants.{Waiting}
use Rattle.up_model.specs.Replies.{releasing}
use Rattle.up_model.specs.Seen.{seen, taken}
use Rattle.up_conf.specs.declared.job.JobDef.{JobDef}
use Rattle.up_expr.specs.Trees.{Tree}

-- the history with the entries that come of it
abbrev pub adding : (Chronicle → List Entry) → Chronicle → Chronicle
adding entries c = entries c ++ c

-- and after an instance has entered waiting, with its last event, and let its holders go
abbrev pub after_leaving : (instance : ℕ) → Event → Chronicle → Chronicle
after_leaving instance event c =
    adding (releasing instance false) (Queued (Entering instance Waiting) event ∷ Entered instance Waiting ∷ c)

-- and after an instance has released its holders
abbrev pub after_release : (instance : ℕ) → Chronicle → Chronicle
after_release instance c = releasing instance false c ++ c

-- and after an instance of this name was made from this file
abbrev pub after_making : JobDef → (name : Bytes) → Chronicle → Chronicle
after_making file name c = Made file name ∷ c

-- no instance of a job has this name
abbrev pub IsUnmade : JobDef → (name : Bytes) → Chronicle → Type 0
IsUnmade job name c = instance_named (called job.name name) c ≡ None

-- each leaf of an expression names another event, or rules this one out
abbrev pub PassesBy : Option Tree → (event : ℕ) → Chronicle → Type 0
PassesBy condition event c = may_hear condition (event_at event c) ≡ false

-- the events that the `stop on` of an instance takes, by this file, if it fires then
abbrev pub stop_events : Configuration → JobDef → (instance : ℕ) → Chronicle → List ℕ
stop_events config file instance c = taken file.stop_on (seen config (StopOn instance) c)

-- and those that the `start on` of a job takes
abbrev pub start_events : Configuration → JobDef → Chronicle → List ℕ
start_events config job c = taken job.start_on (seen config (StartOn job.name) c)

-- what is said of a history, and of the place at which the instance of a key was made, holds of each for which a book stands
abbrev pub OfInstance : (Configuration → Chronicle → Type 0) → Configuration → InstanceKey → (Chronicle → ℕ → Type 0) → Type 0
OfInstance stands config key says = (c : Chronicle) (i : ℕ) → stands config c → instance_place config c key ≡ Some i → says c i

-- the same with the whole instance
abbrev pub OfWhole : (Configuration → Chronicle → Type 0) → Configuration → InstanceKey → (Chronicle → Instance → Type 0) → Type 0
OfWhole stands config key says = (c : Chronicle) (its : Instance) → stands config c → instance_at config c key ≡ Some its → says c its

-- and with the instance's place and its own file
abbrev pub OfFiled : (Configuration → Chronicle → Type 0) → Configuration → InstanceKey → (Chronicle → (instance : ℕ) → JobDef → Type 0) → Type 0
OfFiled stands config key says = (c : Chronicle) (i : ℕ) (file : JobDef) → stands config c
    → instance_place config c key ≡ Some i → file_of i c ≡ Some file → says c i file

-- and with the place at which the event of a key was queued
abbrev pub OfEvent : (Configuration → Chronicle → Type 0) → (Chronicle → Places) → Configuration → EventId → (Chronicle → ℕ → Type 0) → Type 0
OfEvent stands places config key says = (c : Chronicle) (e : ℕ) → stands config c → places c key ≡ Some e → says c e

-- and with both: the instance is offered the event
abbrev pub OfOffer : (Configuration → Chronicle → Type 0) → (Chronicle → Places) → Configuration → InstanceKey → EventId
    → (Chronicle → Instance → ℕ → Type 0) → Type 0
OfOffer stands places config key event says = (c : Chronicle) (its : Instance) (e : ℕ) → stands config c
    → instance_at config c key ≡ Some its → places c event ≡ Some e → says c its e

-- each event that a book knew keeps the place at which it was queued, from one history to the next
abbrev pub KeepsPlaces : {Book : Type 0} → (events : Book → Chronicle → Places) → (old new : Book) → (before after : Chronicle) → Type 0
KeepsPlaces events old new before after = (k : EventId) (j : ℕ) → events old before k ≡ Some j → events new after k ≡ Some j

-- these holders were queued, or given, at these places
abbrev pub HoldersAt : (events : Chronicle → Places) → Holders → List ℕ → Chronicle → Type 0
HoldersAt events holders places c = held_as (events c) (request_place c) holders ≡ map Some places

-- what is said of a history, of the place of an instance, and of those of holders that it may get, holds of each for which a book stands
abbrev pub OfHeld : (Configuration → Chronicle → Type 0) → (events : Chronicle → Places) → Configuration → InstanceKey → Holders
    → (Chronicle → (instance : ℕ) → (places : List ℕ) → Type 0) → Type 0
OfHeld stands events config key holders says = (c : Chronicle) (i : ℕ) (places : List ℕ) → stands config c
    → instance_place config c key ≡ Some i → HoldersAt events holders places c → says c i places

-- the same of the job at an index of the table, which has no instance of this name
abbrev pub OfMaking : (Configuration → Chronicle → Type 0) → Configuration → (index : ℕ) → JobDef → (name : Bytes) → (Chronicle → Type 0) → Type 0
OfMaking stands config index file name says = (c : Chronicle) → stands config c → job_at config index ≡ Some file → IsUnmade file name c → says c

-- and of whoever will hold that instance
abbrev pub OfHeldMaking : (Configuration → Chronicle → Type 0) → (events : Chronicle → Places) → Configuration → (index : ℕ) → JobDef → (name : Bytes)
    → (Chronicle → Holders → (places : List ℕ) → Type 0) → Type 0
OfHeldMaking stands events config index file name says = (c : Chronicle) (who : Holders) (places : List ℕ) → stands config c
    → job_at config index ≡ Some file → IsUnmade file name c → HoldersAt events who places c → says c who places

-- the same of an event that is offered to the `stop on` of an instance, whose file this is
abbrev pub OfStopOffer : (Configuration → Chronicle → Type 0) → (events : Chronicle → Places) → Configuration → InstanceKey → JobDef → EventId
    → (Chronicle → (instance event : ℕ) → Type 0) → Type 0
OfStopOffer stands events config key file event says = (c : Chronicle) (i e : ℕ) → stands config c
    → instance_place config c key ≡ Some i → file_of i c ≡ Some file → events c event ≡ Some e → says c i e

-- and of one that is offered to the `start on` of the job at an index of the table, which has this environment
abbrev pub OfStartOffer : (Configuration → Chronicle → Type 0) → (events : Chronicle → Places) → Configuration → (index : ℕ) → JobDef → Bindings
    → EventId → (Chronicle → (event : ℕ) → Type 0) → Type 0
OfStartOffer stands events config index job env event says = (c : Chronicle) (e : ℕ) → stands config c
    → job_at config index ≡ Some job → env ≡ env_of_job config job.name → events c event ≡ Some e → says c e
