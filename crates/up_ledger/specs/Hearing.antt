-- What an offer and a firing make of a trigger.
use Rattle.std.specs.Prelude.{◌≡◌, ℕ, ◌+◌, ◌==◌, List, [], ◌∷◌, ◌++◌, map, true, Option, None, Some, if◌then◌else◌}
use Rattle.up_expr.specs.Trees.{Tree}
use Rattle.up_expr.specs.Truth.{Sight}
use Rattle.up_image.specs.Index.{named}
use Rattle.up_image.specs.declared.index.Place.{Place}
use Rattle.up_job.specs.Lists.{nth}
use Rattle.up_job.specs.declared.instance.Instance.{Instance}
use Rattle.up_job.specs.declared.instance_key.InstanceKey.{InstanceKey}
use Rattle.up_job.specs.declared.instances.JobInstances.{JobInstances}
use Rattle.up_marks.specs.Agreeing.{sight_of}
use Rattle.up_marks.specs.Naming.{naming_in, of_expression}
use Rattle.up_marks.specs.Triggers.{Remembers, kept_by, uses_by}
use Rattle.up_marks.specs.declared.mark.Mark.{Mark}
use Rattle.up_marks.specs.declared.marks.Offer.{Offer}
use Rattle.up_marks.specs.declared.trigger.Firing.{Firing}
use Rattle.up_model.specs.Seen.{holds, taken}
use Rattle.up_model.specs.Values.{Bindings, Bytes}
use Rattle.up_model.specs.declared.event.Event.{Event}
use Rattle.up_model.specs.declared.event_id.EventId.{EventId}
use Rattle.up_book.specs.Views.{Places, kept_at}

abbrev pub trigger_of : Option Instance → Option (List Mark)
trigger_of None = None
trigger_of (Some kept) = kept.stop_on

-- what the `stop on` of the instance of a key remembers
abbrev pub trigger_at : InstanceKey → List JobInstances → Option (List Mark)
trigger_at key jobs = trigger_of (kept_at key jobs)

abbrev pub trigger_if : Option (Option (List Mark)) → Option (List Mark)
trigger_if None = None
trigger_if (Some trigger) = trigger

-- what the `start on` of the job at a place remembers
abbrev pub trigger_in : ℕ → List (Option (List Mark)) → Option (List Mark)
trigger_in job triggers = trigger_if (nth job triggers)

-- the leaves of the `start on` of the job at a place that an index has for events of a name
abbrev pub start_leaves : List Place → (job : ℕ) → Bytes → List ℕ
start_leaves index job name = map (λ place. place.node) (of_expression job true (named name index))

-- an event was offered to the leaves at these places
pub record Hears (old new : Option (List Mark)) (condition : Option Tree) (nodes : List ℕ) (id : EventId) (event : Event) (env : Bindings) (offer : Offer) : Type 0 where
  pub remembers : (places : Places) (sights : List Sight) (e : ℕ) → Remembers places old condition sights → places id ≡ Some e → nodes ≡ naming_in condition event.name
      → Remembers places new condition (sights ++ sight_of e event.name event.vars env ∷ [])
  pub holds : (places : Places) (sights : List Sight) (e : ℕ) → Remembers places old condition sights → places id ≡ Some e → nodes ≡ naming_in condition event.name
      → offer.holds ≡ holds condition (sights ++ sight_of e event.name event.vars env ∷ [])
  pub uses : (places : Places) (sights : List Sight) (other : EventId) → Remembers places old condition sights → nodes ≡ naming_in condition event.name
      → uses_by other new ≡ uses_by other old + (if id.key == other.key then offer.kept else 0)

-- it fired
pub record Fires (old new : Option (List Mark)) (condition : Option Tree) (firing : Firing) : Type 0 where
  pub taken : (places : Places) (sights : List Sight) → Remembers places old condition sights → map places firing.taken ≡ map Some (taken condition sights)
  pub kept : (places : Places) (sights : List Sight) → Remembers places old condition sights → firing.kept ≡ kept_by old
  pub remembers : (places others : Places) (sights : List Sight) → Remembers places old condition sights → Remembers others new condition []
