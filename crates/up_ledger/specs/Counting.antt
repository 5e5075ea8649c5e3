-- How often an event is held: by what is kept, and by what the chronicle says.
use Rattle.std.specs.Prelude.{ℕ, ◌+◌, ◌==◌, Bool, true, false, List, [], ◌∷◌, Option, None, Some}
use Rattle.up_job.specs.Unblocking.{is_event}
use Rattle.up_marks.specs.declared.mark.Mark.{Mark}
use Rattle.up_marks.specs.Triggers.{uses_by}
use Rattle.up_model.specs.declared.event_id.EventId.{EventId}
use Rattle.up_job.specs.declared.holder.Holder.{Holder}
use Rattle.up_job.specs.declared.holder.Holder.TheVariants as holder
use Rattle.up_job.specs.declared.instances.JobInstances.{JobInstances}
use Rattle.up_job.specs.declared.instance.Instance.{Instance as Kept}
use Rattle.up_book.specs.Summaries.{Holding, ByEvent, ByClient}

abbrev pub one_if : Bool → ℕ
one_if true = 1
one_if false = 0

-- by ids, in what is kept
abbrev pub event_of : Holder → Option EventId
event_of (holder.Event id) = Some id
event_of (holder.Client id command) = None

abbrev pub holder_uses : EventId → List Holder → ℕ
holder_uses id [] = 0
holder_uses id (its ∷ holders) = one_if (is_event id (event_of its)) + holder_uses id holders

abbrev pub kept_uses : EventId → List Kept → ℕ
kept_uses id [] = 0
kept_uses id (kept ∷ its) = uses_by id kept.stop_on + holder_uses id kept.holders + kept_uses id its

abbrev pub uses : EventId → List JobInstances → ℕ
uses id [] = 0
uses id (job ∷ jobs) = kept_uses id job.instances + uses id jobs

-- in what each `start on` remembers
abbrev pub start_uses : EventId → List (Option (List Mark)) → ℕ
start_uses id [] = 0
start_uses id (trigger ∷ triggers) = uses_by id trigger + start_uses id triggers

-- by places, in summaries
abbrev pub is_holding : ℕ → Option Holding → Bool
is_holding place None = false
is_holding place (Some (ByEvent other)) = other == place
is_holding place (Some (ByClient id command)) = false

abbrev pub holder_count : ℕ → List (Option Holding) → ℕ
holder_count place [] = 0
holder_count place (its ∷ holders) = one_if (is_holding place its) + holder_count place holders

-- in a list of places
abbrev pub count_in : ℕ → List ℕ → ℕ
count_in place [] = 0
count_in place (other ∷ places) = one_if (other == place) + count_in place places
