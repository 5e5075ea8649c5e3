-- Events that are held once more, or once less.
use Rattle.std.specs.List.{AllByRecursion}
use Rattle.std.specs.Prelude.{◌≡◌, ◌==◌, Bool, true, is_some, List, [], ◌∷◌, ◌++◌, map, Option, None, Some, if◌then◌else◌}
use Rattle.up_event.specs.declared.live.LiveEvent.{LiveEvent}
use Rattle.up_event.specs.LiveEvents.{named, with_change, without_hold}
use Rattle.up_model.specs.declared.event_id.EventId.{EventId}
use Rattle.up_job.specs.declared.holder.Holder.{Holder}
use Rattle.up_job.specs.declared.holder.Holder.TheVariants as holder
use Rattle.up_job.specs.declared.instance.Instance.{Instance as Kept}
use Rattle.up_marks.specs.Triggers.{kept_by}
use Rattle.up_marks.specs.declared.mark.Mark.{Mark}
use Rattle.up_ledger.specs.Asking.{client_of}
use Rattle.up_ledger.specs.Counting.{event_of}
use Rattle.up_book.specs.declared.holders.Holders.{Holders}
use Rattle.up_book.specs.declared.holders.Holders.TheVariants.{Taken, Client, Nobody}
use Rattle.up_ledger.specs.declared.step.Asked.{Asked}

-- one hold less, if there is one
abbrev pub freed : (failed : Bool) → LiveEvent → LiveEvent
freed failed live = if live.holds == 0 then live else without_hold failed live

abbrev pub changed_by : (LiveEvent → LiveEvent) → Option EventId → List LiveEvent → List LiveEvent
changed_by change None events = events
changed_by change (Some id) events = with_change id change events

-- the events of these holders are changed so, one after another
abbrev pub all_changed : (LiveEvent → LiveEvent) → List Holder → List LiveEvent → List LiveEvent
all_changed change [] events = events
all_changed change (its ∷ holders) events = all_changed change holders (changed_by change (event_of its) events)

abbrev pub held_by_kept : Option Kept → List Holder
held_by_kept None = []
held_by_kept (Some kept) = kept.holders

-- the events of these holders live
abbrev pub AllLive : List LiveEvent → List Holder → Type 0
AllLive events its =
    AllByRecursion (λ h. (id : EventId) → event_of h ≡ Some id → is_some (named id events) ≡ true) its

-- these events, as holders
abbrev pub as_holders : List EventId → List Holder
as_holders ids = map holder.Event ids

-- what several expressions keep
abbrev pub all_kept : List (Option (List Mark)) → List EventId
all_kept [] = []
all_kept (trigger ∷ triggers) = kept_by trigger ++ all_kept triggers

-- those who hold an instance in a step that was asked for so
abbrev pub holders_by : Holders → Option Asked → List Holder
holders_by (Taken ids) asked = as_holders ids
holders_by Client asked = client_of asked
holders_by Nobody asked = []
