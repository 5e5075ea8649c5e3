-- Offers to triggers, and firings.
use Rattle.std.proofs.Common.{◌≡◌, ℕ, ◌+◌, ◌<◌, ◌==◌, List, [], ◌∷◌, ◌++◌, length, map, set, get_or, Option, None, Some, option_map, Result, Ok, Err, OnOk, IfOk, if◌then◌else◌, refl, sym, ◌∙◌, ap, subst}
use Rattle.up_expr.specs.Trees.{Tree}
use Rattle.up_expr.specs.Truth.{Sight}
use Rattle.up_job.specs.JobLists.{changed_in, changed_at, instance_at, list_of}
use Rattle.up_job.specs.Lending.{stop_on_of, with_stop_on}
use Rattle.up_job.specs.Lists.{nth}
use Rattle.up_job.specs.declared.instance.Instance.{Instance as Kept}
use Rattle.up_job.specs.declared.instance_key.InstanceKey.{InstanceKey}
use Rattle.up_job.specs.declared.instances.JobInstances.{JobInstances}
use Rattle.up_marks.specs.Agreeing.{sight_of}
use Rattle.up_marks.specs.Naming.{naming_in}
use Rattle.up_marks.specs.Triggers.{Remembers, kept_by, uses_by}
use Rattle.up_marks.specs.declared.mark.Mark.{Mark}
use Rattle.up_marks.specs.declared.marks.Offer.{Offer}
use Rattle.up_marks.specs.declared.trigger.Firing.{Firing}
use Rattle.up_model.specs.Seen.{holds, taken}
use Rattle.up_model.specs.Values.{Bindings}
use Rattle.up_model.specs.declared.event.Event.{Event}
use Rattle.up_model.specs.declared.event_id.EventId.{EventId}
use Rattle.up_ledger.specs.Hearing.{Hears, Fires, trigger_of, trigger_at, trigger_if, trigger_in}
use Rattle.up_book.specs.Views.{Places}
use Rattle.up_book.proofs.Lists.{nth-with, nth-set, nth-get}

-- a result that is none says nothing
pub on-ok : {A E : Type 0} {P : Type 0} (r : Result A E) → P → OnOk r P
on-ok (Ok x) p = p
on-ok (Err e) p = tt

pub hears : {E : Type 0} (r : Result Offer E) (o n old new : Option (List Mark)) (condition : Option Tree) (nodes : List ℕ) (id : EventId) (event : Event) (env : Bindings) → o ≡ old → n ≡ new
    → OnOk r ((places : Places) (sights : List Sight) (e : ℕ) → Remembers places old condition sights → places id ≡ Some e → nodes ≡ naming_in condition event.name
    → Remembers places new condition (sights ++ sight_of e event.name event.vars env ∷ []))
    → IfOk r (λ offer. (places : Places) (sights : List Sight) (e : ℕ) → Remembers places old condition sights → places id ≡ Some e → nodes ≡ naming_in condition event.name
    → offer.holds ≡ holds condition (sights ++ sight_of e event.name event.vars env ∷ []))
    → IfOk r (λ offer. (places : Places) (sights : List Sight) (other : EventId) → Remembers places old condition sights → nodes ≡ naming_in condition event.name
    → uses_by other new ≡ uses_by other old + (if id.key == other.key then offer.kept else 0))
    → IfOk r (λ offer. Hears o n condition nodes id event env offer)
hears (Ok offer) o n old new condition nodes id event env first last remembers truth used =
    subst (λ x. Hears x n condition nodes id event env offer) (sym first) (subst (λ x. Hears old x condition nodes id event env offer) (sym last) (record { remembers = remembers; holds = truth; uses = used }))
hears (Err e) o n old new condition nodes id event env first last remembers truth used = tt

pub fires : {E : Type 0} (r : Result Firing E) (o n old new : Option (List Mark)) (condition : Option Tree) → o ≡ old → n ≡ new
    → IfOk r (λ firing. (places : Places) (sights : List Sight) → Remembers places old condition sights → map places firing.taken ≡ map Some (taken condition sights))
    → IfOk r (λ firing. (places : Places) (sights : List Sight) → Remembers places old condition sights → firing.kept ≡ kept_by old)
    → OnOk r ((places others : Places) (sights : List Sight) → Remembers places old condition sights → Remembers others new condition [])
    → IfOk r (λ firing. Fires o n condition firing)
fires (Ok firing) o n old new condition first last took kept remembers =
    subst (λ x. Fires x n condition firing) (sym first) (subst (λ x. Fires old x condition firing) (sym last) (record { taken = took; kept = kept; remembers = remembers }))
fires (Err e) o n old new condition first last took kept remembers = tt

-- the trigger of a key, before and after a change of it
by-kept : (its : Option Kept) (old : Option (List Mark)) → Some old ≡ option_map stop_on_of its → trigger_of its ≡ old
by-kept None old there = absurd cc
by-kept (Some k) old there = cc

pub trigger-old : (key : InstanceKey) (jobs : List JobInstances) (old : Option (List Mark)) → Some old ≡ option_map stop_on_of (instance_at key jobs) → trigger_at key jobs ≡ old
trigger-old key jobs old there = by-kept (instance_at key jobs) old there

pub trigger-new : (key : InstanceKey) (jobs : List JobInstances) (old new : Option (List Mark)) → Some old ≡ option_map stop_on_of (instance_at key jobs) → trigger_at key (changed_at key (with_stop_on new) jobs) ≡ new
trigger-new key jobs old new there = by_job (nth key.job jobs) refl there
  where
    by_instance : (j : JobInstances) (its : Option Kept) → nth key.job jobs ≡ Some j → nth key.at j.instances ≡ its → Some old ≡ option_map stop_on_of its → trigger_at key (changed_at key (with_stop_on new) jobs) ≡ new
    by_instance j None here is found = absurd cc
    by_instance j (Some k) here is found =
        ap (λ o. trigger_of (nth key.at (list_of o))) (nth-with (changed_in key.at (with_stop_on new)) key.job jobs j here) ∙ ap trigger_of (nth-with (with_stop_on new) key.at j.instances k is)

    by_job : (o : Option JobInstances) → nth key.job jobs ≡ o → Some old ≡ option_map stop_on_of (nth key.at (list_of o)) → trigger_at key (changed_at key (with_stop_on new) jobs) ≡ new
    by_job None here found = absurd cc
    by_job (Some j) here found = by_instance j (nth key.at j.instances) here refl found

-- and that of a job
pub start-old : (place : ℕ) (triggers : List (Option (List Mark))) (old : Option (List Mark)) → place < length triggers → old ≡ get_or triggers place old → trigger_in place triggers ≡ old
start-old place triggers old within there = ap trigger_if (nth-get place triggers old within there)

pub start-new : (place : ℕ) (triggers : List (Option (List Mark))) (new : Option (List Mark)) → place < length triggers → trigger_in place (set triggers place new) ≡ new
start-new place triggers new within = ap trigger_if (nth-set place triggers new within)
