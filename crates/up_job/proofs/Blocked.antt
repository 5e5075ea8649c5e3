-- Which instance waits for an event.
use Rattle.std.proofs.Common.{◌≡◌, ℕ, zero, suc, ◌+◌, ◌==◌, ◌<◌, ◌≤◌, nat_lt, Bool, true, false, List, [], ◌∷◌, length, drop, get_or, None, Some, if◌then◌else◌, refl, ◌∙◌, ap, arith, add-one, drop-cons, eqb-true}
use Rattle.up_job.specs.JobLists.{instance_at, instances_at, list_of}
use Rattle.up_job.specs.Lists.{nth}
use Rattle.up_job.specs.Unblocking.{AreCalm, AreQuiet, is_event, is_blocked, blocked_from, IsBlocked}
use Rattle.up_model.specs.declared.event_id.EventId.{EventId}
use Rattle.up_job.specs.declared.instance.Instance.{Instance}
use Rattle.up_job.specs.declared.instances.JobInstances.{JobInstances}
use Rattle.up_job.specs.declared.instance_key.InstanceKey.{InstanceKey}
use Rattle.up_job.proofs.Places.{nth_get}
use Rattle.up_job.proofs.WaitLemmas.{calm-blocked}

-- those from one on
pub blocked_left : (id : EventId) (its : List Instance) (at : ℕ) (d : Instance) → at < length its
    → blocked_from id at (drop at its) ≡ (if is_event id (get_or its at d).blocker then Some at else blocked_from id (at + 1) (drop (at + 1) its))
blocked_left id its at d within =
    let one : drop at its ≡ get_or its at d ∷ drop (at + 1) its = rw add-one (drop-cons its at d within) in
    ap (blocked_from id at) one

-- one that is found waits for it
record Found (id : EventId) (its : List Instance) (low at : ℕ) : Type 0 where
  pub offset : ℕ
  pub is : at ≡ low + offset
  pub blocked : is_blocked id (nth offset its) ≡ true

found-in : (id : EventId) (low at : ℕ) (its : List Instance) → blocked_from id low its ≡ Some at → Found id its low at
found-in id low at [] some = absurd cc
found-in id low at (x ∷ its) some = by_case (is_event id x.blocker) refl some (found-in id (low + 1) at its)
  where
    by_case : (b : Bool) → is_event id x.blocker ≡ b → (if b then Some low else blocked_from id (low + 1) its) ≡ Some at
        → (blocked_from id (low + 1) its ≡ Some at → Found id its (low + 1) at) → Found id (x ∷ its) low at
    by_case true is some rest =
        let same : low ≡ at = cc in
        record { offset = 0; is = omega (arith, same); blocked = is }
    by_case false is some rest =
        let later = rest some in
        record { offset = suc later.offset; is = omega (arith, later.is); blocked = later.blocked }

none-in : (id : EventId) (low : ℕ) (its : List Instance) → blocked_from id low its ≡ None → (at : ℕ) → is_blocked id (nth at its) ≡ false
none-in id low [] none at = refl
none-in id low (x ∷ its) none at = by_case (is_event id x.blocker) refl none (none-in id (low + 1) its) at
  where
    by_case : (b : Bool) → is_event id x.blocker ≡ b → (if b then Some low else blocked_from id (low + 1) its) ≡ None
        → (blocked_from id (low + 1) its ≡ None → (at : ℕ) → is_blocked id (nth at its) ≡ false) → (at : ℕ) → is_blocked id (nth at (x ∷ its)) ≡ false
    by_case true is none rest at = absurd cc
    by_case false is none rest zero = is
    by_case false is none rest (suc at) = rest none at

-- none of the jobs before a place has one that does
abbrev pub AreFree : EventId → (place : ℕ) → List JobInstances → Type 0
AreFree id place jobs = (key : InstanceKey) → key.job < place → is_blocked id (instance_at key jobs) ≡ false

pub free-quiet : (id : EventId) (quiet : ℕ) (jobs : List JobInstances) → AreQuiet quiet jobs → AreFree id quiet jobs
free-quiet id quiet jobs none key less =
    none-in id 0 (instances_at key.job jobs) (calm-blocked id 0 (instances_at key.job jobs) (none key.job less)) key.at

-- where the job at a place has none
pub free-more : (id : EventId) (place : ℕ) (jobs : List JobInstances) (its : JobInstances) → place < length jobs → its ≡ get_or jobs place its → blocked_from id 0 its.instances ≡ None
    → AreFree id place jobs → AreFree id (place + 1) jobs
free-more id place jobs its within is none before key less = by_case (key.job == place) refl
  where
    by_case : (b : Bool) → (key.job == place) ≡ b → is_blocked id (instance_at key jobs) ≡ false
    by_case true same =
        ap (λ n. is_blocked id (nth key.at (instances_at n jobs))) (eqb-true key.job place same) ∙ ap (λ o. is_blocked id (nth key.at (list_of o))) (nth_get place jobs its within is)
        ∙ none-in id 0 its.instances none key.at
    by_case false differs = before key (grind (arith, differs, less))

-- and where no instance of the other jobs waits
pub free-all : (id : EventId) (place calm : ℕ) (jobs : List JobInstances) → calm ≤ place → AreFree id place jobs → AreCalm calm jobs → IsBlocked id jobs None
free-all id place calm jobs past before beyond key = by_case (nat_lt key.job place) refl
  where
    by_case : (less : Bool) → nat_lt key.job place ≡ less → is_blocked id (instance_at key jobs) ≡ false
    by_case true is = before key (grind (arith, is))
    by_case false is = none-in id 0 (instances_at key.job jobs) (calm-blocked id 0 (instances_at key.job jobs) (beyond key.job (grind (arith, is, past)))) key.at

-- the job at a place has one
pub found-at : (id : EventId) (place at : ℕ) (jobs : List JobInstances) (its : JobInstances) → place < length jobs → its ≡ get_or jobs place its → blocked_from id 0 its.instances ≡ Some at
    → IsBlocked id jobs (Some (record { job = place; at = at }))
found-at id place at jobs its within is some =
    let found = found-in id 0 at its.instances some in
    let same : at ≡ found.offset = omega (arith, found.is) in
    ap (λ o. is_blocked id (nth at (list_of o))) (nth_get place jobs its within is) ∙ ap (λ n. is_blocked id (nth n its.instances)) same ∙ found.blocked
