-- Lists of instances of which none waits for an event.
use Rattle.std.proofs.Common.{◌≡◌, ℕ, zero, suc, ◌+◌, ◌==◌, ◌<◌, ◌≤◌, nat_le, nat_lt, Bool, true, false, ◌||◌, ◌&&◌, List, [], ◌∷◌, map, length, Option, None, Some, is_some, Result, Ok, Err, OnOk, OnErr, bytes_eq, if◌then◌else◌, refl, sym, ◌∙◌, ap, subst, arith}
use Rattle.up_conf.specs.Order.{is_below}
use Rattle.up_conf.specs.declared.job.JobDef.{JobDef}
use Rattle.up_model.specs.declared.event_id.EventId.{EventId}
use Rattle.up_model.specs.declared.state.State.{State}
use Rattle.up_model.specs.declared.state.State.TheVariants.{Starting}
use Rattle.up_model.specs.Values.{Bytes}
use Rattle.up_job.specs.declared.change.Change.{Change}
use Rattle.up_job.specs.declared.change.Change.TheVariants as change
use Rattle.up_job.specs.declared.instance.Instance.{Instance}
use Rattle.up_job.specs.declared.instances.JobInstances.{JobInstances}
use Rattle.up_job.specs.Changes.{changed, entered}
use Rattle.up_job.specs.InstanceLists.{with_change, with_instance, without}
use Rattle.up_job.specs.JobLists.{changed_in, instances_at, list_of, new_job, with_made}
use Rattle.up_job.specs.Lists.{with_at, with_named, without_at}
use Rattle.up_job.specs.Unblocking.{AreCalm, AreQuiet, NoneWaits, blocked_from, is_event, unblocked, without_id}
use Rattle.up_job.specs.Waiting.{any_waits, is_wait}
use Rattle.up_job.proofs.Places.{none_with_at, nth_none}

or-parts : (a b : Bool) → (a || b) ≡ false → (a ≡ false) × (b ≡ false)
or-parts true b none = absurd cc
or-parts false b none = (refl, none)

or-both : (a b : Bool) → a ≡ false → b ≡ false → (a || b) ≡ false
or-both a b one two = rw (one, two) refl

-- a change of one by which it doesn't begin to wait
pub calm-with_at : (at : ℕ) (f : Instance → Instance) → ((x : Instance) → is_some x.blocker ≡ false → is_some (f x).blocker ≡ false) → (xs : List Instance)
    → any_waits xs ≡ false → any_waits (with_at at f xs) ≡ false
calm-with_at at f keeps [] none = refl
calm-with_at zero f keeps (x ∷ xs) none =
    let parts = or-parts (is_some x.blocker) (any_waits xs) none in
    or-both (is_some (f x).blocker) (any_waits xs) (keeps x parts.0) parts.1
calm-with_at (suc at) f keeps (x ∷ xs) none =
    let parts = or-parts (is_some x.blocker) (any_waits xs) none in
    or-both (is_some x.blocker) (any_waits (with_at at f xs)) parts.0 (calm-with_at at f keeps xs parts.1)

calm-named : (name : Bytes) (f : Instance → Instance) → ((x : Instance) → is_some x.blocker ≡ false → is_some (f x).blocker ≡ false) → (xs : List Instance)
    → any_waits xs ≡ false → any_waits (with_change name f xs) ≡ false
calm-named name f keeps [] none = refl
calm-named name f keeps (x ∷ xs) none =
    let parts = or-parts (is_some x.blocker) (any_waits xs) none in
    by_case (bytes_eq x.name name) parts (calm-named name f keeps xs parts.1)
  where
    by_case : (b : Bool) → (is_some x.blocker ≡ false) × (any_waits xs ≡ false) → any_waits (with_change name f xs) ≡ false
        → any_waits (if b then f x ∷ xs else x ∷ with_change name f xs) ≡ false
    by_case true parts rest = or-both (is_some (f x).blocker) (any_waits xs) (keeps x parts.0) parts.1
    by_case false parts rest = or-both (is_some x.blocker) (any_waits (with_change name f xs)) parts.0 rest

still-entered : (state : State) (x : Instance) → (entered state x).blocker ≡ x.blocker
still-entered Starting x = refl
still-entered other x = refl

calm-changed : (its : Change) → is_wait its ≡ false → (x : Instance) → is_some x.blocker ≡ false → is_some (changed its x).blocker ≡ false
calm-changed (change.Starts environment holders) calm x none = none
calm-changed (change.Stops environment holders) calm x none = none
calm-changed change.Ends calm x none = none
calm-changed (change.Restarts holders) calm x none = none
calm-changed (change.Releases holders) calm x none = none
calm-changed (change.Fails failure) calm x none = none
calm-changed (change.Enters state) calm x none = ap is_some (still-entered state x) ∙ none
calm-changed (change.Orders its) calm x none = none
calm-changed (change.Answers its pid) calm x none = none
calm-changed (change.Loses its) calm x none = none
calm-changed (change.Signals at) calm x none = none
calm-changed (change.Waits None) calm x none = refl
calm-changed (change.Waits (Some event)) calm x none = absurd cc
calm-changed (change.Respawns moment) calm x none = none

-- so where none may wait after a change, none does
pub calm-change_at : (may : Bool) (its : Change) (at : ℕ) (xs : List Instance) → (may ≡ false → any_waits xs ≡ false) → (may || is_wait its) ≡ false
    → any_waits (with_at at (changed its) xs) ≡ false
calm-change_at may its at xs before calm =
    let parts = or-parts may (is_wait its) calm in
    calm-with_at at (changed its) (calm-changed its parts.1) xs (before parts.0)

pub calm-change : (may : Bool) (its : Change) (name : Bytes) (xs : List Instance) → (may ≡ false → any_waits xs ≡ false) → (may || is_wait its) ≡ false
    → any_waits (with_change name (changed its) xs) ≡ false
calm-change may its name xs before calm =
    let parts = or-parts may (is_wait its) calm in
    calm-named name (changed its) (calm-changed its parts.1) xs (before parts.0)

-- one that doesn't wait is added
pub calm-with : (y : Instance) (xs : List Instance) → is_some y.blocker ≡ false → any_waits xs ≡ false → any_waits (with_instance y xs) ≡ false
calm-with y [] calm none = or-both (is_some y.blocker) false calm refl
calm-with y (x ∷ xs) calm none =
    let parts = or-parts (is_some x.blocker) (any_waits xs) none in
    by_case (is_below x.name y.name) (or-both (is_some x.blocker) (any_waits (with_instance y xs)) parts.0 (calm-with y xs calm parts.1))
  where
    by_case : (b : Bool) → any_waits (x ∷ with_instance y xs) ≡ false → any_waits (if b then x ∷ with_instance y xs else y ∷ x ∷ xs) ≡ false
    by_case true later = later
    by_case false later = or-both (is_some y.blocker) (any_waits (x ∷ xs)) calm none

-- one is taken out
pub calm-without_at : (at : ℕ) (xs : List Instance) → any_waits xs ≡ false → any_waits (without_at at xs) ≡ false
calm-without_at at [] none = refl
calm-without_at zero (x ∷ xs) none = (or-parts (is_some x.blocker) (any_waits xs) none).1
calm-without_at (suc at) (x ∷ xs) none =
    let parts = or-parts (is_some x.blocker) (any_waits xs) none in
    or-both (is_some x.blocker) (any_waits (without_at at xs)) parts.0 (calm-without_at at xs parts.1)

pub calm-without : (name : Bytes) (xs : List Instance) → any_waits xs ≡ false → any_waits (without name xs) ≡ false
calm-without name [] none = refl
calm-without name (x ∷ xs) none =
    let parts = or-parts (is_some x.blocker) (any_waits xs) none in
    by_case (bytes_eq x.name name) (or-both (is_some x.blocker) (any_waits (without name xs)) parts.0 (calm-without name xs parts.1)) parts.1
  where
    by_case : (b : Bool) → any_waits (x ∷ without name xs) ≡ false → any_waits xs ≡ false → any_waits (if b then xs else x ∷ without name xs) ≡ false
    by_case true later rest = rest
    by_case false later rest = later

-- where none waits, none waits for an event
not-event : (id : EventId) (o : Option EventId) → is_some o ≡ false → is_event id o ≡ false
not-event id None none = refl
not-event id (Some other) none = absurd cc

pub calm-blocked : (id : EventId) (low : ℕ) (xs : List Instance) → any_waits xs ≡ false → blocked_from id low xs ≡ None
calm-blocked id low [] none = refl
calm-blocked id low (x ∷ xs) none =
    let parts = or-parts (is_some x.blocker) (any_waits xs) none in
    rw (not-event id x.blocker parts.0) (calm-blocked id (low + 1) xs parts.1)

-- the instances of the jobs before a place, and of those from one on

pub quiet-none : (jobs : List JobInstances) → AreQuiet 0 jobs
quiet-none jobs job less = absurd (omega (arith, less))

-- there is no job from the length on
pub beyond-all : (calm : ℕ) (jobs : List JobInstances) → length jobs ≤ calm → AreCalm calm jobs
beyond-all calm jobs past job from = ap (λ o. any_waits (list_of o)) (nth_none job jobs (omega (arith, past, from)))

-- jobs without instances
pub beyond-new : (calm : ℕ) (jobs : List JobDef) → AreCalm calm (map new_job jobs)
beyond-new calm jobs job from = among jobs job
  where
    among : (jobs : List JobDef) (job : ℕ) → any_waits (instances_at job (map new_job jobs)) ≡ false
    among [] job = refl
    among (file ∷ jobs) zero = refl
    among (file ∷ jobs) (suc job) = among jobs job

-- one job changes so that none of its instances begins to wait
calm-job : (place : ℕ) (f : JobInstances → JobInstances) → ((its : JobInstances) → any_waits its.instances ≡ false → any_waits (f its).instances ≡ false) → (jobs : List JobInstances) (job : ℕ)
    → any_waits (instances_at job jobs) ≡ false → any_waits (instances_at job (with_at place f jobs)) ≡ false
calm-job place f keeps [] job none = none
calm-job zero f keeps (its ∷ jobs) zero none = keeps its none
calm-job zero f keeps (its ∷ jobs) (suc job) none = none
calm-job (suc place) f keeps (its ∷ jobs) zero none = none
calm-job (suc place) f keeps (its ∷ jobs) (suc job) none = calm-job place f keeps jobs job none

pub none-with_at : (places : ℕ → Type 0) (place : ℕ) (f : JobInstances → JobInstances) → ((its : JobInstances) → any_waits its.instances ≡ false → any_waits (f its).instances ≡ false)
    → (jobs : List JobInstances) → NoneWaits places jobs → NoneWaits places (with_at place f jobs)
none-with_at places place f keeps jobs none job there = calm-job place f keeps jobs job (none job there)

-- or none, if the change is refused
pub none-if_ok : {A E : Type 0} (r : Result A E) (places : ℕ → Type 0) (place : ℕ) (f : JobInstances → JobInstances)
    → ((its : JobInstances) → any_waits its.instances ≡ false → any_waits (f its).instances ≡ false) → (old new : List JobInstances) → OnOk r (new ≡ with_at place f old) → OnErr r (new ≡ old)
    → NoneWaits places old → NoneWaits places new
none-if_ok (Ok x) places place f keeps old new ok err none = subst (NoneWaits places) (sym ok) (none-with_at places place f keeps old none)
none-if_ok (Err e) places place f keeps old new ok err none = subst (NoneWaits places) (sym err) none

-- a job changes somehow, and the others stay
other-same : (place : ℕ) (f : JobInstances → JobInstances) (jobs : List JobInstances) (job : ℕ) → (job == place) ≡ false → instances_at job (with_at place f jobs) ≡ instances_at job jobs
other-same place f [] job differs = refl
other-same zero f (its ∷ jobs) zero differs = absurd cc
other-same zero f (its ∷ jobs) (suc job) differs = refl
other-same (suc place) f (its ∷ jobs) zero differs = refl
other-same (suc place) f (its ∷ jobs) (suc job) differs = other-same place f jobs job (grind (arith, differs))

-- one instance changes; if it begins to wait, the jobs before its own stay quiet
pub quiet-changed : (quiet : ℕ) (its : Change) (at place : ℕ) (jobs : List JobInstances) → AreQuiet quiet jobs
    → AreQuiet (if is_wait its && nat_lt place quiet then place else quiet) (with_at place (changed_in at (changed its)) jobs)
quiet-changed quiet its at place jobs before = by_case (is_wait its) (nat_lt place quiet) refl refl
  where
    after : List JobInstances
    after = with_at place (changed_in at (changed its)) jobs

    earlier : (job : ℕ) → job < place → job < quiet → any_waits (instances_at job after) ≡ false
    earlier job less within = ap any_waits (other-same place (changed_in at (changed its)) jobs job (grind (arith, less))) ∙ before job within

    by_case : (wait less : Bool) → is_wait its ≡ wait → nat_lt place quiet ≡ less → AreQuiet (if wait && less then place else quiet) after
    by_case false less calm is =
        none-with_at (λ n. n < quiet) place (changed_in at (changed its)) (λ job none. calm-with_at at (changed its) (calm-changed its calm) job.instances none) jobs before
    by_case true true wait is = λ job below. earlier job below (grind (arith, is, below))
    by_case true false wait is = λ job below. earlier job (grind (arith, is, below)) below

-- and those from the next job on stay calm; where there is no such job, nothing changes
pub beyond-changed : (calm : ℕ) (its : Change) (at place count : ℕ) (jobs : List JobInstances) → length jobs ≤ count → AreCalm calm jobs
    → AreCalm (if (is_wait its && nat_le calm place) && nat_lt place count then place + 1 else calm) (with_at place (changed_in at (changed its)) jobs)
beyond-changed calm its at place count jobs all beyond = by_case (is_wait its) (nat_le calm place) (nat_lt place count) refl refl refl
  where
    change : JobInstances → JobInstances
    change = changed_in at (changed its)

    later : (job : ℕ) → place < job → calm ≤ job → any_waits (instances_at job (with_at place change jobs)) ≡ false
    later job more from = ap any_waits (other-same place change jobs job (grind (arith, more))) ∙ beyond job from

    by_case : (wait past there : Bool) → is_wait its ≡ wait → nat_le calm place ≡ past → nat_lt place count ≡ there
        → AreCalm (if (wait && past) && there then place + 1 else calm) (with_at place change jobs)
    by_case false past there none is within =
        none-with_at (λ n. calm ≤ n) place change (λ job calm. calm-with_at at (changed its) (calm-changed its none) job.instances calm) jobs beyond
    by_case true false there wait is within = λ job from. later job (grind (arith, is, from)) from
    by_case true true true wait is within = λ job from. later job (grind (arith, from)) (grind (arith, is, from))
    by_case true true false wait is within = subst (AreCalm calm) (sym (none_with_at change place jobs (grind (arith, within, all)))) beyond

-- an instance waits no longer
pub calm-unblocked : (id : EventId) (at : ℕ) (its : JobInstances) → any_waits its.instances ≡ false → any_waits (changed_in at (unblocked id) its).instances ≡ false
calm-unblocked id at its none = calm-with_at at (unblocked id) (λ x. still x.blocker) its.instances none
  where
    still : (o : Option EventId) → is_some o ≡ false → is_some (without_id id o) ≡ false
    still None calm = refl
    still (Some other) calm = absurd cc

pub calm-made : (y : Instance) → is_some y.blocker ≡ false → (job : JobInstances) → any_waits job.instances ≡ false → any_waits (with_made y job).instances ≡ false
calm-made y calm job none = among job.instances none
  where
    among : (xs : List Instance) → any_waits xs ≡ false → any_waits (with_named (λ i. i.name) y xs) ≡ false
    among [] none = or-both (is_some y.blocker) false calm refl
    among (x ∷ xs) none =
        let parts = or-parts (is_some x.blocker) (any_waits xs) none in
        by_case (is_below x.name y.name) (or-both (is_some x.blocker) (any_waits (with_named (λ i. i.name) y xs)) parts.0 (among xs parts.1))
      where
        by_case : (b : Bool) → any_waits (x ∷ with_named (λ i. i.name) y xs) ≡ false
            → any_waits (if b then x ∷ with_named (λ i. i.name) y xs else y ∷ x ∷ xs) ≡ false
        by_case true later = later
        by_case false later = or-both (is_some y.blocker) (any_waits (x ∷ xs)) calm none
