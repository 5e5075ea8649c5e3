-- An event that finishes blocks nobody any more.
use Rattle.std.specs.Prelude.{◌≡◌, ◌+◌, ◌<◌, ◌≤◌, ◌==◌, ℕ, map, Bool, true, false, List, [], ◌∷◌, Option, None, Some, if◌then◌else◌}
use Rattle.up_model.specs.declared.event_id.EventId.{EventId}
use Rattle.up_job.specs.declared.instance.Instance.{Instance}
use Rattle.up_job.specs.declared.instance_key.InstanceKey.{InstanceKey}
use Rattle.up_job.specs.declared.instances.JobInstances.{JobInstances}
use Rattle.up_job.specs.JobLists.{changed_at, instance_at, instances_at}
use Rattle.up_job.specs.Waiting.{any_waits}

-- whether this is the event of an id
abbrev pub is_event : EventId → Option EventId → Bool
is_event id None = false
is_event id (Some other) = other.key == id.key

abbrev pub without_id : EventId → Option EventId → Option EventId
without_id id None = None
without_id id (Some other) = if other.key == id.key then None else Some other

abbrev pub unblocked : EventId → Instance → Instance
unblocked id instance = record instance { blocker = without_id id instance.blocker }

abbrev pub unblocked_in : EventId → JobInstances → JobInstances
unblocked_in id job = record job { instances = map (unblocked id) job.instances }

-- whether an instance waits for the event of an id, if there is one
abbrev pub is_blocked : EventId → Option Instance → Bool
is_blocked id None = false
is_blocked id (Some instance) = is_event id instance.blocker

-- the first of these instances that does, where the first of them has this place
abbrev pub blocked_from : EventId → ℕ → List Instance → Option ℕ
blocked_from id at [] = None
blocked_from id at (instance ∷ its) =
    if is_event id instance.blocker then Some at else blocked_from id (at + 1) its

-- this instance waits for the event of an id, or none does
abbrev pub IsBlocked : EventId → List JobInstances → Option InstanceKey → Type 0
IsBlocked id jobs None = (key : InstanceKey) → is_blocked id (instance_at key jobs) ≡ false
IsBlocked id jobs (Some key) = is_blocked id (instance_at key jobs) ≡ true

-- the wait of this instance for the event of an id ends, if there is one
abbrev pub unblocked_at : EventId → Option InstanceKey → List JobInstances → List JobInstances
unblocked_at id None jobs = jobs
unblocked_at id (Some key) jobs = changed_at key (unblocked id) jobs

-- no instance of the jobs at these places waits for an event
abbrev pub NoneWaits : (ℕ → Type 0) → List JobInstances → Type 0
NoneWaits places jobs = (job : ℕ) → places job → any_waits (instances_at job jobs) ≡ false

-- none of the jobs before this place does
abbrev pub AreQuiet : (quiet : ℕ) → List JobInstances → Type 0
AreQuiet quiet jobs = NoneWaits (λ job. job < quiet) jobs

-- none of the jobs from this place on does
abbrev pub AreCalm : (calm : ℕ) → List JobInstances → Type 0
AreCalm calm jobs = NoneWaits (λ job. calm ≤ job) jobs
