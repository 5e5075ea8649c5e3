-- The alarm: the timer kills nobody before the clock reads it.
use Rattle.std.specs.Prelude.{ℕ, ◌≤◌, nat_lt, List, Option, None, Some, if◌then◌else◌}
use Rattle.std.specs.List.{AllByRecursion}
use Rattle.up_job.specs.declared.change.Change.{Change}
use Rattle.up_job.specs.declared.change.Change.TheVariants as change
use Rattle.up_job.specs.declared.instance.Instance.{Instance}
use Rattle.up_job.specs.declared.instances.JobInstances.{JobInstances}
use Rattle.up_job.specs.Timers.{kill_at}

-- if there is a moment, it isn't before the alarm
abbrev pub IsFrom : (alarm : ℕ) → Option ℕ → Type 0
IsFrom alarm None = Unit {0}
IsFrom alarm (Some at) = alarm ≤ at

-- nor is any at which main of one of these instances is to be killed
abbrev pub AreFrom : (alarm : ℕ) → List Instance → Type 0
AreFrom alarm instances = AllByRecursion (λ instance. IsFrom alarm (kill_at instance)) instances

abbrev pub AllFrom : (alarm : ℕ) → List JobInstances → Type 0
AllFrom alarm jobs = AllByRecursion (λ job. AreFrom alarm job.instances) jobs

-- the alarm after a change of an instance: no later than a signal of which the timer is to wait for the end
abbrev pub alarm_after : Change → (alarm : ℕ) → ℕ
alarm_after (change.Signals (Some moment)) alarm = if nat_lt moment alarm then moment else alarm
alarm_after other alarm = alarm
