-- Whether an instance waits for an event of its own.
use Rattle.std.specs.Prelude.{Bool, true, false, List, Some, is_some}
use Rattle.std.specs.List.{list_any}
use Rattle.up_job.specs.declared.change.Change.{Change}
use Rattle.up_job.specs.declared.change.Change.TheVariants as change
use Rattle.up_job.specs.declared.instance.Instance.{Instance}

-- whether one of these does
abbrev pub any_waits : List Instance → Bool
any_waits instances = list_any (λ instance. is_some instance.blocker) instances

-- whether an instance does by a change
abbrev pub is_wait : Change → Bool
is_wait (change.Waits (Some event)) = true
is_wait other = false
