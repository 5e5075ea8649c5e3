-- An event that finishes blocks nobody any more.
use Rattle.std.specs.Prelude.{◌≡◌, ℕ, ◌==◌, map, Option, None, Some, if◌then◌else◌}
use Rattle.up_job.specs.declared.instance_key.InstanceKey.{InstanceKey}
use Rattle.up_model.specs.Chronicle.{Chronicle}
use Rattle.up_model.specs.Configuration.{Configuration}
use Rattle.up_model.specs.Readings.{blocker}
use Rattle.up_book.specs.Keys.{instance_place}
use Rattle.up_book.specs.Summaries.{Summary, JobSummary}

abbrev pub without_known : ℕ → Option (Option ℕ) → Option (Option ℕ)
without_known place None = None
without_known place (Some None) = Some None
without_known place (Some (Some other)) = if other == place then None else Some (Some other)

abbrev pub unblocked_summary : ℕ → Summary → Summary
unblocked_summary place s = record s { blocker = without_known place s.blocker }

abbrev pub unblocked_job : ℕ → JobSummary → JobSummary
unblocked_job place job = record job { instances = map (unblocked_summary place) job.instances }

-- the instance that waits for an event, or that none does
abbrev pub IsBlockedBy : Configuration → (event : ℕ) → Chronicle → Option InstanceKey → Type 0
IsBlockedBy config event c None = (key : InstanceKey) (i : ℕ) → instance_place config c key ≡ Some i → blocker i c ≡ Some event → ⊥
IsBlockedBy config event c (Some key) = (i : ℕ) × (instance_place config c key ≡ Some i) × (blocker i c ≡ Some event)
