-- What a close reports.
use Rattle.std.specs.Prelude.{◌≡◌, ℕ, ◌⊎◌}
use Rattle.up_edge.specs.Calls.{Calls, with_entry, with_failure}
use Rattle.up_edge.specs.declared.passed.Passed.{Passed}
use Rattle.up_edge.specs.declared.passed.Passed.TheVariants.{Closed}

-- the record gains its entry, or, without room for it, the count of faults one
abbrev pub ReportsClose : ℕ → Calls Passed → Calls Passed → Type 0
ReportsClose client before after = (after ≡ with_entry (Closed client) before) ⊎ (after ≡ with_failure before)
