-- What a ledger stands for.
use Rattle.std.specs.Prelude.{List, ⊤}
use Rattle.up_book.specs.Hearers.{AreFound, HasIndex}
use Rattle.up_book.specs.Keys.{Mode, Resting, Stepping}
use Rattle.up_ledger.specs.Standing.{Forgets}
use Rattle.up_ledger.specs.Steps.{IsStep}
use Rattle.up_ledger.specs.declared.ledger.Ledger.{Ledger}
use Rattle.up_ledger.specs.declared.step.Step.{Step}
use Rattle.up_conf.specs.declared.job.JobDef.{JobDef}
use Rattle.up_marks.specs.Finding.{Finds}
use Rattle.up_marks.specs.declared.leaves.Leaves.{Leaves}
use Rattle.up_model.specs.Chronicle.{Chronicle}
use Rattle.up_model.specs.Configuration.{Configuration}

-- the leaves of jobs are found by the events that they name, and by the values that they want of them
pub record AreLeaves (leaves : Leaves) (jobs : List JobDef) : Type 0 where
  pub by_event : HasIndex leaves.by_event jobs
  pub by_value : Finds leaves.by_value jobs

-- what a step has asked for is known while it isn't over
abbrev pub IsStepIn : Mode → Step → Configuration → Chronicle → Type 0
IsStepIn Resting step config c = ⊤
IsStepIn Stepping step config c = IsStep step config c

pub record Stands (ledger : Ledger) (mode : Mode) (config : Configuration) (c : Chronicle) : Type 0 where
  pub past : Forgets ledger.past config c
  pub index : AreLeaves ledger.index config.jobs
  pub step : IsStepIn mode ledger.step config c
  -- the index and the others have the `stop on` of each instance
  pub found : AreFound ledger.others config c
