-- The refusals of a list of instances.
use Rattle.std.specs.Prelude.{ℕ}
use Rattle.up_job.specs.declared.fault.JobFault.{JobFault}
use Rattle.up_job.specs.declared.fault.JobFault.TheVariants.{Memory, Full}

-- the number of a refusal
abbrev pub number_of : JobFault → ℕ
number_of Memory = 42
number_of Full = 43
