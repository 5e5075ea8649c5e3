-- The refusals of an engine.
use Rattle.std.specs.Prelude.{ℕ}
use Rattle.up_engine.specs.declared.fault.StepError.{StepError}
use Rattle.up_engine.specs.declared.fault.StepError.TheVariants.{NotExpected, Down, Memory}

-- the number of a refusal
abbrev pub number_of : StepError → ℕ
number_of NotExpected = 40
number_of Down = 41
number_of Memory = 42
