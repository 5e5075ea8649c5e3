-- The events of jobs (starting(7), started(7), stopping(7), stopped(7)).
use Rattle.std.specs.Prelude.{Bool, ◌||◌, if◌then◌else◌, List, [], ◌∷◌, Option, None, Some, codes}
use Rattle.std.specs.Str.{bytes_eq}
use Rattle.up_value.specs.Values.{Bytes}
use Rattle.up_expr.specs.declared.expr.Test.{Test}
use Rattle.up_expr.specs.declared.expr.Test.TheVariants.{Place, Same, Differs}

-- an event that jobs make
unfoldable pub is_job_event : Bytes → Bool
is_job_event event = bytes_eq event (codes "starting") || bytes_eq event (codes "started")
    || bytes_eq event (codes "stopping") || bytes_eq event (codes "stopped")

-- the job whose event it must be, by its first value or by the variable JOB
abbrev pub wanted_job : List Test → Option Bytes
wanted_job [] = None
wanted_job (Place value ∷ tests) = Some value
wanted_job (Same key value ∷ tests) = if bytes_eq key (codes "JOB") then Some value else wanted_job tests
wanted_job (Differs key value ∷ tests) = wanted_job tests
