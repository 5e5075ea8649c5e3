-- The refusals of a daemon.
use Rattle.std.specs.Prelude.{ℕ}
use Rattle.up_daemon.specs.declared.error.DaemonError.{DaemonError}
use Rattle.up_daemon.specs.declared.error.DaemonError.TheVariants.{Down, Memory}

-- the number of a refusal
abbrev pub refusal_number : DaemonError → ℕ
refusal_number Down = 41
refusal_number Memory = 42
