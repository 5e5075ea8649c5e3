-- The numbers by which the programs end (initd(8) and initctl(8), EXIT STATUS).
use Rattle.std.specs.Prelude.{ℕ}
use Rattle.up_model.specs.declared.exit_status.ExitStatus.{ExitStatus}
use Rattle.up_model.specs.declared.exit_status.ExitStatus.TheVariants.{Done, Failed, Usage, Unusable, Memory}

-- the number of a status
abbrev pub status_number : ExitStatus → ℕ
status_number Done = 0
status_number Failed = 1
status_number Usage = 2
status_number Unusable = 3
status_number Memory = 4
