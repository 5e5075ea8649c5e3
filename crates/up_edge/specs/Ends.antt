-- How a process ended, by what wait(2) tells.
use Rattle.std.specs.Prelude.{ℕ, ℤ, pos, Option, Some, None, nat_lt, if◌then◌else◌}
use Rattle.std.specs.declared.process.status.ExitStatus.{ExitStatus}
use Rattle.std.specs.Process.{exit_code, exit_signal}
use Rattle.up_model.specs.declared.process.How.{How}
use Rattle.up_model.specs.declared.process.How.TheVariants.{Exit, Signal}

-- a number of one byte, and 0 for any other
abbrev pub byte_of : ℤ → ℕ
byte_of (pos number) = if nat_lt number 256 then number else 0
byte_of _ = 0

-- an exit by its code, else a signal by its number, of which an unknown one is 0
abbrev pub end_by : Option ℤ → Option ℤ → How
end_by (Some code) signal = Exit (byte_of code)
end_by None (Some signal) = Signal (byte_of signal)
end_by None None = Signal 0

-- how a process with this status ended
abbrev pub end_of : ExitStatus → How
end_of status = end_by (exit_code status) (exit_signal status)
