-- Signals as they are written.
use Rattle.std.specs.Prelude.{ℕ, unwrap_or}
use Rattle.std.specs.Fmt.{decimal}
use Rattle.up_conf.specs.Signals.{name_of}
use Rattle.up_model.specs.Values.{Bytes}

-- by its name without SIG, or in decimal if it has none
abbrev pub signal_text : ℕ → Bytes
signal_text number = unwrap_or (name_of number) (decimal number)
