-- The versions of an image, and what version 1 can't say.
use Rattle.std.specs.Prelude.{ℕ, ◌==◌, Bool, true, if◌then◌else◌, Option, None, Some}
use Rattle.up_stanza.specs.Signals.{hup}
use Rattle.up_image.specs.declared.version.Version.{Version}
use Rattle.up_image.specs.declared.version.Version.TheVariants.{One, Two}

abbrev pub version_number : Version → ℕ
version_number One = 1
version_number Two = 2

abbrev pub version_of : ℕ → Option Version
version_of number = if number == 1 then Some One else (if number == 2 then Some Two else None)

-- whether a version can say this reload signal: in version 1 each job has HUP
abbrev pub fits_reload : Version → ℕ → Bool
fits_reload One signal = signal == hup
fits_reload Two signal = true
