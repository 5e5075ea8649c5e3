-- How long a run pauses between rounds.
use Rattle.std.specs.Prelude.{ℕ, ◌==◌, ◌+◌, ◌-◌, ◌/◌, ◌^◌, nat_lt, nat_le, Bool, true, false, ◌&&◌, ◌||◌, if◌then◌else◌, min, max, length, List, None, Some}
use Rattle.std.specs.List.{list_all}
use Rattle.up_daemon.specs.declared.log.Round.{Round}
use Rattle.up_edge.specs.declared.passed.Passed.{Passed}
use Rattle.up_edge.specs.declared.passed.Passed.TheVariants.{Accepted, Read, Wrote, Closed}
use Rattle.up_model.specs.declared.output.Output.{Output}

-- the pause after one of so many microseconds, if so many rounds did nothing, and none is longer than so many milliseconds
abbrev pub longer : ℕ → ℕ → ℕ → ℕ
longer quiet next most = if nat_lt quiet 8 || nat_le most (next / 1000) then next
    else min (next + next / 16) (2 ^ 64 - 1)

-- how many milliseconds a pause is, if so many rounds did nothing
abbrev pub pause_of : ℕ → ℕ → ℕ → ℕ
pause_of quiet next most = if quiet == 0 then 0 else min (max (next / 1000) 1) most

-- whether it is a tenth of a millisecond instead
abbrev pub is_short : ℕ → ℕ → Bool
is_short quiet most = nat_lt 0 most && nat_lt 0 quiet && nat_le quiet 8

-- a call of the door that found nothing to do
abbrev pub is_nothing : Passed → Bool
is_nothing (Accepted None) = true
is_nothing (Accepted (Some client)) = false
is_nothing (Read client None) = true
is_nothing (Read client (Some bytes)) = false
is_nothing (Wrote client bytes) = length bytes == 0
is_nothing (Closed client) = false

-- an input asked for nothing
abbrev pub gave_nothing : List Output → Bool
gave_nothing outputs = length outputs == 0

-- a round did nothing: it was fed a reading of the clock alone, which asked for nothing, and no byte and no client came or went
abbrev pub is_idle : Round → List Passed → Bool
is_idle round passed =
    nat_le (length round.fed) 1 && list_all gave_nothing round.gave && list_all is_nothing passed
