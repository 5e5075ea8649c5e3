-- What waits of the lines that a run tells, and how many are lost.
use Rattle.std.specs.Prelude.{ℕ, ◌==◌, ◌+◌, ◌-◌, ◌^◌, Bool, List, min}
use Rattle.std.specs.List.{count_by}

-- the end of a line
abbrev pub is_feed : ℕ → Bool
is_feed byte = byte == 10

-- how many lines end in a text
abbrev pub lines_in : List ℕ → ℕ
lines_in text = count_by is_feed text

-- a count with so many more, as far as its type goes
abbrev pub more_by : ℕ → ℕ → ℕ
more_by more count = min (count + more) (2 ^ 64 - 1)
