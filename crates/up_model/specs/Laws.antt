-- What the laws say of a run.
use Rattle.std.specs.Prelude.{ℕ, ◌+◌, ◌<◌, ◌≡◌, ◌==◌, ⊤, false, List, [], ◌∷◌, if◌then◌else◌}
use Rattle.std.specs.List.{AllByRecursion}
use Rattle.up_model.specs.Chronicle.{Chronicle, Handled, Finished}
use Rattle.up_model.specs.Configuration.{Configuration}
use Rattle.up_model.specs.Held.{is_held}
use Rattle.up_model.specs.Loads.{in_force}
use Rattle.up_model.specs.Queue.{Live}

-- the events stand by age: each is older than those after it, and than the end
abbrev pub AreByAge : List Live → (end : ℕ) → Type 0
AreByAge [] end = ⊤
AreByAge (live ∷ lives) end = (live.place < end) × AllByRecursion (λ other. live.place < other.place) lives
    × AreByAge lives end

-- how often a turn took an event up
abbrev pub handled_times : (event : ℕ) → Chronicle → ℕ
handled_times event [] = 0
handled_times event (Handled other ∷ c) =
    if other == event then 1 + handled_times event c else handled_times event c
handled_times event (entry ∷ c) = handled_times event c

-- how often an event left the queue
abbrev pub finished_times : (event : ℕ) → Chronicle → ℕ
finished_times event [] = 0
finished_times event (Finished other ∷ c) =
    if other == event then 1 + finished_times event c else finished_times event c
finished_times event (entry ∷ c) = finished_times event c

-- an event that a turn took up had not been taken up; one that left the queue had been taken up once, had not left, and wasn't held
abbrev pub IsOrderly : Configuration → Chronicle → Type 0
IsOrderly config [] = ⊤
IsOrderly config (Handled event ∷ c) = (handled_times event c ≡ 0) × (finished_times event c ≡ 0)
    × IsOrderly config c
IsOrderly config (Finished event ∷ c) =
    (handled_times event c ≡ 1) × (finished_times event c ≡ 0) × (is_held (in_force config c) event c ≡ false)
    × IsOrderly config c
IsOrderly config (entry ∷ c) = IsOrderly config c
