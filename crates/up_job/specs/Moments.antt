-- The moments of respawns, as many as the limit counts (init(5), "respawn limit").
use Rattle.std.specs.Prelude.{ℕ, ◌+◌, ◌-◌, ◌≤◌, nat_lt, Bool, ◌||◌, ◌==◌, List, [], ◌∷◌, take, if◌then◌else◌}
use Rattle.circular_buffer.specs.Buffer.{Buffer, buffer}
use Rattle.up_stanza.specs.declared.limit.Limit.{Limit}
use Rattle.up_model.specs.Chronicle.{Chronicle, Respawned}
use Rattle.up_model.specs.Clock.{is_unlimited, milliseconds}

-- how many moments matter to a limit: none if it allows every respawn
abbrev pub room : Limit → ℕ
room limit = if is_unlimited limit then 0 else limit.count

-- the moments with one more, newest first; the oldest goes if there is no room
abbrev pub noted : ℕ → Buffer ℕ → Buffer ℕ
noted moment kept = buffer (take kept.capacity (moment ∷ kept.items)) kept.capacity

-- how many of these lie less than a span ago
abbrev pub recent : (today span : ℕ) → List ℕ → ℕ
recent today span [] = 0
recent today span (moment ∷ moments) =
    if nat_lt (today - moment) span then recent today span moments + 1 else recent today span moments

-- whether a limit allows one respawn more after these
abbrev pub allows : Limit → (today : ℕ) → List ℕ → Bool
allows limit today moments =
    is_unlimited limit || nat_lt (recent today (milliseconds limit.interval) moments) limit.count

-- the moments of an instance's respawns, newest first
abbrev pub moments_of : ℕ → Chronicle → List ℕ
moments_of instance [] = []
moments_of instance (Respawned other moment ∷ c) =
    if other == instance then moment ∷ moments_of instance c else moments_of instance c
moments_of instance (entry ∷ c) = moments_of instance c

-- none of these is later than the one before it, and the first isn't later than a moment
abbrev pub Falls : ℕ → List ℕ → Type 0
Falls top [] = Unit {0}
Falls top (moment ∷ moments) = (moment ≤ top) × Falls moment moments
