-- How a call of a door changes which clients are connected.
use Rattle.std.specs.Prelude.{◌≡◌, ℕ, ◌==◌, Bool, true, false, if◌then◌else◌, Option, Some, None, Result, Ok, Err}

-- the same clients are connected
abbrev pub SameClients : (ℕ → Bool) → (ℕ → Bool) → Type 0
SameClients before after = (other : ℕ) → after other ≡ before other

-- this client was not connected and is, and each other client as before
abbrev pub Connects : ℕ → (ℕ → Bool) → (ℕ → Bool) → Type 0
Connects client before after = (before client ≡ false)
    × ((other : ℕ) → after other ≡ (if other == client then true else before other))

-- this client is not connected, and each other client as before
abbrev pub Disconnects : ℕ → (ℕ → Bool) → (ℕ → Bool) → Type 0
Disconnects client before after = (other : ℕ)
    → after other ≡ (if other == client then false else before other)

-- a client that is accepted is connected, and nothing else changes
abbrev pub ConnectsOnAccept : {E : Type 0} → (ℕ → Bool) → Result (Option ℕ) E → (ℕ → Bool) → Type 0
ConnectsOnAccept before (Ok (Some client)) after = Connects client before after
ConnectsOnAccept before (Ok None) after = SameClients before after
ConnectsOnAccept before (Err _) after = SameClients before after
