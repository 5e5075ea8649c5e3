-- Which clients a slab holds.
use Rattle.std.specs.Prelude.{ℕ, Bool, is_some}
use Rattle.slab.specs.Slab.{Slab, get}

-- the slab holds a client with this number
abbrev pub has_client : {T : Type 0} → Slab T → ℕ → Bool
has_client clients client = is_some (get clients client)
