-- What a look at the children may find.
use Rattle.std.specs.Prelude.{◌≡◌, ◌<◌, ◌⊎◌, ℕ}
use Rattle.up_edge.specs.declared.child.Look.{Look}
use Rattle.up_edge.specs.declared.child.Look.TheVariants.{Ended, Nothing, Failed}

-- Where the next look begins, among so many children: at the child whose end was found; or, if none was, further on, or with the first
-- child. A look that failed isn't repeated at its child.
abbrev pub LooksOn : Look → (before after count : ℕ) → Type 0
LooksOn (Ended how) before after count = after < count
LooksOn Nothing before after count = (after ≡ 0) ⊎ ((before < after) × (after < count))
LooksOn Failed before after count = before < after
