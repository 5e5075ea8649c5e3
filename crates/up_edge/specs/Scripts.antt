-- What a poll of a script finds.
use Rattle.std.specs.Prelude.{◌≡◌, ℕ, ◌<◌, List, Option, Some, slice_get, ⊤}
use Rattle.up_model.specs.declared.who.Who.{Who}
use Rattle.up_stanza.specs.declared.process.Process.{Process}
use Rattle.up_model.specs.declared.process.How.{How}
use Rattle.up_edge.specs.declared.script_host.Found.{Found}
use Rattle.up_edge.specs.declared.script_host.Found.TheVariants.{End, Nothing, Failed}

-- what was found is this end, twice, or memory ran out
abbrev pub AreCopies : Found → Who × Process × How → Type 0
AreCopies (End told end) found = (told ≡ found) × (end ≡ found)
AreCopies Nothing found = ⊥
AreCopies Failed found = ⊤

-- an end is the next one of the script and that of a process that lives
abbrev pub IsFound : ℕ → List (Option (Who × Process × How)) → ℕ → Found → Type 0
IsFound living ends next (End told end) =
    (0 < living) × (slice_get ends next ≡ Some (Some end)) × (told ≡ end)
IsFound living ends next Nothing = ⊤
IsFound living ends next Failed = 0 < living
