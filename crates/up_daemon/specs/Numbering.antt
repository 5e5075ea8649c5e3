-- How the requests of a round are numbered, of which those to reload the configuration are fed as loads.
use Rattle.std.specs.Prelude.{◌≡◌, ◌+◌, ℕ, List, [], ◌∷◌}
use Rattle.up_model.specs.declared.input.Input.{Input}
use Rattle.up_model.specs.declared.input.Input.TheVariants as input

-- the requests among these inputs have the numbers from the first on, one after another, and the next one is still to be given
abbrev pub AreNumbered : (first : ℕ) → List Input → (next : ℕ) → Type 0
AreNumbered first [] next = next ≡ first
AreNumbered first (input.Request id request ∷ inputs) next = (id ≡ first)
    × AreNumbered (first + 1) inputs next
AreNumbered first (input.Emit event ∷ inputs) next = AreNumbered first inputs next
AreNumbered first (input.Spawned who process pid ∷ inputs) next = AreNumbered first inputs next
AreNumbered first (input.Refused who process ∷ inputs) next = AreNumbered first inputs next
AreNumbered first (input.Ended who process how ∷ inputs) next = AreNumbered first inputs next
AreNumbered first (input.Clock now ∷ inputs) next = AreNumbered first inputs next
AreNumbered first (input.Turn ∷ inputs) next = AreNumbered first inputs next
AreNumbered first (input.Load id loaded ∷ inputs) next = (id ≡ first)
    × AreNumbered (first + 1) inputs next
