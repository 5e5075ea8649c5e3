-- How many calls a round makes.
use Rattle.std.specs.Prelude.{◌≡◌, ◌⊎◌, ℕ, ◌+◌, zero, suc, min, List, [], ◌∷◌, length}
use Rattle.up_edge.specs.Calls.{most_count, with_fault}
use Rattle.up_model.specs.declared.input.Input.{Input}
use Rattle.up_model.specs.declared.input.Input.TheVariants as input
use Rattle.up_model.specs.declared.loaded.Loaded.{Loaded}
use Rattle.up_model.specs.declared.loaded.Loaded.TheVariants.{Unread}
use Rattle.up_model.specs.declared.output.Output.{Output}
use Rattle.up_model.specs.declared.output.Output.TheVariants as output
use Rattle.up_daemon.specs.RoundStates.{DaemonState}

-- how many of these are orders for the host
abbrev pub orders_in : List Output → ℕ
orders_in [] = 0
orders_in (output.Spawn order ∷ outputs) = suc (orders_in outputs)
orders_in (output.Signal who pid signal ∷ outputs) = suc (orders_in outputs)
orders_in (output.Emitted event ∷ outputs) = orders_in outputs
orders_in (output.Reply id answer ∷ outputs) = orders_in outputs

abbrev pub orders_given : List (List Output) → ℕ
orders_given [] = 0
orders_given (outputs ∷ gave) = orders_in outputs + orders_given gave

-- how many of these are ends
abbrev pub ends_in : List Input → ℕ
ends_in [] = 0
ends_in (input.Ended who process how ∷ inputs) = suc (ends_in inputs)
ends_in (input.Request id request ∷ inputs) = ends_in inputs
ends_in (input.Emit event ∷ inputs) = ends_in inputs
ends_in (input.Spawned who process pid ∷ inputs) = ends_in inputs
ends_in (input.Refused who process ∷ inputs) = ends_in inputs
ends_in (input.Clock now ∷ inputs) = ends_in inputs
ends_in (input.Turn ∷ inputs) = ends_in inputs
ends_in (input.Load id loaded ∷ inputs) = ends_in inputs

-- a count of faults after so many more
abbrev pub faults_after : ℕ → ℕ → ℕ
faults_after zero faults = faults
faults_after (suc more) faults = with_fault (faults_after more faults)

-- each load that was fed is what the source gave, in order, but for so many for which it gave nothing
abbrev pub AreLoaded : List Loaded → (missed : ℕ) → List Input → Type 0
AreLoaded entries missed [] = (entries ≡ []) × (missed ≡ 0)
AreLoaded entries missed (input.Load id loaded ∷ inputs) =
    ((later : List Loaded) × (entries ≡ loaded ∷ later) × AreLoaded later missed inputs)
    ⊎ ((fewer : ℕ) × (missed ≡ suc fewer) × (loaded ≡ Unread) × AreLoaded entries fewer inputs)
AreLoaded entries missed (input.Ended who process how ∷ inputs) = AreLoaded entries missed inputs
AreLoaded entries missed (input.Request id request ∷ inputs) = AreLoaded entries missed inputs
AreLoaded entries missed (input.Emit event ∷ inputs) = AreLoaded entries missed inputs
AreLoaded entries missed (input.Spawned who process pid ∷ inputs) = AreLoaded entries missed inputs
AreLoaded entries missed (input.Refused who process ∷ inputs) = AreLoaded entries missed inputs
AreLoaded entries missed (input.Clock now ∷ inputs) = AreLoaded entries missed inputs
AreLoaded entries missed (input.Turn ∷ inputs) = AreLoaded entries missed inputs

-- Each entry that was ever made is in the record now or was there as the round began: no call is made before the records are emptied.
-- The calls of the host are one reading, a poll for each end and one more, and one for each order that was given; each is an entry or a
-- fault. The calls of the source are one for each load, whose faults are the loads of which it gave nothing.
pub record MakesCalls (start : DaemonState) (fed : List Input) (gave : List (List Output)) (end : DaemonState) : Type 0 where
  pub host_made : end.host.made ≡ min start.host.made most_count + length end.host.entries
  pub door_made : end.door.made ≡ min start.door.made most_count + length end.door.entries
  pub source_made : end.source.made ≡ min start.source.made most_count + length end.source.entries
  pub failed : ℕ
  pub faults : end.host.faults ≡ faults_after failed start.host.faults
  pub calls : length end.host.entries + failed ≡ 2 + ends_in fed + orders_given gave
  pub missed : ℕ
  pub unread : end.source.faults ≡ faults_after missed start.source.faults
  pub loads : AreLoaded end.source.entries missed fed
