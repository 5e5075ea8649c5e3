-- What the book of an engine is at rest.
use Rattle.std.specs.Prelude.{◌≡◌, Bool, false}
use Rattle.up_cascade.specs.Unfired.{IsAtRest}
use Rattle.up_book.specs.Keys.{Resting}
use Rattle.up_ledger.specs.Ledgers.{Stands}
use Rattle.up_ledger.specs.declared.ledger.Ledger.{Ledger}
use Rattle.up_model.specs.Chronicle.{Chronicle}
use Rattle.up_model.specs.Configuration.{Configuration}
use Rattle.up_model.specs.Loads.{in_force}

-- the book stands for a chronicle that is at rest, of a run in which this configuration is in force
abbrev pub Rests : Configuration → Ledger → Type 0
Rests config book = (start : Configuration) × (c : Chronicle) × (config ≡ in_force start c) × Stands book Resting config c × IsAtRest config c

-- so it does, unless a step on it ran out of memory
abbrev pub IsSound : (down : Bool) → Configuration → Ledger → Type 0
IsSound down config book = down ≡ false → ∥ Rests config book ∥₁
