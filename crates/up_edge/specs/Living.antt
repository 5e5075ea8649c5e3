-- How many processes live: those that were spawned and whose end was not reported.
use Rattle.std.specs.Prelude.{◌≡◌, ℕ, ◌+◌, Option, Some, None, Result, Ok, Err}

-- a process that was spawned is one more
abbrev pub LivesAfterSpawn : {A E : Type 0} → ℕ → Result A E → ℕ → Type 0
LivesAfterSpawn before (Ok _) after = after ≡ before + 1
LivesAfterSpawn before (Err _) after = after ≡ before

-- an end that is reported is one less
abbrev pub LivesAfterPoll : {A E : Type 0} → ℕ → Result (Option A) E → ℕ → Type 0
LivesAfterPoll before (Ok (Some _)) after = after + 1 ≡ before
LivesAfterPoll before (Ok None) after = after ≡ before
LivesAfterPoll before (Err _) after = after ≡ before
