-- What the laws say of what instances do: none does anything while its own starting or stopping event hasn't finished, and none has two
-- main processes.
use Rattle.std.specs.Prelude.{◌≡◌, ⊤, ℕ, false, ◌==◌, ◌&&◌, not, List, [], ◌∷◌, length, filter, if◌then◌else◌}
use Rattle.up_stanza.specs.declared.process.Process.TheVariants.{Main}
use Rattle.up_model.specs.Chronicle.{Chronicle, Queued, Entering, Finished, Ordered, Signalled}
use Rattle.up_model.specs.Readings.{is_blocking, lives}

-- the events of an instance's starting and stopping that haven't finished (starting(7), stopping(7))
abbrev pub unfinished : ℕ → Chronicle → List ℕ
unfinished instance [] = []
unfinished instance (Queued (Entering other entered) event ∷ c) =
    if (other == instance) && is_blocking entered then length c ∷ unfinished instance c
    else unfinished instance c
unfinished instance (Finished event ∷ c) = filter (λ other. not (other == event)) (unfinished instance c)
unfinished instance (entry ∷ c) = unfinished instance c

-- when an instance ordered a process, or its main got a signal, each of these had finished
abbrev pub ActsUnblocked : Chronicle → Type 0
ActsUnblocked [] = ⊤
ActsUnblocked (Ordered instance process ∷ c) = (unfinished instance c ≡ []) × ActsUnblocked c
ActsUnblocked (Signalled instance signal by_timer ∷ c) = (unfinished instance c ≡ []) × ActsUnblocked c
ActsUnblocked (entry ∷ c) = ActsUnblocked c

-- an instance that ordered its main process had none that lived
abbrev pub HasOneMain : Chronicle → Type 0
HasOneMain [] = ⊤
HasOneMain (Ordered instance Main ∷ c) = (lives instance Main c ≡ false) × HasOneMain c
HasOneMain (entry ∷ c) = HasOneMain c
