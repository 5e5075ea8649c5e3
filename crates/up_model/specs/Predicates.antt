-- Tests on the values of a run, which compute.
use Rattle.std.specs.Prelude.{ℕ, Bool, true, false, ◌&&◌, ◌==◌, List, [], ◌∷◌}
use Rattle.std.specs.Str.{bytes_eq}
use Rattle.up_model.specs.declared.state.Goal.{Goal}
use Rattle.up_model.specs.declared.state.Goal.TheVariants.{Start, Stop}
use Rattle.up_model.specs.declared.state.State.{State}
use Rattle.up_model.specs.declared.state.State.TheVariants.{Waiting}
use Rattle.up_stanza.specs.declared.process.Process.{Process}
use Rattle.up_stanza.specs.declared.process.Process.TheVariants.{Main, PreStart, PostStart, PreStop, PostStop}
use Rattle.up_model.specs.declared.who.Who.{Who}

abbrev pub is_start : Goal → Bool
is_start Start = true
is_start Stop = false

abbrev pub is_waiting : State → Bool
is_waiting Waiting = true
is_waiting other = false

-- a number for each process
abbrev pub process_number : Process → ℕ
process_number Main = 0
process_number PreStart = 1
process_number PostStart = 2
process_number PreStop = 3
process_number PostStop = 4

abbrev pub same_process : Process → Process → Bool
same_process process other = process_number process == process_number other

-- the same job and the same instance of it
abbrev pub same_who : Who → Who → Bool
same_who who other = bytes_eq who.job other.job && bytes_eq who.instance other.instance

-- the entries, if a test is true
abbrev pub entries_if : {X : Type 0} → Bool → List X → List X
entries_if true entries = entries
entries_if false entries = []

-- the first of two lists in which there is anything
abbrev pub or_else : {X : Type 0} → List X → List X → List X
or_else [] others = others
or_else (entry ∷ entries) others = entry ∷ entries
