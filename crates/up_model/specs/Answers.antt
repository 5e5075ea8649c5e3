-- A run: what each input is answered, and the chronicle after it.
use Rattle.std.specs.Prelude.{ℕ, Bool, true, false, List, [], ◌∷◌, ◌++◌, Option, None, Some, if◌then◌else◌}
use Rattle.up_stanza.specs.declared.process.Process.{Process}
use Rattle.up_model.specs.declared.input.Input.{Input}
use Rattle.up_model.specs.declared.input.Input.TheVariants as input
use Rattle.up_model.specs.declared.step.Step.{Step}
use Rattle.up_model.specs.declared.step.Step.TheVariants as step
use Rattle.up_model.specs.Chronicle.{Chronicle}
use Rattle.up_model.specs.Configuration.{Configuration}
use Rattle.up_model.specs.Due.{effect}
use Rattle.up_model.specs.Instances.{instance_named}
use Rattle.up_model.specs.Loads.{in_force}
use Rattle.up_model.specs.Outputs.{outputs_of}
use Rattle.up_model.specs.Readings.{is_awaited, lives}
use Rattle.up_model.specs.Work.{work, settle}

-- the chronicle after an input: its effect, and then what is due until nothing is. The configuration is that of the start.
unfoldable pub after : Configuration → Chronicle → Input → Chronicle
after config c given =
    let d = effect (in_force config c) given c ++ c in
    settle (work (in_force config d) d) (in_force config d) d

-- whether there is an instance, and it awaits the answer for a process
abbrev pub awaits : Option ℕ → Process → Chronicle → Bool
awaits None its c = false
awaits (Some instance) its c = is_awaited instance its c

-- whether there is an instance, and its process lives
abbrev pub has_living : Option ℕ → Process → Chronicle → Bool
has_living None its c = false
has_living (Some instance) its c = lives instance its c

-- an answer for a process is expected if it is ordered and unanswered, an end if it lives, and all else always
unfoldable pub is_expected : Input → Chronicle → Bool
is_expected (input.Spawned who its pid) c = awaits (instance_named who c) its c
is_expected (input.Refused who its) c = awaits (instance_named who c) its c
is_expected (input.Ended who its how) c = has_living (instance_named who c) its c
is_expected given c = true

-- the answer to one input after a chronicle
abbrev pub answer : Configuration → Chronicle → Input → Step
answer config c given = if is_expected given c then step.Gave (outputs_of (after config c given))
    else step.NotExpected

-- the chronicle after one input; an input that isn't expected is no part of the history
abbrev pub next : Configuration → Chronicle → Input → Chronicle
next config c given = if is_expected given c then after config c given else c

-- the answers to inputs, one after another
unfoldable pub answers : Configuration → Chronicle → List Input → List Step
answers config c [] = []
answers config c (given ∷ inputs) = answer config c given ∷ answers config (next config c given) inputs

-- the chronicle after them
unfoldable pub after_all : Configuration → Chronicle → List Input → Chronicle
after_all config c [] = c
after_all config c (given ∷ inputs) = after_all config (next config c given) inputs
