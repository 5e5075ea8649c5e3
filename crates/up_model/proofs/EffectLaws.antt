-- What the effects of inputs are made of.
use Rattle.std.proofs.Common.{◌≡◌, ℕ, Bool, true, false, not, List, [], ◌∷◌, ◌++◌, Option, None, Some, is_some, length, if◌then◌else◌, refl}
use Rattle.std.specs.List.{AllByRecursion}
use Rattle.up_conf.specs.declared.job.JobDef.{JobDef}
use Rattle.up_stanza.specs.declared.process.Process.{Process}
use Rattle.up_model.specs.declared.event.Event.{Event}
use Rattle.up_model.specs.declared.failure.End.{End}
use Rattle.up_model.specs.declared.failure.End.TheVariants as end
use Rattle.up_model.specs.declared.failure.Failure.{Failure}
use Rattle.up_model.specs.declared.failure.Verdict.{Verdict}
use Rattle.up_model.specs.declared.failure.Verdict.TheVariants as verdict
use Rattle.up_model.specs.declared.input.Input.{Input}
use Rattle.up_model.specs.declared.input.Input.TheVariants as input
use Rattle.up_model.specs.declared.loaded.Loaded.{Loaded as LoadedValue}
use Rattle.up_model.specs.declared.loaded.Loaded.TheVariants as loaded
use Rattle.up_model.specs.declared.request.Answer.{Answer}
use Rattle.up_model.specs.declared.state.Goal.TheVariants.{Stop}
use Rattle.up_model.specs.Chronicle.{Chronicle, Entry, Given, Queued, Handled, Finished, Made, Aimed, Respawned, Failed, Signalled, Replied, Loaded, Spoilt}
use Rattle.up_model.specs.Clock.{all_overdue, kill, killing}
use Rattle.up_model.specs.Commands.{outcome_of, entries_of}
use Rattle.up_model.specs.Configuration.{Configuration}
use Rattle.up_model.specs.Due.{end_of, end_by, telling, failed_event_of, finishing, turn_of, turn_event, effect}
use Rattle.up_model.specs.Files.{own_file, names_in_order}
use Rattle.up_model.specs.Held.{is_spoilt}
use Rattle.up_model.specs.Instances.{instance_named}
use Rattle.up_model.specs.Judgement.{end_itself, keep_failure, fail, carry_out, verdict_on_end}
use Rattle.up_model.specs.Loads.{loading}
use Rattle.up_model.specs.Predicates.{is_start, entries_if}
use Rattle.up_model.specs.Queue.{Live, queue}
use Rattle.up_model.specs.Readings.{goal, failure, holders}
use Rattle.up_model.specs.Replies.{releasing, waiter, answering_waiter}
use Rattle.up_model.specs.Values.{Bytes}
use Rattle.up_model.proofs.ReplyLaws.{Allows, releasing-all, answering_waiter-all, outcome-all}
use Rattle.up_model.proofs.Sparing.{all-append, all-if}

-- entries of a kind that has all that the end of a process does too
pub record AllowsEnds (P : Entry → Type 0) : Type 0 where
  pub allows : Allows P
  pub failed : (instance : ℕ) (its : Failure) → P (Failed instance its)
  pub respawned : (instance moment : ℕ) → P (Respawned instance moment)

-- and all that a turn does
pub record AllowsTurns (P : Entry → Type 0) : Type 0 where
  pub ends : AllowsEnds P
  pub told : (spoilt : ℕ) (event : Event) → P (Queued (Spoilt spoilt) event)
  pub handled : (event : ℕ) → P (Handled event)
  pub finished : (event : ℕ) → P (Finished event)

-- an instance ends itself
end_itself-all : (P : Entry → Type 0) → AllowsEnds P → (p : ℕ) (c : Chronicle) → AllByRecursion P (end_itself p c)
end_itself-all P ends p c = all-if P (is_start (goal p c)) (Aimed p Stop [] (holders p c) ∷ []) (ends.allows.aimed p Stop [] (holders p c), tt)

-- it fails
fail-all : (P : Entry → Type 0) → AllowsEnds P → (p : ℕ) (its : Failure) (c : Chronicle) → AllByRecursion P (fail p its c)
fail-all P ends p its c =
    let d : Chronicle = Failed p its ∷ end_itself p c ++ c in
    all-append P (entries_if (not (is_some (failure p c))) (keep_failure p its (end_itself p c ++ c))) (end_itself p c)
    (all-if P (not (is_some (failure p c))) (keep_failure p its (end_itself p c ++ c))
    (all-append P (releasing p true d) (Failed p its ∷ []) (releasing-all P ends.allows.replied p true (ends.allows.released p true) d) (ends.failed p its, tt)))
    (end_itself-all P ends p c)

-- a verdict is carried out
carry_out-all : (P : Entry → Type 0) → AllowsEnds P → (p : ℕ) (its : Verdict) (c : Chronicle) → AllByRecursion P (carry_out p its c)
carry_out-all P ends p verdict.Note c = tt
carry_out-all P ends p verdict.Respawn c = (ends.respawned p _, tt)
carry_out-all P ends p verdict.Stop c = end_itself-all P ends p c
carry_out-all P ends p (verdict.Fail its) c = fail-all P ends p its c

-- a process ends
pub end_of-all : (P : Entry → Type 0) → AllowsEnds P → (file : Option JobDef) (o : Option ℕ) (its : Process) (how : End) (c : Chronicle) → AllByRecursion P (end_of file o its how c)
end_of-all P ends None o its how c = tt
end_of-all P ends (Some job) None its how c = tt
end_of-all P ends (Some job) (Some p) its how c = carry_out-all P ends p (verdict_on_end job p its how c) c

-- the timer kills
pub killing-all : (P : Entry → Type 0) → ((place : ℕ) → P (Signalled place kill true)) → (places : List ℕ) → AllByRecursion P (killing places)
killing-all P killed [] = tt
killing-all P killed (place ∷ places) = all-append P (killing places) (Signalled place kill true ∷ []) (killing-all P killed places) (killed place, tt)

-- an event tells that another was spoilt
pub telling-all : (P : Entry → Type 0) → ((spoilt : ℕ) (event : Event) → P (Queued (Spoilt spoilt) event)) → (spoilt : ℕ) (event : Option Event) → AllByRecursion P (telling spoilt event)
telling-all P told spoilt None = tt
telling-all P told spoilt (Some event) = (told spoilt event, tt)

-- a turn takes up an event or finishes it
pub turn_of-all : (P : Entry → Type 0) → AllowsTurns P → (o : Option Live) (c : Chronicle) → AllByRecursion P (turn_of o c)
turn_of-all P turns None c = tt
turn_of-all P turns (Some live) c = by_case live.handled
  where
    event : ℕ
    event = live.place

    by_case : (b : Bool) → AllByRecursion P (if b then finishing event c else Handled event ∷ [])
    by_case true =
        all-append P (telling event (failed_event_of event c)) (answering_waiter (waiter event c) (is_spoilt event c) ++ Finished event ∷ [])
        (telling-all P turns.told event (failed_event_of event c))
        (all-append P (answering_waiter (waiter event c) (is_spoilt event c)) (Finished event ∷ [])
        (answering_waiter-all P turns.ends.allows.replied (waiter event c) (is_spoilt event c)) (turns.finished event, tt))
    by_case false = (turns.handled event, tt)

-- a load is carried out or answered
pub loading-all : (P : Entry → Type 0) → ((request : ℕ) (answer : Answer) → P (Replied request answer)) → ((jobs : List JobDef) → P (Loaded jobs)) → (given : ℕ) (its : LoadedValue)
    → AllByRecursion P (loading given its)
loading-all P replied came given (loaded.Files jobs) = (replied given _, (came jobs, tt))
loading-all P replied came given (loaded.Refused number) = (replied given _, tt)
loading-all P replied came given loaded.Unread = (replied given _, tt)

-- an input is given, if making an instance is such too, and signals, and what a load does
pub effect-all : (P : Entry → Type 0) → AllowsTurns P → ((file : JobDef) (name : Bytes) → P (Made file name)) → ((place signal : ℕ) (by_timer : Bool) → P (Signalled place signal by_timer))
    → ((given : Input) → P (Given given))
    → (config : Configuration) (given : Input) (c : Chronicle) → ((id : ℕ) (its : _) → given ≡ input.Load id its → AllByRecursion P (loading (length c) its))
    → AllByRecursion P (effect config given c)
unfolding effect
effect-all P turns made signals gives config (input.Emit event) c loads = (turns.ends.allows.queued (length c) event, (gives (input.Emit event), tt))
effect-all P turns made signals gives config (input.Request id request) c loads =
    let d : Chronicle = Given (input.Request id request) ∷ c in
    all-append P (entries_of (length c) (outcome_of config (length c) request d)) (Given (input.Request id request) ∷ [])
    (outcome-all P turns.ends.allows made config (length c) request d (λ p signal runs. signals p signal false)) (gives (input.Request id request), tt)
effect-all P turns made signals gives config (input.Spawned who its pid) c loads = (gives (input.Spawned who its pid), tt)
effect-all P turns made signals gives config (input.Refused who its) c loads =
    let d : Chronicle = Given (input.Refused who its) ∷ c in
    all-append P (end_by who its end.Refused d) (Given (input.Refused who its) ∷ [])
    (end_of-all P turns.ends (own_file who d) (instance_named who d) its end.Refused d) (gives (input.Refused who its), tt)
effect-all P turns made signals gives config (input.Ended who its how) c loads =
    let d : Chronicle = Given (input.Ended who its how) ∷ c in
    all-append P (end_by who its (end.Ended how) d) (Given (input.Ended who its how) ∷ [])
    (end_of-all P turns.ends (own_file who d) (instance_named who d) its (end.Ended how) d) (gives (input.Ended who its how), tt)
effect-all P turns made signals gives config (input.Clock reading) c loads =
    let d : Chronicle = Given (input.Clock reading) ∷ c in
    all-append P (killing (all_overdue (names_in_order config d) d)) (Given (input.Clock reading) ∷ [])
    (killing-all P (λ place. signals place kill true) (all_overdue (names_in_order config d) d)) (gives (input.Clock reading), tt)
effect-all P turns made signals gives config input.Turn c loads =
    all-append P (turn_of (turn_event config (queue c) c) (Given input.Turn ∷ c)) (Given input.Turn ∷ [])
    (turn_of-all P turns (turn_event config (queue c) c) (Given input.Turn ∷ c)) (gives input.Turn, tt)
effect-all P turns made signals gives config (input.Load id its) c loads =
    all-append P (loading (length c) its) (Given (input.Load id its) ∷ []) (loads id its refl) (gives (input.Load id its), tt)
