-- An effect that concerns no instance: if nothing was due before, nothing is due after it.
use Rattle.std.proofs.Common.{◌≡◌, ℕ, true, List, [], ◌∷◌, ◌++◌, length, None, refl, sym, ◌∙◌, ap, subst, append_assoc}
use Rattle.std.specs.List.{AllByRecursion}
use Rattle.up_conf.specs.declared.job.JobDef.{JobDef}
use Rattle.up_stanza.specs.declared.process.Process.{Process}
use Rattle.up_stanza.specs.declared.process.Process.TheVariants as process
use Rattle.up_model.specs.declared.event.Event.{Event}
use Rattle.up_model.specs.declared.input.Input.{Input}
use Rattle.up_model.specs.declared.input.Input.TheVariants as input
use Rattle.up_model.specs.Chronicle.{Chronicle, Entry, Given, Queued, Handled, Finished, Made, Aimed, Restarted, Entered, Ordered, Signalled, Outside, Entering}
use Rattle.up_model.specs.Clock.{all_overdue, kill, killing}
use Rattle.up_model.specs.Configuration.{Configuration}
use Rattle.up_model.specs.Due.{due, turn_event, effect}
use Rattle.up_model.specs.Files.{names_in_order}
use Rattle.up_model.specs.Instances.{Instance, instances_of}
use Rattle.up_model.specs.Life.{Wait, ForStart, ForEvent, ForAnswer, ForProcess, ForChange, ForMain, wait_in}
use Rattle.up_model.specs.Moves.{is_over, may_leave}
use Rattle.up_model.specs.Offers.{offering}
use Rattle.up_model.specs.Queue.{queue}
use Rattle.up_model.specs.Readings.{goal, state_of, was_restarted, blocker, is_awaited, pid_of}
use Rattle.up_model.specs.Replies.{asked, unless_answered, answering_hurried, answering_last}
use Rattle.up_model.specs.Values.{Bytes}
use Rattle.up_model.specs.Work.{work}
use Rattle.up_model.proofs.Settling.{settle_still}
use Rattle.up_model.proofs.Sparing.{same-append, all-append}
use Rattle.up_cascade.specs.Settling.{after_in}
use Rattle.up_cascade.proofs.JobMoves.{move_first}
use Rattle.up_cascade.proofs.Effects.{none-due}
use Rattle.up_cascade.proofs.Firing.{stay-still, still-stay}
use Rattle.up_cascade.proofs.Hearing.{GivesNone, asked-same, none-moves}
use Rattle.up_cascade.proofs.Moving.{StayIn, Stay}

-- an entry that says nothing of what an instance waits for, and takes no event up
abbrev pub IsQuiet : Entry → Type 0
IsQuiet (Given (input.Request id request)) = ⊥
IsQuiet (Given (input.Spawned who its pid)) = ⊥
IsQuiet (Given (input.Refused who its)) = ⊥
IsQuiet (Given (input.Ended who its how)) = ⊥
IsQuiet (Queued (Entering i entered) event) = ⊥
IsQuiet (Handled event) = ⊥
IsQuiet (Finished event) = ⊥
IsQuiet (Made file name) = ⊥
IsQuiet (Aimed i aim environment its) = ⊥
IsQuiet (Restarted i its) = ⊥
IsQuiet (Entered i entered) = ⊥
IsQuiet (Ordered i its) = ⊥
IsQuiet entry = Unit {0}

-- so it leaves what is read of each instance
goal-same : (q : ℕ) (e : Entry) (c : Chronicle) → IsQuiet e → goal q (e ∷ c) ≡ goal q c
goal-same q (Aimed j aim environment its) c is = absurd is
goal-same q e c is = refl

state-same : (q : ℕ) (e : Entry) (c : Chronicle) → IsQuiet e → state_of q (e ∷ c) ≡ state_of q c
state-same q (Entered j entered) c is = absurd is
state-same q e c is = refl

restarted-same : (q : ℕ) (e : Entry) (c : Chronicle) → IsQuiet e → was_restarted q (e ∷ c) ≡ was_restarted q c
restarted-same q (Entered j entered) c is = absurd is
restarted-same q (Restarted j its) c is = absurd is
restarted-same q e c is = refl

blocker-same : (q : ℕ) (e : Entry) (c : Chronicle) → IsQuiet e → blocker q (e ∷ c) ≡ blocker q c
blocker-same q (Queued (Entering j entered) event) c is = absurd is
blocker-same q (Finished event) c is = absurd is
blocker-same q e c is = refl

awaited-same : (q : ℕ) (its : Process) (e : Entry) (c : Chronicle) → IsQuiet e → is_awaited q its (e ∷ c) ≡ is_awaited q its c
awaited-same q its (Given (input.Spawned who other pid)) c is = absurd is
awaited-same q its (Given (input.Refused who other)) c is = absurd is
awaited-same q its (Made file name) c is = absurd is
awaited-same q its (Ordered j other) c is = absurd is
awaited-same q its e c is = refl

pid-same : (q : ℕ) (its : Process) (e : Entry) (c : Chronicle) → IsQuiet e → pid_of q its (e ∷ c) ≡ pid_of q its c
pid-same q its (Given (input.Spawned who other pid)) c is = absurd is
pid-same q its (Given (input.Ended who other how)) c is = absurd is
pid-same q its (Made file name) c is = absurd is
pid-same q its e c is = refl

over-same : (job : JobDef) (q : ℕ) (wait : Wait) (e : Entry) (c : Chronicle) → IsQuiet e → is_over job q wait (e ∷ c) ≡ is_over job q wait c
over-same job q ForStart e c is = rw (goal-same q e c is) refl
over-same job q ForEvent e c is = rw (blocker-same q e c is) refl
over-same job q (ForAnswer its) e c is = rw (awaited-same q its e c is) refl
over-same job q (ForProcess its) e c is = rw (awaited-same q its e c is, pid-same q its e c is) refl
over-same job q ForChange e c is = rw (goal-same q e c is, restarted-same q e c is, pid-same q process.Main e c is) refl
over-same job q ForMain e c is = rw (pid-same q process.Main e c is) refl

leave-same : (job : JobDef) (q : ℕ) (e : Entry) (c : Chronicle) → IsQuiet e → may_leave job q (e ∷ c) ≡ may_leave job q c
leave-same job q e c is = ap (λ s. is_over job q (wait_in s) (e ∷ c)) (state-same q e c is) ∙ over-same job q (wait_in (state_of q c)) e c is

-- and all stay where they are
pub lists-same : (job : Bytes) (e : Entry) (c : Chronicle) → IsQuiet e → instances_of job (e ∷ c) ≡ instances_of job c
lists-same job (Made file name) c is = absurd is
lists-same job (Entered j entered) c is = absurd is
lists-same job e c is = refl

stayin-quiet : (i : ℕ) (its : List Instance) (e : Entry) (c : Chronicle) → IsQuiet e → StayIn i its c → StayIn i its (e ∷ c)
stayin-quiet i [] e c is all = tt
stayin-quiet i (x ∷ its) e c is all = ((λ apart. leave-same x.file x.place e c is ∙ all.0 apart), stayin-quiet i its e c is all.1)

stay-quiet : (i : ℕ) (jobs : List JobDef) (e : Entry) (c : Chronicle) → IsQuiet e → Stay i jobs c → Stay i jobs (e ∷ c)
stay-quiet i [] e c is stay = tt
stay-quiet i (job ∷ jobs) e c is stay =
    (subst (λ (its : List Instance). StayIn i its (e ∷ c)) (sym (lists-same job.name e c is)) (stayin-quiet i (instances_of job.name c) e c is stay.0), stay-quiet i jobs e c is stay.1)

pub stays-quiet : (i : ℕ) (jobs : List JobDef) (es c : List Entry) → AllByRecursion IsQuiet es → Stay i jobs c → Stay i jobs (es ++ c)
stays-quiet i jobs [] c all stay = stay
stays-quiet i jobs (e ∷ es) c all stay = stay-quiet i jobs e (es ++ c) all.0 (stays-quiet i jobs es c all.1 stay)

still-quiet : (jobs : List JobDef) (es c : List Entry) → AllByRecursion IsQuiet es → move_first jobs c ≡ [] → move_first jobs (es ++ c) ≡ []
still-quiet jobs es c all none = still-stay jobs (es ++ c) (stays-quiet (length (es ++ c)) jobs es c all (stay-still (length (es ++ c)) jobs c none))

-- so nothing is due, if no event is taken up and no client asks
pub none-asked : (c : Chronicle) → asked c ≡ None → answering_last c ≡ []
none-asked c none = ap (λ o. answering_hurried (unless_answered o c) c) none

quiet-due : (config : Configuration) (es c : List Entry) → AllByRecursion IsQuiet es → offering (es ++ c) ≡ None → asked (es ++ c) ≡ None → due config c ≡ [] → due config (es ++ c) ≡ []
quiet-due config es c all offers none rests =
    none-due config (es ++ c) (still-quiet config.jobs es c all (none-moves config c rests)) offers ∙ none-asked (es ++ c) none

pub event-due : (config : Configuration) (event : Event) (c : Chronicle) → due config c ≡ [] → due config (effect config (input.Emit event) c ++ c) ≡ []
unfolding effect
event-due config event c rests = quiet-due config (Queued (Outside (length c)) event ∷ Given (input.Emit event) ∷ []) c (tt, (tt, tt)) refl refl rests

killing-quiet : (places : List ℕ) → AllByRecursion IsQuiet (killing places)
killing-quiet [] = tt
killing-quiet (place ∷ places) = all-append IsQuiet (killing places) (Signalled place kill true ∷ []) (killing-quiet places) (tt, tt)

killing-gives : (places : List ℕ) → AllByRecursion GivesNone (killing places)
killing-gives [] = tt
killing-gives (place ∷ places) = all-append GivesNone (killing places) (Signalled place kill true ∷ []) (killing-gives places) (tt, tt)

pub reading-due : (config : Configuration) (reading : ℕ) (c : Chronicle) → offering (effect config (input.Clock reading) c ++ c) ≡ None → due config c ≡ [] → due config (effect config (input.Clock reading) c ++ c) ≡ []
unfolding effect
reading-due config reading c offers rests =
    let given : Entry = Given (input.Clock reading) in
    let kills = killing (all_overdue (names_in_order config c) (given ∷ c)) in
    let unasked : asked (kills ++ given ∷ c) ≡ None = same-append asked GivesNone asked-same kills (given ∷ c) (killing-gives (all_overdue (names_in_order config c) (given ∷ c))) in
    quiet-due config (kills ++ given ∷ []) c (all-append IsQuiet kills (given ∷ []) (killing-quiet (all_overdue (names_in_order config c) (given ∷ c))) (tt, tt)) offers (ap asked (append_assoc kills (given ∷ []) c) ∙ unasked) rests

-- nor is it after a turn that finds no event
pub idle-due : (config : Configuration) (c : Chronicle) → turn_event config (queue c) c ≡ None → due config c ≡ [] → due config (effect config input.Turn c ++ c) ≡ []
unfolding effect
idle-due config c none rests = rw none (quiet-due config (Given input.Turn ∷ []) c (tt, tt) refl refl rests)

-- so the step is done
pub after-quiet : (config : Configuration) (given : Input) (c : Chronicle) → due config (effect config given c ++ c) ≡ [] → effect config given c ++ c ≡ after_in config c given
unfolding after_in
after-quiet config given c none =
    let d = effect config given c ++ c in
    sym (settle_still (work config d) config d none)
