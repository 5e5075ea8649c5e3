-- What a step comes to that handles no event: all instances settle, and a client that didn't wait is answered.
use Rattle.up_cascade.proofs.Names.{◌≡◌, ℕ, zero, suc, Bool, true, false, not, List, [], ◌∷◌, ◌++◌, length, Option}
use Rattle.up_cascade.proofs.Names.{None, Some, is_some, if◌then◌else◌, refl, sym, ◌∙◌, ap, subst, append_assoc}
use Rattle.up_cascade.proofs.Names.{eq-eqb, AllByRecursion, JobDef, Process, Event, Input, Stop, Chronicle, Entry}
use Rattle.up_cascade.proofs.Names.{Given, Handled, Offered, Aimed, Signalled, Configuration, due, effect, Instance}
use Rattle.up_cascade.proofs.Names.{instances_of, instance_named, may_leave, move, offering, is_start, entries_if}
use Rattle.up_cascade.proofs.Names.{or_else, goal, releasing, asked, unless_answered, answering_hurried}
use Rattle.up_cascade.proofs.Names.{answering_last, offer_next, releasing-all, same-append, all-append, all-if}
use Rattle.up_cascade.proofs.Names.{AreDistinct, settle_one, settle_each, settle_all}
use Rattle.up_model.specs.declared.failure.End.{End}
use Rattle.up_model.specs.declared.failure.End.TheVariants as end
use Rattle.up_model.specs.declared.failure.Failure.{Failure}
use Rattle.up_model.specs.declared.failure.Verdict.{Verdict}
use Rattle.up_model.specs.declared.failure.Verdict.TheVariants as verdict
use Rattle.up_model.specs.declared.input.Input.TheVariants as input
use Rattle.up_model.specs.Chronicle.{Queued, Finished, Failed, Outside}
use Rattle.up_model.specs.Clock.{all_overdue, kill, killing}
use Rattle.up_model.specs.Commands.{outcome_of, entries_of}
use Rattle.up_model.specs.Loads.{loading}
use Rattle.up_model.proofs.EffectLaws.{loading-all}
use Rattle.up_model.specs.Due.{end_of, telling, failed_event_of, finishing, turn_event, turn_of, end_by}
use Rattle.up_model.specs.Files.{own_file, names_in_order}
use Rattle.up_model.specs.Held.{is_spoilt}
use Rattle.up_model.specs.Judgement.{end_itself, keep_failure, fail, carry_out, verdict_on_end}
use Rattle.up_model.specs.Queue as queue
use Rattle.up_model.specs.Readings.{holders, failure}
use Rattle.up_model.specs.Replies.{waiter, answering_waiter, was_answered, unanswered}
use Rattle.up_model.specs.Work.{work}
use Rattle.up_model.proofs.ReplyLaws.{Allows, answering_waiter-all, answering_hurried-all, outcome-all}
use Rattle.up_model.proofs.Settling.{settle_still}
use Rattle.up_cascade.proofs.JobMoves.{move_first, due-by}
use Rattle.up_cascade.proofs.Firing.{stay-entry, stay-still, still-stay}
use Rattle.up_cascade.proofs.Moving.{Stay}
use Rattle.up_cascade.proofs.Offering.{rested, rested-next}
use Rattle.up_cascade.proofs.Opening.{About, offering-same}
use Rattle.up_cascade.proofs.Resting.{move-about, all-settled}

-- an entry with which no step begins, and no event is taken up
abbrev pub TakesNone : Entry → Type 0
TakesNone (Given given) = ⊥
TakesNone (Handled event) = ⊥
TakesNone (Offered x event) = ⊥
TakesNone entry = Unit {0}

offers-same : (e : Entry) (c : Chronicle) → TakesNone e → offering (e ∷ c) ≡ offering c
offers-same (Given given) c is = absurd is
offers-same (Handled event) c is = absurd is
offers-same e c is = refl

allows : Allows TakesNone
allows = record {
  replied = λ request answer. tt;
  released = λ i failed. tt;
  aimed = λ i aim environment its. tt;
  restarted = λ i its. tt;
  queued = λ given event. tt;
}

ended-none : (p : ℕ) (c : Chronicle) → AllByRecursion TakesNone (end_itself p c)
ended-none p c = all-if TakesNone (is_start (goal p c)) (Aimed p Stop [] (holders p c) ∷ []) (tt, tt)

fail-none : (p : ℕ) (its : Failure) (c : Chronicle) → AllByRecursion TakesNone (fail p its c)
fail-none p its c =
    all-append TakesNone (entries_if (not (is_some (failure p c))) (keep_failure p its (end_itself p c ++ c))) (end_itself p c)
    (all-if TakesNone (not (is_some (failure p c))) (keep_failure p its (end_itself p c ++ c))
    (all-append TakesNone (releasing p true (Failed p its ∷ end_itself p c ++ c)) (Failed p its ∷ []) (releasing-all TakesNone (λ request answer. tt) p true tt (Failed p its ∷ end_itself p c ++ c)) (tt, tt)))
    (ended-none p c)

carry_out-none : (p : ℕ) (its : Verdict) (c : Chronicle) → AllByRecursion TakesNone (carry_out p its c)
carry_out-none p verdict.Note c = tt
carry_out-none p verdict.Respawn c = (tt, tt)
carry_out-none p verdict.Stop c = ended-none p c
carry_out-none p (verdict.Fail its) c = fail-none p its c

end_of-none : (its_job : Option JobDef) (o : Option ℕ) (process : Process) (its : End) (c : Chronicle) → AllByRecursion TakesNone (end_of its_job o process its c)
end_of-none None o process its c = tt
end_of-none (Some job) None process its c = tt
end_of-none (Some job) (Some p) process its c = carry_out-none p (verdict_on_end job p process its c) c

killing-none : (places : List ℕ) → AllByRecursion TakesNone (killing places)
killing-none [] = tt
killing-none (place ∷ places) = all-append TakesNone (killing places) (Signalled place kill true ∷ []) (killing-none places) (tt, tt)

finishing-none : (e : ℕ) (c : Chronicle) → AllByRecursion TakesNone (finishing e c)
finishing-none e c =
    all-append TakesNone (telling e (failed_event_of e c)) (answering_waiter (waiter e c) (is_spoilt e c) ++ Finished e ∷ []) (told (failed_event_of e c))
    (all-append TakesNone (answering_waiter (waiter e c) (is_spoilt e c)) (Finished e ∷ []) (answering_waiter-all TakesNone (λ request answer. tt) (waiter e c) (is_spoilt e c)) (tt, tt))
  where
    told : (o : Option Event) → AllByRecursion TakesNone (telling e o)
    told None = tt
    told (Some event) = (tt, tt)

begins : (es : List Entry) (given : Input) (c : Chronicle) → AllByRecursion TakesNone es → offering ((es ++ Given given ∷ []) ++ c) ≡ None
begins es given c none =
    ap offering (append_assoc es (Given given ∷ []) c) ∙ same-append offering TakesNone offers-same es (Given given ∷ c) none

-- whether a turn handles an event
abbrev pub TakesUp : Option queue.Live → Type 0
TakesUp None = ⊥
TakesUp (Some live) = live.handled ≡ false

-- no other effect takes one up
turn-none : (o : Option queue.Live) (c : Chronicle) → (TakesUp o → ⊥) → AllByRecursion TakesNone (turn_of o c)
turn-none None c none = tt
turn-none (Some live) c none = by_case live.handled refl
  where
    by_case : (b : Bool) → live.handled ≡ b → AllByRecursion TakesNone (if b then finishing live.place c else Handled live.place ∷ [])
    by_case true is = finishing-none live.place c
    by_case false is = absurd (none is)

abbrev pub IsTaking : Configuration → Input → Chronicle → Type 0
IsTaking config input.Turn c = TakesUp (turn_event config (queue.queue c) c)
IsTaking config other c = ⊥

-- the effect of an input that takes no event up, and the input before it
pub record Effect (config : Configuration) (given : Input) (c : Chronicle) : Type 0 where
  pub entries : List Entry
  pub whole : effect config given c ≡ entries ++ Given given ∷ []
  pub none : AllByRecursion TakesNone entries

pub effect-of : (config : Configuration) (given : Input) (c : Chronicle) → (IsTaking config given c → ⊥) → Effect config given c
unfolding effect
effect-of config (input.Emit event) c none = record { entries = Queued (Outside (length c)) event ∷ []; whole = refl; none = (tt, tt) }
effect-of config (input.Request id request) c none =
    let d : Chronicle = Given (input.Request id request) ∷ c in
    record { entries = entries_of (length c) (outcome_of config (length c) request d); whole = refl; none = outcome-all TakesNone allows (λ job name. tt) config (length c) request d (λ p signal runs. tt) }
effect-of config (input.Spawned who process pid) c none = record { entries = []; whole = refl; none = tt }
effect-of config (input.Refused who process) c none =
    let d : Chronicle = Given (input.Refused who process) ∷ c in
    record { entries = end_by who process end.Refused d; whole = refl; none = end_of-none (own_file who d) (instance_named who d) process end.Refused d }
effect-of config (input.Ended who process how) c none =
    let d : Chronicle = Given (input.Ended who process how) ∷ c in
    record { entries = end_by who process (end.Ended how) d; whole = refl; none = end_of-none (own_file who d) (instance_named who d) process (end.Ended how) d }
effect-of config (input.Clock reading) c none =
    let kills = all_overdue (names_in_order config c) (Given (input.Clock reading) ∷ c) in
    record { entries = killing kills; whole = refl; none = killing-none kills }
effect-of config input.Turn c none =
    let event = turn_event config (queue.queue c) c in
    record { entries = turn_of event (Given input.Turn ∷ c); whole = refl; none = turn-none event (Given input.Turn ∷ c) none }
effect-of config (input.Load id loaded) c none =
    record { entries = loading (length c) loaded; whole = refl; none = loading-all TakesNone (λ request answer. tt) (λ jobs. tt) (length c) loaded }

pub effect-offers : (config : Configuration) (given : Input) (c : Chronicle) → (IsTaking config given c → ⊥) → offering (effect config given c ++ c) ≡ None
effect-offers config given c none =
    let its = effect-of config given c none in
    ap (λ es. offering (es ++ c)) its.whole ∙ begins its.entries given c its.none

-- a turn that finishes an event, or finds none, takes none up
pub turn-finishes : (config : Configuration) (c : Chronicle) (e : ℕ) (handled : Bool) → turn_event config (queue.queue c) c ≡ Some (queue.live_at e handled) → handled ≡ true
    → offering (effect config input.Turn c ++ c) ≡ None
turn-finishes config c e handled found is = effect-offers config input.Turn c (λ up. no (subst TakesUp found up))
  where
    no : handled ≡ false → ⊥
    no not_ = let both : true ≡ false = sym is ∙ not_ in absurd cc

-- any other takes it up
pub turn-takes : (config : Configuration) (c : Chronicle) (e : ℕ) (handled : Bool) → turn_event config (queue.queue c) c ≡ Some (queue.live_at e handled) → handled ≡ false
    → effect config input.Turn c ++ c ≡ Handled e ∷ Given input.Turn ∷ c
unfolding effect
turn-takes config c e handled found is =
    ap (λ o. (turn_of o (Given input.Turn ∷ c) ++ Given input.Turn ∷ []) ++ c) (found ∙ ap (λ b. Some (queue.live_at e b)) is)

-- a reading that no entry of a firing or a move changes is the same when instances have settled
pub one-same : {X : Type 0} (f : Chronicle → X) → ((i : ℕ) (e : Entry) (c : Chronicle) → About i e → f (e ∷ c) ≡ f c) → (n : ℕ) (job : JobDef) (x : Instance) (c : Chronicle) → f (settle_one n job x c) ≡ f c
one-same f same zero job x c = refl
one-same f same (suc n) job x c = by_case (may_leave job x.place c) (one-same f same n job x (move job x c ++ c))
  where
    by_case : (b : Bool) → f (settle_one n job x (move job x c ++ c)) ≡ f (move job x c ++ c) → f (if b then settle_one n job x (move job x c ++ c) else c) ≡ f c
    by_case true rest = rest ∙ same-append f (About x.place) (same x.place) (move job x c) c (move-about job x c)
    by_case false rest = refl

pub each-same : {X : Type 0} (f : Chronicle → X) → ((i : ℕ) (e : Entry) (c : Chronicle) → About i e → f (e ∷ c) ≡ f c) → (its : List Instance) (c : Chronicle) → f (settle_each its c) ≡ f c
each-same f same [] c = refl
each-same f same (x ∷ its) c = each-same f same its (settle_one 5 x.file x c) ∙ one-same f same 5 x.file x c

pub all-same : {X : Type 0} (f : Chronicle → X) → ((i : ℕ) (e : Entry) (c : Chronicle) → About i e → f (e ∷ c) ≡ f c) → (jobs : List JobDef) (c : Chronicle) → f (settle_all jobs c) ≡ f c
all-same f same [] c = refl
all-same f same (job ∷ jobs) c = all-same f same jobs (settle_each (instances_of job.name c) c) ∙ each-same f same (instances_of job.name c) c

-- a client that didn't wait is answered once
asked-is : (o : Option ℕ) (request : ℕ) (c : Chronicle) → unless_answered o c ≡ Some request → o ≡ Some request
asked-is None request c some = absurd cc
asked-is (Some place) request c some = by_case (was_answered place c) some
  where
    by_case : (b : Bool) → (if b then None else Some place) ≡ Some request → Some place ≡ Some request
    by_case true some = absurd cc
    by_case false some = some

answered-once : (o : Option ℕ) (c : Chronicle) → unanswered c ≡ o → answering_last (answering_hurried o c ++ c) ≡ []
answered-once None c is = ap (λ o. answering_hurried o c) is
answered-once (Some request) c is =
    let d : Chronicle = answering_hurried (Some request) c ++ c in
    ap (λ o. answering_hurried (unless_answered o d) d) (asked-is (asked c) request c is)
    ∙ ap (λ (b : Bool). answering_hurried (if (if b then true else was_answered request c) then None else Some request) d) (eq-eqb request request refl)

pub stay-entries : (i : ℕ) (jobs : List JobDef) (es c : List Entry) → AllByRecursion (About i) es → Stay i jobs c → Stay i jobs (es ++ c)
stay-entries i jobs [] c all stay = stay
stay-entries i jobs (e ∷ es) c all stay = stay-entry i jobs e (es ++ c) all.0 (stay-entries i jobs es c all.1 stay)

pub none-due : (config : Configuration) (c : Chronicle) → move_first config.jobs c ≡ [] → offering c ≡ None → due config c ≡ answering_last c
none-due config c still offers =
    due-by config c ∙ ap (λ es. or_else es (or_else (offer_next config (offering c) c) (answering_last c))) still ∙ ap (λ o. or_else (offer_next config o c) (answering_last c)) offers

pub last-rested : (config : Configuration) (c : Chronicle) → move_first config.jobs c ≡ [] → offering c ≡ None → answering_last c ++ c ≡ rested config c
last-rested config c still offers =
    let d : Chronicle = answering_last c ++ c in
    let i = length d in
    let all : AllByRecursion (About i) (answering_last c) = answering_hurried-all (About i) (λ request answer. tt) (unanswered c) c in
    let still_d : move_first config.jobs d ≡ [] = still-stay config.jobs d (stay-entries i config.jobs (answering_last c) c all (stay-still i config.jobs c still)) in
    let offers_d : offering d ≡ None = same-append offering (About i) (offering-same i) (answering_last c) c all ∙ offers in
    let none : due config d ≡ [] = none-due config d still_d offers_d ∙ answered-once (unanswered c) c refl in
    sym (settle_still (work config d) config d none) ∙ ap (λ es. rested config (es ++ c)) (sym (none-due config c still offers)) ∙ rested-next config c

-- so the step is done when all have settled and the answer is given
pub settled-rested : (config : Configuration) (c : Chronicle) → AreDistinct config.jobs → offering c ≡ None
    → answering_last (settle_all config.jobs c) ++ settle_all config.jobs c ≡ rested config c
settled-rested config c distinct offers =
    let all = all-settled config c distinct in
    let none : offering (settle_all config.jobs c) ≡ None = all-same offering offering-same config.jobs c ∙ offers in
    last-rested config (settle_all config.jobs c) all.0 none ∙ all.1
