-- After a request that starts, stops or restarts an instance that one alone may move, and after any other request nobody.
use Rattle.std.proofs.Common.{◌≡◌, ℕ, ◌==◌, Bool, true, false, not, ◌&&◌, nat_lt, List, [], ◌∷◌, ◌++◌, length, Option, None, Some, if◌then◌else◌, refl, sym, ◌∙◌, ap, subst, eqb-true, eq-eqb, codes, append_assoc, bytes_eq}
use Rattle.std.specs.List.{AllByRecursion}
use Rattle.up_book.specs.Keeps.{AreDistinct}
use Rattle.up_book.specs.Keys.{instance_place}
use Rattle.up_book.proofs.Keyed.{job-there}
use Rattle.up_conf.specs.declared.job.JobDef.{JobDef}
use Rattle.up_engine.specs.declared.due.Concern.{Concern}
use Rattle.up_engine.specs.declared.due.Concern.TheVariants as on
use Rattle.up_engine.specs.Effects.{ActsOn, Concerns as ConcernsOf, IsAlone, IsCalled, IsIdle}
use Rattle.up_engine.specs.Requests.{answer_of}
use Rattle.up_engine.proofs.Alone.{Own, here, one-settles, still-settles}
use Rattle.up_cascade.proofs.Effects.{effect-offers, none-due, stay-entries}
use Rattle.up_cascade.proofs.Firing.{stay-made, stay-still, still-stay}
use Rattle.up_cascade.specs.Settling.{settle_all}
use Rattle.up_cascade.proofs.Hearing.{none-moves}
use Rattle.up_cascade.proofs.JobMoves.{move_first}
use Rattle.up_cascade.proofs.Moving.{StayIn, Stay}
use Rattle.up_cascade.proofs.Opening.{About}
use Rattle.up_cascade.proofs.Settled.{still-instances}
use Rattle.up_job.specs.declared.instance_key.InstanceKey.{InstanceKey}
use Rattle.up_model.proofs.NameLaws.{new-with}
use Rattle.up_model.proofs.Places.{bytes_refl}
use Rattle.up_model.proofs.ReplyLaws.{releasing-all}
use Rattle.up_model.proofs.Sparing.{same-append}
use Rattle.up_engine.proofs.Quiet.{stays-quiet}
use Rattle.up_model.specs.Chronicle.{Chronicle, Entry, Given, Queued, Made, Aimed, Restarted, Signalled, Replied, Outside}
use Rattle.up_model.specs.Queue.{queue}
use Rattle.up_model.specs.Commands.{Outcome, Refused, Told, Done, Target, Nobody, Concerns, entries_of, start_at, stop_at, restart_at, start, stop, restart, is_running, refusal, status, status_at, stopped_text, reload, reload_at, reloading, listing, version_text, max_events, outcome_by, outcome_of, known_target}
use Rattle.up_model.specs.Configuration.{Configuration}
use Rattle.up_model.specs.Due.{due, effect}
use Rattle.up_model.specs.Events.{with_instance as with_variables}
use Rattle.up_model.specs.Files.{own_file}
use Rattle.up_model.specs.Instances.{Instance, instances_of, place_named, instance_named}
use Rattle.up_model.specs.Life.{Wait, ForStart, ForEvent, ForAnswer, ForProcess, ForChange, ForMain, wait_in}
use Rattle.up_model.specs.Moves.{is_over}
use Rattle.up_model.specs.Offers.{offering, max_instances}
use Rattle.up_model.specs.Predicates.{is_start, entries_if}
use Rattle.up_model.specs.Readings.{goal, state_of, lives}
use Rattle.up_model.specs.Replies.{asked, answering_hurried, releasing, unless_answered}
use Rattle.up_model.specs.Requests.{RequestValue, not_supported}
use Rattle.up_model.specs.Values.{Bindings}
use Rattle.up_model.specs.declared.event_id.EventId.{EventId}
use Rattle.up_model.specs.declared.input.Input.TheVariants as input
use Rattle.up_model.specs.declared.request.Answer.{Answer}
use Rattle.up_model.specs.declared.request.Command.{Command}
use Rattle.up_model.specs.declared.request.Command.TheVariants as command
use Rattle.up_model.specs.declared.state.Goal.TheVariants.{Start, Stop}
use Rattle.up_model.specs.declared.who.Who.{Who}
use Rattle.up_text.specs.Scripts.{is_filled}
use Rattle.up_stanza.specs.declared.process.Process.TheVariants as process

-- a request says nothing of what an instance waits for
over-asked : (job : JobDef) (q : ℕ) (wait : Wait) (id : ℕ) (request : RequestValue) (c : Chronicle) → is_over job q wait (Given (input.Request id request) ∷ c) ≡ is_over job q wait c
over-asked job q ForStart id request c = refl
over-asked job q ForEvent id request c = refl
over-asked job q (ForAnswer its) id request c = refl
over-asked job q (ForProcess its) id request c = refl
over-asked job q ForChange id request c = refl
over-asked job q ForMain id request c = refl

stayin-asked : (i : ℕ) (its : List Instance) (id : ℕ) (request : RequestValue) (c : Chronicle) → StayIn i its c → StayIn i its (Given (input.Request id request) ∷ c)
stayin-asked i [] id request c all = tt
stayin-asked i (x ∷ its) id request c all = ((λ apart. over-asked x.file x.place (wait_in (state_of x.place c)) id request c ∙ all.0 apart), stayin-asked i its id request c all.1)

stay-asked : (i : ℕ) (jobs : List JobDef) (id : ℕ) (request : RequestValue) (c : Chronicle) → Stay i jobs c → Stay i jobs (Given (input.Request id request) ∷ c)
stay-asked i [] id request c stay = tt
stay-asked i (job ∷ jobs) id request c stay = (stayin-asked i (instances_of job.name c) id request c stay.0, stay-asked i jobs id request c stay.1)

pub asked-stays : (config : Configuration) (id : ℕ) (request : RequestValue) (c : Chronicle) → due config c ≡ [] → (i : ℕ) → Stay i config.jobs (Given (input.Request id request) ∷ c)
asked-stays config id request c none i = stay-asked i config.jobs id request c (stay-still i config.jobs c (none-moves config c none))

-- entries of an instance of this name leave the others where they are
still-named : (who : Who) (i : ℕ) (es c : List Entry) → AllByRecursion (Own i) es → instance_named who (es ++ c) ≡ instance_named who c
still-named who i es c own = ap (place_named who.instance) (same-append (instances_of who.job) (Own i) (λ e d is. still-instances who.job e d is.1) es c own)

own-about : (i : ℕ) (es : List Entry) → AllByRecursion (Own i) es → AllByRecursion (About i) es
own-about i [] all = tt
own-about i (e ∷ es) all = (all.0.0, own-about i es all.1)

-- the place of an instance, if there is one, and else any
abbrev pub IsFor : ℕ → Option ℕ → Type 0
IsFor i None = Unit {0}
IsFor i (Some j) = j ≡ i

own-stays : (jobs : List JobDef) (who : Who) (j : ℕ) (es c : List Entry) → AllByRecursion (Own j) es → instance_named who c ≡ Some j → ((p : ℕ) → Stay p jobs c) → (i : ℕ) → IsFor i (instance_named who (es ++ c))
    → Stay i jobs (es ++ c)
own-stays jobs who j es c own there stays i found =
    let same : j ≡ i = subst (IsFor i) (still-named who j es c own ∙ there) found in
    subst (λ p. Stay p jobs (es ++ c)) same (stay-entries j jobs es c (own-about j es own) (stays j))

-- a new instance is found by its name
made-there : (job : JobDef) (who : Who) (c : Chronicle) → job.name ≡ who.job → instance_named who c ≡ None → instance_named who (Made job who.instance ∷ c) ≡ Some (length c)
made-there job who c same none =
    let its : bytes_eq job.name who.job ≡ true = subst (λ n. bytes_eq n who.job ≡ true) (sym same) (bytes_refl who.job) in
    rw its (new-with (record { place = length c; name = who.instance; file = job }) (instances_of who.job c) none)

told-stays : (jobs : List JobDef) (g : ℕ) (answer : Answer) (c : Chronicle) → ((p : ℕ) → Stay p jobs c) → (i : ℕ) → Stay i jobs (Replied g answer ∷ c)
told-stays jobs g answer c stays i = stay-entries i jobs (Replied g answer ∷ []) c (tt, tt) (stays i)

release-own : (j : ℕ) (c : Chronicle) → AllByRecursion (Own j) (releasing j false c)
release-own j c = releasing-all (Own j) (λ request answer. (tt, tt)) j false (tt, tt) c

-- so do a start, a stop and a restart
abbrev Leaves : List JobDef → Who → (es c : List Entry) → Type 0
Leaves jobs who es c = (i : ℕ) → IsFor i (instance_named who (es ++ c)) → Stay i jobs (es ++ c)

start-leaves : (jobs : List JobDef) (g : ℕ) (holders : List ℕ) (job : JobDef) (who : Who) (environment : Bindings) (c : Chronicle) → ((p : ℕ) → Stay p jobs c) → job.name ≡ who.job
    → (o : Option ℕ) → instance_named who c ≡ o → Leaves jobs who (entries_of g (start_at holders job who environment o c)) c
start-leaves jobs g holders job who environment c stays named None none = by_room (nat_lt (length (instances_of who.job c)) max_instances)
  where
    new : List Entry
    new = Aimed (length c) Start environment holders ∷ Made job who.instance ∷ []

    by_place : (i : ℕ) (b : Bool) → (length c == i) ≡ b → IsFor i (instance_named who (new ++ c)) → Stay i jobs (new ++ c)
    by_place i true same found =
        subst (λ p. Stay p jobs (new ++ c)) (eqb-true (length c) i same)
        (stay-entries (length c) jobs (Aimed (length c) Start environment holders ∷ []) (Made job who.instance ∷ c) (refl, tt) (stay-made jobs job who.instance c (stays (length c))))
    by_place i false apart found =
        let same : length c ≡ i = subst (IsFor i) (made-there job who c named none) found in
        let both : false ≡ true = sym apart ∙ eq-eqb (length c) i same in
        absurd cc

    by_room : (b : Bool) → Leaves jobs who (entries_of g (if b then Done (entries_if b new) else Refused (codes "Too many instances: " ++ who.job))) c
    by_room true i found = by_place i (length c == i) refl found
    by_room false i found = told-stays jobs g _ c stays i
start-leaves jobs g holders job who environment c stays named (Some j) there = by_goal (is_start (goal j c))
  where
    its : List Entry
    its = Aimed j Start environment holders ∷ releasing j false c

    by_goal : (b : Bool) → Leaves jobs who (entries_of g (if b then refusal (codes "Job is already running: ") who else Done (entries_if (not b) its))) c
    by_goal true i found = told-stays jobs g _ c stays i
    by_goal false i found = own-stays jobs who j its c ((refl, tt), release-own j c) there stays i found

stop-leaves : (jobs : List JobDef) (g : ℕ) (holders : List ℕ) (vars : Bindings) (who : Who) (c : Chronicle) → ((p : ℕ) → Stay p jobs c) → (o : Option ℕ) → instance_named who c ≡ o
    → Leaves jobs who (entries_of g (stop_at holders vars who o c)) c
stop-leaves jobs g holders vars who c stays None none = λ i found. told-stays jobs g _ c stays i
stop-leaves jobs g holders vars who c stays (Some j) there = by_goal (is_start (goal j c))
  where
    its : List Entry
    its = Aimed j Stop vars holders ∷ releasing j false c

    by_goal : (b : Bool) → Leaves jobs who (entries_of g (if b then Done its else refusal (codes "Job has already been stopped: ") who)) c
    by_goal true i found = own-stays jobs who j its c ((refl, tt), release-own j c) there stays i found
    by_goal false i found = told-stays jobs g _ c stays i

restart-leaves : (jobs : List JobDef) (g : ℕ) (holders : List ℕ) (who : Who) (c : Chronicle) → ((p : ℕ) → Stay p jobs c) → (o : Option ℕ) → instance_named who c ≡ o
    → Leaves jobs who (entries_of g (restart_at holders who o c)) c
restart-leaves jobs g holders who c stays None none = λ i found. told-stays jobs g _ c stays i
restart-leaves jobs g holders who c stays (Some j) there = by_state (is_running (state_of j c))
  where
    its : List Entry
    its = Restarted j holders ∷ releasing j false c

    by_state : (b : Bool) → Leaves jobs who (entries_of g (if b then Done its else refusal (codes "Job is not running: ") who)) c
    by_state true i found = own-stays jobs who j its c ((refl, tt), release-own j c) there stays i found
    by_state false i found = told-stays jobs g _ c stays i

-- so after what such a request does to whom it names
abbrev pub NamedBy : Target → Who → Type 0
NamedBy (Nobody text) who = ⊥
NamedBy (Concerns job its environment) who = its ≡ who

-- and by its own job
abbrev pub NamedByJob : Target → Type 0
NamedByJob (Nobody text) = ⊥
NamedByJob (Concerns job its environment) = job.name ≡ its.job

pub start-named : (jobs : List JobDef) (g : ℕ) (holders : List ℕ) (target : Target) (who : Who) (c : Chronicle) → ((p : ℕ) → Stay p jobs c) → NamedBy target who → NamedByJob target
    → Leaves jobs who (entries_of g (start holders target c)) c
start-named jobs g holders (Nobody text) who c stays named own = absurd named
start-named jobs g holders (Concerns job its environment) who c stays named own =
    subst (λ w. Leaves jobs w (entries_of g (start_at holders job its (with_variables its environment) (instance_named its c) c)) c) named (start-leaves jobs g holders job its (with_variables its environment) c stays own (instance_named its c) refl)

pub stop-named : (jobs : List JobDef) (g : ℕ) (holders : List ℕ) (vars : Bindings) (target : Target) (who : Who) (c : Chronicle) → ((p : ℕ) → Stay p jobs c) → NamedBy target who
    → Leaves jobs who (entries_of g (stop holders vars target c)) c
stop-named jobs g holders vars (Nobody text) who c stays named = absurd named
stop-named jobs g holders vars (Concerns job its environment) who c stays named =
    subst (λ w. Leaves jobs w (entries_of g (stop_at holders vars its (instance_named its c) c)) c) named (stop-leaves jobs g holders vars its c stays (instance_named its c) refl)

pub restart-named : (jobs : List JobDef) (g : ℕ) (holders : List ℕ) (target : Target) (who : Who) (c : Chronicle) → ((p : ℕ) → Stay p jobs c) → NamedBy target who → Leaves jobs who (entries_of g (restart holders target c)) c
restart-named jobs g holders (Nobody text) who c stays named = absurd named
restart-named jobs g holders (Concerns job its environment) who c stays named =
    subst (λ w. Leaves jobs w (entries_of g (restart_at holders its (instance_named its c) c)) c) named (restart-leaves jobs g holders its c stays (instance_named its c) refl)

-- it alone may move
pub acted-alone : (config : Configuration) (d : Chronicle) (key : InstanceKey) (i : ℕ) → AreDistinct config.jobs → instance_place config d key ≡ Some i → Stay i config.jobs d → offering d ≡ None → IsAlone key config d
acted-alone config d key i distinct found stay unasked =
    let it = here config d key i found in
    record {
      its = it.its;
      there = it.there;
      settles = one-settles config.jobs key.job key.at it.job it.its d (job-there config key.job it.job it.in_table) it.listed distinct (subst (λ p. Stay p config.jobs d) (sym it.place) stay);
      unasked = unasked;
    }

-- nothing is due after a request that is answered at once
pub told-due : (config : Configuration) (id : ℕ) (request : RequestValue) (answer : Answer) (es c : List Entry) → due config c ≡ [] → ((i : ℕ) → AllByRecursion (About i) es)
    → asked (es ++ Given (input.Request id request) ∷ c) ≡ (if request.wait then None else Some (length c)) → offering (es ++ Given (input.Request id request) ∷ c) ≡ None
    → due config (Replied (length c) answer ∷ es ++ Given (input.Request id request) ∷ c) ≡ []
told-due config id request answer es c none about asks unasked =
    none-due config d still unasked ∙ ap (λ o. answering_hurried (unless_answered o d) d) asks ∙ by_wait request.wait
  where
    d : Chronicle
    d = Replied (length c) answer ∷ es ++ Given (input.Request id request) ∷ c

    still : move_first config.jobs d ≡ []
    still = still-stay config.jobs d (stay-entries (length d) config.jobs (Replied (length c) answer ∷ es) (Given (input.Request id request) ∷ c) (tt, about (length d)) (asked-stays config id request c none (length d)))

    by_wait : (w : Bool) → answering_hurried (unless_answered (if w then None else Some (length c)) d) d ≡ []
    by_wait true = refl
    by_wait false = rw (eq-eqb (length c) (length c) refl) refl

-- one that is refused, or told a text
abbrev pub IsTold : Outcome → Type 0
IsTold (Refused text) = Unit {0}
IsTold (Told text) = Unit {0}
IsTold (Done entries) = ⊥

pub told-entries : (given : ℕ) (outcome : Outcome) → IsTold outcome → entries_of given outcome ≡ Replied given (answer_of outcome) ∷ []
told-entries given (Refused text) told = refl
told-entries given (Told text) told = refl
told-entries given (Done entries) told = absurd told

pub outcome-due : (config : Configuration) (id : ℕ) (request : RequestValue) (outcome : Outcome) (c : Chronicle) → IsTold outcome → due config c ≡ []
    → due config (entries_of (length c) outcome ++ Given (input.Request id request) ∷ c) ≡ []
outcome-due config id request (Refused text) c told none = told-due config id request (record { ok = false; text = text }) [] c none (λ i. tt) refl refl
outcome-due config id request (Told text) c told none = told-due config id request (record { ok = true; text = text }) [] c none (λ i. tt) refl refl
outcome-due config id request (Done entries) c told none = absurd told

pub status-told : (target : Target) (c : Chronicle) → IsTold (status target c)
status-told (Nobody text) c = tt
status-told (Concerns job who environment) c = by_place (instance_named who c)
  where
    by_filled : (b : Bool) → IsTold (if b then refusal (codes "Unknown instance: ") who else Told (stopped_text job.name))
    by_filled true = tt
    by_filled false = tt

    by_place : (o : Option ℕ) → IsTold (status_at job who o c)
    by_place None = by_filled (is_filled job.instance)
    by_place (Some i) = tt

-- and one that reloads
pub reload-due : (config : Configuration) (id : ℕ) (request : RequestValue) (target : Target) (c : Chronicle) → due config c ≡ []
    → due config (entries_of (length c) (reload (length c) target (Given (input.Request id request) ∷ c)) ++ Given (input.Request id request) ∷ c) ≡ []
reload-due config id request (Nobody text) c none = outcome-due config id request (Refused text) c tt none
reload-due config id request (Concerns job who environment) c none = by_place (own_file who d) (instance_named who d)
  where
    d : Chronicle
    d = Given (input.Request id request) ∷ c

    by_state : (its : JobDef) (i : ℕ) (b : Bool)
        → due config (entries_of (length c) (if b then Done (reloading (length c) i its.reload_signal) else refusal (codes "Job is not running: ") who) ++ d) ≡ []
    by_state its i true = told-due config id request (record { ok = true; text = [] }) (Signalled i its.reload_signal false ∷ []) c none (λ q. (tt, tt)) refl refl
    by_state its i false = outcome-due config id request (refusal (codes "Job is not running: ") who) c tt none

    by_place : (file : Option JobDef) (o : Option ℕ) → due config (entries_of (length c) (reload_at (length c) file who o d) ++ d) ≡ []
    by_place None None = outcome-due config id request (refusal (codes "Unknown instance: ") who) c tt none
    by_place (Some its) None = outcome-due config id request (refusal (codes "Unknown instance: ") who) c tt none
    by_place None (Some i) = outcome-due config id request (refusal (codes "Unknown instance: ") who) c tt none
    by_place (Some its) (Some i) = by_state its i (is_running (state_of i d) && lives i process.Main d)

-- no event is taken up by a request
pub asked-offers : (config : Configuration) (id : ℕ) (request : RequestValue) (c : Chronicle)
    → offering (entries_of (length c) (outcome_of config (length c) request (Given (input.Request id request) ∷ c)) ++ Given (input.Request id request) ∷ c) ≡ None
unfolding effect
asked-offers config id request c =
    ap offering (sym (append_assoc (entries_of (length c) (outcome_of config (length c) request (Given (input.Request id request) ∷ c))) (Given (input.Request id request) ∷ []) c))
    ∙ effect-offers config (input.Request id request) c (λ no. no)

-- so whom its entries concern is whom its effect does
pub acts-concerns : (places : Chronicle → EventId → Option ℕ) (concern : Concern) (config : Configuration) (id : ℕ) (request : RequestValue) (c : Chronicle)
    → ActsOn concern config c (entries_of (length c) (outcome_of config (length c) request (Given (input.Request id request) ∷ c)) ++ Given (input.Request id request) ∷ c)
    → ConcernsOf places concern config (input.Request id request) c
unfolding effect
acts-concerns places concern config id request c acts = by_concern concern acts
  where
    entries : List Entry
    entries = entries_of (length c) (outcome_of config (length c) request (Given (input.Request id request) ∷ c))

    whole : effect config (input.Request id request) c ++ c ≡ entries ++ Given (input.Request id request) ∷ c
    whole = append_assoc entries (Given (input.Request id request) ∷ []) c

    by_concern : (its : Concern) → ActsOn its config c (entries ++ Given (input.Request id request) ∷ c) → ConcernsOf places its config (input.Request id request) c
    by_concern on.Nobody acts = λ none. ap (due config) whole ∙ acts none
    by_concern on.Client acts = λ none. subst (IsIdle config) (sym whole) (acts none (asked-offers config id request c))
    by_concern (on.Instance key) acts = λ none. subst (IsAlone key config) (sym whole) (acts none (asked-offers config id request c))
    by_concern (on.Event key) acts = absurd acts
    by_concern on.Anybody acts = absurd acts

-- an instance that is found by its names alone may move, if all others stay; and if none is found, none may
pub called-acts : (concern : Concern) (config : Configuration) (who : Who) (c d : Chronicle) → AreDistinct config.jobs → IsCalled concern config who d
    → (due config c ≡ [] → (i : ℕ) → IsFor i (instance_named who d) → Stay i config.jobs d) → ActsOn concern config c d
called-acts on.Nobody config who c d distinct called leaves = absurd called
called-acts (on.Event key) config who c d distinct called leaves = absurd called
called-acts on.Anybody config who c d distinct called leaves = absurd called
called-acts on.Client config who c d distinct called leaves = λ none unasked. record {
  still = still-settles config.jobs d (leaves none (length d) (subst (IsFor (length d)) (sym called) tt));
  unasked = unasked;
}
called-acts (on.Instance key) config who c d distinct called leaves = λ none unasked.
    acted-alone config d key called.0 distinct called.1.0 (leaves none called.0 (subst (IsFor called.0) (sym called.1.1) refl)) unasked

-- the commands that are answered at once
abbrev pub IsAnswered : Command → Type 0
IsAnswered command.Status = Unit {0}
IsAnswered command.List = Unit {0}
IsAnswered command.Version = Unit {0}
IsAnswered command.Reload = Unit {0}
IsAnswered command.ReloadConfiguration = Unit {0}
IsAnswered other = ⊥

pub answered-due : (its : Command) (config : Configuration) (id : ℕ) (request : RequestValue) (c : Chronicle) → request.command ≡ its → IsAnswered its → due config c ≡ []
    → due config (entries_of (length c) (outcome_of config (length c) request (Given (input.Request id request) ∷ c)) ++ Given (input.Request id request) ∷ c) ≡ []
answered-due its config id request c is answered none =
    subst (λ its. due config (entries_of (length c) (outcome_by its config (length c) request d) ++ d) ≡ []) (sym is) (by_command its answered)
  where
    d : Chronicle
    d = Given (input.Request id request) ∷ c

    target : Target
    target = known_target config request.name request.vars d

    by_command : (its : Command) → IsAnswered its → due config (entries_of (length c) (outcome_by its config (length c) request d) ++ d) ≡ []
    by_command command.Status answered = outcome-due config id request (status target d) c (status-told target d) none
    by_command command.List answered = outcome-due config id request (Told (listing config d)) c tt none
    by_command command.Version answered = outcome-due config id request (Told version_text) c tt none
    by_command command.Reload answered = reload-due config id request target c none
    by_command command.ReloadConfiguration answered = outcome-due config id request (Refused (not_supported command.ReloadConfiguration)) c tt none
    by_command command.Start answered = absurd answered
    by_command command.Stop answered = absurd answered
    by_command command.Restart answered = absurd answered
    by_command command.Emit answered = absurd answered

-- and after an `emit` its client alone may be answered
pub emitted-idle : (config : Configuration) (id : ℕ) (request : RequestValue) (c : Chronicle) → request.command ≡ command.Emit
    → ActsOn on.Client config c (entries_of (length c) (outcome_of config (length c) request (Given (input.Request id request) ∷ c)) ++ Given (input.Request id request) ∷ c)
emitted-idle config id request c is none unasked = record {
  still = subst (λ its. IsStill (entries_of (length c) (outcome_by its config (length c) request d) ++ d)) (sym is) (by_room (nat_lt (length (queue d)) max_events));
  unasked = unasked;
}
  where
    d : Chronicle
    d = Given (input.Request id request) ∷ c

    queued : Entry
    queued = Queued (Outside (length c)) (record { name = request.name; vars = request.vars })

    IsStill : Chronicle → Type 0
    IsStill after = settle_all config.jobs after ≡ after

    by_room : (b : Bool) → IsStill (entries_of (length c) (if b then Done (queued ∷ []) else Refused (codes "Too many events")) ++ d)
    by_room true = still-settles config.jobs (queued ∷ d) (stays-quiet (length (queued ∷ d)) config.jobs (queued ∷ []) d (tt, tt) (asked-stays config id request c none (length (queued ∷ d))))
    by_room false = let told : Chronicle = Replied (length c) (record { ok = false; text = codes "Too many events" }) ∷ d in
        still-settles config.jobs told (told-stays config.jobs (length c) _ d (asked-stays config id request c none) (length told))
