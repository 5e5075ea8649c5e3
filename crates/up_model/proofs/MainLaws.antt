-- The main process of an instance lives from spawned to killed alone, and is awaited in spawned alone, so it isn't ordered while it lives.
use Rattle.up_model.proofs.Names.{◌≡◌, ℕ, zero, suc, Bool, true, false, not, List, [], ◌∷◌, ◌++◌, length, Option}
use Rattle.up_model.proofs.Names.{None, Some, if◌then◌else◌, refl, sym, ◌∙◌, subst, append_assoc, nat_lt, codes}
use Rattle.up_model.proofs.Names.{AllByRecursion, JobDef, Process, Sight, Input, Command, Start, Who, next, awaits}
use Rattle.up_model.proofs.Names.{after, is_expected, after_all, HasOneMain, Chronicle, Entry, Given, Queued, Made}
use Rattle.up_model.proofs.Names.{Aimed, Replied, Outside, Offered, Fired, StartOn, StopOn, all_overdue, killing}
use Rattle.up_model.proofs.Names.{Refused, Done, Target, Nobody, Concerns, refusal, target_of, known_target}
use Rattle.up_model.proofs.Names.{start_at, start, holders_of, outcome_by, outcome_of, entries_of, Configuration}
use Rattle.up_model.proofs.Names.{turn_event, turn_of, end_by, due, effect, env_of_job, instance_name, events_at}
use Rattle.up_model.proofs.Names.{events_env, with_instance, stopped_by, own_file, names_in_order, instance_named}
use Rattle.up_model.proofs.Names.{Instance, instances_of, in_force, loading, move_first, offering, offer_next}
use Rattle.up_model.proofs.Names.{is_open, stop_of, stop_by, stop_offer, stop_offer_in, max_instances, start_of}
use Rattle.up_model.proofs.Names.{who_called, start_who, start_by, start_offer, start_env, is_start, entries_if}
use Rattle.up_model.proofs.Names.{or_else, queue, goal, unanswered, answering_last, RequestValue, seen, holds}
use Rattle.up_model.proofs.Names.{taken, was_offered, Bindings, Bytes, work, settle}
use Rattle.up_model.specs.declared.failure.End.TheVariants as end
use Rattle.up_model.specs.declared.input.Input.TheVariants as input
use Rattle.up_model.specs.declared.request.Command.TheVariants as command
use Rattle.up_model.proofs.FileLaws.{IsCalled, target-called}
use Rattle.up_model.proofs.NameLaws.{called}
use Rattle.up_model.proofs.ReplyLaws.{answering_hurried-all, start_of-all, stop_of-all, stop-all, restart-all}
use Rattle.up_model.proofs.ReplyLaws.{reload-all, status-all, emit-all}
use Rattle.up_model.proofs.Sparing.{all-append, all-if}
use Rattle.up_model.proofs.EffectLaws.{AllowsEnds, AllowsTurns, end_of-all, killing-all, turn_of-all, loading-all}
use Rattle.up_model.proofs.JobOffers.{offer_in, offer_first, first-by-jobs}
use Rattle.up_model.proofs.MainEntries.{Keeps, IsStill, still-allows, still-keeps, stills-keep, made-keeps}
use Rattle.up_model.proofs.MainEntries.{spawned-keeps, refused-keeps, ended-keeps}
use Rattle.up_model.proofs.MainMoves.{if-keeps, or_else-keeps, move_first-keeps}

-- an offer to an instance's `stop on` is still
stop_by-still : (p : ℕ) (events : List ℕ) (c : Chronicle) → AllByRecursion IsStill (stop_by p events c)
stop_by-still p events c =
    all-if IsStill (is_start (goal p c)) (stop_of p (stopped_by (events_at events c)) events c) (stop_of-all IsStill still-allows p (stopped_by (events_at events c)) events c)

stop_offer-still : (config : Configuration) (job : JobDef) (p event : ℕ) (c : Chronicle) → AllByRecursion IsStill (stop_offer config job p event c)
stop_offer-still config job p event c =
    all-append IsStill (entries_if (holds job.stop_on sights) fires) (Offered (StopOn p) event ∷ [])
    (all-if IsStill (holds job.stop_on sights) fires
    (all-append IsStill (stop_by p events fired) (Fired (StopOn p) events ∷ []) (stop_by-still p events fired) (tt, tt)))
    (tt, tt)
  where
    sights : List Sight
    sights = seen config (StopOn p) (Offered (StopOn p) event ∷ c)

    events : List ℕ
    events = taken job.stop_on sights

    fired : Chronicle
    fired = Fired (StopOn p) events ∷ Offered (StopOn p) event ∷ c

    fires : List Entry
    fires = stop_by p events fired ++ Fired (StopOn p) events ∷ []

stop_offer_in-keeps : (config : Configuration) (xs : List Instance) (event : ℕ) (c : Chronicle) → Keeps c → Keeps (stop_offer_in config xs event c ++ c)
stop_offer_in-keeps config [] event c keeps = keeps
stop_offer_in-keeps config (x ∷ xs) event c keeps =
    or_else-keeps config (entries_if (is_open x.place c) (stop_offer config x.file x.place event c)) (stop_offer_in config xs event c) c
    (if-keeps config (is_open x.place c) (stop_offer config x.file x.place event c) c (stills-keep config (stop_offer config x.file x.place event c) c (stop_offer-still config x.file x.place event c) keeps) keeps)
    (stop_offer_in-keeps config xs event c keeps)

-- a start makes an instance only if none has its name
start_of-keeps : (config : Configuration) (job : JobDef) (who : Who) (environment : Bindings) (its : List ℕ) (o : Option ℕ) (c : Chronicle) → who.job ≡ job.name
    → instance_named who c ≡ o → Keeps c → Keeps (start_of job who environment its o c ++ c)
start_of-keeps config job who environment its None c named none keeps =
    let new : instance_named (called job.name who.instance) c ≡ None = subst (λ n. instance_named (called n who.instance) c ≡ None) named none in
    if-keeps config (nat_lt (length (instances_of who.job c)) max_instances) (Aimed (length c) Start environment its ∷ Made job who.instance ∷ []) c
    (still-keeps config (Aimed (length c) Start environment its) (Made job who.instance ∷ c) tt (made-keeps config job who.instance c new keeps)) keeps
start_of-keeps config job who environment its (Some p) c named found keeps =
    stills-keep config (start_of job who environment its (Some p) c) c (start_of-all IsStill still-allows job who environment its p c) keeps

start_who-keeps : (config : Configuration) (job : JobDef) (environment : Bindings) (its : List ℕ) (name : Option Bytes) (c : Chronicle) → Keeps c
    → Keeps (start_who job environment its (who_called job.name name) c ++ c)
start_who-keeps config job environment its None c keeps = keeps
start_who-keeps config job environment its (Some name) c keeps =
    let who = called job.name name in
    start_of-keeps config job who (with_instance who environment) its (instance_named who c) c refl refl keeps

three : (xs c : Chronicle) (e f : Entry) → ((xs ++ e ∷ []) ++ f ∷ []) ++ c ≡ xs ++ e ∷ f ∷ c
three xs c e f = append_assoc (xs ++ e ∷ []) (f ∷ []) c ∙ append_assoc xs (e ∷ []) (f ∷ c)

-- so an offer to a job's `start on` leaves the rules kept
start_offer-keeps : (config : Configuration) (job : JobDef) (event : ℕ) (c : Chronicle) → Keeps c → Keeps (start_offer config job event c ++ c)
start_offer-keeps config job event c keeps = by_case (holds job.start_on sights)
  where
    sights : List Sight
    sights = seen config (StartOn job.name) (Offered (StartOn job.name) event ∷ c)

    events : List ℕ
    events = taken job.start_on sights

    fired : Chronicle
    fired = Fired (StartOn job.name) events ∷ Offered (StartOn job.name) event ∷ c

    name : Option Bytes
    name = instance_name job (events_env (env_of_job config job.name) (events_at events fired))

    environment : Bindings
    environment = start_env config (who_called job.name name) (events_at events fired) fired

    done : Keeps fired
    done = stills-keep config (Fired (StartOn job.name) events ∷ Offered (StartOn job.name) event ∷ []) c (tt, (tt, tt)) keeps

    by_case : (b : Bool) → Keeps ((entries_if b (start_by config job events fired ++ Fired (StartOn job.name) events ∷ []) ++ Offered (StartOn job.name) event ∷ []) ++ c)
    by_case true =
        subst Keeps (sym (three (start_by config job events fired) c (Fired (StartOn job.name) events) (Offered (StartOn job.name) event)))
        (start_who-keeps config job environment events name fired done)
    by_case false = still-keeps config (Offered (StartOn job.name) event) c tt keeps

offer_in-keeps : (config : Configuration) (job : JobDef) (event : ℕ) (c : Chronicle) → Keeps c → Keeps (offer_in config job event c ++ c)
offer_in-keeps config job event c keeps =
    or_else-keeps config (stop_offer_in config (instances_of job.name c) event c) (entries_if (not (was_offered (StartOn job.name) c)) (start_offer config job event c)) c
    (stop_offer_in-keeps config (instances_of job.name c) event c keeps)
    (if-keeps config (not (was_offered (StartOn job.name) c)) (start_offer config job event c) c (start_offer-keeps config job event c keeps) keeps)

offer_first-keeps : (config : Configuration) (jobs : List JobDef) (event : ℕ) (c : Chronicle) → Keeps c → Keeps (offer_first config jobs event c ++ c)
offer_first-keeps config [] event c keeps = keeps
offer_first-keeps config (job ∷ jobs) event c keeps =
    or_else-keeps config (offer_in config job event c) (offer_first config jobs event c) c (offer_in-keeps config job event c keeps) (offer_first-keeps config jobs event c keeps)

offer_next-keeps : (config : Configuration) (event : Option ℕ) (c : Chronicle) → Keeps c → Keeps (offer_next config event c ++ c)
offer_next-keeps config None c keeps = keeps
offer_next-keeps config (Some event) c keeps = subst (λ es. Keeps (es ++ c)) (sym (first-by-jobs config event c)) (offer_first-keeps config config.jobs event c keeps)

-- what is due leaves the rules kept
due-keeps : (config : Configuration) (c : Chronicle) → Keeps c → Keeps (due config c ++ c)
unfolding due
due-keeps config c keeps =
    or_else-keeps config (move_first (names_in_order config c) c) (or_else (offer_next config (offering c) c) (answering_last c)) c (move_first-keeps config (names_in_order config c) c keeps)
    (or_else-keeps config (offer_next config (offering c) c) (answering_last c) c (offer_next-keeps config (offering c) c keeps)
    (stills-keep config (answering_last c) c (answering_hurried-all IsStill (λ request answer. tt) (unanswered c) c) keeps))

settle-keeps : (n : ℕ) (config : Configuration) (c : Chronicle) → Keeps c → Keeps (settle n config c)
unfolding settle
settle-keeps zero config c keeps = keeps
settle-keeps (suc n) config c keeps = settle-keeps n config (due config c ++ c) (due-keeps config c keeps)

-- so are the end of a process and a turn
still-ends : AllowsEnds IsStill
still-ends = record { allows = still-allows; failed = λ instance its. tt; respawned = λ instance moment. tt }

still-turns : AllowsTurns IsStill
still-turns = record { ends = still-ends; told = λ spoilt event. tt; handled = λ event. tt; finished = λ event. tt }

-- still entries before an input
given-keeps : (config : Configuration) (es : List Entry) (given : Input) (c : Chronicle) → AllByRecursion IsStill es → Keeps (Given given ∷ c)
    → Keeps ((es ++ Given given ∷ []) ++ c)
given-keeps config es given c still keeps = rw append_assoc (stills-keep config es (Given given ∷ c) still keeps)

-- a start leaves the rules kept
start-keeps : (config : Configuration) (given : ℕ) (its : List ℕ) (target : Target) (c : Chronicle) → IsCalled target → Keeps c
    → Keeps (entries_of given (start its target c) ++ c)
start-keeps config given its (Nobody text) c named keeps = still-keeps config (Replied given _) c tt keeps
start-keeps config given its (Concerns job who environment) c named keeps = by_case (instance_named who c) refl
  where
    told : Bindings
    told = with_instance who environment

    by_room : (b : Bool) → instance_named who c ≡ None
        → Keeps (entries_of given (if b then Done (start_of job who told its None c) else Refused (codes "Too many instances: " ++ who.job)) ++ c)
    by_room true none = start_of-keeps config job who told its None c named none keeps
    by_room false none = still-keeps config (Replied given _) c tt keeps

    by_goal : (p : ℕ) (b : Bool) → instance_named who c ≡ Some p
        → Keeps (entries_of given (if b then refusal (codes "Job is already running: ") who else Done (start_of job who told its (Some p) c)) ++ c)
    by_goal p true found = still-keeps config (Replied given _) c tt keeps
    by_goal p false found = start_of-keeps config job who told its (Some p) c named found keeps

    by_case : (o : Option ℕ) → instance_named who c ≡ o → Keeps (entries_of given (start_at its job who told o c) ++ c)
    by_case None none = by_room (nat_lt (length (instances_of who.job c)) max_instances) none
    by_case (Some p) found = by_goal p (is_start (goal p c)) found

-- so does any request
request-keeps : (config : Configuration) (given : ℕ) (request : RequestValue) (c : Chronicle) → Keeps c
    → Keeps (entries_of given (outcome_of config given request c) ++ c)
request-keeps config given request c keeps = by_case request.command
  where
    known : Target
    known = known_target config request.name request.vars c

    by_case : (asked : Command) → Keeps (entries_of given (outcome_by asked config given request c) ++ c)
    by_case command.Start = start-keeps config given (holders_of given request.wait) (target_of config request.name request.vars c) c (target-called config request.name request.vars c) keeps
    by_case command.Stop = stills-keep config _ c (stop-all IsStill still-allows given (holders_of given request.wait) request.vars known c) keeps
    by_case command.Restart = stills-keep config _ c (restart-all IsStill still-allows given (holders_of given request.wait) (target_of config request.name request.vars c) c) keeps
    by_case command.Status = stills-keep config _ c (status-all IsStill still-allows given known c) keeps
    by_case command.List = still-keeps config (Replied given _) c tt keeps
    by_case command.Emit = stills-keep config _ c (emit-all IsStill still-allows given request c) keeps
    by_case command.Version = still-keeps config (Replied given _) c tt keeps
    by_case command.Reload = stills-keep config _ c (reload-all IsStill still-allows given known c (λ p signal runs. tt)) keeps
    by_case command.ReloadConfiguration = still-keeps config (Replied given _) c tt keeps

-- an answer that is expected is awaited
expected_spawned : (who : Who) (its : Process) (pid : ℕ) (c : Chronicle) → is_expected (input.Spawned who its pid) c ≡ true → awaits (instance_named who c) its c ≡ true
unfolding is_expected
expected_spawned who its pid c expected = expected

-- the effect of an input that is expected leaves the rules kept
effect-keeps : (config : Configuration) (given : Input) (c : Chronicle) → is_expected given c ≡ true → Keeps c → Keeps (effect config given c ++ c)
unfolding effect
effect-keeps config (input.Emit event) c expected keeps = stills-keep config (Queued (Outside (length c)) event ∷ Given (input.Emit event) ∷ []) c (tt, (tt, tt)) keeps
effect-keeps config (input.Request id request) c expected keeps =
    rw append_assoc (request-keeps config (length c) request (Given (input.Request id request) ∷ c) (still-keeps config (Given (input.Request id request)) c tt keeps))
effect-keeps config (input.Spawned who its pid) c expected keeps = spawned-keeps config who its pid c (expected_spawned who its pid c expected) keeps
effect-keeps config (input.Refused who its) c expected keeps =
    let d : Chronicle = Given (input.Refused who its) ∷ c in
    given-keeps config (end_by who its end.Refused d) (input.Refused who its) c
    (end_of-all IsStill still-ends (own_file who d) (instance_named who d) its end.Refused d) (refused-keeps config who its c keeps)
effect-keeps config (input.Ended who its how) c expected keeps =
    let d : Chronicle = Given (input.Ended who its how) ∷ c in
    given-keeps config (end_by who its (end.Ended how) d) (input.Ended who its how) c
    (end_of-all IsStill still-ends (own_file who d) (instance_named who d) its (end.Ended how) d) (ended-keeps config who its how c keeps)
effect-keeps config (input.Clock reading) c expected keeps =
    given-keeps config (killing (all_overdue (names_in_order config c) (Given (input.Clock reading) ∷ c))) (input.Clock reading) c
    (killing-all IsStill (λ place. tt) (all_overdue (names_in_order config c) (Given (input.Clock reading) ∷ c))) (still-keeps config (Given (input.Clock reading)) c tt keeps)
effect-keeps config input.Turn c expected keeps =
    given-keeps config (turn_of (turn_event config (queue c) c) (Given input.Turn ∷ c)) input.Turn c
    (turn_of-all IsStill still-turns (turn_event config (queue c) c) (Given input.Turn ∷ c)) (still-keeps config (Given input.Turn) c tt keeps)
effect-keeps config (input.Load id its) c expected keeps =
    given-keeps config (loading (length c) its) (input.Load id its) c
    (loading-all IsStill (λ request answer. tt) (λ jobs. tt) (length c) its) (still-keeps config (Given (input.Load id its)) c tt keeps)

-- so do inputs, one after another
after-keeps : (config : Configuration) (c : Chronicle) (given : Input) → is_expected given c ≡ true → Keeps c → Keeps (after config c given)
unfolding after
after-keeps config c given expected keeps =
    let d : Chronicle = effect (in_force config c) given c ++ c in
    settle-keeps (work (in_force config d) d) (in_force config d) d (effect-keeps (in_force config c) given c expected keeps)

next-keeps : (config : Configuration) (c : Chronicle) (given : Input) → Keeps c → Keeps (next config c given)
next-keeps config c given keeps = by_case (is_expected given c) refl
  where
    by_case : (b : Bool) → is_expected given c ≡ b → Keeps (if b then after config c given else c)
    by_case true expected = after-keeps config c given expected keeps
    by_case false other = keeps

after_all-keeps : (config : Configuration) (c : Chronicle) (inputs : List Input) → Keeps c → Keeps (after_all config c inputs)
unfolding after_all
after_all-keeps config c [] keeps = keeps
after_all-keeps config c (given ∷ inputs) keeps = after_all-keeps config (next config c given) inputs (next-keeps config c given keeps)

-- at the start no instance exists
empty-keeps : (config : Configuration) → Keeps []
empty-keeps config = record { single = λ job. tt; fits = λ who p found. record { alive = λ so. absurd (cc); asked = λ so. absurd (cc) }; lone = tt }

-- so no instance orders its main while that lives
pub lone : (config : Configuration) (inputs : List Input) → HasOneMain (after_all config [] inputs)
lone config inputs = (after_all-keeps config [] inputs (empty-keeps config)).lone
