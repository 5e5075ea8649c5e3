-- Each instance of a run is of a job that is named.
use Rattle.std.proofs.Common.{◌≡◌, ℕ, zero, suc, Bool, true, false, not, nat_lt, List, [], ◌∷◌, ◌++◌, length, codes, if◌then◌else◌, Option, None, Some, bytes_eq, refl, sym, ◌∙◌, ap, subst, append_assoc}
use Rattle.std.specs.List.{AllByRecursion}
use Rattle.up_conf.specs.declared.job.JobDef.{JobDef}
use Rattle.up_expr.specs.Truth.{Sight}
use Rattle.up_text.specs.Expansion.{Expansion, Expands, Lacks, Malformed}
use Rattle.up_model.specs.declared.failure.End.TheVariants as end
use Rattle.up_model.specs.declared.input.Input.{Input}
use Rattle.up_model.specs.declared.input.Input.TheVariants as input
use Rattle.up_model.specs.declared.loaded.Loaded.{Loaded as LoadedValue}
use Rattle.up_model.specs.declared.loaded.Loaded.TheVariants as loaded
use Rattle.up_model.specs.declared.request.Command.{Command}
use Rattle.up_model.specs.declared.request.Command.TheVariants as command
use Rattle.up_model.specs.declared.state.Goal.TheVariants.{Start}
use Rattle.up_model.specs.declared.state.State.TheVariants as state
use Rattle.up_model.specs.declared.who.Who.{Who}
use Rattle.up_model.specs.Answers.{after, next, is_expected, after_all}
use Rattle.up_model.specs.Chronicle.{Chronicle, Entry, Given, Offered, Fired, Made, Aimed, Entered, StartOn, StopOn}
use Rattle.up_model.specs.Clock.{all_overdue, killing}
use Rattle.up_model.specs.Commands.{Target, Nobody, Concerns, target_as, target_in, target_of, known_target, start, start_at, outcome_by, outcome_of, entries_of, holders_of, refusal, Refused, Done}
use Rattle.up_model.specs.Configuration.{Configuration, job_named, is_removed}
use Rattle.up_model.specs.Due.{due, end_by, turn_of, turn_event, effect}
use Rattle.up_model.specs.Events.{events_at, events_env, with_instance, stopped_by}
use Rattle.up_model.specs.Environments.{env_of_job, instance_name}
use Rattle.up_model.specs.Files.{own_file, names_in_order}
use Rattle.up_model.specs.Instances.{Instance, without_instance, instances_of, instance_named}
use Rattle.up_model.specs.Instances as instances
use Rattle.up_model.specs.Life.{entering}
use Rattle.up_model.specs.Moves.{may_leave, next_of, who_of, move, move_of, move_in, move_first}
use Rattle.up_model.specs.Offers.{is_open, stop_of, stop_by, stop_offer, stop_offer_in, start_of, start_who, start_by, start_env, who_called, start_offer, start_offer_by, offer_in, offer_first, offer_next, offering, max_instances}
use Rattle.up_model.specs.Predicates.{is_start, entries_if, or_else}
use Rattle.up_model.specs.Queue.{queue}
use Rattle.up_model.specs.Readings.{goal, state_of}
use Rattle.up_model.specs.Replies.{answering_last, unanswered}
use Rattle.up_model.specs.Requests.{RequestValue}
use Rattle.up_model.specs.Seen.{seen, holds, taken, was_offered}
use Rattle.up_model.specs.Values.{Bytes, Bindings}
use Rattle.up_model.specs.Work.{work, settle}
use Rattle.up_model.specs.Loads.{in_force, loading}
use Rattle.up_model.proofs.EffectLaws.{AllowsEnds, AllowsTurns, end_of-all, killing-all, turn_of-all, loading-all}
use Rattle.up_model.proofs.FileLaws.{named-again}
use Rattle.up_model.proofs.LoadLaws.{HaveJobs, have-kept, effect-in_force, settle-in_force}
use Rattle.up_model.proofs.Places.{bytes_same}
use Rattle.up_model.proofs.MoveLaws.{IsMove, enter-moves}
use Rattle.up_model.proofs.ReplyLaws.{Allows, answering_hurried-all, start_of-all, stop_of-all, stop-all, restart-all, reload-all, status-all, emit-all}
use Rattle.up_model.proofs.Sparing.{all-append, all-if, all-weaker}

-- an entry that makes no instance
abbrev IsPlain : Entry → Type 0
IsPlain (Made file name) = ⊥
IsPlain entry = Unit {0}

plain-allows : Allows IsPlain
plain-allows = record {
  replied = λ request answer. tt;
  released = λ instance failed. tt;
  aimed = λ instance aim environment its. tt;
  restarted = λ instance its. tt;
  queued = λ given event. tt;
}

plain-made : (jobs : List JobDef) (e : Entry) (c : Chronicle) → IsPlain e → HaveJobs jobs c → HaveJobs jobs (e ∷ c)
plain-made jobs (Made file name) c plain made = absurd plain
plain-made jobs (Entered instance state.Waiting) c plain made = λ name none. ap (without_instance instance) (made name none)
plain-made jobs e c plain made = made

-- an instance of a job that is named
named-made : (jobs : List JobDef) (job : JobDef) (its : Bytes) (c : Chronicle) → job_named job.name jobs ≡ Some job → HaveJobs jobs c → HaveJobs jobs (Made job its ∷ c)
named-made jobs job its c found made = λ name none. by_case name none (bytes_eq job.name name) refl
  where
    by_case : (name : Bytes) → job_named name jobs ≡ None → (b : Bool) → bytes_eq job.name name ≡ b
        → (if b then instances.with_instance (record { place = length c; name = its; file = job }) (instances_of name c) else instances_of name c) ≡ []
    by_case name none true same =
        let gone : job_named job.name jobs ≡ None = subst (λ n. job_named n jobs ≡ None) (sym (bytes_same job.name name same)) none in
        absurd cc
    by_case name none false differs = made name none

plains-made : (jobs : List JobDef) (es c : Chronicle) → AllByRecursion IsPlain es → HaveJobs jobs c → HaveJobs jobs (es ++ c)
plains-made jobs [] c plain made = made
plains-made jobs (e ∷ es) c plain made = plain-made jobs e (es ++ c) plain.0 (plains-made jobs es c plain.1 made)

if-made : (jobs : List JobDef) (b : Bool) (es c : Chronicle) → HaveJobs jobs (es ++ c) → HaveJobs jobs c → HaveJobs jobs (entries_if b es ++ c)
if-made jobs true es c some none = some
if-made jobs false es c some none = none

or_else-made : (jobs : List JobDef) (es others c : Chronicle) → HaveJobs jobs (es ++ c) → HaveJobs jobs (others ++ c) → HaveJobs jobs (or_else es others ++ c)
or_else-made jobs [] others c some other = other
or_else-made jobs (e ∷ es) others c some other = some

-- moves make none
move-plain : (p : ℕ) (e : Entry) → IsMove p e → IsPlain e
move-plain p (Made file name) is = absurd is
move-plain p e is = tt

moved-plain : (job : JobDef) (x : Instance) (c : Chronicle) → AllByRecursion IsPlain (move_of job x c)
moved-plain job x c =
    let to = next_of job x.place c in
    all-if IsPlain (may_leave job x.place c) (move job x c)
    (all-weaker (IsMove x.place) IsPlain (move-plain x.place) (move job x c) (enter-moves job (who_of job x) x.place to (entering to (state_of x.place c) job.task) c))

or_else-plain : (es others : Chronicle) → AllByRecursion IsPlain es → AllByRecursion IsPlain others → AllByRecursion IsPlain (or_else es others)
or_else-plain [] others plain other = other
or_else-plain (e ∷ es) others plain other = plain

in-plain : (xs : List Instance) (c : Chronicle) → AllByRecursion IsPlain (move_in xs c)
in-plain [] c = tt
in-plain (x ∷ xs) c = or_else-plain (move_of x.file x c) (move_in xs c) (moved-plain x.file x c) (in-plain xs c)

first-plain : (names : List Bytes) (c : Chronicle) → AllByRecursion IsPlain (move_first names c)
first-plain [] c = tt
first-plain (name ∷ names) c = or_else-plain (move_in (instances_of name c) c) (move_first names c) (in-plain (instances_of name c) c) (first-plain names c)

-- so do offers to a `stop on`
stop-plain : (config : Configuration) (job : JobDef) (p event : ℕ) (c : Chronicle) → AllByRecursion IsPlain (stop_offer config job p event c)
stop-plain config job p event c =
    all-append IsPlain (entries_if (holds job.stop_on sights) fires) (Offered (StopOn p) event ∷ [])
    (all-if IsPlain (holds job.stop_on sights) fires
    (all-append IsPlain (stop_by p events fired) (Fired (StopOn p) events ∷ []) (all-if IsPlain (is_start (goal p fired)) (stop_of p (stopped_by (events_at events fired)) events fired) (stop_of-all IsPlain plain-allows p (stopped_by (events_at events fired)) events fired)) (tt, tt)))
    (tt, tt)
  where
    sights : List Sight
    sights = seen config (StopOn p) (Offered (StopOn p) event ∷ c)

    events : List ℕ
    events = taken job.stop_on sights

    fired : Chronicle
    fired = Fired (StopOn p) events ∷ Offered (StopOn p) event ∷ c

    fires : List Entry
    fires = stop_by p events fired ++ Fired (StopOn p) events ∷ []

stops-plain : (config : Configuration) (xs : List Instance) (event : ℕ) (c : Chronicle) → AllByRecursion IsPlain (stop_offer_in config xs event c)
stops-plain config [] event c = tt
stops-plain config (x ∷ xs) event c =
    or_else-plain (entries_if (is_open x.place c) (stop_offer config x.file x.place event c)) (stop_offer_in config xs event c)
    (all-if IsPlain (is_open x.place c) (stop_offer config x.file x.place event c) (stop-plain config x.file x.place event c)) (stops-plain config xs event c)

-- a start makes one by the file of its job
start_of-made : (jobs : List JobDef) (job : JobDef) (who : Who) (environment : Bindings) (its : List ℕ) (o : Option ℕ) (c : Chronicle) → job_named job.name jobs ≡ Some job
    → HaveJobs jobs c → HaveJobs jobs (start_of job who environment its o c ++ c)
start_of-made jobs job who environment its None c found made =
    if-made jobs (nat_lt (length (instances_of who.job c)) max_instances) (Aimed (length c) Start environment its ∷ Made job who.instance ∷ []) c (named-made jobs job who.instance c found made) made
start_of-made jobs job who environment its (Some p) c found made =
    plains-made jobs (start_of job who environment its (Some p) c) c (start_of-all IsPlain plain-allows job who environment its p c) made

start_who-made : (jobs : List JobDef) (job : JobDef) (environment : Bindings) (its : List ℕ) (o : Option Who) (c : Chronicle) → job_named job.name jobs ≡ Some job
    → HaveJobs jobs c → HaveJobs jobs (start_who job environment its o c ++ c)
start_who-made jobs job environment its None c found made = made
start_who-made jobs job environment its (Some who) c found made = start_of-made jobs job who (with_instance who environment) its (instance_named who c) c found made

three : (xs c : Chronicle) (e f : Entry) → ((xs ++ e ∷ []) ++ f ∷ []) ++ c ≡ xs ++ e ∷ f ∷ c
three xs c e f = append_assoc (xs ++ e ∷ []) (f ∷ []) c ∙ append_assoc xs (e ∷ []) (f ∷ c)

start_offer-made : (config : Configuration) (job : JobDef) (event : ℕ) (c : Chronicle) → job_named job.name config.jobs ≡ Some job
    → HaveJobs config.jobs c → HaveJobs config.jobs (start_offer config job event c ++ c)
start_offer-made config job event c found made = by_case (holds job.start_on sights)
  where
    sights : List Sight
    sights = seen config (StartOn job.name) (Offered (StartOn job.name) event ∷ c)

    events : List ℕ
    events = taken job.start_on sights

    fired : Chronicle
    fired = Fired (StartOn job.name) events ∷ Offered (StartOn job.name) event ∷ c

    name : Option Bytes
    name = instance_name job (events_env (env_of_job config job.name) (events_at events fired))

    environment : Bindings
    environment = start_env config (who_called job.name name) (events_at events fired) fired

    by_case : (b : Bool) → HaveJobs config.jobs ((entries_if b (start_by config job events fired ++ Fired (StartOn job.name) events ∷ []) ++ Offered (StartOn job.name) event ∷ []) ++ c)
    by_case true =
        subst (HaveJobs config.jobs) (sym (three (start_by config job events fired) c (Fired (StartOn job.name) events) (Offered (StartOn job.name) event)))
        (start_who-made config.jobs job environment events (who_called job.name name) fired found made)
    by_case false = made

offer_in-made : (config : Configuration) (name : Bytes) (event : ℕ) (c : Chronicle) → HaveJobs config.jobs c → HaveJobs config.jobs (offer_in config name event c ++ c)
offer_in-made config name event c made =
    or_else-made config.jobs (stop_offer_in config (instances_of name c) event c) (entries_if (not (was_offered (StartOn name) c)) (start_offer_by config (job_named name config.jobs) event c)) c
    (plains-made config.jobs (stop_offer_in config (instances_of name c) event c) c (stops-plain config (instances_of name c) event c) made)
    (if-made config.jobs (not (was_offered (StartOn name) c)) (start_offer_by config (job_named name config.jobs) event c) c (by_file (job_named name config.jobs) refl) made)
  where
    by_file : (file : Option JobDef) → job_named name config.jobs ≡ file → HaveJobs config.jobs (start_offer_by config file event c ++ c)
    by_file None found = made
    by_file (Some job) found = start_offer-made config job event c (named-again name config.jobs job found) made

offer_first-made : (config : Configuration) (names : List Bytes) (event : ℕ) (c : Chronicle) → HaveJobs config.jobs c → HaveJobs config.jobs (offer_first config names event c ++ c)
offer_first-made config [] event c made = made
offer_first-made config (name ∷ names) event c made =
    or_else-made config.jobs (offer_in config name event c) (offer_first config names event c) c (offer_in-made config name event c made) (offer_first-made config names event c made)

offer_next-made : (config : Configuration) (event : Option ℕ) (c : Chronicle) → HaveJobs config.jobs c → HaveJobs config.jobs (offer_next config event c ++ c)
offer_next-made config None c made = made
offer_next-made config (Some event) c made = offer_first-made config (names_in_order config c) event c made

-- so what is due makes each by it
pub due-made : (config : Configuration) (c : Chronicle) → HaveJobs config.jobs c → HaveJobs config.jobs (due config c ++ c)
unfolding due
due-made config c made =
    or_else-made config.jobs (move_first (names_in_order config c) c) (or_else (offer_next config (offering c) c) (answering_last c)) c
    (plains-made config.jobs (move_first (names_in_order config c) c) c (first-plain (names_in_order config c) c) made)
    (or_else-made config.jobs (offer_next config (offering c) c) (answering_last c) c (offer_next-made config (offering c) c made)
    (plains-made config.jobs (answering_last c) c (answering_hurried-all IsPlain (λ request answer. tt) (unanswered c) c) made))

pub settle-made : (n : ℕ) (config : Configuration) (c : Chronicle) → HaveJobs config.jobs c → HaveJobs config.jobs (settle n config c)
unfolding settle
settle-made zero config c made = made
settle-made (suc n) config c made = settle-made n config (due config c ++ c) (due-made config c made)

-- the end of a process makes none, nor does a turn
plain-ends : AllowsEnds IsPlain
plain-ends = record { allows = plain-allows; failed = λ instance its. tt; respawned = λ instance moment. tt }

plain-turns : AllowsTurns IsPlain
plain-turns = record { ends = plain-ends; told = λ spoilt event. tt; handled = λ event. tt; finished = λ event. tt }

-- a request makes one by the file in force
abbrev IsOf : JobDef → Target → Type 0
IsOf its (Nobody text) = Unit {0}
IsOf its (Concerns job who environment) = its ≡ job

as-of : (config : Configuration) (its : JobDef) (vars : Bindings) (x : Expansion) (c : Chronicle) → IsOf its (target_as config its vars x c)
as-of config its vars (Expands name) c = refl
as-of config its vars (Lacks key) c = tt
as-of config its vars Malformed c = tt

target-found : (config : Configuration) (name : Bytes) (vars : Bindings) (c : Chronicle) (job : JobDef) (who : Who) (environment : Bindings)
    → target_of config name vars c ≡ Concerns job who environment → job_named job.name config.jobs ≡ Some job
target-found config name vars c job who environment is = by_job (is_removed config name) (job_named name config.jobs) refl is
  where
    same : (its : JobDef) (target : Target) → IsOf its target → target ≡ Concerns job who environment → its ≡ job
    same its target of is = subst (IsOf its) is of

    by_job : (removed : Bool) (o : Option JobDef) → job_named name config.jobs ≡ o → target_in config name (if removed then None else o) vars c ≡ Concerns job who environment
        → job_named job.name config.jobs ≡ Some job
    by_job true o found is = absurd cc
    by_job false None found is = absurd cc
    by_job false (Some its) found is =
        let here : its ≡ job = same its (target_in config name (Some its) vars c) (as-of config its vars _ c) is in
        subst (λ j. job_named j.name config.jobs ≡ Some j) here (named-again name config.jobs its found)

start-made : (config : Configuration) (given : ℕ) (its : List ℕ) (target : Target) (c : Chronicle)
    → ((job : JobDef) (who : Who) (environment : Bindings) → target ≡ Concerns job who environment → job_named job.name config.jobs ≡ Some job)
    → HaveJobs config.jobs c → HaveJobs config.jobs (entries_of given (start its target c) ++ c)
start-made config given its (Nobody text) c found made = made
start-made config given its (Concerns job who environment) c found made = by_case (instance_named who c)
  where
    told : Bindings
    told = with_instance who environment

    by_room : (b : Bool) → HaveJobs config.jobs (entries_of given (if b then Done (start_of job who told its None c) else Refused (codes "Too many instances: " ++ who.job)) ++ c)
    by_room true = start_of-made config.jobs job who told its None c (found job who environment refl) made
    by_room false = made

    by_goal : (p : ℕ) (b : Bool) → HaveJobs config.jobs (entries_of given (if b then refusal (codes "Job is already running: ") who else Done (start_of job who told its (Some p) c)) ++ c)
    by_goal p true = made
    by_goal p false = start_of-made config.jobs job who told its (Some p) c (found job who environment refl) made

    by_case : (o : Option ℕ) → HaveJobs config.jobs (entries_of given (start_at its job who told o c) ++ c)
    by_case None = by_room (nat_lt (length (instances_of who.job c)) max_instances)
    by_case (Some p) = by_goal p (is_start (goal p c))

request-made : (config : Configuration) (given : ℕ) (request : RequestValue) (c : Chronicle) → HaveJobs config.jobs c
    → HaveJobs config.jobs (entries_of given (outcome_of config given request c) ++ c)
request-made config given request c made = by_case request.command
  where
    target : Target
    target = target_of config request.name request.vars c

    known : Target
    known = known_target config request.name request.vars c

    by_case : (asked : Command) → HaveJobs config.jobs (entries_of given (outcome_by asked config given request c) ++ c)
    by_case command.Start = start-made config given (holders_of given request.wait) target c (target-found config request.name request.vars c) made
    by_case command.Stop = plains-made config.jobs _ c (stop-all IsPlain plain-allows given (holders_of given request.wait) request.vars known c) made
    by_case command.Restart = plains-made config.jobs _ c (restart-all IsPlain plain-allows given (holders_of given request.wait) target c) made
    by_case command.Status = plains-made config.jobs _ c (status-all IsPlain plain-allows given known c) made
    by_case command.List = made
    by_case command.Emit = plains-made config.jobs _ c (emit-all IsPlain plain-allows given request c) made
    by_case command.Version = made
    by_case command.Reload = plains-made config.jobs _ c (reload-all IsPlain plain-allows given known c (λ p signal runs. tt)) made
    by_case command.ReloadConfiguration = made

given-made : (jobs : List JobDef) (es : Chronicle) (given : Input) (c : Chronicle) → AllByRecursion IsPlain es → HaveJobs jobs c → HaveJobs jobs ((es ++ Given given ∷ []) ++ c)
given-made jobs es given c plain made = rw append_assoc (plains-made jobs es (Given given ∷ c) plain made)

-- so does an input
pub effect-made : (config : Configuration) (given : Input) (c : Chronicle) → HaveJobs config.jobs c → HaveJobs config.jobs (effect config given c ++ c)
unfolding effect
effect-made config (input.Emit event) c made = made
effect-made config (input.Request id request) c made = rw append_assoc (request-made config (length c) request (Given (input.Request id request) ∷ c) made)
effect-made config (input.Spawned who its pid) c made = made
effect-made config (input.Refused who its) c made =
    let d : Chronicle = Given (input.Refused who its) ∷ c in
    given-made config.jobs (end_by who its end.Refused d) (input.Refused who its) c (end_of-all IsPlain plain-ends (own_file who d) (instance_named who d) its end.Refused d) made
effect-made config (input.Ended who its how) c made =
    let d : Chronicle = Given (input.Ended who its how) ∷ c in
    given-made config.jobs (end_by who its (end.Ended how) d) (input.Ended who its how) c (end_of-all IsPlain plain-ends (own_file who d) (instance_named who d) its (end.Ended how) d) made
effect-made config (input.Clock reading) c made =
    given-made config.jobs (killing (all_overdue (names_in_order config c) (Given (input.Clock reading) ∷ c))) (input.Clock reading) c
    (killing-all IsPlain (λ place. tt) (all_overdue (names_in_order config c) (Given (input.Clock reading) ∷ c))) made
effect-made config input.Turn c made =
    given-made config.jobs (turn_of (turn_event config (queue c) c) (Given input.Turn ∷ c)) input.Turn c (turn_of-all IsPlain plain-turns (turn_event config (queue c) c) (Given input.Turn ∷ c)) made
effect-made config (input.Load id its) c made =
    given-made config.jobs (loading (length c) its) (input.Load id its) c (loading-all IsPlain (λ request answer. tt) (λ jobs. tt) (length c) its) made

-- a load leaves them named
load-made : (start : Configuration) (c : Chronicle) (id : ℕ) (its : LoadedValue) → HaveJobs (in_force start c).jobs c
    → HaveJobs (in_force start (effect (in_force start c) (input.Load id its) c ++ c)).jobs (effect (in_force start c) (input.Load id its) c ++ c)
unfolding effect
load-made start c id (loaded.Files jobs) made = have-kept jobs (in_force start c) c made
load-made start c id (loaded.Refused number) made = made
load-made start c id loaded.Unread made = made

-- so each instance's job is named by the configuration in force after an input
input-made : (start : Configuration) (c : Chronicle) (given : Input) → HaveJobs (in_force start c).jobs c
    → HaveJobs (in_force start (effect (in_force start c) given c ++ c)).jobs (effect (in_force start c) given c ++ c)
input-made start c (input.Load id its) made = load-made start c id its made
input-made start c given made =
    subst (λ config. HaveJobs config.jobs (effect (in_force start c) given c ++ c)) (sym (effect-in_force start (in_force start c) given c tt)) (effect-made (in_force start c) given c made)

pub after-made : (start : Configuration) (c : Chronicle) (given : Input) → HaveJobs (in_force start c).jobs c → HaveJobs (in_force start (after start c given)).jobs (after start c given)
unfolding after
after-made start c given made =
    let d : Chronicle = effect (in_force start c) given c ++ c in
    let now : Configuration = in_force start d in
    subst (λ config. HaveJobs config.jobs (settle (work now d) now d)) (sym (settle-in_force start (work now d) now d)) (settle-made (work now d) now d (input-made start c given made))

pub next-made : (start : Configuration) (c : Chronicle) (given : Input) → HaveJobs (in_force start c).jobs c → HaveJobs (in_force start (next start c given)).jobs (next start c given)
next-made start c given made = by_case (is_expected given c)
  where
    by_case : (b : Bool) → HaveJobs (in_force start (if b then after start c given else c)).jobs (if b then after start c given else c)
    by_case true = after-made start c given made
    by_case false = made

-- and after inputs
pub after_all-made : (start : Configuration) (c : Chronicle) (inputs : List Input) → HaveJobs (in_force start c).jobs c
    → HaveJobs (in_force start (after_all start c inputs)).jobs (after_all start c inputs)
unfolding after_all
after_all-made start c [] made = made
after_all-made start c (given ∷ inputs) made = after_all-made start (next start c given) inputs (next-made start c given made)

pub reached-made : (start : Configuration) (inputs : List Input) → HaveJobs (in_force start (after_all start [] inputs)).jobs (after_all start [] inputs)
reached-made start inputs = after_all-made start [] inputs (λ name none. refl)
