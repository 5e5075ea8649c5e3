-- What releases, answers and requests are made of.
use Rattle.std.proofs.Common.{◌≡◌, ℕ, nat_lt, Bool, true, false, ◌&&◌, not, refl, List, [], ◌∷◌, Option, None, Some, if◌then◌else◌, length, codes}
use Rattle.std.specs.List.{AllByRecursion}
use Rattle.up_stanza.specs.declared.process.Process.TheVariants.{Main}
use Rattle.up_text.specs.Scripts.{is_filled}
use Rattle.up_model.specs.declared.event.Event.{Event}
use Rattle.up_model.specs.declared.request.Answer.{Answer}
use Rattle.up_model.specs.declared.request.Command.{Command}
use Rattle.up_model.specs.declared.request.Command.TheVariants as command
use Rattle.up_model.specs.declared.state.Goal.{Goal}
use Rattle.up_model.specs.declared.state.Goal.TheVariants.{Start, Stop}
use Rattle.up_model.specs.declared.who.Who.{Who}
use Rattle.up_model.specs.Chronicle.{Chronicle, Entry, Queued, Made, Aimed, Restarted, Released, Signalled, Replied, Outside}
use Rattle.up_model.specs.Commands.{Outcome, Done, Target, Nobody, Concerns, target_of, known_target, start_at, start, stop_at, stop, is_running, restart_at, restart, reloading, reload_at, reload, status_at, status, emit, max_events, holders_of, outcome_by, outcome_of, entries_of, refusal}
use Rattle.up_model.specs.Configuration.{Configuration}
use Rattle.up_model.specs.Events.{with_instance}
use Rattle.up_model.specs.Files.{own_file}
use Rattle.up_model.specs.Instances.{instances_of, instance_named}
use Rattle.up_model.specs.Offers.{max_instances, stop_of, start_of}
use Rattle.up_model.specs.Queue.{queue}
use Rattle.up_model.specs.Readings.{goal, state_of, holders, lives}
use Rattle.up_model.specs.Replies.{status_of, request_at, answering_one, answering, releasing, answering_waiter, answering_hurried}
use Rattle.up_model.specs.Requests.{RequestValue}
use Rattle.up_model.specs.Predicates.{is_start}
use Rattle.up_model.specs.Values.{Bytes, Bindings}
use Rattle.up_model.proofs.Sparing.{all-append, all-if}
use Rattle.up_conf.specs.declared.job.JobDef.{JobDef}

-- answers are replies
answering_one-all : (P : Entry → Type 0) → ((request : ℕ) (answer : Answer) → P (Replied request answer)) → (place : ℕ) (o : Option RequestValue) (failed : Bool) (told : Bytes)
    → AllByRecursion P (answering_one place o failed told)
answering_one-all P replied place None failed told = tt
answering_one-all P replied place (Some request) failed told = (replied place _, tt)

pub answering-all : (P : Entry → Type 0) → ((request : ℕ) (answer : Answer) → P (Replied request answer)) → (places : List ℕ) (failed : Bool) (told : Bytes) (c : Chronicle)
    → AllByRecursion P (answering places failed told c)
answering-all P replied [] failed told c = tt
answering-all P replied (place ∷ places) failed told c =
    all-append P (answering places failed told c) (answering_one place (request_at place c) failed told)
    (answering-all P replied places failed told c) (answering_one-all P replied place (request_at place c) failed told)

-- a release is made of answers and itself
pub releasing-all : (P : Entry → Type 0) → ((request : ℕ) (answer : Answer) → P (Replied request answer)) → (p : ℕ) (failed : Bool) → P (Released p failed) → (c : Chronicle)
    → AllByRecursion P (releasing p failed c)
releasing-all P replied p failed released c =
    all-append P (answering (holders p c) failed (status_of p c) c) (Released p failed ∷ []) (answering-all P replied (holders p c) failed (status_of p c) c) (released, tt)

pub answering_waiter-all : (P : Entry → Type 0) → ((request : ℕ) (answer : Answer) → P (Replied request answer)) → (o : Option ℕ) (spoilt : Bool)
    → AllByRecursion P (answering_waiter o spoilt)
answering_waiter-all P replied None spoilt = tt
answering_waiter-all P replied (Some request) spoilt = (replied request _, tt)

pub answering_hurried-all : (P : Entry → Type 0) → ((request : ℕ) (answer : Answer) → P (Replied request answer)) → (o : Option ℕ) (c : Chronicle)
    → AllByRecursion P (answering_hurried o c)
answering_hurried-all P replied None c = tt
answering_hurried-all P replied (Some request) c = (replied request _, tt)

-- entries of a kind that has all that a request does, beside making an instance
pub record Allows (P : Entry → Type 0) : Type 0 where
  pub replied : (request : ℕ) (answer : Answer) → P (Replied request answer)
  pub released : (instance : ℕ) (failed : Bool) → P (Released instance failed)
  pub aimed : (instance : ℕ) (aim : Goal) (environment : Bindings) (its : List ℕ) → P (Aimed instance aim environment its)
  pub restarted : (instance : ℕ) (its : List ℕ) → P (Restarted instance its)
  pub queued : (given : ℕ) (event : Event) → P (Queued (Outside given) event)

-- a test of an outcome
if-all : (P : Entry → Type 0) (given : ℕ) (b : Bool) (some other : Outcome) → AllByRecursion P (entries_of given some) → AllByRecursion P (entries_of given other)
    → AllByRecursion P (entries_of given (if b then some else other))
if-all P given true some other all rest = all
if-all P given false some other all rest = rest

-- the goal of an instance that is there changes
pub start_of-all : (P : Entry → Type 0) → Allows P → (job : JobDef) (who : Who) (environment : Bindings) (its : List ℕ) (p : ℕ) (c : Chronicle)
    → AllByRecursion P (start_of job who environment its (Some p) c)
start_of-all P allows job who environment its p c =
    all-if P (not (is_start (goal p c))) (Aimed p Start environment its ∷ releasing p false c)
    (allows.aimed p Start environment its, releasing-all P allows.replied p false (allows.released p false) c)

pub stop_of-all : (P : Entry → Type 0) → Allows P → (p : ℕ) (environment : Bindings) (its : List ℕ) (c : Chronicle) → AllByRecursion P (stop_of p environment its c)
stop_of-all P allows p environment its c = (allows.aimed p Stop environment its, releasing-all P allows.replied p false (allows.released p false) c)

-- `stop`
pub stop-all : (P : Entry → Type 0) → Allows P → (given : ℕ) (its : List ℕ) (vars : Bindings) (target : Target) (c : Chronicle)
    → AllByRecursion P (entries_of given (stop its vars target c))
stop-all P allows given its vars (Nobody text) c = (allows.replied given _, tt)
stop-all P allows given its vars (Concerns job who environment) c = by_case (instance_named who c)
  where
    by_case : (o : Option ℕ) → AllByRecursion P (entries_of given (stop_at its vars who o c))
    by_case None = (allows.replied given _, tt)
    by_case (Some p) =
        if-all P given (is_start (goal p c)) (Done (stop_of p vars its c)) _ (stop_of-all P allows p vars its c) (allows.replied given _, tt)

-- `restart`
pub restart-all : (P : Entry → Type 0) → Allows P → (given : ℕ) (its : List ℕ) (target : Target) (c : Chronicle) → AllByRecursion P (entries_of given (restart its target c))
restart-all P allows given its (Nobody text) c = (allows.replied given _, tt)
restart-all P allows given its (Concerns job who environment) c = by_case (instance_named who c)
  where
    by_case : (o : Option ℕ) → AllByRecursion P (entries_of given (restart_at its who o c))
    by_case None = (allows.replied given _, tt)
    by_case (Some p) =
        if-all P given (is_running (state_of p c)) (Done (Restarted p its ∷ releasing p false c)) _
        (allows.restarted p its, releasing-all P allows.replied p false (allows.released p false) c) (allows.replied given _, tt)

-- `reload`, if the signal to an instance that runs is such too
pub reload-all : (P : Entry → Type 0) → Allows P → (given : ℕ) (target : Target) (c : Chronicle)
    → ((p signal : ℕ) → is_running (state_of p c) ≡ true → P (Signalled p signal false)) → AllByRecursion P (entries_of given (reload given target c))
reload-all P allows given (Nobody text) c signals = (allows.replied given _, tt)
reload-all P allows given (Concerns job who environment) c signals = by_case (own_file who c) (instance_named who c)
  where
    by_state : (p signal : ℕ) (runs alive : Bool) → is_running (state_of p c) ≡ runs
        → AllByRecursion P (entries_of given (if runs && alive then Done (reloading given p signal) else refusal (codes "Job is not running: ") who))
    by_state p signal true true runs = (allows.replied given _, (signals p signal runs, tt))
    by_state p signal true false runs = (allows.replied given _, tt)
    by_state p signal false alive runs = (allows.replied given _, tt)

    by_case : (file : Option JobDef) (o : Option ℕ) → AllByRecursion P (entries_of given (reload_at given file who o c))
    by_case file None = (allows.replied given _, tt)
    by_case None (Some p) = (allows.replied given _, tt)
    by_case (Some its) (Some p) = by_state p its.reload_signal (is_running (state_of p c)) (lives p Main c) refl

-- `status`
pub status-all : (P : Entry → Type 0) → Allows P → (given : ℕ) (target : Target) (c : Chronicle) → AllByRecursion P (entries_of given (status target c))
status-all P allows given (Nobody text) c = (allows.replied given _, tt)
status-all P allows given (Concerns job who environment) c = by_case (instance_named who c)
  where
    by_case : (o : Option ℕ) → AllByRecursion P (entries_of given (status_at job who o c))
    by_case None = if-all P given (is_filled job.instance) _ _ (allows.replied given _, tt) (allows.replied given _, tt)
    by_case (Some p) = (allows.replied given _, tt)

-- `emit`
pub emit-all : (P : Entry → Type 0) → Allows P → (given : ℕ) (request : RequestValue) (c : Chronicle) → AllByRecursion P (entries_of given (emit given request c))
emit-all P allows given request c =
    if-all P given (nat_lt (length (queue c)) max_events) _ _ (allows.queued given _, tt) (allows.replied given _, tt)

-- `start`, if what it does to an instance that isn't there is such too
pub start-all : (P : Entry → Type 0) → Allows P → ((file : JobDef) (name : Bytes) → P (Made file name)) → (given : ℕ) (its : List ℕ) (target : Target) (c : Chronicle)
    → AllByRecursion P (entries_of given (start its target c))
start-all P allows made given its (Nobody text) c = (allows.replied given _, tt)
start-all P allows made given its (Concerns job who environment) c = by_case (instance_named who c)
  where
    told : Bindings
    told = with_instance who environment

    by_case : (o : Option ℕ) → AllByRecursion P (entries_of given (start_at its job who told o c))
    by_case None =
        if-all P given (nat_lt (length (instances_of who.job c)) max_instances) (Done (start_of job who told its None c)) _
        (all-if P (nat_lt (length (instances_of who.job c)) max_instances) (Aimed (length c) Start told its ∷ Made job who.instance ∷ [])
        (allows.aimed (length c) Start told its, (made job who.instance, tt)))
        (allows.replied given _, tt)
    by_case (Some p) =
        if-all P given (is_start (goal p c)) _ (Done (start_of job who told its (Some p) c)) (allows.replied given _, tt) (start_of-all P allows job who told its p c)

-- each request, if making an instance is such too, and the signal to one that runs
pub outcome-all : (P : Entry → Type 0) → Allows P → ((file : JobDef) (name : Bytes) → P (Made file name)) → (config : Configuration) (given : ℕ) (request : RequestValue) (c : Chronicle)
    → ((p signal : ℕ) → is_running (state_of p c) ≡ true → P (Signalled p signal false)) → AllByRecursion P (entries_of given (outcome_of config given request c))
outcome-all P allows made config given request c signals = by_case request.command
  where
    target : Target
    target = target_of config request.name request.vars c

    known : Target
    known = known_target config request.name request.vars c

    by_case : (asked : Command) → AllByRecursion P (entries_of given (outcome_by asked config given request c))
    by_case command.Start = start-all P allows made given (holders_of given request.wait) target c
    by_case command.Stop = stop-all P allows given (holders_of given request.wait) request.vars known c
    by_case command.Restart = restart-all P allows given (holders_of given request.wait) target c
    by_case command.Status = status-all P allows given known c
    by_case command.List = (allows.replied given _, tt)
    by_case command.Emit = emit-all P allows given request c
    by_case command.Version = (allows.replied given _, tt)
    by_case command.Reload = reload-all P allows given known c signals
    by_case command.ReloadConfiguration = (allows.replied given _, tt)
