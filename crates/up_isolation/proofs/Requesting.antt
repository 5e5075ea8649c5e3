-- Requests.
use Rattle.std.proofs.Common.{◌≡◌, ℕ, ◌<◌, Bool, true, false, ◌&&◌, List, [], ◌∷◌, ◌++◌, Option, None, Some}
use Rattle.std.proofs.Common.{length, if◌then◌else◌, bytes_eq, refl, sym, ◌∙◌, ap, subst, arith, eq-eqb}
use Rattle.std.specs.List.{AllByRecursion}
use Rattle.up_conf.specs.declared.job.JobDef.{JobDef}
use Rattle.up_model.specs.declared.request.Answer.{Answer}
use Rattle.up_model.specs.declared.who.Who.{Who}
use Rattle.up_model.specs.Chronicle.{Chronicle, Entry, Given, Restarted, Signalled, Replied}
use Rattle.up_model.specs.Configuration.{Configuration}
use Rattle.up_model.specs.Instances.{instances_of}
use Rattle.up_model.specs.Replies.{request_at}
use Rattle.up_model.specs.Values.{Bytes, Bindings}
use Rattle.up_model.proofs.FileLaws.{in_force-name, known-name, IsCalled, target-called}
use Rattle.up_isolation.specs.Views.{is_of, was_asked}
use Rattle.up_isolation.proofs.Likes.{Fair, fair_more}
use Rattle.std.proofs.Common.{append_assoc}
use Rattle.up_model.specs.declared.input.Input.{Input}
use Rattle.up_model.specs.declared.input.Input.TheVariants as input
use Rattle.up_model.specs.Due.{effect}
use Rattle.up_model.specs.Instances.{instance_named}
use Rattle.up_model.specs.Replies.{asked}
use Rattle.up_model.proofs.NameLaws.{made-named}
use Rattle.up_isolation.proofs.Likes.{IsOther}
use Rattle.up_isolation.proofs.Ends.{IsMute}
use Rattle.up_isolation.proofs.Resting.{AreApart}
use Rattle.std.proofs.Common.{nat_lt}
use Rattle.up_text.specs.Expansion.{Expansion, Expands, Lacks, Malformed, expand}
use Rattle.up_text.specs.Scripts.{is_filled}
use Rattle.up_model.specs.declared.request.Command.{Command}
use Rattle.up_model.specs.declared.request.Command.TheVariants as command
use Rattle.up_model.specs.Commands.{Outcome, Done, Target, Nobody, Concerns, target_as, request_env}
use Rattle.up_model.specs.Commands.{target_in, target_of, start_at, start, stop_at, stop, is_running}
use Rattle.up_model.specs.Commands.{restart_at, restart, reloading, reload_at, reload, status_at, status}
use Rattle.up_model.specs.Commands.{max_events, holders_of}
use Rattle.up_model.specs.Commands.{outcome_by, outcome_of, entries_of}
use Rattle.up_model.specs.Events.{with_instance}
use Rattle.up_model.specs.Files.{own_file}
use Rattle.up_model.specs.Offers.{max_instances, start_of, stop_of}
use Rattle.up_model.specs.Predicates.{is_start}
use Rattle.up_model.specs.Queue.{queue}
use Rattle.up_stanza.specs.declared.process.Process.TheVariants.{Main}
use Rattle.up_model.specs.Readings.{goal, state_of, lives}
use Rattle.up_model.specs.Replies.{request_in, releasing}
use Rattle.up_model.specs.Requests.{RequestValue}
use Rattle.up_model.proofs.ReplyLaws.{Allows, outcome-all}
use Rattle.up_isolation.specs.Views.{names_job, asks}
use Rattle.up_isolation.proofs.Likes.{AreForeign}
use Rattle.up_isolation.proofs.Releases.{entry-append}
use Rattle.up_isolation.proofs.Foreign.{strange-start_of, strange-releasing, other-later, all-foreign-later}
use Rattle.up_isolation.proofs.Resting.{strange-apart}
use Rattle.up_isolation.proofs.Alone.{Effected, Base, unnoticed}
use Rattle.up_model.specs.Files.{file_in_force, known_file}
use Rattle.up_model.specs.Commands.{known_target}

-- whom a request names bears its name
in-name : (config : Configuration) (name : Bytes) (file : Option JobDef) (vars : Bindings) (c : Chronicle) (def : JobDef)
    (who : Who) (environment : Bindings) → ((its : JobDef) → file ≡ Some its → its.name ≡ name)
    → target_in config name file vars c ≡ Concerns def who environment → who.job ≡ name
in-name config name None vars c def who environment named is = absurd (cc)
in-name config name (Some its) vars c def who environment named is =
    by_text (expand its.instance (request_env config its vars)) is
  where
    by_text : (x : Expansion) → target_as config its vars x c ≡ Concerns def who environment → who.job ≡ name
    by_text (Expands text) is =
        let whom : record { job = its.name; instance = text } ≡ who = cc in
        ap (λ (w : Who). w.job) (sym whom) ∙ named its refl
    by_text (Lacks key) is = absurd (cc)
    by_text Malformed is = absurd (cc)

pub target-name : (config : Configuration) (name : Bytes) (vars : Bindings) (c : Chronicle) (def : JobDef)
    (who : Who) (environment : Bindings) → target_of config name vars c ≡ Concerns def who environment
    → who.job ≡ name
target-name config name vars c def who environment is =
    in-name config name (file_in_force config name c) vars c def who environment (in_force-name config name c) is

pub known-target-name : (config : Configuration) (name : Bytes) (vars : Bindings) (c : Chronicle) (def : JobDef)
    (who : Who) (environment : Bindings) → known_target config name vars c ≡ Concerns def who environment
    → who.job ≡ name
known-target-name config name vars c def who environment is =
    in-name config name (known_file config name c) vars c def who environment (known-name config name c) is

-- and its file is the one in force of that name
pub target-file : (config : Configuration) (name : Bytes) (vars : Bindings) (c : Chronicle) (def : JobDef)
    (who : Who) (environment : Bindings) → target_of config name vars c ≡ Concerns def who environment
    → file_in_force config name c ≡ Some def
target-file config name vars c def who environment is = by_job (file_in_force config name c) is
  where
    by_text : (its : JobDef) (x : Expansion)
        → target_as config its vars x c ≡ Concerns def who environment → its ≡ def
    by_text its (Expands text) is = cc
    by_text its (Lacks key) is = absurd (cc)
    by_text its Malformed is = absurd (cc)

    by_job : (o : Option JobDef) → target_in config name o vars c ≡ Concerns def who environment → o ≡ Some def
    by_job None is = absurd (cc)
    by_job (Some its) is = ap Some (by_text its (expand its.instance (request_env config its vars)) is)

-- a request that doesn't name the job
other-reply : (job : Bytes) (config : Configuration) (given : ℕ) (answer : Answer) (c : Chronicle)
    → was_asked job (request_at given c) ≡ false → AreApart job config (Replied given answer ∷ []) c
other-reply job config given answer c other = (other, tt)

other-if : (job : Bytes) (config : Configuration) (given : ℕ) (b : Bool) (one two : Outcome) (c : Chronicle)
    → AreApart job config (entries_of given one) c → AreApart job config (entries_of given two) c
    → AreApart job config (entries_of given (if b then one else two)) c
other-if job config given true one two c are other = are
other-if job config given false one two c are other = other

other-start : (job : Bytes) (config : Configuration) (given : ℕ) (its : List ℕ) (target : Target)
    (c : Chronicle) → Fair job c → was_asked job (request_at given c) ≡ false → AreForeign job c its
    → ((def : JobDef) (who : Who) (environment : Bindings) → target ≡ Concerns def who environment
    → bytes_eq who.job job ≡ false) → IsCalled target
    → AreApart job config (entries_of given (start its target c)) c
other-start job config given its (Nobody text) c fair reply are other named = (reply, tt)
other-start job config given its (Concerns def who environment) c fair reply are other named =
    by_case (instance_named who c) refl
  where
    by_case : (o : Option ℕ) → instance_named who c ≡ o
        → AreApart job config (entries_of given (start_at its def who (with_instance who environment) o c)) c
    by_case None is =
        other-if job config given (nat_lt (length (instances_of who.job c)) max_instances)
        (Done (start_of def who (with_instance who environment) its None c)) _ c
        (strange-apart job config (start_of def who (with_instance who environment) its None c) c
        (strange-start_of job def who (with_instance who environment) its None c fair named
        (other def who environment refl) are is)) (reply, tt)
    by_case (Some i) is =
        other-if job config given (is_start (goal i c)) _
        (Done (start_of def who (with_instance who environment) its (Some i) c)) c (reply, tt)
        (strange-apart job config (start_of def who (with_instance who environment) its (Some i) c) c
        (strange-start_of job def who (with_instance who environment) its (Some i) c fair named
        (other def who environment refl) are is))

other-of : (job : Bytes) (who : Who) (c : Chronicle) (i : ℕ) → bytes_eq who.job job ≡ false
    → instance_named who c ≡ Some i → IsOther job i c
other-of job who c i other some =
    let made = made-named who i c some in (ap (is_of job) made.1 ∙ other, made.0)

other-stop : (job : Bytes) (config : Configuration) (given : ℕ) (its : List ℕ) (vars : Bindings)
    (target : Target) (c : Chronicle) → Fair job c → was_asked job (request_at given c) ≡ false
    → AreForeign job c its
    → ((def : JobDef) (who : Who) (environment : Bindings) → target ≡ Concerns def who environment
    → bytes_eq who.job job ≡ false)
    → AreApart job config (entries_of given (stop its vars target c)) c
other-stop job config given its vars (Nobody text) c fair reply are other = (reply, tt)
other-stop job config given its vars (Concerns def who environment) c fair reply are other =
    by_case (instance_named who c) refl
  where
    by_case : (o : Option ℕ) → instance_named who c ≡ o
        → AreApart job config (entries_of given (stop_at its vars who o c)) c
    by_case None is = (reply, tt)
    by_case (Some i) is =
        let whose = other-of job who c i (other def who environment refl) is in
        other-if job config given (is_start (goal i c)) (Done (stop_of i vars its c)) _ c (
          (
            other-later job i (releasing i false c) c whose,
            all-foreign-later job (releasing i false c) c its
                are,
          ),
          strange-apart job config (releasing i false c) c (strange-releasing job i false c fair whose.0),
        ) (reply, tt)

other-restart : (job : Bytes) (config : Configuration) (given : ℕ) (its : List ℕ) (target : Target)
    (c : Chronicle) → Fair job c → was_asked job (request_at given c) ≡ false → AreForeign job c its
    → ((def : JobDef) (who : Who) (environment : Bindings) → target ≡ Concerns def who environment
    → bytes_eq who.job job ≡ false)
    → AreApart job config (entries_of given (restart its target c)) c
other-restart job config given its (Nobody text) c fair reply are other = (reply, tt)
other-restart job config given its (Concerns def who environment) c fair reply are other =
    by_case (instance_named who c) refl
  where
    by_case : (o : Option ℕ) → instance_named who c ≡ o
        → AreApart job config (entries_of given (restart_at its who o c)) c
    by_case None is = (reply, tt)
    by_case (Some i) is =
        let whose = other-of job who c i (other def who environment refl) is in
        other-if job config given (is_running (state_of i c)) (Done (Restarted i its ∷ releasing i false c)) _
        c (
          (
            other-later job i (releasing i false c) c whose,
            all-foreign-later job (releasing i false c) c its
                are,
          ),
          strange-apart job config (releasing i false c) c (strange-releasing job i false c fair whose.0),
        ) (reply, tt)

other-reload : (job : Bytes) (config : Configuration) (given : ℕ) (target : Target) (c : Chronicle)
    → given < length c → was_asked job (request_at given c) ≡ false
    → ((def : JobDef) (who : Who) (environment : Bindings) → target ≡ Concerns def who environment
    → bytes_eq who.job job ≡ false)
    → AreApart job config (entries_of given (reload given target c)) c
other-reload job config given (Nobody text) c older reply other = (reply, tt)
other-reload job config given (Concerns def who environment) c older reply other =
    by_case (own_file who c) (instance_named who c) refl
  where
    by_case : (file : Option JobDef) (o : Option ℕ) → instance_named who c ≡ o
        → AreApart job config (entries_of given (reload_at given file who o c)) c
    by_case file None is = (reply, tt)
    by_case None (Some i) is = (reply, tt)
    by_case (Some its) (Some i) is =
        let whose = other-of job who c i (other def who environment refl) is in
        let later = entry-append given (Signalled i its.reload_signal false ∷ []) c older in
        other-if job config given (is_running (state_of i c) && lives i Main c)
        (Done (reloading given i its.reload_signal)) _ c
        (ap (λ o. was_asked job (request_in o)) later.1 ∙ reply, (whose, tt)) (reply, tt)

other-status : (job : Bytes) (config : Configuration) (given : ℕ) (target : Target) (c : Chronicle)
    → was_asked job (request_at given c) ≡ false → AreApart job config (entries_of given (status target c)) c
other-status job config given (Nobody text) c reply = (reply, tt)
other-status job config given (Concerns def who environment) c reply = by_case (instance_named who c)
  where
    by_case : (o : Option ℕ) → AreApart job config (entries_of given (status_at def who o c)) c
    by_case None = other-if job config given (is_filled def.instance) _ _ c (reply, tt) (reply, tt)
    by_case (Some i) = (reply, tt)

pub mute-allows : Allows IsMute
mute-allows = record {
  replied = λ request answer. tt;
  released = λ i failed. tt;
  aimed = λ i aim environment
      its. tt;
  restarted = λ i its. tt;
  queued = λ given event. tt;
}

other-outcome : (job : Bytes) (config : Configuration) (given : ℕ) (request : RequestValue) (c : Chronicle)
    → Fair job c → given < length c → request_at given c ≡ Some request → asks job request ≡ false
    → AreApart job config (entries_of given (outcome_of config given request c)) c
other-outcome job config given request c fair older is other = by_command request.command refl
  where
    reply : was_asked job (request_at given c) ≡ false
    reply = ap (was_asked job) is ∙ other

    are : (wait : Bool) → AreForeign job c (holders_of given wait)
    are true = ((older, reply), tt)
    are false = tt

    differs : (b : Bool) → b ≡ true → (b && bytes_eq request.name job) ≡ false
        → bytes_eq request.name job ≡ false
    differs true names none = none
    differs false names none = absurd (cc)

    whose : (asked : Command) → request.command ≡ asked → names_job asked ≡ true
        → (def : JobDef) (who : Who) (environment : Bindings)
        → target_of config request.name request.vars c ≡ Concerns def who environment
        → bytes_eq who.job job ≡ false
    whose asked same names def who environment target =
        ap (λ name. bytes_eq name job) (target-name config request.name request.vars c def who environment
        target)
        ∙ differs (names_job request.command) (ap names_job same ∙ names) other

    whose-known : (asked : Command) → request.command ≡ asked → names_job asked ≡ true
        → (def : JobDef) (who : Who) (environment : Bindings)
        → known_target config request.name request.vars c ≡ Concerns def who environment
        → bytes_eq who.job job ≡ false
    whose-known asked same names def who environment target =
        ap (λ name. bytes_eq name job) (known-target-name config request.name request.vars c def who environment
        target)
        ∙ differs (names_job request.command) (ap names_job same ∙ names) other

    by_command : (asked : Command) → request.command ≡ asked
        → AreApart job config (entries_of given (outcome_by asked config given request c)) c
    by_command command.Start same = other-start job config given (holders_of given request.wait)
        (target_of config request.name request.vars c) c fair reply (are request.wait)
        (whose command.Start same refl) (target-called config request.name request.vars c)
    by_command command.Stop same = other-stop job config given (holders_of given request.wait) request.vars
        (known_target config request.name request.vars c) c fair reply (are request.wait)
        (whose-known command.Stop same refl)
    by_command command.Restart same = other-restart job config given (holders_of given request.wait)
        (target_of config request.name request.vars c) c fair reply (are request.wait)
        (whose command.Restart same refl)
    by_command command.Status same =
        other-status job config given (known_target config request.name request.vars c) c reply
    by_command command.List same = (reply, tt)
    by_command command.Emit same = other-if job config given (nat_lt (length (queue c)) max_events) _ _ c
        ((older, reply), tt) (reply, tt)
    by_command command.Version same = (reply, tt)
    by_command command.Reload same = other-reload job config given
        (known_target config request.name request.vars c) c older reply (whose-known command.Reload same refl)
    by_command command.ReloadConfiguration same = (reply, tt)

pub effect-other : (job : Bytes) (config : Configuration) (id : ℕ) (request : RequestValue) (c d : Chronicle)
    → asks job request ≡ false → Base job config c d
    → Effected job config c d (effect config (input.Request id request) c ++ c)
unfolding effect
effect-other job config id request c d other base = rw append_assoc
    (unnoticed job config g es c d base other mute are (λ r some. by_asked r request.wait some))
  where
    g : Input
    g = input.Request id request

    e : Chronicle
    e = Given g ∷ c

    es : List Entry
    es = entries_of (length c) (outcome_of config (length c) request e)

    here : request_at (length c) e ≡ Some request
    here = rw (eq-eqb (length c) (length c) refl) refl

    mute : AllByRecursion IsMute es
    mute = outcome-all IsMute mute-allows (λ its name. tt) config (length c) request e (λ i signal runs. tt)

    are : AreApart job config es e
    are = other-outcome job config (length c) request e (fair_more job (Given g) c base.like.fair tt)
        (omega arith) here other

    by_asked : (r : ℕ) (b : Bool) → (if b then None else Some (length c)) ≡ Some r
        → (r < length (es ++ e)) × (was_asked job (request_at r (es ++ e)) ≡ false)
    by_asked r true some = absurd (cc)
    by_asked r false some =
        let same : length c ≡ r = cc in
        let more = entry-append (length c) es e (omega arith) in
        subst (λ k. (k < length (es ++ e)) × (was_asked job (request_at k (es ++ e)) ≡ false)) same
        (more.0, ap (λ o. was_asked job (request_in o)) more.1 ∙ ap (was_asked job) here ∙ other)
