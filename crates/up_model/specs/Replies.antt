-- What clients are told of instances and events: the status text, and the answers to those that wait (initctl(8), status(8)).
-- Each list of entries is to be put before the chronicle, newest first.
use Rattle.std.specs.Prelude.{ℕ, Bool, true, false, ◌==◌, List, [], ◌∷◌, ◌++◌, Option, None, Some, codes, if◌then◌else◌, length}
use Rattle.up_stanza.specs.declared.process.Process.{Process}
use Rattle.up_stanza.specs.declared.process.Process.TheVariants as process
use Rattle.up_model.specs.declared.input.Input.{Input}
use Rattle.up_model.specs.declared.input.Input.TheVariants as input
use Rattle.up_model.specs.declared.request.Answer.{Answer}
use Rattle.up_model.specs.declared.request.Command.{Command}
use Rattle.up_model.specs.declared.request.Command.TheVariants as command
use Rattle.up_model.specs.declared.state.State.{State}
use Rattle.up_model.specs.declared.state.State.TheVariants as state
use Rattle.up_model.specs.declared.who.Who.{Who}
use Rattle.up_model.specs.Chronicle.{Chronicle, Entry, Given, Queued, Aimed, Restarted, Released, Replied, Outside}
use Rattle.up_model.specs.Readings.{entry_at, made_at, goal, state_of, holders, pid_of}
use Rattle.up_model.specs.Requests.{RequestValue}
use Rattle.up_model.specs.Status.{status_text}
use Rattle.up_model.specs.Values.{Bytes}

-- the process that a state orders beside main
abbrev pub own_process : State → Option Process
own_process state.PreStart = Some process.PreStart
own_process state.PostStart = Some process.PostStart
own_process state.PreStop = Some process.PreStop
own_process state.PostStop = Some process.PostStop
own_process other = None

abbrev pub pid_if : ℕ → Option Process → Chronicle → Option ℕ
pid_if instance None c = None
pid_if instance (Some its) c = pid_of instance its c

abbrev pub status_as : Option Who → ℕ → Chronicle → Bytes
status_as None instance c = []
status_as (Some who) instance c =
    status_text who (goal instance c) (state_of instance c) (pid_of instance process.Main c)
    (pid_if instance (own_process (state_of instance c)) c)

-- the status text of the instance that was made at a place
abbrev pub status_of : ℕ → Chronicle → Bytes
status_of instance c = status_as (made_at instance c) instance c

abbrev pub request_in : Option Entry → Option RequestValue
request_in (Some (Given (input.Request id request))) = Some request
request_in other = None

-- the request that was given at a place
abbrev pub request_at : ℕ → Chronicle → Option RequestValue
request_at place c = request_in (entry_at place c)

-- what a client is told that waited in vain
abbrev pub failed_text : Command → Bytes
failed_text command.Start = codes "Job failed to start"
failed_text command.Stop = codes "Job failed while stopping"
failed_text command.Restart = codes "Job failed to restart"
failed_text other = codes "Event failed"

-- the answer to a client that waited: what it waited for failed, or this is told
abbrev pub answer_to : Command → (failed : Bool) → Bytes → Answer
answer_to asked true told = record { ok = false; text = failed_text asked }
answer_to asked false told = record { ok = true; text = told }

-- an answer, if it is a request that waited, and not an event
abbrev pub answering_one : ℕ → Option RequestValue → (failed : Bool) → Bytes → List Entry
answering_one place None failed told = []
answering_one place (Some request) failed told = Replied place (answer_to request.command failed told) ∷ []

-- the answers to those of the holders that are requests
abbrev pub answering : (holders : List ℕ) → (failed : Bool) → Bytes → Chronicle → List Entry
answering [] failed told c = []
answering (place ∷ places) failed told c =
    answering places failed told c ++ answering_one place (request_at place c) failed told

-- an instance lets its holders go, and clients that waited for it are answered
abbrev pub releasing : ℕ → (failed : Bool) → Chronicle → List Entry
releasing instance failed c = answering (holders instance c) failed (status_of instance c) c
    ++ Released instance failed ∷ []

abbrev pub if_waits : ℕ → Option RequestValue → Option ℕ
if_waits place None = None
if_waits place (Some request) = if request.wait then Some place else None

abbrev pub waiter_in : Option Entry → Chronicle → Option ℕ
waiter_in (Some (Queued (Outside given) event)) c = if_waits given (request_at given c)
waiter_in other c = None

-- the request that waits for the event that was queued at a place
abbrev pub waiter : (event : ℕ) → Chronicle → Option ℕ
waiter event c = waiter_in (entry_at event c) c

-- the answer to the client that waits for an event
abbrev pub answering_waiter : Option ℕ → (spoilt : Bool) → List Entry
answering_waiter None spoilt = []
answering_waiter (Some request) spoilt = Replied request (answer_to command.Emit spoilt []) ∷ []

-- an input at a place, if it is a request that doesn't wait
abbrev pub if_hurried : ℕ → Input → Option ℕ
if_hurried place (input.Request id request) = if request.wait then None else Some place
if_hurried place other = None

-- this step's request, if it doesn't wait
abbrev pub asked : Chronicle → Option ℕ
asked [] = None
asked (Given given ∷ c) = if_hurried (length c) given
asked (entry ∷ c) = asked c

-- whether a request was answered in this step
abbrev pub was_answered : ℕ → Chronicle → Bool
was_answered request [] = false
was_answered request (Given given ∷ c) = false
was_answered request (Replied other answer ∷ c) = if other == request then true else was_answered request c
was_answered request (entry ∷ c) = was_answered request c

abbrev pub unless_answered : Option ℕ → Chronicle → Option ℕ
unless_answered None c = None
unless_answered (Some request) c = if was_answered request c then None else Some request

-- this step's request, if it doesn't wait and isn't answered yet
abbrev pub unanswered : Chronicle → Option ℕ
unanswered c = unless_answered (asked c) c

-- the instance that this step's request acted on
abbrev pub request_instance : Chronicle → Option ℕ
request_instance [] = None
request_instance (Given given ∷ c) = None
request_instance (Aimed instance aim environment its ∷ c) = Some instance
request_instance (Restarted instance its ∷ c) = Some instance
request_instance (entry ∷ c) = request_instance c

abbrev pub status_if : Option ℕ → Chronicle → Bytes
status_if None c = []
status_if (Some instance) c = status_of instance c

abbrev pub answering_hurried : Option ℕ → Chronicle → List Entry
answering_hurried None c = []
answering_hurried (Some request) c =
    Replied request (record { ok = true; text = status_if (request_instance c) c }) ∷ []

-- a step ends with the answer to a client that didn't wait
abbrev pub answering_last : Chronicle → List Entry
answering_last c = answering_hurried (unanswered c) c
