-- What the code of requests hands on.
use Rattle.std.specs.Prelude.{◌≡◌, ℕ, Bool, true, false, List, [], ◌∷◌, ◌++◌, if◌then◌else◌, length, Option, None, Some, ⊤}
use Rattle.up_engine.specs.declared.due.Concern.{Concern}
use Rattle.up_engine.specs.declared.target.Target.{Target}
use Rattle.up_engine.specs.declared.target.Target.TheVariants as target
use Rattle.up_model.specs.declared.request.Answer.{Answer}
use Rattle.up_engine.specs.Effects.{ActsOn}
use Rattle.up_book.specs.declared.holders.Holders.{Holders}
use Rattle.up_book.specs.Histories.{HoldersAt}
use Rattle.up_book.specs.Keys.{job_at, name_at, instance_place, request_place}
use Rattle.up_book.specs.Views.{Places}
use Rattle.up_job.specs.declared.instance_key.InstanceKey.{InstanceKey}
use Rattle.up_model.specs.declared.input.Input.{Input}
use Rattle.up_model.specs.declared.input.Input.TheVariants as input
use Rattle.up_model.specs.Chronicle.{Chronicle, Entry, Given}
use Rattle.up_model.specs.Requests.{RequestValue}
use Rattle.up_model.specs.Commands as model
use Rattle.up_model.specs.Configuration.{Configuration}
use Rattle.up_model.specs.Events.{with_instance}
use Rattle.up_model.specs.Instances.{instance_named}
use Rattle.up_model.specs.Offers.{start_of}
use Rattle.up_model.specs.Values.{Bytes, Bindings}
use Rattle.up_model.specs.declared.who.Who.{Who}
use Rattle.up_conf.specs.declared.job.JobDef.{JobDef}

-- whom a request names, as the model says it
abbrev pub target_of : Target → model.Target
target_of (target.Nobody text) = model.Nobody text
target_of (target.Concerns index file who environment) = model.Concerns file.now who environment

-- whom a request names has the index of its job, which is the one that it names
abbrev pub IsIndexed : Configuration → Target → Type 0
IsIndexed config (target.Nobody text) = ⊤
IsIndexed config (target.Concerns index file who environment) =
    (name_at config index ≡ Some who.job) × (job_at config index ≡ Some file.now)

-- an outcome, unless it is refused with a text
abbrev pub unless : Option Bytes → model.Outcome → model.Outcome
unless None outcome = outcome
unless (Some text) outcome = model.Refused text

-- a start of an instance, or of a new one, is refused with this text, and else done, whatever else it is asked with
abbrev pub RefusesStart : Option Bytes → Who → (instance : Option ℕ) → Chronicle → Type 0
RefusesStart text who instance c = (places : List ℕ) (job : JobDef) (environment : Bindings)
    → model.start_at places job who environment instance c ≡ unless text (model.Done (start_of job who environment places instance c))

-- what a request to start the instance of a name comes to, in this environment and with what belongs to the instance
abbrev pub outcome_of_start : JobDef → Who → Bindings → (places : List ℕ) → Chronicle → model.Outcome
outcome_of_start file who environment places c = model.start_at places file who (with_instance who environment) (instance_named who c) c

-- the client of the last input waits for its request, if that is so
abbrev pub IsClientWaiting : Bool → Input → Chronicle → Type 0
IsClientWaiting wait given c = request_place (Given given ∷ c) ≡ (if wait then Some (length c) else None)

-- the answer that an outcome is told at once
abbrev pub answer_of : model.Outcome → Answer
answer_of (model.Refused text) = record { ok = false; text = text }
answer_of (model.Told text) = record { ok = true; text = text }
answer_of (model.Done entries) = record { ok = true; text = [] }

-- the history after a step's input, with the entries of an outcome that knows where the input was given
abbrev pub with_outcome : Input → ((given : ℕ) → Chronicle → model.Outcome) → Chronicle → Chronicle
with_outcome given outcome c = model.entries_of (length c) (outcome (length c) (Given given ∷ c)) ++ Given given ∷ c

-- a book has done what a request comes to: it stood for a history that ended in an input, and stands for that one with the outcome
abbrev pub Does : (old new : Configuration → Chronicle → Type 0) → Configuration → ((given : ℕ) → Chronicle → model.Outcome) → Type 0
Does old new config outcome = (c : Chronicle) (given : Input) → old config (Given given ∷ c) → new config (with_outcome given outcome c)

-- so it has to the instance of a key, by where that was made
abbrev pub DoesTo : InstanceKey → (old new : Configuration → Chronicle → Type 0) → Configuration
    → ((instance given : ℕ) → Chronicle → model.Outcome) → Type 0
DoesTo key old new config outcome = (c : Chronicle) (given : Input) (i : ℕ) → old config (Given given ∷ c)
    → instance_place config (Given given ∷ c) key ≡ Some i → new config (with_outcome given (outcome i) c)

-- a book has told entries that go by that place, and by where the input was given
abbrev pub Tells : InstanceKey → (old new : Configuration → Chronicle → Type 0) → Configuration → ((instance given : ℕ) → List Entry) → Type 0
Tells key old new config entries = (c : Chronicle) (given : Input) (i : ℕ) → old config (Given given ∷ c)
    → instance_place config (Given given ∷ c) key ≡ Some i → new config (entries i (length c) ++ Given given ∷ c)

-- a book has done what a request comes to, for these holders, by where they were queued or given
abbrev pub DoesBy : Holders → (events : Chronicle → Places) → (old new : Configuration → Chronicle → Type 0) → Configuration
    → ((places : List ℕ) → Chronicle → model.Outcome) → Type 0
DoesBy holders events old new config outcome = (c : Chronicle) (given : Input) (places : List ℕ) → old config (Given given ∷ c)
    → HoldersAt events holders places (Given given ∷ c) → new config (with_outcome given (λ place. outcome places) c)

-- and both
abbrev pub DoesToBy : InstanceKey → Holders → (events : Chronicle → Places) → (old new : Configuration → Chronicle → Type 0) → Configuration
    → ((instance : ℕ) → (places : List ℕ) → Chronicle → model.Outcome) → Type 0
DoesToBy key holders events old new config outcome = (c : Chronicle) (given : Input) (i : ℕ) (places : List ℕ) → old config (Given given ∷ c)
    → instance_place config (Given given ∷ c) key ≡ Some i → HoldersAt events holders places (Given given ∷ c)
    → new config (with_outcome given (λ place. outcome i places) c)

-- what it then has done concerns these, if a request was the input
abbrev pub ActsBy : Holders → (events : Chronicle → Places) → (old : Configuration → Chronicle → Type 0) → Configuration → Concern
    → ((places : List ℕ) → Chronicle → model.Outcome) → Type 0
ActsBy holders events old config concern outcome = (c : Chronicle) (id : ℕ) (request : RequestValue) (places : List ℕ)
    → old config (Given (input.Request id request) ∷ c) → HoldersAt events holders places (Given (input.Request id request) ∷ c)
    → ActsOn concern config c (with_outcome (input.Request id request) (λ place. outcome places) c)
