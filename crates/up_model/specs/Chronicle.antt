-- The chronicle: what happened since the start, newest first. It is all that a run keeps beside its configuration.
use Rattle.std.specs.Prelude.{ℕ, Bool, List}
use Rattle.up_conf.specs.declared.job.JobDef.{JobDef}
use Rattle.up_stanza.specs.declared.process.Process.{Process}
use Rattle.up_model.specs.declared.event.Event.{Event}
use Rattle.up_model.specs.declared.failure.Failure.{Failure}
use Rattle.up_model.specs.declared.input.Input.{Input}
use Rattle.up_model.specs.declared.request.Answer.{Answer}
use Rattle.up_model.specs.declared.state.Goal.{Goal}
use Rattle.up_model.specs.declared.state.State.{State}
use Rattle.up_model.specs.Values.{Bytes, Bindings}

-- An entry's place is the number of entries older than it: it is known when the entry is added, and never changes. An event, an
-- instance or a request is named by the place where it was queued, made or given. A job is named by its name.

-- whose expression it is: a job's `start on`, or the `stop on` of an instance (init(5))
pub data Expression : Type 0 where
  StartOn : (job : Bytes) → Expression
  StopOn : (instance : ℕ) → Expression

-- what an event comes from: the input that was given at a place, an instance that entered a state, or a spoilt event
pub data Origin : Type 0 where
  Outside : (given : ℕ) → Origin
  Entering : (instance : ℕ) → (state : State) → Origin
  Spoilt : (event : ℕ) → Origin

pub data Entry : Type 0 where
  -- an input was given
  Given : (input : Input) → Entry
  -- an event went to the end of the queue
  Queued : (origin : Origin) → (event : Event) → Entry
  -- a turn took the event up
  Handled : (event : ℕ) → Entry
  -- an event was offered to an expression
  Offered : (expression : Expression) → (event : ℕ) → Entry
  -- an expression came true by these events and forgot what it had seen
  Fired : (expression : Expression) → (taken : List ℕ) → Entry
  -- an event left the queue
  Finished : (event : ℕ) → Entry
  -- a job got an instance of this name, by this file of it
  Made : (file : JobDef) → (name : Bytes) → Entry
  -- an instance's goal changed, with the environment and the holders that go with it
  Aimed : (instance : ℕ) → (goal : Goal) → (environment : Bindings) → (holders : List ℕ) → Entry
  -- a restart was taken
  Restarted : (instance : ℕ) → (holders : List ℕ) → Entry
  -- an instance let its holders go
  Released : (instance : ℕ) → (failed : Bool) → Entry
  -- an instance failed
  Failed : (instance : ℕ) → (failure : Failure) → Entry
  -- main was respawned, at this reading of the clock
  Respawned : (instance : ℕ) → (moment : ℕ) → Entry
  -- an instance entered a state
  Entered : (instance : ℕ) → (state : State) → Entry
  -- a process was ordered
  Ordered : (instance : ℕ) → (process : Process) → Entry
  -- main got a signal: from the timer, or else on entering killed or by a client's reload
  Signalled : (instance : ℕ) → (signal : ℕ) → (by_timer : Bool) → Entry
  -- a request was answered
  Replied : (request : ℕ) → (answer : Answer) → Entry
  -- these jobs came into force in place of those before
  Loaded : (jobs : List JobDef) → Entry

abbrev pub Chronicle : Type 0
Chronicle = List Entry
