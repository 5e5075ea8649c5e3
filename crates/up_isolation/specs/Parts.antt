-- The part of a chronicle that is about one job: what came to its notice, and all other entries on its
-- expressions, instances and requests. No place is named in it.
use Rattle.std.specs.Prelude.{ℕ, Bool, true, false, List, [], ◌∷◌, ◌++◌, Option, None, Some, if◌then◌else◌}
use Rattle.std.specs.Str.{bytes_eq}
use Rattle.up_stanza.specs.declared.process.Process.{Process}
use Rattle.up_model.specs.declared.event.Event.{Event}
use Rattle.up_model.specs.declared.failure.Failure.{Failure}
use Rattle.up_model.specs.declared.input.Input.TheVariants as input
use Rattle.up_model.specs.declared.request.Answer.{Answer}
use Rattle.up_model.specs.declared.state.Goal.{Goal}
use Rattle.up_model.specs.declared.state.State.{State}
use Rattle.up_model.specs.declared.who.Who.{Who}
use Rattle.up_model.specs.Chronicle as entry
use Rattle.up_model.specs.Chronicle.{Chronicle, Entry, Expression}
use Rattle.up_model.specs.Configuration.{Configuration}
use Rattle.up_model.specs.Loads.{in_force}
use Rattle.up_model.specs.Readings.{entry_at, event_at, made_at}
use Rattle.up_model.specs.Replies.{request_at}
use Rattle.up_model.specs.Requests.{RequestValue}
use Rattle.up_model.specs.Values.{Bytes, Bindings}
use Rattle.up_isolation.specs.Views.{Notice, hears, notices, owns, was_asked}

-- what a place stands for, beside an instance: an event, a request, or neither
pub data Content : Type 0 where
  AnEvent : (event : Event) → Content
  ARequest : (id : ℕ) → (request : RequestValue) → Content
  NoContent : Content

abbrev pub content_of : Option Entry → Content
content_of (Some (entry.Queued origin event)) = AnEvent event
content_of (Some (entry.Given (input.Request id request))) = ARequest id request
content_of other = NoContent

abbrev pub content : ℕ → Chronicle → Content
content place c = content_of (entry_at place c)

abbrev pub contents : List ℕ → Chronicle → List Content
contents [] c = []
contents (place ∷ places) c = content place c ∷ contents places c

-- whose expression it is: the job's `start on`, or the `stop on` of its instance of this name
pub data OwnExpression : Type 0 where
  StartOn : OwnExpression
  StopOn : (instance : Bytes) → OwnExpression

pub data Item : Type 0 where
  -- what came to its notice
  Noticed : (notice : Notice) → Item
  -- each of these is the entry of the same name
  Queued : (instance : Bytes) → (state : State) → (event : Event) → Item
  Offered : (expression : OwnExpression) → (event : Content) → Item
  Fired : (expression : OwnExpression) → (taken : List Content) → Item
  Made : (name : Bytes) → Item
  Aimed : (instance : Bytes) → (goal : Goal) → (environment : Bindings) → (holders : List Content) → Item
  Restarted : (instance : Bytes) → (holders : List Content) → Item
  Released : (instance : Bytes) → (failed : Bool) → Item
  Failed : (instance : Bytes) → (failure : Failure) → Item
  Respawned : (instance : Bytes) → (moment : ℕ) → Item
  Entered : (instance : Bytes) → (state : State) → Item
  Ordered : (instance : Bytes) → (process : Process) → Item
  Signalled : (instance : Bytes) → (signal : ℕ) → (by_timer : Bool) → Item
  Replied : (request : Content) → (answer : Answer) → Item

abbrev pub noticed : List Notice → List Item
noticed [] = []
noticed (notice ∷ notices) = Noticed notice ∷ noticed notices

abbrev pub items_if : Bool → Item → List Item
items_if true item = item ∷ []
items_if false item = []

-- the instance's name in its job
abbrev pub name_in : Option Who → Bytes
name_in None = []
name_in (Some who) = who.instance

abbrev pub name_at : ℕ → Chronicle → Bytes
name_at instance c = name_in (made_at instance c)

abbrev pub owns_expression : Bytes → Expression → Chronicle → Bool
owns_expression job (entry.StartOn its) c = bytes_eq its job
owns_expression job (entry.StopOn instance) c = owns job instance c

abbrev pub own_expression : Expression → Chronicle → OwnExpression
own_expression (entry.StartOn its) c = StartOn
own_expression (entry.StopOn instance) c = StopOn (name_at instance c)

abbrev pub hears_event : Bytes → Configuration → Option Event → Chronicle → Bool
hears_event job config None c = false
hears_event job config (Some event) c = hears job config event.name c

-- the entries beside the view
abbrev pub items : Bytes → Configuration → Entry → Chronicle → List Item
items job config (entry.Queued (entry.Entering instance state) event) c =
    items_if (owns job instance c) (Queued (name_at instance c) state event)
items job config (entry.Offered expression event) c =
    if owns_expression job expression c then items_if (hears_event job config (event_at event c) c)
    (Offered (own_expression expression c) (content event c)) else []
items job config (entry.Fired expression taken) c =
    items_if (owns_expression job expression c) (Fired (own_expression expression c) (contents taken c))
items job config (entry.Made file name) c = items_if (bytes_eq file.name job) (Made name)
items job config (entry.Aimed instance goal environment holders) c =
    items_if (owns job instance c) (Aimed (name_at instance c) goal environment (contents holders c))
items job config (entry.Restarted instance holders) c =
    items_if (owns job instance c) (Restarted (name_at instance c) (contents holders c))
items job config (entry.Released instance failed) c =
    items_if (owns job instance c) (Released (name_at instance c) failed)
items job config (entry.Failed instance failure) c =
    items_if (owns job instance c) (Failed (name_at instance c) failure)
items job config (entry.Respawned instance moment) c =
    items_if (owns job instance c) (Respawned (name_at instance c) moment)
items job config (entry.Entered instance state) c =
    items_if (owns job instance c) (Entered (name_at instance c) state)
items job config (entry.Ordered instance process) c =
    items_if (owns job instance c) (Ordered (name_at instance c) process)
items job config (entry.Signalled instance signal by_timer) c =
    items_if (owns job instance c) (Signalled (name_at instance c) signal by_timer)
items job config (entry.Replied request answer) c =
    items_if (was_asked job (request_at request c)) (Replied (content request c) answer)
items job config other c = []

-- the part in a run that started with a configuration, newest first
unfoldable pub part : Bytes → (start : Configuration) → Chronicle → List Item
part job start [] = []
part job start (entry ∷ c) =
    noticed (notices job (in_force start c) entry c) ++ (items job (in_force start c) entry c ++ part job start c)
