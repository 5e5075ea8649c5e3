-- Offers that change nothing: which expression is offered the event of a step next, and when that leaves all
-- but a note of the offer.
use Rattle.std.specs.Prelude.{if◌then◌else◌, ◌≡◌, ℕ, zero, suc, Bool, true, false, not, ◌&&◌, List, [], ◌∷◌, Option, None, Some}
use Rattle.up_conf.specs.declared.job.JobDef.{JobDef}
use Rattle.up_expr.specs.Trees.{Tree}
use Rattle.up_text.specs.Scripts.{is_filled}
use Rattle.up_model.specs.declared.event.Event.{Event}
use Rattle.up_model.specs.Chronicle.{Chronicle, Entry, Offered, Expression, StartOn, StopOn}
use Rattle.up_model.specs.Configuration.{Configuration}
use Rattle.up_model.specs.Due.{due}
use Rattle.up_model.specs.Files.{names_in_order}
use Rattle.up_model.specs.Instances.{Instance, instances_of}
use Rattle.up_model.specs.Moves.{move_first}
use Rattle.up_model.specs.Offers.{is_open, offering, stop_offer, start_offer}
use Rattle.up_model.specs.Readings.{event_at}
use Rattle.up_model.specs.Seen.{seen, holds, kept, taken, was_offered}
use Rattle.up_model.specs.Work.{settle, work}
use Rattle.up_marks.specs.Naming.{names_in}

-- an expression in force: what stops the instance made at a place, by its file, or what starts a job
pub data Next : Type 0 where
  Stops : (job : JobDef) → (instance : ℕ) → Next
  Starts : (job : JobDef) → Next

abbrev pub expression_of : Next → Expression
expression_of (Stops job instance) = StopOn instance
expression_of (Starts job) = StartOn job.name

abbrev pub condition_of : Next → Option Tree
condition_of (Stops job instance) = job.stop_on
condition_of (Starts job) = job.start_on

abbrev pub or_next : Option Next → Option Next → Option Next
or_next None later = later
or_next (Some next) later = Some next

abbrev pub next_if : Bool → Next → Option Next
next_if true next = Some next
next_if false next = None

-- of a job's instances, the first whose `stop on` is still to be offered the event of this step
abbrev pub next_stop : List Instance → Chronicle → Option Next
next_stop [] c = None
next_stop (instance ∷ instances) c =
    or_next (next_if (is_open instance.place c) (Stops instance.file instance.place)) (next_stop instances c)

-- the first expression, job by job, that is still to be offered the event of this step
abbrev pub next_offer : List JobDef → Chronicle → Option Next
next_offer [] c = None
next_offer (job ∷ jobs) c =
    or_next (or_next (next_stop (instances_of job.name c) c)
    (next_if (not (was_offered (StartOn job.name) c)) (Starts job))) (next_offer jobs c)

-- what an offer to it does
abbrev pub offer_to : Configuration → Option Next → (event : ℕ) → Chronicle → List Entry
offer_to config None event c = []
offer_to config (Some (Stops job instance)) event c = stop_offer config job instance event c
offer_to config (Some (Starts job)) event c = start_offer config job event c

-- whether an expression names the event at a place
abbrev pub names_event : Option Tree → Option Event → Bool
names_event condition None = false
names_event condition (Some event) = names_in condition event.name

-- whether the next expression names an event, and whether it is true
abbrev pub next_names : Next → (event : ℕ) → Chronicle → Bool
next_names next event c = names_event (condition_of next) (event_at event c)

abbrev pub next_holds : Configuration → Next → Chronicle → Bool
next_holds config next c = holds (condition_of next) (seen config (expression_of next) c)

-- an entry leaves an expression as true as it was, with the same events kept and taken
abbrev pub ChangesNothing : Configuration → Option Tree → Expression → Entry → Chronicle → Type 0
ChangesNothing config condition x entry c =
    (holds condition (seen config x (entry ∷ c)) ≡ holds condition (seen config x c))
    × (kept condition (seen config x (entry ∷ c)) ≡ kept condition (seen config x c))
    × (taken condition (seen config x (entry ∷ c)) ≡ taken condition (seen config x c))

-- an offer to an expression that isn't true changes nothing of it: no leaf of it names the event
pub record IsSkipped (config : Configuration) (next : Next) (event : ℕ) (c : Chronicle) : Type 0 where
  pub unnamed : next_names next event c ≡ false
  pub quiet : next_holds config next c ≡ false

abbrev pub is_skipped : Configuration → Next → (event : ℕ) → Chronicle → Bool
is_skipped config next event c = not (next_names next event c) && not (next_holds config next c)

-- how a step ends
abbrev pub ended : Configuration → Chronicle → Chronicle
ended config c = settle (work config c) config c

-- an entry is all that is due and changes nothing: the step ends as it would without it, and no instance may
-- move after it
abbrev pub IsNoted : Configuration → Entry → Chronicle → Type 0
IsNoted config entry c = (due config c ≡ entry ∷ []) × (ended config (entry ∷ c) ≡ ended config c)
    × (move_first (names_in_order config c) (entry ∷ c) ≡ [])

-- the note of the next offer, if no instance may move and the offer is one that changes nothing
abbrev pub skip_of : Configuration → (moving : Bool) → Option ℕ → Option Next → Chronicle → Option Entry
skip_of config moving None next c = None
skip_of config moving (Some event) None c = None
skip_of config moving (Some event) (Some next) c =
    if not moving && is_skipped config next event c then Some (Offered (expression_of next) event) else None

abbrev pub next_skip : Configuration → Chronicle → Option Entry
next_skip config c =
    skip_of config (is_filled (move_first (names_in_order config c) c)) (offering c) (next_offer config.jobs c) c

abbrev pub with_note : (Chronicle → Chronicle) → Option Entry → Chronicle → Chronicle
with_note more None c = c
with_note more (Some entry) c = more (entry ∷ c)

-- a chronicle with the notes of the offers that change nothing, so many at most
unfoldable pub skip : ℕ → Configuration → Chronicle → Chronicle
skip zero config c = c
skip (suc n) config c = with_note (skip n config) (next_skip config c) c
