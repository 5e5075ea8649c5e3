-- The expressions that are still to be offered the event of a step, in order.
use Rattle.std.specs.Prelude.{ℕ, List, [], ◌∷◌, ◌++◌, if◌then◌else◌}
use Rattle.up_conf.specs.declared.job.JobDef.{JobDef}
use Rattle.up_book.specs.Histories.{adding, start_events, stop_events}
use Rattle.up_model.specs.Chronicle.{Chronicle, Entry, Expression, Fired, StartOn, StopOn}
use Rattle.up_model.specs.Configuration.{Configuration}
use Rattle.up_model.specs.Instances.{Instance, instances_of}
use Rattle.up_model.specs.Offers.{is_open, stop_by, start_by, stop_offer, start_offer}
use Rattle.up_model.specs.Seen.{was_offered}

-- the `stop on` of an instance, by its file, or a job's `start on`
pub data Asked : Type 0 where
  OfStop : (file : JobDef) → (instance : ℕ) → Asked
  OfStart : (job : JobDef) → Asked

abbrev pub expression_of : Asked → Expression
expression_of (OfStop file instance) = StopOn instance
expression_of (OfStart job) = StartOn job.name

abbrev pub open_stops : List Instance → Chronicle → List Asked
open_stops [] c = []
open_stops (its ∷ instances) c = if is_open its.place c then OfStop its.file its.place ∷ open_stops instances c
    else open_stops instances c

abbrev pub open_start : JobDef → Chronicle → List Asked
open_start job c = if was_offered (StartOn job.name) c then [] else OfStart job ∷ []

-- all that are left, in the order in which they are offered the event
abbrev pub open_all : List JobDef → Chronicle → List Asked
open_all [] c = []
open_all (job ∷ jobs) c = open_stops (instances_of job.name c) c ++ (open_start job c ++ open_all jobs c)

abbrev pub offer_at : Configuration → Asked → (event : ℕ) → Chronicle → List Entry
offer_at config (OfStop file instance) event c = stop_offer config file instance event c
offer_at config (OfStart job) event c = start_offer config job event c

abbrev pub offer_one : Configuration → List Asked → (event : ℕ) → Chronicle → List Entry
offer_one config [] event c = []
offer_one config (asked ∷ others) event c = offer_at config asked event c

-- the history after the `stop on` of an instance, by this file, has fired
abbrev pub after_stop_on : Configuration → JobDef → (instance : ℕ) → Chronicle → Chronicle
after_stop_on config file instance c =
    let events = stop_events config file instance c in
    adding (stop_by instance events) (Fired (StopOn instance) events ∷ c)

-- and after a job's `start on` has
abbrev pub after_start_on : Configuration → JobDef → Chronicle → Chronicle
after_start_on config job c =
    let events = start_events config job c in
    adding (start_by config job events) (Fired (StartOn job.name) events ∷ c)
