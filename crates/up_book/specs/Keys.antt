-- Which places of the chronicle the keys of a book stand for.
use Rattle.std.specs.Prelude.{◌≡◌, ℕ, List, [], ◌∷◌, length, map, slice_get, Option, None, Some, option_map, option_and_then, if◌then◌else◌, ⊤}
use Rattle.up_book.specs.declared.holders.Holders.{Holders}
use Rattle.up_book.specs.declared.holders.Holders.TheVariants.{Taken, Client, Nobody}
use Rattle.up_conf.specs.declared.job.JobDef.{JobDef}
use Rattle.up_job.specs.declared.instance_key.InstanceKey.{InstanceKey}
use Rattle.up_model.specs.declared.event_id.EventId.{EventId}
use Rattle.up_model.specs.declared.input.Input.{Input}
use Rattle.up_model.specs.declared.input.Input.TheVariants as input
use Rattle.up_model.specs.Chronicle.{Chronicle, Given}
use Rattle.up_model.specs.Configuration.{Configuration}
use Rattle.up_model.specs.Instances.{Instance, instances_of, instance_named}
use Rattle.up_model.specs.Values.{Bytes}
use Rattle.up_model.specs.declared.who.Who.{Who}

-- what a book is asked between two steps, or within one
pub data Mode : Type 0 where
  Resting : Mode
  Stepping : Mode

abbrev pub name_of : JobDef → Bytes
name_of job = job.name

-- an instance by the names of its job and of its own
abbrev pub called : Bytes → Bytes → Who
called job name = record { job = job; instance = name }

-- the job at an index of the table, and its name
abbrev pub job_at : Configuration → ℕ → Option JobDef
job_at config job = slice_get config.jobs job

abbrev pub name_at : Configuration → ℕ → Option Bytes
name_at config job = option_map (λ its. its.name) (job_at config job)

-- the instance that a key stands for
abbrev pub instance_at : Configuration → Chronicle → InstanceKey → Option Instance
instance_at config c key = option_and_then (λ job. slice_get (instances_of job c) key.at) (name_at config key.job)

-- where it was made
abbrev pub instance_place : Configuration → Chronicle → InstanceKey → Option ℕ
instance_place config c key = option_map (λ its. its.place) (instance_at config c key)

-- where the input of this step was given
abbrev pub given_place : Chronicle → ℕ
given_place [] = 0
given_place (Given its ∷ c) = length c
given_place (entry ∷ c) = given_place c

-- where the request of this step was given, if its client waits
abbrev pub request_place : Chronicle → Option ℕ
request_place [] = None
request_place (Given (input.Request id request) ∷ c) = if request.wait then Some (length c) else None
request_place (Given other ∷ c) = None
request_place (entry ∷ c) = request_place c

-- where the holders of an instance were queued, or given
abbrev pub held_as : (EventId → Option ℕ) → (request : Option ℕ) → Holders → List (Option ℕ)
held_as places request (Taken ids) = map places ids
held_as places request Client = request ∷ []
held_as places request Nobody = []

-- an input of a process speaks of the instance of this key, or of none that exists
abbrev pub SpeaksOf : Configuration → Option InstanceKey → Input → Chronicle → Type 0
SpeaksOf config on (input.Spawned who its pid) c = option_map (instance_place config c) on ≡ option_map Some (instance_named who c)
SpeaksOf config on (input.Refused who its) c = option_map (instance_place config c) on ≡ option_map Some (instance_named who c)
SpeaksOf config on (input.Ended who its how) c = option_map (instance_place config c) on ≡ option_map Some (instance_named who c)
SpeaksOf config on other c = ⊤
