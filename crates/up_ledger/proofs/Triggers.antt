-- What each expression remembers, from one moment to the next.
use Rattle.std.proofs.Common.{◌≡◌, ℕ, zero, suc, ◌+◌, ◌<◌, List, [], ◌∷◌, map, Option, None, Some, sym, ◌∙◌, subst, arith}
use Rattle.up_job.specs.JobLists.{changed_in, changed_at}
use Rattle.up_job.specs.Lists.{with_at}
use Rattle.up_job.specs.Unblocking.{unblocked, unblocked_in}
use Rattle.up_conf.specs.declared.job.JobDef.{JobDef}
use Rattle.up_expr.specs.Trees.{Tree}
use Rattle.up_expr.specs.Truth.{Sight}
use Rattle.up_marks.specs.declared.mark.Mark.{Mark}
use Rattle.up_marks.specs.Triggers.{Remembers, uses_by}
use Rattle.up_marks.proofs.AgreeLemmas.{agrees_moved}
use Rattle.up_model.specs.declared.event_id.EventId.{EventId}
use Rattle.up_model.specs.Chronicle.{Chronicle, Entry, Expression, StartOn, StopOn}
use Rattle.up_model.specs.Configuration.{Configuration}
use Rattle.up_model.specs.Instances.{Instance, instances_of}
use Rattle.up_model.specs.Seen.{seen}
use Rattle.up_model.specs.Values.{Bytes}
use Rattle.up_job.specs.declared.instance_key.InstanceKey.{InstanceKey}
use Rattle.up_job.specs.declared.instances.JobInstances.{JobInstances}
use Rattle.up_job.specs.declared.instance.Instance.{Instance as Kept}
use Rattle.up_ledger.specs.Counting.{kept_uses, uses, start_uses}
use Rattle.up_ledger.specs.Remembering.{InstancesRemember, StopsRemember, StartsRemember, Remembered}
use Rattle.up_book.specs.Views.{Places}
use Rattle.up_ledger.proofs.Placing.{Agree}

-- other places, which agree on what is kept
trigger-agrees : (old new : Places) (t : Option (List Mark)) (tree : Option Tree) (sights : List Sight) → ((id : EventId) → 0 < uses_by id t → Agree old new id) → Remembers old t tree sights → Remembers new t tree sights
trigger-agrees old new None None sights same agrees = tt
trigger-agrees old new (Some marks) (Some tree) sights same agrees = agrees_moved old new marks tree sights same agrees
trigger-agrees old new None (Some tree) sights same agrees = absurd agrees
trigger-agrees old new (Some marks) None sights same agrees = absurd agrees

instances-agree : (old new : Places) (config : Configuration) (c : Chronicle) (its : List Kept) (xs : List Instance) → ((id : EventId) → 0 < kept_uses id its → Agree old new id)
    → InstancesRemember old config c its xs → InstancesRemember new config c its xs
instances-agree old new config c [] [] same r = tt
instances-agree old new config c [] (x ∷ xs) same r = absurd r
instances-agree old new config c (k ∷ its) [] same r = absurd r
instances-agree old new config c (k ∷ its) (x ∷ xs) same r = (
  trigger-agrees old new k.stop_on x.file.stop_on (seen config (StopOn x.place) c) (λ id some. same id (omega (arith, some))) r.0,
  instances-agree old new config c its xs (λ id some. same id (omega (arith, some))) r.1,
)

stops-agree : (old new : Places) (config : Configuration) (c : Chronicle) (its : List JobInstances) (jobs : List JobDef) → ((id : EventId) → 0 < uses id its → Agree old new id)
    → StopsRemember old config c its jobs → StopsRemember new config c its jobs
stops-agree old new config c [] [] same r = tt
stops-agree old new config c [] (job ∷ jobs) same r = absurd r
stops-agree old new config c (j ∷ its) [] same r = absurd r
stops-agree old new config c (j ∷ its) (job ∷ jobs) same r = (
  instances-agree old new config c j.instances (instances_of job.name c) (λ id some. same id (omega (arith, some))) r.0,
  stops-agree old new config c its jobs (λ id some. same id (omega (arith, some))) r.1,
)

starts-agree : (old new : Places) (config : Configuration) (c : Chronicle) (ts : List (Option (List Mark))) (jobs : List JobDef) → ((id : EventId) → 0 < start_uses id ts → Agree old new id)
    → StartsRemember old config c ts jobs → StartsRemember new config c ts jobs
starts-agree old new config c [] [] same r = tt
starts-agree old new config c [] (job ∷ jobs) same r = absurd r
starts-agree old new config c (t ∷ ts) [] same r = absurd r
starts-agree old new config c (t ∷ ts) (job ∷ jobs) same r = (
  trigger-agrees old new t job.start_on (seen config (StartOn job.name) c) (λ id some. same id (omega (arith, some))) r.0,
  starts-agree old new config c ts jobs (λ id some. same id (omega (arith, some))) r.1,
)

pub remembered-agrees : (old new : Places) (jobs : List JobInstances) (ts : List (Option (List Mark))) (config : Configuration) (c : Chronicle) → ((id : EventId) → 0 < uses id jobs + start_uses id ts → Agree old new id)
    → Remembered old jobs ts config c → Remembered new jobs ts config c
remembered-agrees old new jobs ts config c same r = record {
  stops = stops-agree old new config c jobs config.jobs (λ id some. same id (omega (arith, some))) r.stops;
  starts = starts-agree old new config c ts config.jobs (λ id some. same id (omega (arith, some))) r.starts;
  unborn = r.unborn;
}

-- an entry by which no expression sees anything, and no instance comes or goes
pub record Unseen (config : Configuration) (c : Chronicle) (e : Entry) : Type 0 where
  pub instances : (job : Bytes) → instances_of job (e ∷ c) ≡ instances_of job c
  pub seen : (x : Expression) → seen config x (e ∷ c) ≡ seen config x c

pub instances-later : (places : Places) (config : Configuration) (e : Entry) (c : Chronicle) (its : List Kept) (xs : List Instance) → ((x : Expression) → seen config x (e ∷ c) ≡ seen config x c)
    → InstancesRemember places config c its xs → InstancesRemember places config (e ∷ c) its xs
instances-later places config e c [] [] same r = tt
instances-later places config e c [] (x ∷ xs) same r = absurd r
instances-later places config e c (k ∷ its) [] same r = absurd r
instances-later places config e c (k ∷ its) (x ∷ xs) same r =
    (subst (Remembers places k.stop_on x.file.stop_on) (sym (same (StopOn x.place))) r.0, instances-later places config e c its xs same r.1)

stops-later : (places : Places) (config : Configuration) (e : Entry) (c : Chronicle) (its : List JobInstances) (jobs : List JobDef) → Unseen config c e → StopsRemember places config c its jobs → StopsRemember places config (e ∷ c) its jobs
stops-later places config e c [] [] u r = tt
stops-later places config e c [] (job ∷ jobs) u r = absurd r
stops-later places config e c (j ∷ its) [] u r = absurd r
stops-later places config e c (j ∷ its) (job ∷ jobs) u r = (
  subst (InstancesRemember places config (e ∷ c) j.instances) (sym (u.instances job.name)) (instances-later places config e c j.instances (instances_of job.name c) u.seen r.0),
  stops-later places config e c its jobs u r.1,
)

pub starts-later : (places : Places) (config : Configuration) (e : Entry) (c : Chronicle) (ts : List (Option (List Mark))) (jobs : List JobDef) → ((x : Expression) → seen config x (e ∷ c) ≡ seen config x c)
    → StartsRemember places config c ts jobs → StartsRemember places config (e ∷ c) ts jobs
starts-later places config e c [] [] same r = tt
starts-later places config e c [] (job ∷ jobs) same r = absurd r
starts-later places config e c (t ∷ ts) [] same r = absurd r
starts-later places config e c (t ∷ ts) (job ∷ jobs) same r =
    (subst (Remembers places t job.start_on) (sym (same (StartOn job.name))) r.0, starts-later places config e c ts jobs same r.1)

pub remembered-later : (places : Places) (jobs : List JobInstances) (ts : List (Option (List Mark))) (config : Configuration) (c : Chronicle) (e : Entry) → Unseen config c e → Remembered places jobs ts config c
    → Remembered places jobs ts config (e ∷ c)
remembered-later places jobs ts config c e u r = record {
  stops = stops-later places config e c jobs config.jobs u r.stops;
  starts = starts-later places config e c ts config.jobs u.seen r.starts;
  unborn = λ i past. u.seen (StopOn i) ∙ r.unborn i (omega (arith, past));
}

-- a change of an instance that leaves its trigger
instances-changed : (places : Places) (config : Configuration) (c : Chronicle) (f : Kept → Kept) (at : ℕ) (its : List Kept) (xs : List Instance) → ((k : Kept) → (f k).stop_on ≡ k.stop_on)
    → InstancesRemember places config c its xs → InstancesRemember places config c (with_at at f its) xs
instances-changed places config c f at [] [] same r = tt
instances-changed places config c f at [] (x ∷ xs) same r = absurd r
instances-changed places config c f at (k ∷ its) [] same r = absurd r
instances-changed places config c f zero (k ∷ its) (x ∷ xs) same r =
    (subst (λ t. Remembers places t x.file.stop_on (seen config (StopOn x.place) c)) (sym (same k)) r.0, r.1)
instances-changed places config c f (suc at) (k ∷ its) (x ∷ xs) same r = (r.0, instances-changed places config c f at its xs same r.1)

stops-changed : (places : Places) (config : Configuration) (c : Chronicle) (f : Kept → Kept) (place at : ℕ) (its : List JobInstances) (jobs : List JobDef) → ((k : Kept) → (f k).stop_on ≡ k.stop_on)
    → StopsRemember places config c its jobs → StopsRemember places config c (with_at place (changed_in at f) its) jobs
stops-changed places config c f place at [] [] same r = tt
stops-changed places config c f place at [] (job ∷ jobs) same r = absurd r
stops-changed places config c f place at (j ∷ its) [] same r = absurd r
stops-changed places config c f zero at (j ∷ its) (job ∷ jobs) same r = (instances-changed places config c f at j.instances (instances_of job.name c) same r.0, r.1)
stops-changed places config c f (suc place) at (j ∷ its) (job ∷ jobs) same r = (r.0, stops-changed places config c f place at its jobs same r.1)

pub remembered-changed : (places : Places) (f : Kept → Kept) (key : InstanceKey) (jobs : List JobInstances) (ts : List (Option (List Mark))) (config : Configuration) (c : Chronicle) → ((k : Kept) → (f k).stop_on ≡ k.stop_on)
    → Remembered places jobs ts config c → Remembered places (changed_at key f jobs) ts config c
remembered-changed places f key jobs ts config c same r = record {
  stops = stops-changed places config c f key.job key.at jobs config.jobs same r.stops;
  starts = r.starts;
  unborn = r.unborn;
}

-- nobody waits for an event any more
instances-unblocked : (places : Places) (config : Configuration) (c : Chronicle) (id : EventId) (its : List Kept) (xs : List Instance)
    → InstancesRemember places config c its xs → InstancesRemember places config c (map (unblocked id) its) xs
instances-unblocked places config c id [] [] r = tt
instances-unblocked places config c id [] (x ∷ xs) r = absurd r
instances-unblocked places config c id (k ∷ its) [] r = absurd r
instances-unblocked places config c id (k ∷ its) (x ∷ xs) r = (r.0, instances-unblocked places config c id its xs r.1)

stops-unblocked : (places : Places) (config : Configuration) (c : Chronicle) (id : EventId) (its : List JobInstances) (jobs : List JobDef) → StopsRemember places config c its jobs → StopsRemember places config c (map (unblocked_in id) its) jobs
stops-unblocked places config c id [] [] r = tt
stops-unblocked places config c id [] (job ∷ jobs) r = absurd r
stops-unblocked places config c id (j ∷ its) [] r = absurd r
stops-unblocked places config c id (j ∷ its) (job ∷ jobs) r = (instances-unblocked places config c id j.instances (instances_of job.name c) r.0, stops-unblocked places config c id its jobs r.1)

pub remembered-unblocked : (places : Places) (id : EventId) (jobs : List JobInstances) (ts : List (Option (List Mark))) (config : Configuration) (c : Chronicle)
    → Remembered places jobs ts config c → Remembered places (map (unblocked_in id) jobs) ts config c
remembered-unblocked places id jobs ts config c r = record {
  stops = stops-unblocked places config c id jobs config.jobs r.stops;
  starts = r.starts;
  unborn = r.unborn;
}
