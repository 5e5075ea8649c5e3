-- A key stands for the same instance by what is kept and by the table.
use Rattle.std.proofs.Common.{◌≡◌, ℕ, zero, suc, List, [], ◌∷◌, map, Option, None, Some, slice_get, option_map, option_and_then, refl, sym, ◌∙◌, ap}
use Rattle.up_conf.specs.declared.job.JobDef.{JobDef}
use Rattle.up_job.specs.Lists.{nth}
use Rattle.up_job.specs.declared.instance.Instance.{Instance as Kept}
use Rattle.up_job.specs.declared.instance_key.InstanceKey.{InstanceKey}
use Rattle.up_job.specs.declared.instances.JobInstances.{JobInstances}
use Rattle.up_model.specs.Chronicle.{Chronicle}
use Rattle.up_model.specs.Configuration.{Configuration}
use Rattle.up_model.specs.Instances.{Instance, instances_of}
use Rattle.up_model.specs.Values.{Bytes}
use Rattle.up_book.specs.Keeps.{KeepsJobs, instance_in, place_at}
use Rattle.up_book.specs.Keys.{job_at, name_at, instance_at, instance_place}
use Rattle.up_book.specs.Summaries.{JobSummary, Summary, job_summary}
use Rattle.up_book.specs.Views.{Places, job_view, kept_at}
use Rattle.up_book.proofs.One.{there}

-- two words for the item at a place
pub nth-get : {X : Type 0} (n : ℕ) (xs : List X) → nth n xs ≡ slice_get xs n
nth-get n [] = refl
nth-get zero (x ∷ xs) = refl
nth-get (suc n) (x ∷ xs) = nth-get n xs

pub job-there : (config : Configuration) (n : ℕ) (job : JobDef) → job_at config n ≡ Some job → nth n config.jobs ≡ Some job
job-there config n job there = nth-get n config.jobs ∙ there

abbrev instance_of : ℕ → Option JobDef → Chronicle → Option Instance
instance_of at None c = None
instance_of at (Some job) c = nth at (instances_of job.name c)

by-table : (at : ℕ) (job : Option JobDef) (c : Chronicle) → instance_of at job c ≡ option_and_then (λ (name : Bytes). slice_get (instances_of name c) at) (option_map (λ (its : JobDef). its.name) job)
by-table at None c = refl
by-table at (Some job) c = nth-get at (instances_of job.name c)

keyed-in : (places : Places) (config : Configuration) (c : Chronicle) (jobs : List JobInstances) (defs : List JobDef) (n at : ℕ) → map (job_view places) jobs ≡ map (job_summary c) defs
    → instance_in at (nth n jobs) c ≡ instance_of at (nth n defs) c
keyed-in places config c [] [] n at same = refl
keyed-in places config c [] (d ∷ defs) n at same = absurd cc
keyed-in places config c (j ∷ jobs) [] n at same = absurd cc
keyed-in places config c (j ∷ jobs) (d ∷ defs) zero at same =
    let first : job_view places j ≡ job_summary c d = cc in
    ap (λ name. nth at (instances_of name c)) (ap (λ (s : JobSummary). s.name) first)
keyed-in places config c (j ∷ jobs) (d ∷ defs) (suc n) at same =
    let rest : map (job_view places) jobs ≡ map (job_summary c) defs = cc in
    keyed-in places config c jobs defs n at rest

table-in : (places : Places) (jobs : List JobInstances) (config : Configuration) (c : Chronicle) (key : InstanceKey) → KeepsJobs places jobs config c
    → instance_in key.at (nth key.job jobs) c ≡ instance_at config c key
table-in places jobs config c key keeps =
    keyed-in places config c jobs config.jobs key.job key.at keeps ∙ ap (λ (job : Option JobDef). instance_of key.at job c) (nth-get key.job config.jobs) ∙ by-table key.at (job_at config key.job) c

-- where it was made
pub place-keyed : (places : Places) (jobs : List JobInstances) (config : Configuration) (c : Chronicle) (key : InstanceKey) → KeepsJobs places jobs config c
    → place_at jobs c key ≡ instance_place config c key
place-keyed places jobs config c key keeps = ap (option_map {T = Instance} (λ its. its.place)) (table-in places jobs config c key keeps)

some-same : {X : Type 0} {x y : X} → Some x ≡ Some y → x ≡ y
some-same e = cc

-- its name
pub name-known : (places : Places) (jobs : List JobInstances) (config : Configuration) (c : Chronicle) (key : InstanceKey) (its : Instance) (kept : Kept) → KeepsJobs places jobs config c
    → instance_at config c key ≡ Some its → kept_at key jobs ≡ Some kept → kept.name ≡ its.name
name-known places jobs config c key its kept keeps here found =
    let place : place_at jobs c key ≡ Some its.place = place-keyed places jobs config c key keeps ∙ ap (option_map {T = Instance} (λ x. x.place)) here in
    let t = there places jobs config c key its.place keeps place in
    let one : its ≡ t.its = some-same (sym here ∙ sym (table-in places jobs config c key keeps) ∙ keyed-in places config c jobs config.jobs key.job key.at keeps ∙ ap (λ (job : Option JobDef). instance_of key.at job c) t.in_jobs ∙ t.in_instances) in
    let other : t.kept ≡ kept = some-same (sym t.found ∙ found) in
    ap (λ (k : Kept). k.name) (sym other) ∙ ap (λ (s : Summary). s.name) t.same ∙ ap (λ (x : Instance). x.name) (sym one)

pub none-keyed : {X : Type 0} (places : Places) (jobs : List JobInstances) (config : Configuration) (c : Chronicle) (key : InstanceKey) (its : Instance) → KeepsJobs places jobs config c
    → instance_at config c key ≡ Some its → kept_at key jobs ≡ None → X
none-keyed places jobs config c key its keeps here none =
    let place : place_at jobs c key ≡ Some its.place = place-keyed places jobs config c key keeps ∙ ap (option_map {T = Instance} (λ x. x.place)) here in
    let t = there places jobs config c key its.place keeps place in
    let found = t.found in
    absurd cc

-- the job of a name at an index
pub job-named : (config : Configuration) (n : ℕ) (name : Bytes) → name_at config n ≡ Some name → (job : JobDef) × (nth n config.jobs ≡ Some job) × (job.name ≡ name)
job-named config n name named = by_job (job_at config n) refl named
  where
    by_job : (o : Option JobDef) → job_at config n ≡ o → option_map (λ (its : JobDef). its.name) o ≡ Some name → (job : JobDef) × (nth n config.jobs ≡ Some job) × (job.name ≡ name)
    by_job None is named = absurd cc
    by_job (Some job) is named = (job, job-there config n job is, cc)

-- the same of a key that there may be
pub places-keyed : (places : Places) (jobs : List JobInstances) (config : Configuration) (c : Chronicle) (key : Option InstanceKey) → KeepsJobs places jobs config c
    → option_map (instance_place config c) key ≡ option_map (place_at jobs c) key
places-keyed places jobs config c None keeps = refl
places-keyed places jobs config c (Some key) keeps = ap Some (sym (place-keyed places jobs config c key keeps))
