-- What expressions remember as instances come and go.
use Rattle.std.proofs.Common.{◌≡◌, ℕ, zero, suc, ◌≤◌, Bool, true, false, List, [], ◌∷◌, length, map, Option, Some, bytes_eq, if◌then◌else◌, refl, sym, ◌∙◌, ap, subst, arith}
use Rattle.up_job.specs.JobLists.{with_made, removed_in}
use Rattle.up_job.specs.Lists.{with_at, nth, without_at, with_named}
use Rattle.std.specs.List.{AllByRecursion}
use Rattle.up_conf.specs.declared.job.JobDef.{JobDef}
use Rattle.up_conf.specs.Order.{is_below}
use Rattle.up_marks.specs.declared.mark.Mark.{Mark}
use Rattle.up_marks.specs.Triggers.{Remembers}
use Rattle.up_model.specs.declared.state.State.TheVariants as state
use Rattle.up_model.specs.Chronicle.{Chronicle, Made, Entered, StopOn}
use Rattle.up_model.specs.Configuration.{Configuration}
use Rattle.up_model.specs.Instances.{Instance, with_instance, instances_of}
use Rattle.up_model.specs.Seen.{seen}
use Rattle.up_model.specs.Values.{Bytes}
use Rattle.up_model.proofs.Places.{bytes_refl, count, all_instances-once, instances-exist}
use Rattle.up_job.specs.declared.instances.JobInstances.{JobInstances}
use Rattle.up_job.specs.declared.instance.Instance.{Instance as Kept}
use Rattle.up_book.specs.Keeps.{AreDistinct, KeepsJobs}
use Rattle.up_ledger.specs.Remembering.{InstancesRemember, StopsRemember, Remembered}
use Rattle.up_book.specs.Summaries.{Summary, JobSummary, summary, job_summary}
use Rattle.up_book.specs.Views.{Places, view, job_view}
use Rattle.up_ledger.proofs.Lifecycle.{without-nth, without-absent}
use Rattle.up_book.proofs.One.{IsKnown, known-all, called, apart-back, nth-apart, nth-all, none-of-others}
use Rattle.up_ledger.proofs.Triggers.{instances-later, starts-later}

-- the names that are kept are those of the instances
pub names-same : (places : Places) (c : Chronicle) (its : List Kept) (xs : List Instance) → map (view places) its ≡ map (summary c) xs → map (λ (k : Kept). k.name) its ≡ map (λ (x : Instance). x.name) xs
names-same places c [] [] same = refl
names-same places c [] (x ∷ xs) same = absurd cc
names-same places c (k ∷ its) [] same = absurd cc
names-same places c (k ∷ its) (x ∷ xs) same =
    let first : view places k ≡ summary c x = cc in
    let rest : map (view places) its ≡ map (summary c) xs = cc in
    two (ap (λ (s : Summary). s.name) first) (names-same places c its xs rest)
  where
    two : {a b : Bytes} {xs ys : List Bytes} → a ≡ b → xs ≡ ys → a ∷ xs ≡ b ∷ ys
    two p q = cc

-- one instance more
instances-more : (places : Places) (config : Configuration) (c : Chronicle) (kept : Kept) (x : Instance) (its : List Kept) (xs : List Instance) → kept.name ≡ x.name
    → map (λ (k : Kept). k.name) its ≡ map (λ (y : Instance). y.name) xs → Remembers places kept.stop_on x.file.stop_on (seen config (StopOn x.place) c) → InstancesRemember places config c its xs
    → InstancesRemember places config c (with_named (λ k. k.name) kept its) (with_instance x xs)
instances-more places config c kept x [] [] name names new r = (new, tt)
instances-more places config c kept x [] (y ∷ xs) name names new r = absurd r
instances-more places config c kept x (k ∷ its) [] name names new r = absurd r
instances-more places config c kept x (k ∷ its) (y ∷ xs) name names new r =
    let first : k.name ≡ y.name = cc in
    let rest : map (λ (k : Kept). k.name) its ≡ map (λ (y : Instance). y.name) xs = cc in
    by_case (is_below k.name kept.name) (is_below y.name x.name) (ap (λ n. is_below n kept.name) first ∙ ap (is_below y.name) name) (instances-more places config c kept x its xs name rest new r.1)
  where
    by_case : (b d : Bool) → b ≡ d → InstancesRemember places config c (with_named (λ k. k.name) kept its) (with_instance x xs)
        → InstancesRemember places config c (if b then k ∷ with_named (λ k. k.name) kept its else kept ∷ k ∷ its) (if d then y ∷ with_instance x xs else x ∷ y ∷ xs)
    by_case true true same ih = (r.0, ih)
    by_case true false same ih = absurd cc
    by_case false true same ih = absurd cc
    by_case false false same ih = (new, r)

-- jobs that have another name
others-made : (places : Places) (config : Configuration) (c : Chronicle) (job : JobDef) (name : Bytes) (its : List JobInstances) (jobs : List JobDef) → AllByRecursion (λ other. bytes_eq other.name job.name ≡ false) jobs
    → StopsRemember places config c its jobs → StopsRemember places config (Made job name ∷ c) its jobs
others-made places config c job name [] [] apart r = tt
others-made places config c job name [] (d ∷ jobs) apart r = absurd r
others-made places config c job name (j ∷ its) [] apart r = absurd r
others-made places config c job name (j ∷ its) (d ∷ jobs) apart r = (
  rw (apart-back d.name job.name apart.0) (instances-later places config (Made job name) c j.instances (instances_of d.name c) (λ x. refl) r.0),
  others-made places config c job name its jobs apart.1 r.1,
)

stops-made : (places : Places) (config : Configuration) (c : Chronicle) (kept : Kept) (name : Bytes) (place : ℕ) (job : JobDef) (its : List JobInstances) (jobs : List JobDef) → map (job_view places) its ≡ map (job_summary c) jobs
    → AreDistinct jobs → nth place jobs ≡ Some job → kept.name ≡ name → Remembers places kept.stop_on job.stop_on (seen config (StopOn (length c)) c) → StopsRemember places config c its jobs
    → StopsRemember places config (Made job name ∷ c) (with_at place (with_made kept) its) jobs
stops-made places config c kept name place job [] [] same distinct there named new r = tt
stops-made places config c kept name place job [] (d ∷ jobs) same distinct there named new r = absurd r
stops-made places config c kept name place job (j ∷ its) [] same distinct there named new r = absurd r
stops-made places config c kept name zero job (j ∷ its) (d ∷ jobs) same distinct there named new r =
    let is : d ≡ job = cc in
    let first : job_view places j ≡ job_summary c d = cc in
    let made : Instance = record { place = length c; name = name; file = job } in
    let names = names-same places c j.instances (instances_of job.name c) (ap (λ (s : JobSummary). s.instances) (first ∙ ap (job_summary c) is)) in
    let mine : InstancesRemember places config c j.instances (instances_of job.name c) = subst (λ (x : JobDef). InstancesRemember places config c j.instances (instances_of x.name c)) is r.0 in
    let more = instances-more places config c kept made j.instances (instances_of job.name c) named names new mine in
    let later = instances-later places config (Made job name) c (with_named (λ k. k.name) kept j.instances) (with_instance made (instances_of job.name c)) (λ x. refl) more in
    let here : InstancesRemember places config (Made job name ∷ c) (with_named (λ k. k.name) kept j.instances) (instances_of job.name (Made job name ∷ c)) = rw (bytes_refl job.name) later in (
      subst (λ (x : JobDef). InstancesRemember places config (Made job name ∷ c) (with_named (λ k. k.name) kept j.instances) (instances_of x.name (Made job name ∷ c))) (sym is) here,
      others-made places config c job name its jobs (subst (λ (x : JobDef). AllByRecursion (λ other. bytes_eq other.name x.name ≡ false) jobs) is distinct.0) r.1,
    )
stops-made places config c kept name (suc place) job (j ∷ its) (d ∷ jobs) same distinct there named new r =
    let rest : map (job_view places) its ≡ map (job_summary c) jobs = cc in
    let apart : bytes_eq job.name d.name ≡ false = nth-apart place jobs job d there distinct.0 in (
      rw apart (instances-later places config (Made job name) c j.instances (instances_of d.name c) (λ x. refl) r.0),
      stops-made places config c kept name place job its jobs rest distinct.1 there named new r.1,
    )

pub remembered-made : (places : Places) (kept : Kept) (jobs : List JobInstances) (starts : List (Option (List Mark))) (config : Configuration) (c : Chronicle) (place : ℕ) (job : JobDef) (name : Bytes) → KeepsJobs places jobs config c
    → AreDistinct config.jobs → nth place config.jobs ≡ Some job → kept.name ≡ name → Remembers places kept.stop_on job.stop_on [] → Remembered places jobs starts config c
    → Remembered places (with_at place (with_made kept) jobs) starts config (Made job name ∷ c)
remembered-made places kept jobs starts config c place job name keeps distinct there named new r = record {
  stops = stops-made places config c kept name place job jobs config.jobs keeps distinct there named (subst (Remembers places kept.stop_on job.stop_on) (sym (r.unborn (length c) (omega arith))) new) r.stops;
  starts = starts-later places config (Made job name) c starts config.jobs (λ x. refl) r.starts;
  unborn = λ i past. r.unborn i (omega (arith, past));
}

-- one instance less
instances-less : (places : Places) (config : Configuration) (c : Chronicle) (at : ℕ) (its : List Kept) (xs : List Instance) → InstancesRemember places config c its xs
    → InstancesRemember places config c (without_at at its) (without_at at xs)
instances-less places config c at [] [] r = tt
instances-less places config c at [] (y ∷ xs) r = absurd r
instances-less places config c at (k ∷ its) [] r = absurd r
instances-less places config c zero (k ∷ its) (y ∷ xs) r = r.1
instances-less places config c (suc at) (k ∷ its) (y ∷ xs) r = (r.0, instances-less places config c at its xs r.1)

stay-by : (places : Places) (config : Configuration) (d : JobDef) (c : Chronicle) (i : ℕ) (j : JobInstances) → count i (instances_of d.name c) ≡ 0 → InstancesRemember places config c j.instances (instances_of d.name c)
    → InstancesRemember places config (Entered i state.Waiting ∷ c) j.instances (instances_of d.name (Entered i state.Waiting ∷ c))
stay-by places config d c i j none r =
    rw (without-absent i (instances_of d.name c) none) (instances-later places config (Entered i state.Waiting) c j.instances (instances_of d.name c) (λ x. refl) r)

others-left : (places : Places) (config : Configuration) (c : Chronicle) (job : JobDef) (x : Instance) (its : List JobInstances) (jobs : List JobDef) → IsKnown job.name c x → AllByRecursion (λ other. bytes_eq other.name job.name ≡ false) jobs
    → StopsRemember places config c its jobs → StopsRemember places config (Entered x.place state.Waiting ∷ c) its jobs
others-left places config c job x [] [] known apart r = tt
others-left places config c job x [] (d ∷ jobs) known apart r = absurd r
others-left places config c job x (j ∷ its) [] known apart r = absurd r
others-left places config c job x (j ∷ its) (d ∷ jobs) known apart r = (
  stay-by places config d c x.place j (none-of-others d.name c x.place (called job.name x.name) (instances_of d.name c) (known-all d.name c) known.1 apart.0) r.0,
  others-left places config c job x its jobs known apart.1 r.1,
)

stops-left : (places : Places) (config : Configuration) (c : Chronicle) (place at : ℕ) (job : JobDef) (x : Instance) (its : List JobInstances) (jobs : List JobDef) → AreDistinct jobs → nth place jobs ≡ Some job
    → nth at (instances_of job.name c) ≡ Some x → StopsRemember places config c its jobs → StopsRemember places config (Entered x.place state.Waiting ∷ c) (with_at place (removed_in at) its) jobs
stops-left places config c place at job x [] [] distinct there its_there r = tt
stops-left places config c place at job x [] (d ∷ jobs) distinct there its_there r = absurd r
stops-left places config c place at job x (j ∷ its) [] distinct there its_there r = absurd r
stops-left places config c zero at job x (j ∷ its) (d ∷ jobs) distinct there its_there r =
    let is : d ≡ job = cc in
    let known = nth-all (IsKnown job.name c) at (instances_of job.name c) x its_there (known-all job.name c) in
    let once : count x.place (instances_of job.name c) ≤ 1 = omega (arith, instances-exist x.place job.name c, all_instances-once x.place c) in
    let mine : InstancesRemember places config c j.instances (instances_of job.name c) = subst (λ (y : JobDef). InstancesRemember places config c j.instances (instances_of y.name c)) is r.0 in
    let less = instances-less places config c at j.instances (instances_of job.name c) mine in
    let later = instances-later places config (Entered x.place state.Waiting) c (without_at at j.instances) (without_at at (instances_of job.name c)) (λ y. refl) less in
    let here : InstancesRemember places config (Entered x.place state.Waiting ∷ c) (without_at at j.instances) (instances_of job.name (Entered x.place state.Waiting ∷ c)) = rw (without-nth at (instances_of job.name c) x its_there once) later in (
      subst (λ (y : JobDef). InstancesRemember places config (Entered x.place state.Waiting ∷ c) (without_at at j.instances) (instances_of y.name (Entered x.place state.Waiting ∷ c))) (sym is) here,
      others-left places config c job x its jobs known (subst (λ (y : JobDef). AllByRecursion (λ other. bytes_eq other.name y.name ≡ false) jobs) is distinct.0) r.1,
    )
stops-left places config c (suc place) at job x (j ∷ its) (d ∷ jobs) distinct there its_there r =
    let known = nth-all (IsKnown job.name c) at (instances_of job.name c) x its_there (known-all job.name c) in
    let apart : bytes_eq d.name job.name ≡ false = apart-back job.name d.name (nth-apart place jobs job d there distinct.0) in (
      stay-by places config d c x.place j (none-of-others d.name c x.place (called job.name x.name) (instances_of d.name c) (known-all d.name c) known.1 apart) r.0,
      stops-left places config c place at job x its jobs distinct.1 there its_there r.1,
    )

pub remembered-left : (places : Places) (jobs : List JobInstances) (starts : List (Option (List Mark))) (config : Configuration) (c : Chronicle) (place at : ℕ) (job : JobDef) (x : Instance) → AreDistinct config.jobs → nth place config.jobs ≡ Some job
    → nth at (instances_of job.name c) ≡ Some x → Remembered places jobs starts config c → Remembered places (with_at place (removed_in at) jobs) starts config (Entered x.place state.Waiting ∷ c)
remembered-left places jobs starts config c place at job x distinct there its_there r = record {
  stops = stops-left places config c place at job x jobs config.jobs distinct there its_there r.stops;
  starts = starts-later places config (Entered x.place state.Waiting) c starts config.jobs (λ y. refl) r.starts;
  unborn = λ i past. r.unborn i (omega (arith, past));
}
