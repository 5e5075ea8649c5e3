-- What expressions remember after one of them saw something.
use Rattle.std.proofs.Common.{◌≡◌, ℕ, zero, suc, ◌+◌, ◌<◌, ◌≤◌, ◌==◌, Bool, true, false, List, [], ◌∷◌, length, Option, Some, bytes_eq, refl, sym, ◌∙◌, ap, subst, arith, eq-eqb, ne_eqb}
use Rattle.std.proofs.lemmas.Bool.{eqb-false}
use Rattle.std.specs.List.{AllByRecursion}
use Rattle.up_conf.specs.declared.job.JobDef.{JobDef}
use Rattle.up_job.specs.JobLists.{changed_in, changed_at}
use Rattle.up_job.specs.Lists.{with_at, nth}
use Rattle.up_job.specs.declared.instance.Instance.{Instance as Kept}
use Rattle.up_job.specs.declared.instance_key.InstanceKey.{InstanceKey}
use Rattle.up_job.specs.declared.instances.JobInstances.{JobInstances}
use Rattle.up_marks.specs.declared.mark.Mark.{Mark}
use Rattle.up_marks.specs.Triggers.{Remembers}
use Rattle.up_model.specs.Chronicle.{Chronicle, Entry, Expression, StartOn, StopOn}
use Rattle.up_model.specs.Configuration.{Configuration}
use Rattle.up_model.specs.Instances.{Instance, instances_of}
use Rattle.up_model.specs.Seen.{same_expression, seen}
use Rattle.up_model.specs.Values.{Bytes}
use Rattle.up_model.proofs.Places.{count, one_if, all_instances-once, instances-exist}
use Rattle.up_book.specs.Keeps.{AreDistinct}
use Rattle.up_ledger.specs.Remembering.{InstancesRemember, StopsRemember, StartsRemember, Remembered}
use Rattle.up_book.specs.Views.{Places}
use Rattle.up_ledger.proofs.Lifecycle.{all-apart}
use Rattle.up_book.proofs.One.{IsKnown, known-all, called, apart-back, nth-apart, nth-all, nth-counted, none-of-others}

-- an instance whose `stop on` remembers this
abbrev pub with_trigger : Option (List Mark) → Kept → Kept
with_trigger trigger kept = record kept { stop_on = trigger }

-- an entry by which one expression alone sees something, and no instance comes or goes
pub record SeenBy (config : Configuration) (c : Chronicle) (e : Entry) (own : Expression) : Type 0 where
  pub instances : (job : Bytes) → instances_of job (e ∷ c) ≡ instances_of job c
  pub others : (x : Expression) → same_expression own x ≡ false → seen config x (e ∷ c) ≡ seen config x c

instances-apart : (places : Places) (config : Configuration) (c : Chronicle) (e : Entry) (i : ℕ) (its : List Kept) (xs : List Instance) → SeenBy config c e (StopOn i) → AllByRecursion (λ x. (i == x.place) ≡ false) xs
    → InstancesRemember places config c its xs → InstancesRemember places config (e ∷ c) its xs
instances-apart places config c e i [] [] s apart r = tt
instances-apart places config c e i [] (x ∷ xs) s apart r = absurd r
instances-apart places config c e i (k ∷ its) [] s apart r = absurd r
instances-apart places config c e i (k ∷ its) (x ∷ xs) s apart r =
    (subst (Remembers places k.stop_on x.file.stop_on) (sym (s.others (StopOn x.place) apart.0)) r.0, instances-apart places config c e i its xs s apart.1 r.1)

instances-one : (places : Places) (config : Configuration) (c : Chronicle) (e : Entry) (trigger : Option (List Mark)) (at : ℕ) (x : Instance) (its : List Kept) (xs : List Instance) → SeenBy config c e (StopOn x.place)
    → nth at xs ≡ Some x → count x.place xs ≤ 1 → Remembers places trigger x.file.stop_on (seen config (StopOn x.place) (e ∷ c)) → InstancesRemember places config c its xs
    → InstancesRemember places config (e ∷ c) (with_at at (with_trigger trigger) its) xs
instances-one places config c e trigger at x [] [] s there once new r = tt
instances-one places config c e trigger at x [] (y ∷ xs) s there once new r = absurd r
instances-one places config c e trigger at x (k ∷ its) [] s there once new r = absurd r
instances-one places config c e trigger zero x (k ∷ its) (y ∷ xs) s there once new r =
    let same : y ≡ x = cc in
    let one : one_if (y.place == x.place) ≡ 1 = ap one_if (eq-eqb y.place x.place (ap (λ (z : Instance). z.place) same)) in (
      subst (λ (z : Instance). Remembers places trigger z.file.stop_on (seen config (StopOn z.place) (e ∷ c))) (sym same) new,
      instances-apart places config c e x.place its xs s (all-apart x.place xs (omega (arith, one, once))) r.1,
    )
instances-one places config c e trigger (suc at) x (k ∷ its) (y ∷ xs) s there once new r = by_case (y.place == x.place) refl once (λ once. instances-one places config c e trigger at x its xs s there once new r.1)
  where
    by_case : (b : Bool) → (y.place == x.place) ≡ b → one_if b + count x.place xs ≤ 1
        → (count x.place xs ≤ 1 → InstancesRemember places config (e ∷ c) (with_at at (with_trigger trigger) its) xs) → InstancesRemember places config (e ∷ c) (k ∷ with_at at (with_trigger trigger) its) (y ∷ xs)
    by_case true same once ih = absurd (omega (arith, once, nth-counted at xs x there))
    by_case false differs once ih =
        let apart : (x.place == y.place) ≡ false = ne_eqb x.place y.place (λ same. eqb-false y.place x.place differs (sym same)) in
        (subst (Remembers places k.stop_on y.file.stop_on) (sym (s.others (StopOn y.place) apart)) r.0, ih (omega (arith, once)))

-- an instance of another job stands elsewhere
elsewhere : (config : Configuration) (c : Chronicle) (job d : JobDef) (x : Instance) → IsKnown job.name c x → bytes_eq d.name job.name ≡ false → AllByRecursion (λ y. (x.place == y.place) ≡ false) (instances_of d.name c)
elsewhere config c job d x known apart =
    all-apart x.place (instances_of d.name c) (none-of-others d.name c x.place (called job.name x.name) (instances_of d.name c) (known-all d.name c) known.1 apart)

others-saw : (places : Places) (config : Configuration) (c : Chronicle) (e : Entry) (job : JobDef) (x : Instance) (its : List JobInstances) (jobs : List JobDef) → SeenBy config c e (StopOn x.place) → IsKnown job.name c x
    → AllByRecursion (λ other. bytes_eq other.name job.name ≡ false) jobs → StopsRemember places config c its jobs → StopsRemember places config (e ∷ c) its jobs
others-saw places config c e job x [] [] s known apart r = tt
others-saw places config c e job x [] (d ∷ jobs) s known apart r = absurd r
others-saw places config c e job x (j ∷ its) [] s known apart r = absurd r
others-saw places config c e job x (j ∷ its) (d ∷ jobs) s known apart r = (
  rw (s.instances d.name) (instances-apart places config c e x.place j.instances (instances_of d.name c) s (elsewhere config c job d x known apart.0) r.0),
  others-saw places config c e job x its jobs s known apart.1 r.1,
)

stops-one : (places : Places) (config : Configuration) (c : Chronicle) (e : Entry) (trigger : Option (List Mark)) (place at : ℕ) (job : JobDef) (x : Instance) (its : List JobInstances) (jobs : List JobDef) → SeenBy config c e (StopOn x.place)
    → AreDistinct jobs → nth place jobs ≡ Some job → nth at (instances_of job.name c) ≡ Some x → Remembers places trigger x.file.stop_on (seen config (StopOn x.place) (e ∷ c)) → StopsRemember places config c its jobs
    → StopsRemember places config (e ∷ c) (with_at place (changed_in at (with_trigger trigger)) its) jobs
stops-one places config c e trigger place at job x [] [] s distinct there here new r = tt
stops-one places config c e trigger place at job x [] (d ∷ jobs) s distinct there here new r = absurd r
stops-one places config c e trigger place at job x (j ∷ its) [] s distinct there here new r = absurd r
stops-one places config c e trigger zero at job x (j ∷ its) (d ∷ jobs) s distinct there here new r =
    let is : d ≡ job = cc in
    let known = nth-all (IsKnown job.name c) at (instances_of job.name c) x here (known-all job.name c) in
    let once : count x.place (instances_of job.name c) ≤ 1 = omega (arith, instances-exist x.place job.name c, all_instances-once x.place c) in
    let mine : InstancesRemember places config c j.instances (instances_of job.name c) = subst (λ (y : JobDef). InstancesRemember places config c j.instances (instances_of y.name c)) is r.0 in
    let one = instances-one places config c e trigger at x j.instances (instances_of job.name c) s here once new mine in
    let later : InstancesRemember places config (e ∷ c) (with_at at (with_trigger trigger) j.instances) (instances_of job.name (e ∷ c)) = rw (s.instances job.name) one in (
      subst (λ (y : JobDef). InstancesRemember places config (e ∷ c) (with_at at (with_trigger trigger) j.instances) (instances_of y.name (e ∷ c))) (sym is) later,
      others-saw places config c e job x its jobs s known (subst (λ (y : JobDef). AllByRecursion (λ other. bytes_eq other.name y.name ≡ false) jobs) is distinct.0) r.1,
    )
stops-one places config c e trigger (suc place) at job x (j ∷ its) (d ∷ jobs) s distinct there here new r =
    let known = nth-all (IsKnown job.name c) at (instances_of job.name c) x here (known-all job.name c) in
    let apart : bytes_eq d.name job.name ≡ false = apart-back job.name d.name (nth-apart place jobs job d there distinct.0) in (
      rw (s.instances d.name) (instances-apart places config c e x.place j.instances (instances_of d.name c) s (elsewhere config c job d x known apart) r.0),
      stops-one places config c e trigger place at job x its jobs s distinct.1 there here new r.1,
    )

starts-apart : (places : Places) (config : Configuration) (c : Chronicle) (e : Entry) (i : ℕ) (ts : List (Option (List Mark))) (jobs : List JobDef) → SeenBy config c e (StopOn i) → StartsRemember places config c ts jobs → StartsRemember places config (e ∷ c) ts jobs
starts-apart places config c e i [] [] s r = tt
starts-apart places config c e i [] (job ∷ jobs) s r = absurd r
starts-apart places config c e i (t ∷ ts) [] s r = absurd r
starts-apart places config c e i (t ∷ ts) (job ∷ jobs) s r =
    (subst (Remembers places t job.start_on) (sym (s.others (StartOn job.name) refl)) r.0, starts-apart places config c e i ts jobs s r.1)

-- the `stop on` of an instance saw something
pub remembered-stop : (places : Places) (jobs : List JobInstances) (ts : List (Option (List Mark))) (config : Configuration) (c : Chronicle) (e : Entry) (trigger : Option (List Mark)) (key : InstanceKey) (job : JobDef) (x : Instance)
    → SeenBy config c e (StopOn x.place) → AreDistinct config.jobs → nth key.job config.jobs ≡ Some job → nth key.at (instances_of job.name c) ≡ Some x → x.place < length c
    → Remembers places trigger x.file.stop_on (seen config (StopOn x.place) (e ∷ c)) → Remembered places jobs ts config c → Remembered places (changed_at key (with_trigger trigger) jobs) ts config (e ∷ c)
remembered-stop places jobs ts config c e trigger key job x s distinct there here within new r = record {
  stops = stops-one places config c e trigger key.job key.at job x jobs config.jobs s distinct there here new r.stops;
  starts = starts-apart places config c e x.place ts config.jobs s r.starts;
  unborn = λ i past. s.others (StopOn i) (ne_eqb x.place i (λ same. omega (arith, past, within))) ∙ r.unborn i (omega (arith, past));
}

-- or the `start on` of a job
stops-apart : (places : Places) (config : Configuration) (c : Chronicle) (e : Entry) (name : Bytes) (its : List JobInstances) (jobs : List JobDef) → SeenBy config c e (StartOn name) → StopsRemember places config c its jobs
    → StopsRemember places config (e ∷ c) its jobs
stops-apart places config c e name [] [] s r = tt
stops-apart places config c e name [] (d ∷ jobs) s r = absurd r
stops-apart places config c e name (j ∷ its) [] s r = absurd r
stops-apart places config c e name (j ∷ its) (d ∷ jobs) s r = (rw (s.instances d.name) (each j.instances (instances_of d.name c) r.0), stops-apart places config c e name its jobs s r.1)
  where
    each : (ks : List Kept) (xs : List Instance) → InstancesRemember places config c ks xs → InstancesRemember places config (e ∷ c) ks xs
    each [] [] q = tt
    each [] (x ∷ xs) q = absurd q
    each (k ∷ ks) [] q = absurd q
    each (k ∷ ks) (x ∷ xs) q = (subst (Remembers places k.stop_on x.file.stop_on) (sym (s.others (StopOn x.place) refl)) q.0, each ks xs q.1)

starts-past : (places : Places) (config : Configuration) (c : Chronicle) (e : Entry) (name : Bytes) (ts : List (Option (List Mark))) (jobs : List JobDef) → SeenBy config c e (StartOn name)
    → AllByRecursion (λ other. bytes_eq other.name name ≡ false) jobs → StartsRemember places config c ts jobs → StartsRemember places config (e ∷ c) ts jobs
starts-past places config c e name [] [] s apart r = tt
starts-past places config c e name [] (d ∷ jobs) s apart r = absurd r
starts-past places config c e name (t ∷ ts) [] s apart r = absurd r
starts-past places config c e name (t ∷ ts) (d ∷ jobs) s apart r =
    (subst (Remembers places t d.start_on) (sym (s.others (StartOn d.name) (apart-back d.name name apart.0))) r.0, starts-past places config c e name ts jobs s apart.1 r.1)

starts-one : (places : Places) (config : Configuration) (c : Chronicle) (e : Entry) (trigger : Option (List Mark)) (place : ℕ) (job : JobDef) (ts : List (Option (List Mark))) (jobs : List JobDef) → SeenBy config c e (StartOn job.name)
    → AreDistinct jobs → nth place jobs ≡ Some job → Remembers places trigger job.start_on (seen config (StartOn job.name) (e ∷ c)) → StartsRemember places config c ts jobs
    → StartsRemember places config (e ∷ c) (with_at place (λ t. trigger) ts) jobs
starts-one places config c e trigger place job [] [] s distinct there new r = tt
starts-one places config c e trigger place job [] (d ∷ jobs) s distinct there new r = absurd r
starts-one places config c e trigger place job (t ∷ ts) [] s distinct there new r = absurd r
starts-one places config c e trigger zero job (t ∷ ts) (d ∷ jobs) s distinct there new r =
    let is : d ≡ job = cc in (
      subst (λ (y : JobDef). Remembers places trigger y.start_on (seen config (StartOn y.name) (e ∷ c))) (sym is) new,
      starts-past places config c e job.name ts jobs s (subst (λ (y : JobDef). AllByRecursion (λ other. bytes_eq other.name y.name ≡ false) jobs) is distinct.0) r.1,
    )
starts-one places config c e trigger (suc place) job (t ∷ ts) (d ∷ jobs) s distinct there new r =
    let apart : bytes_eq job.name d.name ≡ false = nth-apart place jobs job d there distinct.0 in
    (subst (Remembers places t d.start_on) (sym (s.others (StartOn d.name) apart)) r.0, starts-one places config c e trigger place job ts jobs s distinct.1 there new r.1)

pub remembered-start : (places : Places) (jobs : List JobInstances) (ts : List (Option (List Mark))) (config : Configuration) (c : Chronicle) (e : Entry) (trigger : Option (List Mark)) (place : ℕ) (job : JobDef)
    → SeenBy config c e (StartOn job.name) → AreDistinct config.jobs → nth place config.jobs ≡ Some job → Remembers places trigger job.start_on (seen config (StartOn job.name) (e ∷ c))
    → Remembered places jobs ts config c → Remembered places jobs (with_at place (λ t. trigger) ts) config (e ∷ c)
remembered-start places jobs ts config c e trigger place job s distinct there new r = record {
  stops = stops-apart places config c e job.name jobs config.jobs s r.stops;
  starts = starts-one places config c e trigger place job ts config.jobs s distinct there new r.starts;
  unborn = λ i past. s.others (StopOn i) refl ∙ r.unborn i (omega (arith, past));
}
