-- One instance changes, and all others stay.
use Rattle.std.proofs.Common.{◌≡◌, ℕ, zero, suc, ◌+◌, ◌<◌, ◌≤◌, ◌==◌, Bool, true, false, List, [], ◌∷◌, length, map, Option, None, Some, option_map, bytes_eq, if◌then◌else◌, refl, sym, ◌∙◌, ap, subst, arith, eqb-true, eq-eqb}
use Rattle.up_job.specs.JobLists.{changed_in, changed_at}
use Rattle.up_job.specs.Lists.{with_at, nth}
use Rattle.std.specs.List.{AllByRecursion}
use Rattle.up_conf.specs.declared.job.JobDef.{JobDef}
use Rattle.up_model.specs.declared.state.State.TheVariants as state
use Rattle.up_model.specs.declared.who.Who.{Who}
use Rattle.up_model.specs.Chronicle.{Chronicle, Entry, Made, Entered}
use Rattle.up_model.specs.Configuration.{Configuration}
use Rattle.up_model.specs.Instances.{Instance, is_before, with_instance, without_instance, instances_of}
use Rattle.up_model.specs.Readings.{made_at, file_of}
use Rattle.up_model.specs.Values.{Bytes}
use Rattle.up_model.proofs.FileLaws.{HasFile, files}
use Rattle.up_model.proofs.Places.{bytes_same, bytes_refl, older-other, all-without, count, one_if, all_instances-once, instances-exist}
use Rattle.up_job.specs.declared.instance_key.InstanceKey.{InstanceKey}
use Rattle.up_job.specs.declared.instances.JobInstances.{JobInstances}
use Rattle.up_job.specs.declared.instance.Instance.{Instance as Kept}
use Rattle.up_book.specs.Keeps.{AreDistinct, KeepsJobs, instance_in, place_at}
use Rattle.up_book.specs.Summaries.{Summary, JobSummary, summary, job_summary}
use Rattle.up_book.specs.Views.{Places, view, job_view, kept_in, kept_at}
use Rattle.up_book.proofs.Lists.{with_at-map, Elsewhere, with_at-read, nth-map, map-nth}

-- an instance of this name
abbrev pub called : Bytes → Bytes → Who
called job name = record { job = job; instance = name }

-- (up_model's NameLaws has these, not yet for others to use)
abbrev pub IsKnown : Bytes → Chronicle → Instance → Type 0
IsKnown job c x = (x.place < length c) × (made_at x.place c ≡ Some (called job x.name))

known-later : (job : Bytes) (e : Entry) (c : Chronicle) (xs : List Instance) → AllByRecursion (IsKnown job c) xs → AllByRecursion (IsKnown job (e ∷ c)) xs
known-later job e c [] all = tt
known-later job e c (x ∷ xs) all = ((omega (arith, all.0.0), rw (older-other (length c) x.place all.0.0) all.0.1), known-later job e c xs all.1)

all-with : (P : Instance → Type 0) (y : Instance) (ys : List Instance) → P y → AllByRecursion P ys → AllByRecursion P (with_instance y ys)
all-with P y [] h all = (h, tt)
all-with P y (z ∷ zs) h all = by_case (is_before z y) (all-with P y zs h all.1)
  where
    by_case : (b : Bool) → AllByRecursion P (with_instance y zs) → AllByRecursion P (if b then z ∷ with_instance y zs else y ∷ z ∷ zs)
    by_case true ih = (all.0, ih)
    by_case false ih = (h, all)

pub known-all : (job : Bytes) (c : Chronicle) → AllByRecursion (IsKnown job c) (instances_of job c)
known-all job [] = tt
known-all job (Made file name ∷ c) = by_case (bytes_eq file.name job) refl (known-later job (Made file name) c (instances_of job c) (known-all job c))
  where
    d : Chronicle
    d = Made file name ∷ c

    made : Instance
    made = record { place = length c; name = name; file = file }

    by_case : (b : Bool) → bytes_eq file.name job ≡ b → AllByRecursion (IsKnown job d) (instances_of job c)
        → AllByRecursion (IsKnown job d) (if b then with_instance made (instances_of job c) else instances_of job c)
    by_case true same rest =
        all-with (IsKnown job d) made (instances_of job c) (omega arith, rw (eq-eqb (length c) (length c) refl) (ap (λ its. Some (called its name)) (bytes_same file.name job same))) rest
    by_case false differs rest = rest
known-all job (Entered i state.Waiting ∷ c) = known-later job (Entered i state.Waiting) c (without_instance i (instances_of job c)) (all-without (IsKnown job c) i (instances_of job c) (known-all job c))
known-all job (entry ∷ c) = known-later job entry c (instances_of job c) (known-all job c)

-- an instance of another job stands elsewhere
pub none-of-others : (other : Bytes) (c : Chronicle) (i : ℕ) (who : Who) (xs : List Instance) → AllByRecursion (IsKnown other c) xs → made_at i c ≡ Some who
    → bytes_eq other who.job ≡ false → count i xs ≡ 0
none-of-others other c i who [] all made apart = refl
none-of-others other c i who (x ∷ xs) all made apart = by_case (x.place == i) refl (none-of-others other c i who xs all.1 made apart)
  where
    by_case : (b : Bool) → (x.place == i) ≡ b → count i xs ≡ 0 → one_if b + count i xs ≡ 0
    by_case true same ih =
        let here : made_at i c ≡ Some (called other x.name) = ap (λ p. made_at p c) (sym (eqb-true x.place i same)) ∙ all.0.1 in
        let both : Some who ≡ Some (called other x.name) = sym made ∙ here in
        let job : who.job ≡ other = cc in
        let yes : bytes_eq other who.job ≡ true = ap (λ j. bytes_eq other j) job ∙ bytes_refl other in
        absurd cc
    by_case false differs ih = omega (arith, ih)

-- an instance at a place of a list is counted there
pub nth-counted : (at : ℕ) (xs : List Instance) (x : Instance) → nth at xs ≡ Some x → 0 < count x.place xs
nth-counted at [] x there = absurd cc
nth-counted zero (y ∷ ys) x there =
    let same : y ≡ x = cc in
    let one : (y.place == x.place) ≡ true = eq-eqb y.place x.place (ap (λ (z : Instance). z.place) same) in
    rw one (omega arith)
nth-counted (suc at) (y ∷ ys) x there = omega (arith, nth-counted at ys x there)

pub nth-all : (P : Instance → Type 0) (at : ℕ) (xs : List Instance) (x : Instance) → nth at xs ≡ Some x → AllByRecursion P xs → P x
nth-all P at [] x there all = absurd cc
nth-all P zero (y ∷ ys) x there all =
    let same : y ≡ x = cc in
    subst P same all.0
nth-all P (suc at) (y ∷ ys) x there all = nth-all P at ys x there all.1

-- two readings of instances that differ at one alone
pub absent : (old new : Instance → Summary) (i : ℕ) (xs : List Instance) → count i xs ≡ 0 → AllByRecursion (λ y. (y.place == i) ≡ false → new y ≡ old y) xs
    → map new xs ≡ map old xs
absent old new i [] none others = refl
absent old new i (x ∷ xs) none others = by_case (x.place == i) refl none (λ none. absent old new i xs none others.1)
  where
    by_case : (b : Bool) → (x.place == i) ≡ b → one_if b + count i xs ≡ 0 → (count i xs ≡ 0 → map new xs ≡ map old xs) → map new (x ∷ xs) ≡ map old (x ∷ xs)
    by_case true same none ih = absurd (omega arith)
    by_case false differs none ih = rw (others.0 differs, ih (omega (arith, none))) refl

pub elsewhere-one : (old new : Instance → Summary) (at : ℕ) (xs : List Instance) (x : Instance) → nth at xs ≡ Some x → count x.place xs ≤ 1
    → AllByRecursion (λ y. (y.place == x.place) ≡ false → new y ≡ old y) xs → Elsewhere old new at xs
elsewhere-one old new at [] x there once others = absurd cc
elsewhere-one old new zero (y ∷ ys) x there once others =
    let same : y ≡ x = cc in
    let one : one_if (y.place == x.place) ≡ 1 = ap one_if (eq-eqb y.place x.place (ap (λ (z : Instance). z.place) same)) in
    absent old new x.place ys (omega (arith, one, once)) others.1
elsewhere-one old new (suc at) (y ∷ ys) x there once others = by_case (y.place == x.place) refl once (λ once. elsewhere-one old new at ys x there once others.1)
  where
    by_case : (b : Bool) → (y.place == x.place) ≡ b → one_if b + count x.place ys ≤ 1 → (count x.place ys ≤ 1 → Elsewhere old new at ys) → (new y ≡ old y) × Elsewhere old new at ys
    by_case true same once ih = absurd (omega (arith, nth-counted at ys x there))
    by_case false differs once ih = (others.0 differs, ih (omega (arith, once)))

-- and of jobs
pub apart-back : (x y : Bytes) → bytes_eq x y ≡ false → bytes_eq y x ≡ false
apart-back x y apart = by_case (bytes_eq y x) refl
  where
    by_case : (b : Bool) → bytes_eq y x ≡ b → b ≡ false
    by_case true same =
        let yes : bytes_eq x y ≡ true = ap (λ z. bytes_eq x z) (bytes_same y x same) ∙ bytes_refl x in
        absurd cc
    by_case false differs = refl

jobs-past : (old new : JobDef → JobSummary) (job : JobDef) (jobs : List JobDef) → AllByRecursion (λ other. bytes_eq other.name job.name ≡ false) jobs
    → ((other : JobDef) → bytes_eq other.name job.name ≡ false → new other ≡ old other) → map new jobs ≡ map old jobs
jobs-past old new job [] all others = refl
jobs-past old new job (other ∷ jobs) all others = rw (others other all.0, jobs-past old new job jobs all.1 others) refl

pub nth-apart : (place : ℕ) (jobs : List JobDef) (job first : JobDef) → nth place jobs ≡ Some job → AllByRecursion (λ other. bytes_eq other.name first.name ≡ false) jobs
    → bytes_eq job.name first.name ≡ false
nth-apart place [] job first there all = absurd cc
nth-apart zero (other ∷ jobs) job first there all =
    let same : other ≡ job = cc in
    ap (λ (j : JobDef). bytes_eq j.name first.name) (sym same) ∙ all.0
nth-apart (suc place) (other ∷ jobs) job first there all = nth-apart place jobs job first there all.1

pub jobs-elsewhere : (old new : JobDef → JobSummary) (place : ℕ) (jobs : List JobDef) (job : JobDef) → nth place jobs ≡ Some job → AreDistinct jobs
    → ((other : JobDef) → bytes_eq other.name job.name ≡ false → new other ≡ old other) → Elsewhere old new place jobs
jobs-elsewhere old new place [] job there distinct others = absurd cc
jobs-elsewhere old new zero (first ∷ jobs) job there distinct others =
    let same : first ≡ job = cc in
    jobs-past old new job jobs (subst (λ (j : JobDef). AllByRecursion (λ other. bytes_eq other.name j.name ≡ false) jobs) same distinct.0) others
jobs-elsewhere old new (suc place) (first ∷ jobs) job there distinct others =
    (others first (apart-back job.name first.name (nth-apart place jobs job first there distinct.0)), jobs-elsewhere old new place jobs job there distinct.1 others)

-- what holds of every instance holds of these
pub all-of : (P : Instance → Type 0) (xs : List Instance) → ((x : Instance) → P x) → AllByRecursion P xs
all-of P [] each = tt
all-of P (x ∷ xs) each = (each x, all-of P xs each)

-- what one step changes: one instance, and of it this
pub record Touches (config : Configuration) (c d : Chronicle) (place i : ℕ) (g : Summary → Summary) : Type 0 where
  pub instances : (job : Bytes) → instances_of job d ≡ instances_of job c
  pub others : (job : JobDef) → AllByRecursion (λ x. (x.place == i) ≡ false → summary d x ≡ summary c x) (instances_of job.name c)
  pub here : (x : Instance) → x.place ≡ i → summary d x ≡ g (summary c x)

abbrev pub in_job : ℕ → (Summary → Summary) → JobSummary → JobSummary
in_job at g job = record job { instances = with_at at g job.instances }

touched-job : (config : Configuration) (c d : Chronicle) (place at i : ℕ) (g : Summary → Summary) (job : JobDef) (x : Instance) → Touches config c d place i g → nth place config.jobs ≡ Some job
    → nth at (instances_of job.name c) ≡ Some x → x.place ≡ i → job_summary d job ≡ in_job at g (job_summary c job)
touched-job config c d at_job at i g job x t in_jobs there place =
    let once : count x.place (instances_of job.name c) ≤ 1 = omega (arith, instances-exist x.place job.name c, all_instances-once x.place c) in
    let others : AllByRecursion (λ y. (y.place == x.place) ≡ false → summary d y ≡ summary c y) (instances_of job.name c) =
    subst (λ p. AllByRecursion (λ y. (y.place == p) ≡ false → summary d y ≡ summary c y) (instances_of job.name c)) (sym place) (t.others job) in
    rw (t.instances job.name) (ap (λ (xs : List Summary). record (job_summary c job) { instances = xs })
    (with_at-read (summary c) (summary d) g at (instances_of job.name c) x there (t.here x place)
    (elsewhere-one (summary c) (summary d) at (instances_of job.name c) x there once others)))

spared-job : (config : Configuration) (c d : Chronicle) (place i : ℕ) (g : Summary → Summary) (who : Who) (other : JobDef) → Touches config c d place i g → made_at i c ≡ Some who
    → bytes_eq other.name who.job ≡ false → job_summary d other ≡ job_summary c other
spared-job config c d place i g who other t made apart =
    let none = none-of-others other.name c i who (instances_of other.name c) (known-all other.name c) made apart in
    rw (t.instances other.name) (ap (λ (xs : List Summary). record (job_summary c other) { instances = xs })
    (absent (summary c) (summary d) i (instances_of other.name c) none (t.others other)))

-- all jobs after one instance of one of them changed
pub touched : (config : Configuration) (c d : Chronicle) (key : InstanceKey) (i : ℕ) (g : Summary → Summary) (job : JobDef) (x : Instance) (jobs : List JobDef)
    → Touches config c d key.job i g → nth key.job config.jobs ≡ Some job → AreDistinct jobs → nth key.job jobs ≡ Some job → nth key.at (instances_of job.name c) ≡ Some x → x.place ≡ i
    → map (job_summary d) jobs ≡ with_at key.job (in_job key.at g) (map (job_summary c) jobs)
touched config c d key i g job x jobs t in_config distinct in_jobs in_instances place =
    let its = nth-all (IsKnown job.name c) key.at (instances_of job.name c) x in_instances (known-all job.name c) in
    let made : made_at i c ≡ Some (called job.name x.name) = ap (λ p. made_at p c) (sym place) ∙ its.1 in
    with_at-read (job_summary c) (job_summary d) (in_job key.at g) key.job jobs job in_jobs
    (touched-job config c d key.job key.at i g job x t in_config in_instances place)
    (jobs-elsewhere (job_summary c) (job_summary d) key.job jobs job in_jobs distinct
    (λ other apart. spared-job config c d key.job i g (called job.name x.name) other t made apart))

-- an instance that a key stands for
pub record There (places : Places) (jobs : List JobInstances) (config : Configuration) (c : Chronicle) (key : InstanceKey) (i : ℕ) : Type 0 where
  pub job : JobDef
  pub its : Instance
  pub kept : Kept
  pub in_jobs : nth key.job config.jobs ≡ Some job
  pub in_instances : nth key.at (instances_of job.name c) ≡ Some its
  pub place : its.place ≡ i
  pub found : kept_at key jobs ≡ Some kept
  pub same : view places kept ≡ summary c its

there-in : (places : Places) (jobs : List JobInstances) (config : Configuration) (c : Chronicle) (key : InstanceKey) (i : ℕ) (kept_job : JobInstances) (job : JobDef) (its : Instance)
    → nth key.job jobs ≡ Some kept_job → nth key.job config.jobs ≡ Some job → job_summary c job ≡ job_view places kept_job
    → nth key.at (instances_of kept_job.name c) ≡ Some its → its.place ≡ i → There places jobs config c key i
there-in places jobs config c key i kept_job job its kept_there job_there same its_there place =
    let name : job.name ≡ kept_job.name = ap (λ (s : JobSummary). s.name) same in
    let lists : map (summary c) (instances_of job.name c) ≡ map (view places) kept_job.instances = ap (λ (s : JobSummary). s.instances) same in
    let mine : nth key.at (instances_of job.name c) ≡ Some its = ap (λ n. nth key.at (instances_of n c)) name ∙ its_there in
    let seen_so : nth key.at (map (summary c) (instances_of job.name c)) ≡ Some (summary c its) = map-nth (summary c) key.at (instances_of job.name c) its mine in
    let viewed : nth key.at (map (view places) kept_job.instances) ≡ Some (summary c its) = ap (nth key.at) (sym lists) ∙ seen_so in
    let found = nth-map (view places) key.at kept_job.instances (summary c its) viewed in
    record {
      job = job;
      its = its;
      kept = found.0;
      in_jobs = job_there;
      in_instances = mine;
      place = place;
      found = ap (kept_in key.at) kept_there ∙ found.1;
      same = found.2;
    }

there-by : (places : Places) (jobs : List JobInstances) (config : Configuration) (c : Chronicle) (key : InstanceKey) (i : ℕ) (kept_job : Option JobInstances)
    → nth key.job jobs ≡ kept_job → KeepsJobs places jobs config c → option_map {T = Instance} (λ its. its.place) (instance_in key.at kept_job c) ≡ Some i → There places jobs config c key i
there-by places jobs config c key i None there keeps found = absurd cc
there-by places jobs config c key i (Some kept_job) there keeps found =
    let viewed : nth key.job (map (job_view places) jobs) ≡ Some (job_view places kept_job) = map-nth (job_view places) key.job jobs kept_job there in
    let summed : nth key.job (map (job_summary c) config.jobs) ≡ Some (job_view places kept_job) = ap (nth key.job) (sym keeps) ∙ viewed in
    let job = nth-map (job_summary c) key.job config.jobs (job_view places kept_job) summed in
    by_case (nth key.at (instances_of kept_job.name c)) refl found job.0 job.1 job.2
  where
    by_case : (its : Option Instance) → nth key.at (instances_of kept_job.name c) ≡ its → option_map {T = Instance} (λ one. one.place) its ≡ Some i
        → (job : JobDef) → nth key.job config.jobs ≡ Some job → job_summary c job ≡ job_view places kept_job → There places jobs config c key i
    by_case None is found job job_there same = absurd cc
    by_case (Some its) is found job job_there same = there-in places jobs config c key i kept_job job its there job_there same is cc

pub there : (places : Places) (jobs : List JobInstances) (config : Configuration) (c : Chronicle) (key : InstanceKey) (i : ℕ)
    → KeepsJobs places jobs config c → place_at jobs c key ≡ Some i → There places jobs config c key i
there places jobs config c key i keeps found = there-by places jobs config c key i (nth key.job jobs) refl keeps found

-- its file is the one by which it was made
pub there-file : (places : Places) (jobs : List JobInstances) (config : Configuration) (c : Chronicle) (key : InstanceKey) (i : ℕ) (t : There places jobs config c key i) → file_of i c ≡ Some t.its.file
there-file places jobs config c key i t =
    let has = nth-all (HasFile t.job.name c) key.at (instances_of t.job.name c) t.its t.in_instances (files t.job.name c) in
    ap (λ p. file_of p c) (sym t.place) ∙ has.1

same-file : {a b : JobDef} → Some a ≡ Some b → a ≡ b
same-file same = cc

pub its-file : (places : Places) (jobs : List JobInstances) (config : Configuration) (c : Chronicle) (key : InstanceKey) (i : ℕ) (job : JobDef) (t : There places jobs config c key i) → file_of i c ≡ Some job → t.its.file ≡ job
its-file places jobs config c key i job t file = same-file (sym (there-file places jobs config c key i t) ∙ file)

-- one instance is kept as it changes
pub one : (places : Places) (f : Kept → Kept) (g : Summary → Summary) (jobs : List JobInstances) (config : Configuration) (c d : Chronicle) (key : InstanceKey) (i : ℕ)
    → ((k : Kept) → view places (f k) ≡ g (view places k)) → KeepsJobs places jobs config c → AreDistinct config.jobs → place_at jobs c key ≡ Some i → Touches config c d key.job i g
    → KeepsJobs places (changed_at key f jobs) config d
one places f g jobs config c d key i same keeps distinct found t =
    let its = there places jobs config c key i keeps found in
    let one_job : (j : JobInstances) → job_view places (changed_in key.at f j) ≡ in_job key.at g (job_view places j) = λ j.
    ap (λ (xs : List Summary). record (job_view places j) { instances = xs }) (with_at-map (view places) f g same key.at j.instances) in
    with_at-map (job_view places) (changed_in key.at f) (in_job key.at g) one_job key.job jobs
    ∙ ap (with_at key.job (in_job key.at g)) keeps
    ∙ sym (touched config c d key i g its.job its.its config.jobs t its.in_jobs distinct its.in_jobs its.in_instances its.place)

-- where keys stand stays
pub place_at-changed : (key other : InstanceKey) (f : Kept → Kept) (jobs : List JobInstances) (c d : Chronicle) → ((job : Bytes) → instances_of job d ≡ instances_of job c)
    → place_at (changed_at key f jobs) d other ≡ place_at jobs c other
place_at-changed key other f jobs c d same = by_name key.job other.job jobs
  where
    by_name : (m n : ℕ) (its : List JobInstances) → option_map {T = Instance} (λ x. x.place) (instance_in other.at (nth n (with_at m (changed_in key.at f) its)) d)
        ≡ option_map {T = Instance} (λ x. x.place) (instance_in other.at (nth n its) c)
    by_name m n [] = refl
    by_name zero zero (j ∷ js) = rw (same j.name) refl
    by_name zero (suc n) (j ∷ js) = rest n js
      where
        rest : (n : ℕ) (its : List JobInstances) → option_map {T = Instance} (λ x. x.place) (instance_in other.at (nth n its) d) ≡ option_map {T = Instance} (λ x. x.place) (instance_in other.at (nth n its) c)
        rest n [] = refl
        rest zero (i ∷ is) = rw (same i.name) refl
        rest (suc n) (i ∷ is) = rest n is
    by_name (suc m) zero (j ∷ js) = rw (same j.name) refl
    by_name (suc m) (suc n) (j ∷ js) = by_name m n js
