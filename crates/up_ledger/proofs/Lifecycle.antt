-- Instances come and go.
use Rattle.std.proofs.Common.{◌≡◌, ℕ, zero, suc, ◌+◌, ◌<◌, ◌≤◌, ◌==◌, Bool, true, false, List, [], ◌∷◌, length, map, Some, bytes_eq, if◌then◌else◌, refl, sym, ◌∙◌, ap, arith, eq-eqb, ne_eqb}
use Rattle.up_job.specs.InstanceLists.{idle}
use Rattle.up_job.specs.JobLists.{with_made, removed_in}
use Rattle.up_job.specs.Lists.{with_at, nth, with_named, without_at}
use Rattle.std.proofs.lemmas.Bool.{eqb-false}
use Rattle.std.specs.List.{AllByRecursion}
use Rattle.up_conf.specs.declared.job.JobDef.{JobDef}
use Rattle.up_model.specs.declared.state.State.TheVariants as state
use Rattle.up_model.specs.Chronicle.{Chronicle, Made, Entered}
use Rattle.up_model.specs.Configuration.{Configuration}
use Rattle.up_model.specs.Instances.{Instance, without_instance, instances_of}
use Rattle.up_model.specs.Readings.{holders}
use Rattle.up_model.specs.Values.{Bytes}
use Rattle.up_model.proofs.Places.{bytes_same, bytes_refl, older-other, count, one_if, all_instances-once, instances-exist}
use Rattle.up_job.specs.declared.instances.JobInstances.{JobInstances}
use Rattle.up_job.specs.declared.instance.Instance.{Instance as Kept}
use Rattle.up_book.specs.Keeps.{AreDistinct, KeepsJobs, HoldsOlder}
use Rattle.up_book.specs.Summaries.{Summary, JobSummary, summary, job_summary, blank}
use Rattle.up_book.specs.Views.{Places, view, job_view}
use Rattle.up_ledger.proofs.Frames.{spared, holding-later}
use Rattle.up_book.proofs.Lists.{cons_same, with_at-map, with_at-read}
use Rattle.up_ledger.proofs.Named.{with_named-map, without_at-map}
use Rattle.up_book.proofs.One.{IsKnown, known-all, called, jobs-elsewhere, none-of-others, nth-all}

-- a job changes, and all others stay
pub one-job : (places : Places) (f : JobInstances → JobInstances) (g : JobSummary → JobSummary) (jobs : List JobInstances) (config : Configuration) (c d : Chronicle) (place : ℕ) (job : JobDef)
    → ((j : JobInstances) → job_view places (f j) ≡ g (job_view places j)) → KeepsJobs places jobs config c → AreDistinct config.jobs → nth place config.jobs ≡ Some job
    → job_summary d job ≡ g (job_summary c job) → ((other : JobDef) → bytes_eq other.name job.name ≡ false → job_summary d other ≡ job_summary c other)
    → KeepsJobs places (with_at place f jobs) config d
one-job places f g jobs config c d place job same keeps distinct there here others =
    with_at-map (job_view places) f g same place jobs
    ∙ ap (with_at place g) keeps
    ∙ sym (with_at-read (job_summary c) (job_summary d) g place config.jobs job there here
    (jobs-elsewhere (job_summary c) (job_summary d) place config.jobs job there distinct others))

-- what is made leaves what is known of others
pub spared-made : (file : JobDef) (name : Bytes) (c : Chronicle) (x : Instance) → (length c == x.place) ≡ false → HoldsOlder x.place c
    → summary (Made file name ∷ c) x ≡ summary c x
spared-made file name c x apart older = rw (apart, holding-later (Made file name) c (holders x.place c) older) refl

pub map-all : (P : Instance → Type 0) (f g : Instance → Summary) (xs : List Instance) → ((x : Instance) → P x → f x ≡ g x) → AllByRecursion P xs → map f xs ≡ map g xs
map-all P f g [] same all = refl
map-all P f g (x ∷ xs) same all = cons_same (same x all.0) (map-all P f g xs same all.1)

spared-made-all : (config : Configuration) (job : JobDef) (file : JobDef) (name : Bytes) (c : Chronicle) (its : Bytes) → ((i : ℕ) → HoldsOlder i c)
    → map (summary (Made file name ∷ c)) (instances_of its c) ≡ map (summary c) (instances_of its c)
spared-made-all config job file name c its older =
    map-all (IsKnown its c) (summary (Made file name ∷ c)) (summary c) (instances_of its c)
    (λ x known. spared-made file name c x (older-other (length c) x.place known.0) (older x.place)) (known-all its c)

-- of what was just made nothing is known
pub made-blank : (config : Configuration) (job : JobDef) (file : JobDef) (name : Bytes) (c : Chronicle) → ((i : ℕ) → HoldsOlder i c) → summary c (record { place = length c; name = name; file = job }) ≡ blank job name
    → summary (Made file name ∷ c) (record { place = length c; name = name; file = job }) ≡ blank job name
made-blank config job file name c older none =
    let fresh : record (summary c (record { place = length c; name = name; file = job })) { children = idle } ≡ blank job name = ap (λ (s : Summary). record s { children = idle }) none in
    rw (eq-eqb (length c) (length c) refl, holding-later (Made file name) c (holders (length c) c) (older (length c))) fresh

abbrev pub with_summary : Summary → JobSummary → JobSummary
with_summary s job = record job { instances = with_named (λ t. t.name) s job.instances }

same-instances : (job : JobSummary) (xs ys : List Summary) → xs ≡ ys → record job { instances = xs } ≡ record job { instances = ys }
same-instances job xs ys same = ap (λ (zs : List Summary). record job { instances = zs }) same

made-here : (config : Configuration) (job : JobDef) (name : Bytes) (c : Chronicle) → ((i : ℕ) → HoldsOlder i c) → summary c (record { place = length c; name = name; file = job }) ≡ blank job name
    → job_summary (Made job name ∷ c) job ≡ with_summary (blank job name) (job_summary c job)
made-here config job name c older none =
    let d : Chronicle = Made job name ∷ c in
    let made : Instance = record { place = length c; name = name; file = job } in
    let order : map (summary d) (with_named (λ (x : Instance). x.name) made (instances_of job.name c)) ≡ with_named (λ (s : Summary). s.name) (summary d made) (map (summary d) (instances_of job.name c)) =
    with_named-map (summary d) (λ (x : Instance). x.name) (λ (s : Summary). s.name) (λ x. refl) made (instances_of job.name c) in
    let rest = spared-made-all config job job name c job.name older in
    let new = made-blank config job job name c older none in
    rw (bytes_refl job.name) (same-instances (job_summary c job) _ _ (order ∙ ap (λ (xs : List Summary). with_named (λ (s : Summary). s.name) (summary d made) xs) rest ∙ ap (λ (s : Summary). with_named (λ (t : Summary). t.name) s (map (summary c) (instances_of job.name c))) new))

back : (x y : Bytes) → bytes_eq x y ≡ false → bytes_eq y x ≡ false
back x y apart = by_case (bytes_eq y x) refl
  where
    by_case : (b : Bool) → bytes_eq y x ≡ b → b ≡ false
    by_case true same =
        let yes : bytes_eq x y ≡ true = ap (λ z. bytes_eq x z) (bytes_same y x same) ∙ bytes_refl x in
        absurd cc
    by_case false differs = refl

made-elsewhere : (config : Configuration) (job : JobDef) (name : Bytes) (c : Chronicle) (other : JobDef) → ((i : ℕ) → HoldsOlder i c) → bytes_eq other.name job.name ≡ false
    → job_summary (Made job name ∷ c) other ≡ job_summary c other
made-elsewhere config job name c other older apart =
    rw (back other.name job.name apart) (same-instances (job_summary c other) _ _ (spared-made-all config other job name c other.name older))

-- a job has one instance more
pub keeps-made : (places : Places) (kept : Kept) (jobs : List JobInstances) (config : Configuration) (c : Chronicle) (place : ℕ) (job : JobDef) (name : Bytes)
    → KeepsJobs places jobs config c → AreDistinct config.jobs → nth place config.jobs ≡ Some job → ((i : ℕ) → HoldsOlder i c)
    → summary c (record { place = length c; name = name; file = job }) ≡ blank job name → view places kept ≡ blank job name
    → KeepsJobs places (with_at place (with_made kept) jobs) config (Made job name ∷ c)
keeps-made places kept jobs config c place job name keeps distinct there older none new =
    one-job places (with_made kept) (with_summary (view places kept)) jobs config c (Made job name ∷ c) place job
    (λ j. ap (λ (xs : List Summary). record (job_view places j) { instances = xs }) (with_named-map (view places) (λ (k : Kept). k.name) (λ (s : Summary). s.name) (λ k. refl) kept j.instances))
    keeps distinct there
    (made-here config job name c older none ∙ ap (λ (s : Summary). with_summary s (job_summary c job)) (sym new))
    (λ other apart. made-elsewhere config job name c other older apart)

-- the instance at a place of a list, and the list without it
pub without-nth : (at : ℕ) (xs : List Instance) (x : Instance) → nth at xs ≡ Some x → count x.place xs ≤ 1 → without_instance x.place xs ≡ without_at at xs
without-nth at [] x there once = absurd cc
without-nth zero (y ∷ ys) x there once =
    let same : y ≡ x = cc in
    let here : (y.place == x.place) ≡ true = eq-eqb y.place x.place (ap (λ (z : Instance). z.place) same) in
    let one : one_if (y.place == x.place) ≡ 1 = ap one_if here in
    rw here (without-none x.place ys (omega (arith, one, once)))
  where
    without-none : (p : ℕ) (zs : List Instance) → count p zs ≡ 0 → without_instance p zs ≡ zs
    without-none p [] none = refl
    without-none p (z ∷ zs) none = by_case (z.place == p) none (without-none p zs)
      where
        by_case : (b : Bool) → one_if b + count p zs ≡ 0 → (count p zs ≡ 0 → without_instance p zs ≡ zs) → (if b then without_instance p zs else z ∷ without_instance p zs) ≡ z ∷ zs
        by_case true none ih = absurd (omega arith)
        by_case false none ih = cons_same refl (ih (omega (arith, none)))
without-nth (suc at) (y ∷ ys) x there once = by_case (y.place == x.place) once (without-nth at ys x there)
  where
    by_case : (b : Bool) → one_if b + count x.place ys ≤ 1 → (count x.place ys ≤ 1 → without_instance x.place ys ≡ without_at at ys)
        → (if b then without_instance x.place ys else y ∷ without_instance x.place ys) ≡ y ∷ without_at at ys
    by_case true once ih = absurd (omega (arith, nth-in at ys x there))
      where
        nth-in : (n : ℕ) (zs : List Instance) (z : Instance) → nth n zs ≡ Some z → 0 < count z.place zs
        nth-in n [] z there = absurd cc
        nth-in zero (w ∷ ws) z there =
            let same : w ≡ z = cc in
            let one : (w.place == z.place) ≡ true = eq-eqb w.place z.place (ap (λ (u : Instance). u.place) same) in
            rw one (omega arith)
        nth-in (suc n) (w ∷ ws) z there = omega (arith, nth-in n ws z there)
    by_case false once ih = cons_same refl (ih (omega (arith, once)))

pub without-absent : (p : ℕ) (zs : List Instance) → count p zs ≡ 0 → without_instance p zs ≡ zs
without-absent p [] none = refl
without-absent p (z ∷ zs) none = by_case (z.place == p) none (without-absent p zs)
  where
    by_case : (b : Bool) → one_if b + count p zs ≡ 0 → (count p zs ≡ 0 → without_instance p zs ≡ zs) → (if b then without_instance p zs else z ∷ without_instance p zs) ≡ z ∷ zs
    by_case true none ih = absurd (omega arith)
    by_case false none ih = cons_same refl (ih (omega (arith, none)))

abbrev pub without_summary : ℕ → JobSummary → JobSummary
without_summary at job = record job { instances = without_at at job.instances }

pub all-apart : (i : ℕ) (xs : List Instance) → count i xs ≡ 0 → AllByRecursion (λ x. (i == x.place) ≡ false) xs
all-apart i [] none = tt
all-apart i (x ∷ xs) none = by_case (x.place == i) refl none (all-apart i xs)
  where
    by_case : (b : Bool) → (x.place == i) ≡ b → one_if b + count i xs ≡ 0 → (count i xs ≡ 0 → AllByRecursion (λ y. (i == y.place) ≡ false) xs) → ((i == x.place) ≡ false) × AllByRecursion (λ y. (i == y.place) ≡ false) xs
    by_case true same none ih = absurd (omega arith)
    by_case false differs none ih = (ne_eqb i x.place (λ e. eqb-false x.place i differs (sym e)), ih (omega (arith, none)))

-- an instance that has entered waiting is gone
left-elsewhere : (config : Configuration) (c : Chronicle) (i : ℕ) (other : JobDef) → ((p : ℕ) → HoldsOlder p c) → count i (instances_of other.name c) ≡ 0
    → job_summary (Entered i state.Waiting ∷ c) other ≡ job_summary c other
left-elsewhere config c i other older none =
    rw (without-absent i (instances_of other.name c) none) (same-instances (job_summary c other) _ _
    (map-all (λ x. (i == x.place) ≡ false) (summary (Entered i state.Waiting ∷ c)) (summary c) (instances_of other.name c)
    (λ x apart. spared (Entered i state.Waiting) c x apart (older x.place)) (all-apart i (instances_of other.name c) none)))

without-count : (at : ℕ) (xs : List Instance) (x : Instance) → nth at xs ≡ Some x → count x.place xs ≤ 1 → count x.place (without_at at xs) ≡ 0
without-count at [] x there once = absurd cc
without-count zero (y ∷ ys) x there once =
    let same : y ≡ x = cc in
    let one : one_if (y.place == x.place) ≡ 1 = ap one_if (eq-eqb y.place x.place (ap (λ (z : Instance). z.place) same)) in
    omega (arith, one, once)
without-count (suc at) (y ∷ ys) x there once = by_case (y.place == x.place) once (without-count at ys x there)
  where
    by_case : (b : Bool) → one_if b + count x.place ys ≤ 1 → (count x.place ys ≤ 1 → count x.place (without_at at ys) ≡ 0) → one_if b + count x.place (without_at at ys) ≡ 0
    by_case true once ih = absurd (omega (arith, nth-in at ys x there))
      where
        nth-in : (n : ℕ) (zs : List Instance) (z : Instance) → nth n zs ≡ Some z → 0 < count z.place zs
        nth-in n [] z there = absurd cc
        nth-in zero (w ∷ ws) z there =
            let same : w ≡ z = cc in
            let one : (w.place == z.place) ≡ true = eq-eqb w.place z.place (ap (λ (u : Instance). u.place) same) in
            rw one (omega arith)
        nth-in (suc n) (w ∷ ws) z there = omega (arith, nth-in n ws z there)
    by_case false once ih = omega (arith, ih (omega (arith, once)))

left-here : (config : Configuration) (c : Chronicle) (at : ℕ) (job : JobDef) (x : Instance) → ((p : ℕ) → HoldsOlder p c) → nth at (instances_of job.name c) ≡ Some x
    → job_summary (Entered x.place state.Waiting ∷ c) job ≡ without_summary at (job_summary c job)
left-here config c at job x older there =
    let d : Chronicle = Entered x.place state.Waiting ∷ c in
    let once : count x.place (instances_of job.name c) ≤ 1 = omega (arith, instances-exist x.place job.name c, all_instances-once x.place c) in
    let rest : map (summary d) (without_at at (instances_of job.name c)) ≡ map (summary c) (without_at at (instances_of job.name c)) =
    map-all (λ y. (x.place == y.place) ≡ false) (summary d) (summary c) (without_at at (instances_of job.name c))
    (λ y apart. spared (Entered x.place state.Waiting) c y apart (older y.place)) (all-apart x.place (without_at at (instances_of job.name c)) (without-count at (instances_of job.name c) x there once)) in
    rw (without-nth at (instances_of job.name c) x there once) (same-instances (job_summary c job) _ _ (rest ∙ without_at-map (summary c) at (instances_of job.name c)))

pub keeps-left : (places : Places) (jobs : List JobInstances) (config : Configuration) (c : Chronicle) (place at : ℕ) (job : JobDef) (x : Instance)
    → KeepsJobs places jobs config c → AreDistinct config.jobs → nth place config.jobs ≡ Some job → ((i : ℕ) → HoldsOlder i c) → nth at (instances_of job.name c) ≡ Some x
    → KeepsJobs places (with_at place (removed_in at) jobs) config (Entered x.place state.Waiting ∷ c)
keeps-left places jobs config c place at job x keeps distinct there older its =
    let made = nth-all (IsKnown job.name c) at (instances_of job.name c) x its (known-all job.name c) in
    one-job places (removed_in at) (without_summary at) jobs config c (Entered x.place state.Waiting ∷ c) place job
    (λ j. ap (λ (xs : List Summary). record (job_view places j) { instances = xs }) (without_at-map (view places) at j.instances))
    keeps distinct there (left-here config c at job x older its)
    (λ other apart. left-elsewhere config c x.place other older (none-of-others other.name c x.place (called job.name x.name) (instances_of other.name c) (known-all other.name c) made.1 apart))
