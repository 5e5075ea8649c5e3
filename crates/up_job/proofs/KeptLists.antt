-- What is left of instances while the lists of their jobs are taken out, one after another.
use Rattle.std.proofs.Common.{◌≡◌, ℕ, zero, suc, ◌+◌, ◌<◌, Bool, true, false, cond, List, [], ◌∷◌, ◌++◌, length, map, take, drop, get_or, None, bytes_eq, refl, sym, ◌∙◌, ap, subst, arith, add-one}
use Rattle.std.proofs.lemmas.List.{map_more}
use Rattle.up_conf.specs.declared.job.JobDef.{JobDef}
use Rattle.up_job.specs.declared.instance.Instance.{Instance}
use Rattle.up_job.specs.declared.instances.JobInstances.{JobInstances}
use Rattle.up_job.specs.JobLists.{file_name, job_of, kept_job, list_of, instances_in, Changes}
use Rattle.up_job.specs.Named.{named, AreInOrder, IsBelowAll}
use Rattle.up_job.proofs.NamedLemmas.{below_not_same, same_bytes}
use Rattle.up_model.specs.Values.{Bytes}

-- none is taken of a job that isn't there
pub absent-taken : (name : Bytes) (jobs : List JobInstances) → named job_of name jobs ≡ None → Changes name (λ its. []) jobs jobs
absent-taken name jobs absent other = by_case (bytes_eq name other) refl
  where
    by_case : (b : Bool) → bytes_eq name other ≡ b → instances_in other jobs ≡ cond b [] (instances_in other jobs)
    by_case true same = ap list_of (subst (λ k. named job_of k jobs ≡ None) (same_bytes name other same) absent)
    by_case false same = refl

-- the instances of the jobs of these files are those of before
abbrev pub AreKept : (old now : List JobInstances) → List JobDef → Type 0
AreKept old now [] = Unit {0}
AreKept old now (job ∷ jobs) = (instances_in job.name now ≡ instances_in job.name old) × AreKept old now jobs

pub kept-all : (old : List JobInstances) (jobs : List JobDef) → AreKept old old jobs
kept-all old [] = tt
kept-all old (job ∷ jobs) = (refl, kept-all old jobs)

-- those of files above a name are, after the list of that name is taken
kept-above : (name : Bytes) (old now new : List JobInstances) (jobs : List JobDef) → IsBelowAll file_name name jobs → Changes name (λ its. []) now new → AreKept old now jobs → AreKept old new jobs
kept-above name old now new [] below changes kept = tt
kept-above name old now new (job ∷ jobs) below changes kept = (
  changes job.name ∙ ap (λ (b : Bool). cond b [] (instances_in job.name now)) (below_not_same name job.name below.0) ∙ kept.0,
  kept-above name old now new jobs below.1 changes kept.1,
)

pub kept-here : (old now : List JobInstances) (jobs : List JobDef) (i : ℕ) (job : JobDef) → i < length jobs → job ≡ get_or jobs i job → AreKept old now (drop i jobs)
    → instances_in job.name now ≡ instances_in job.name old
kept-here old now [] i job within is kept = absurd (omega arith)
kept-here old now (x ∷ jobs) zero job within is kept = ap (λ (j : JobDef). instances_in j.name now) is ∙ kept.0 ∙ ap (λ (j : JobDef). instances_in j.name old) (sym is)
kept-here old now (x ∷ jobs) (suc i) job within is kept = kept-here old now jobs i job (omega arith) is kept

kept-after : (old now new : List JobInstances) (jobs : List JobDef) (i : ℕ) (job : JobDef) → AreInOrder file_name jobs → i < length jobs → job ≡ get_or jobs i job
    → Changes job.name (λ its. []) now new → AreKept old now (drop i jobs) → AreKept old new (drop (suc i) jobs)
kept-after old now new [] i job order within is changes kept = absurd (omega arith)
kept-after old now new (x ∷ jobs) zero job order within is changes kept =
    kept-above job.name old now new jobs (subst (λ (j : JobDef). IsBelowAll file_name j.name jobs) (sym is) order.0) changes kept.1
kept-after old now new (x ∷ jobs) (suc i) job order within is changes kept = kept-after old now new jobs i job order.1 (omega arith) is changes kept

pub kept-next : (old now new : List JobInstances) (jobs : List JobDef) (i : ℕ) (job : JobDef) → AreInOrder file_name jobs → i < length jobs → job ≡ get_or jobs i job
    → Changes job.name (λ its. []) now new → AreKept old now (drop i jobs) → AreKept old new (drop (i + 1) jobs)
kept-next old now new jobs i job order within is changes kept = subst (λ n. AreKept old new (drop n jobs)) (sym (add-one i)) (kept-after old now new jobs i job order within is changes kept)

-- one job more with its own
pub kept-more : (old now : List JobInstances) (all next : List JobInstances) (jobs : List JobDef) (i : ℕ) (job : JobDef) (name : Bytes) (its : List Instance) → i < length jobs → job ≡ get_or jobs i job
    → AreKept old now (drop i jobs) → name ≡ job.name → its ≡ instances_in name now → all ≡ map (kept_job old) (take i jobs) → next ≡ all ++ record { name = name; instances = its } ∷ []
    → next ≡ map (kept_job old) (take (i + 1) jobs)
kept-more old now all next jobs i job name its within is kept named_ taken so_far one =
    let own : its ≡ instances_in job.name old = taken ∙ ap (λ k. instances_in k now) named_ ∙ kept-here old now jobs i job within is kept in
    one ∙ ap (λ js. js ++ record { name = name; instances = its } ∷ []) so_far
    ∙ ap (λ k. map (kept_job old) (take i jobs) ++ record { name = k; instances = its } ∷ []) named_
    ∙ ap (λ xs. map (kept_job old) (take i jobs) ++ record { name = job.name; instances = xs } ∷ []) own
    ∙ ap (λ (j : JobDef). map (kept_job old) (take i jobs) ++ kept_job old j ∷ []) is
    ∙ sym (map_more (kept_job old) jobs i job within)
