-- What is kept of instances after an event has finished.
use Rattle.std.proofs.Common.{◌≡◌, ℕ, ◌<◌, ◌==◌, Bool, true, false, List, [], ◌∷◌, map, Option, None, Some, option_map, if◌then◌else◌, refl, sym, ◌∙◌, ap, arith, eqb-true, eq-eqb, ne_eqb}
use Rattle.up_job.specs.Unblocking.{without_id, unblocked, unblocked_in}
use Rattle.std.proofs.lemmas.Bool.{eqb-false}
use Rattle.up_conf.specs.declared.job.JobDef.{JobDef}
use Rattle.up_model.specs.declared.event_id.EventId.{EventId}
use Rattle.up_model.specs.Chronicle.{Chronicle, Finished}
use Rattle.up_model.specs.Configuration.{Configuration}
use Rattle.up_model.specs.Instances.{Instance, instances_of}
use Rattle.up_model.specs.Readings.{without, blocker, holders}
use Rattle.up_job.specs.declared.instances.JobInstances.{JobInstances}
use Rattle.up_job.specs.declared.instance.Instance.{Instance as Kept}
use Rattle.up_ledger.specs.Counting.{holder_uses, kept_uses, uses}
use Rattle.up_book.specs.Keeps.{KeepsJobs, HoldsOlder}
use Rattle.up_book.specs.Summaries.{Summary, summary, job_summary, known}
use Rattle.up_book.specs.Unblocking.{without_known, unblocked_summary, unblocked_job}
use Rattle.up_book.specs.Views.{Places, view, job_view}
use Rattle.up_ledger.proofs.Counting.{Names}
use Rattle.up_ledger.proofs.Frames.{holding-later}
use Rattle.up_book.proofs.Lists.{cons_same}
use Rattle.up_ledger.proofs.Placing.{holders-agree}

-- by the chronicle
known-without : (p : ℕ) (its : Option ℕ) → known (without p its) ≡ without_known p (known its)
known-without p None = refl
known-without p (Some q) = by_case (q == p)
  where
    by_case : (b : Bool) → known (if b then None else Some q) ≡ (if b then None else Some (Some q))
    by_case true = refl
    by_case false = refl

pub summary-finished : (p : ℕ) (c : Chronicle) (x : Instance) → HoldsOlder x.place c → summary (Finished p ∷ c) x ≡ unblocked_summary p (summary c x)
summary-finished p c x older = rw (holding-later (Finished p) c (holders x.place c) older, known-without p (blocker x.place c)) refl

summaries-finished : (config : Configuration) (job : JobDef) (p : ℕ) (c : Chronicle) (xs : List Instance) → ((i : ℕ) → HoldsOlder i c)
    → map (summary (Finished p ∷ c)) xs ≡ map (unblocked_summary p) (map (summary c) xs)
summaries-finished config job p c [] older = refl
summaries-finished config job p c (x ∷ xs) older = cons_same (summary-finished p c x (older x.place)) (summaries-finished config job p c xs older)

jobs-finished : (config : Configuration) (p : ℕ) (c : Chronicle) (jobs : List JobDef) → ((i : ℕ) → HoldsOlder i c) → map (job_summary (Finished p ∷ c)) jobs ≡ map (unblocked_job p) (map (job_summary c) jobs)
jobs-finished config p c [] older = refl
jobs-finished config p c (job ∷ jobs) older =
    cons_same (ap (λ (xs : List Summary). record (job_summary c job) { instances = xs }) (summaries-finished config job p c (instances_of job.name c) older)) (jobs-finished config p c jobs older)

-- by what is kept: these agree on all ids but the one that is gone
pub record Forgets (old new : Places) (id : EventId) (p : ℕ) : Type 0 where
  pub names : Names old id p
  pub agree : (other : EventId) → (id.key == other.key) ≡ false → new other ≡ old other

blocker-finished : (old new : Places) (id : EventId) (p : ℕ) (its : Option EventId) → Forgets old new id p → option_map new (without_id id its) ≡ without_known p (option_map old its)
blocker-finished old new id p None f = refl
blocker-finished old new id p (Some j) f = by_case (j.key == id.key) refl
  where
    with_key : ℕ → EventId
    with_key key = record { key = key }

    others : (found : Option ℕ) → old j ≡ found → (j.key == id.key) ≡ false → Some found ≡ without_known p (Some found)
    others None is apart = refl
    others (Some q) is apart = by_place (q == p) refl
      where
        by_place : (b : Bool) → (q == p) ≡ b → Some (Some q) ≡ (if b then None else Some (Some q))
        by_place true same = absurd (eqb-false j.key id.key apart (f.names.alone j (is ∙ ap Some (eqb-true q p same))))
        by_place false differs = refl

    by_case : (b : Bool) → (j.key == id.key) ≡ b → option_map new (if b then None else Some j) ≡ without_known p (Some (old j))
    by_case true same =
        let here : old j ≡ Some p = ap (λ key. old (with_key key)) (eqb-true j.key id.key same) ∙ f.names.is in
        rw (here, eq-eqb p p refl) refl
    by_case false apart =
        let stays : new j ≡ old j = f.agree j (ne_eqb id.key j.key (λ e. eqb-false j.key id.key apart (sym e))) in
        ap Some stays ∙ others (old j) refl apart

pub used-agree : (old new : Places) (id : EventId) (p n : ℕ) (count : EventId → ℕ) → Forgets old new id p → count id ≡ 0 → (other : EventId) → 0 < count other → new other ≡ old other
used-agree old new id p n count f none other used = f.agree other (by_case (id.key == other.key) refl)
  where
    with_key : ℕ → EventId
    with_key key = record { key = key }

    by_case : (b : Bool) → (id.key == other.key) ≡ b → b ≡ false
    by_case true same =
        let its : count other ≡ count id = ap (λ key. count (with_key key)) (sym (eqb-true id.key other.key same)) in
        absurd (omega (arith, its, none, used))
    by_case false differs = refl

view-finished : (old new : Places) (id : EventId) (p : ℕ) (k : Kept) → Forgets old new id p → holder_uses id k.holders ≡ 0 → view new (unblocked id k) ≡ unblocked_summary p (view old k)
view-finished old new id p k f none =
    rw (
      holders-agree old new k.holders (used-agree old new id p 0 (λ other. holder_uses other k.holders) f (omega (arith, none))),
      blocker-finished old new id p k.blocker f,
    ) refl

views-finished : (old new : Places) (id : EventId) (p : ℕ) (its : List Kept) → Forgets old new id p → kept_uses id its ≡ 0 → map (view new) (map (unblocked id) its) ≡ map (unblocked_summary p) (map (view old) its)
views-finished old new id p [] f none = refl
views-finished old new id p (k ∷ its) f none = cons_same (view-finished old new id p k f (omega (arith, none))) (views-finished old new id p its f (omega (arith, none)))

all-finished : (old new : Places) (id : EventId) (p : ℕ) (jobs : List JobInstances) → Forgets old new id p → uses id jobs ≡ 0 → map (job_view new) (map (unblocked_in id) jobs) ≡ map (unblocked_job p) (map (job_view old) jobs)
all-finished old new id p [] f none = refl
all-finished old new id p (job ∷ jobs) f none =
    cons_same (ap (λ (its : List Summary). record { name = job.name; instances = its }) (views-finished old new id p job.instances f (omega (arith, none))))
    (all-finished old new id p jobs f (omega (arith, none)))

-- the jobs after an event that nobody held has finished
pub keeps-finished : (old new : Places) (id : EventId) (p : ℕ) (jobs : List JobInstances) (config : Configuration) (c : Chronicle) → KeepsJobs old jobs config c → ((i : ℕ) → HoldsOlder i c)
    → Forgets old new id p → uses id jobs ≡ 0 → KeepsJobs new (map (unblocked_in id) jobs) config (Finished p ∷ c)
keeps-finished old new id p jobs config c keeps older f none =
    all-finished old new id p jobs f none ∙ ap (map (unblocked_job p)) keeps ∙ sym (jobs-finished config p c config.jobs older)
