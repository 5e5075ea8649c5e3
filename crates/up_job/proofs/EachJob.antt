-- What holds for the instances of each job.
use Rattle.std.proofs.Common.{◌≡◌, ℕ, zero, suc, List, [], ◌∷◌, Result, Ok, Err, OnOk, OnErr, sym, subst}
use Rattle.std.specs.List.{AllByRecursion}
use Rattle.up_job.specs.declared.instance.Instance.{Instance}
use Rattle.up_job.specs.declared.instances.JobInstances.{JobInstances}
use Rattle.up_job.specs.Lists.{with_at}

abbrev pub Each : (List Instance → Type 0) → List JobInstances → Type 0
Each P jobs = AllByRecursion (λ job. P job.instances) jobs

-- one job changes
pub each-with_at : (P : List Instance → Type 0) (place : ℕ) (f : JobInstances → JobInstances) → ((job : JobInstances) → P job.instances → P (f job).instances) → (jobs : List JobInstances)
    → Each P jobs → Each P (with_at place f jobs)
each-with_at P place f keeps [] all = tt
each-with_at P zero f keeps (job ∷ jobs) all = (keeps job all.0, all.1)
each-with_at P (suc place) f keeps (job ∷ jobs) all = (all.0, each-with_at P place f keeps jobs all.1)

-- or none, if the change is refused
pub each-if_ok : {A E : Type 0} (r : Result A E) (P : List Instance → Type 0) (place : ℕ) (f : JobInstances → JobInstances)
    → ((job : JobInstances) → P job.instances → P (f job).instances) → (old new : List JobInstances) → OnOk r (new ≡ with_at place f old) → OnErr r (new ≡ old)
    → Each P old → Each P new
each-if_ok (Ok x) P place f keeps old new ok err all = subst (Each P) (sym ok) (each-with_at P place f keeps old all)
each-if_ok (Err e) P place f keeps old new ok err all = subst (Each P) (sym err) all
