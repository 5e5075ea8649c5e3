-- The instances of each job after a job changed or came.
use Rattle.std.proofs.Common.{◌≡◌, ℕ, ◌<◌, Bool, true, false, cond, List, [], ◌∷◌, Option, None, Some, Result, Ok, Err, OnOk, OnErr, IsSome, option_map, map, length, get_or, set, insert, bytes_eq, refl, sym, ◌∙◌, ap, subst, true≢false}
use Rattle.up_conf.specs.declared.job.JobDef.{JobDef}
use Rattle.up_conf.specs.Order.{is_below}
use Rattle.up_job.specs.declared.instance.Instance.{Instance}
use Rattle.up_job.specs.declared.instance_key.InstanceKey.{InstanceKey}
use Rattle.up_job.specs.declared.instances.JobInstances.{JobInstances}
use Rattle.up_job.specs.JobLists.{file_name, job_of, list_of, instance_at, instances_in, Changes}
use Rattle.up_job.specs.InstanceLists as list
use Rattle.up_job.specs.Lists.{nth, with_at}
use Rattle.up_job.specs.Named.{named, position, put, with_change, AreInOrder, IsBelowAll}
use Rattle.up_job.proofs.NamedLemmas.{same_bytes, named_here, put_at, order_put, named_put, changed_here, order-names, names-with_change, named_changed}
use Rattle.up_job.proofs.Places.{map-with_at, nth_get, nth_within}
use Rattle.up_model.specs.Values.{Bytes}

pub on_ok : {A E P Q : Type 0} (r : Result A E) → (P → Q) → OnOk r P → OnOk r Q
on_ok (Ok x) f h = f h
on_ok (Err e) f h = h

-- a job with an instance is there
pub has_job : (job name : Bytes) (jobs : List JobInstances) → IsSome (list.named name (instances_in job jobs)) → IsSome (named job_of job jobs)
has_job job name jobs there = by_case (named job_of job jobs) there
  where
    by_case : (o : Option JobInstances) → IsSome (list.named name (list_of o)) → IsSome o
    by_case None h = h
    by_case (Some its) h = refl

pub job_here : (job : Bytes) (jobs : List JobInstances) (n : ℕ) (its : JobInstances) → n ≡ position job_of job jobs → AreInOrder job_of jobs → IsSome (named job_of job jobs)
    → its ≡ get_or jobs n its → named job_of job jobs ≡ Some its
job_here job jobs n its at order there is = named_here job_of job jobs n its at order there ∙ ap (λ g. Some g) (sym is)

pub list_here : (job : Bytes) (jobs : List JobInstances) (n : ℕ) (its : JobInstances) → n ≡ position job_of job jobs → AreInOrder job_of jobs → IsSome (named job_of job jobs)
    → its ≡ get_or jobs n its → instances_in job jobs ≡ its.instances
list_here job jobs n its at order there is = ap list_of (job_here job jobs n its at order there is)

-- a job with other instances
abbrev pub holding : List Instance → JobInstances → JobInstances
holding instances its = record its { instances = instances }

module _ (job : Bytes) (change : List Instance → List Instance) (jobs : List JobInstances) (n : ℕ) (at : n ≡ position job_of job jobs) (order : AreInOrder job_of jobs) where
  module _ (its : JobInstances) (instances : List Instance) (there : IsSome (named job_of job jobs)) (is : its ≡ get_or jobs n its) where
    same : set jobs n (holding instances its) ≡ with_change job_of job (holding instances) jobs
    same = changed_here job_of job (holding instances) jobs n its at order there is

    pub changed_order : AreInOrder job_of (set jobs n (holding instances its))
    changed_order = subst (AreInOrder job_of) (sym same)
        (order-names job_of jobs (with_change job_of job (holding instances) jobs) (names-with_change job_of job (holding instances) (λ x. refl) jobs) order)

    pub changed_job : instances ≡ change its.instances → Changes job change jobs (set jobs n (holding instances its))
    changed_job so other =
        ap (λ js. instances_in other js) same ∙ ap list_of (named_changed job_of other job (holding instances) (λ x. refl) jobs) ∙ by_case (bytes_eq job other) refl
      where
        here : bytes_eq job other ≡ true → named job_of other jobs ≡ Some its
        here e = ap (λ k. named job_of k jobs) (sym (same_bytes job other e)) ∙ job_here job jobs n its at order there is

        by_case : (b : Bool) → bytes_eq job other ≡ b
            → list_of (cond b (option_map (holding instances) (named job_of other jobs)) (named job_of other jobs)) ≡ cond b (change (instances_in other jobs)) (instances_in other jobs)
        by_case true e = ap (λ o. list_of (option_map (holding instances) o)) (here e) ∙ so ∙ ap (λ o. change (list_of o)) (sym (here e))
        by_case false e = refl

  module _ (its : JobInstances) (absent : named job_of job jobs ≡ None) (its_name : its.name ≡ job) where
    absent' : named job_of its.name jobs ≡ None
    absent' = subst (λ k. named job_of k jobs ≡ None) (sym its_name) absent

    put_same : insert jobs n its ≡ put job_of its jobs
    put_same = ap (λ m. insert jobs m its) (at ∙ ap (λ k. position job_of k jobs) (sym its_name)) ∙ put_at job_of its jobs

    pub added_order : AreInOrder job_of (insert jobs n its)
    added_order = subst (AreInOrder job_of) (sym put_same) (order_put job_of its jobs order absent')

    pub added_job : its.instances ≡ change [] → Changes job change jobs (insert jobs n its)
    added_job so other =
        ap (λ js. instances_in other js) put_same ∙ ap list_of (named_put job_of other its jobs absent')
        ∙ ap (λ k. list_of (cond (bytes_eq k other) (Some its) (named job_of other jobs))) its_name ∙ by_case (bytes_eq job other) refl
      where
        by_case : (b : Bool) → bytes_eq job other ≡ b
            → list_of (cond b (Some its) (named job_of other jobs)) ≡ cond b (change (instances_in other jobs)) (instances_in other jobs)
        by_case true e = so ∙ ap (λ o. change (list_of o)) (sym (subst (λ k. named job_of k jobs ≡ None) (same_bytes job other e) absent))
        by_case false e = refl

-- an instance that is there stands within both lists
pub job_within : (key : InstanceKey) (jobs : List JobInstances) → IsSome (instance_at key jobs) → key.job < length jobs
job_within key jobs there = nth_within key.job jobs (by_case (nth key.job jobs) there)
  where
    by_case : (o : Option JobInstances) → IsSome (nth key.at (list_of o)) → IsSome o
    by_case None h = absurd (true≢false (sym h))
    by_case (Some its) h = refl

pub at_within : (key : InstanceKey) (jobs : List JobInstances) (its : JobInstances) → IsSome (instance_at key jobs) → its ≡ get_or jobs key.job its → key.at < length its.instances
at_within key jobs its there is =
    let here = nth_get key.job jobs its (job_within key jobs there) is in
    nth_within key.at its.instances (subst (λ o. IsSome (nth key.at (list_of o))) here there)

-- a change of one job that keeps its name
pub order-with_at : (place : ℕ) (f : JobInstances → JobInstances) → ((x : JobInstances) → job_of (f x) ≡ job_of x) → (jobs : List JobInstances) → AreInOrder job_of jobs → AreInOrder job_of (with_at place f jobs)
order-with_at place f same jobs = order-names job_of jobs (with_at place f jobs) (map-with_at job_of f same place jobs)

-- the jobs of files in order are in order
below_all-files : (f : JobDef → JobInstances) → ((job : JobDef) → job_of (f job) ≡ file_name job) → (name : Bytes) (jobs : List JobDef) → IsBelowAll file_name name jobs → IsBelowAll job_of name (map f jobs)
below_all-files f keeps name [] below = tt
below_all-files f keeps name (job ∷ jobs) below = (subst (λ k. is_below name k ≡ true) (sym (keeps job)) below.0, below_all-files f keeps name jobs below.1)

pub order-files : (f : JobDef → JobInstances) → ((job : JobDef) → job_of (f job) ≡ file_name job) → (jobs : List JobDef) → AreInOrder file_name jobs → AreInOrder job_of (map f jobs)
order-files f keeps [] order = tt
order-files f keeps (job ∷ jobs) order =
    (subst (λ k. IsBelowAll job_of k (map f jobs)) (sym (keeps job)) (below_all-files f keeps job.name jobs order.0), order-files f keeps jobs order.1)

-- jobs stay in order if one changes, or none where the change is refused
pub order-if_ok : {A E : Type 0} (r : Result A E) (place : ℕ) (f : JobInstances → JobInstances) → ((x : JobInstances) → job_of (f x) ≡ job_of x) → (old new : List JobInstances)
    → OnOk r (new ≡ with_at place f old) → OnErr r (new ≡ old) → AreInOrder job_of old → AreInOrder job_of new
order-if_ok (Ok x) place f keeps old new ok err order = subst (AreInOrder job_of) (sym ok) (order-with_at place f keeps old order)
order-if_ok (Err e) place f keeps old new ok err order = subst (AreInOrder job_of) (sym err) order
