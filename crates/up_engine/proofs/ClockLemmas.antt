-- What the timer kills.
use Rattle.std.proofs.Common.{◌≡◌, ℕ, zero, suc, ◌<◌, Bool, true, false, List, [], ◌∷◌, ◌++◌, length, take, drop, get_or, map, Option, Some, refl, sym, ◌∙◌, ap, arith}
use Rattle.up_conf.specs.declared.job.JobDef.{JobDef}
use Rattle.up_job.specs.declared.instance_key.InstanceKey.{InstanceKey}
use Rattle.up_model.specs.Chronicle.{Chronicle, Signalled}
use Rattle.up_model.specs.Clock.{kill, kill_due, overdue, all_overdue, killing}
use Rattle.up_model.specs.Configuration.{Configuration}
use Rattle.up_model.specs.Files.{job_names}
use Rattle.up_model.specs.Instances.{Instance, instances_of}
use Rattle.up_model.specs.Predicates.{entries_if}

-- one more is sent KILL after the others
pub killing_push : (places : List ℕ) (place : ℕ) → killing (places ++ place ∷ []) ≡ Signalled place kill true ∷ killing places
killing_push [] place = refl
killing_push (first ∷ places) place = ap (λ es. es ++ Signalled first kill true ∷ []) (killing_push places place)

-- the place of an instance's key at an index, and those before it with it
pub record InstanceThere (places : InstanceKey → Option ℕ) (key : InstanceKey) (found : List ℕ) (n : ℕ) : Type 0 where
  pub place : ℕ
  pub is : places key ≡ Some place
  pub upto : take (suc n) found ≡ take n found ++ place ∷ []

pub instance_there : (places : InstanceKey → Option ℕ) (keys : List InstanceKey) (found : List ℕ) (n : ℕ) (d : InstanceKey)
    → map places keys ≡ map Some found → n < length keys → InstanceThere places (get_or keys n d) found n
instance_there places [] found n d h within = absurd (omega arith)
instance_there places (key ∷ keys) [] n d h within = absurd cc
instance_there places (key ∷ keys) (first ∷ found) zero d h within = record { place = first; is = cc; upto = refl }
instance_there places (key ∷ keys) (first ∷ found) (suc n) d h within =
    let there = instance_there places keys found n d (cc) (omega arith) in
    record { place = there.place; is = there.is; upto = ap (λ rest. first ∷ rest) there.upto }

pub instances_length : (places : InstanceKey → Option ℕ) (keys : List InstanceKey) (found : List ℕ) → map places keys ≡ map Some found → length keys ≡ length found
instances_length places [] [] h = refl
instances_length places [] (first ∷ found) h = absurd cc
instances_length places (key ∷ keys) [] h = absurd cc
instances_length places (key ∷ keys) (first ∷ found) h = ap suc (instances_length places keys found (cc))

-- if none of these is overdue, no instance among them is
pub none_due : (config : Configuration) (its : List Instance) (n : ℕ) (x : Instance) (rest : List Instance) (c : Chronicle) → overdue its c ≡ [] → drop n its ≡ x ∷ rest
    → kill_due x.file x.place c ≡ false
none_due config [] zero x rest c none found = absurd cc
none_due config [] (suc n) x rest c none found = absurd cc
none_due config (y ∷ its) zero x rest c none found = rw (← same) (by_case (kill_due y.file y.place c) none)
  where
    same : y ≡ x
    same = cc

    by_case : (b : Bool) → entries_if b (y.place ∷ []) ++ overdue its c ≡ [] → b ≡ false
    by_case true none = absurd cc
    by_case false none = refl
none_due config (y ∷ its) (suc n) x rest c none found = none_due config its n x rest c (by_case (kill_due y.file y.place c) none) found
  where
    by_case : (b : Bool) → entries_if b (y.place ∷ []) ++ overdue its c ≡ [] → overdue its c ≡ []
    by_case true none = absurd cc
    by_case false none = none

-- nor is one of a job
pub none_left : (config : Configuration) (jobs : List JobDef) (n : ℕ) (c : Chronicle) → all_overdue (job_names jobs) c ≡ [] → all_overdue (job_names (drop n jobs)) c ≡ []
none_left config [] zero c none = none
none_left config [] (suc n) c none = none
none_left config (job ∷ jobs) zero c none = none
none_left config (job ∷ jobs) (suc n) c none = none_left config jobs n c (second (overdue (instances_of job.name c) c) none)
  where
    second : (xs : List ℕ) → xs ++ all_overdue (job_names jobs) c ≡ [] → all_overdue (job_names jobs) c ≡ []
    second [] none = none
    second (x ∷ xs) none = absurd cc

pub none_of_job : (config : Configuration) (jobs : List JobDef) (n : ℕ) (job : JobDef) (rest : List JobDef) (c : Chronicle) → drop n jobs ≡ job ∷ rest → all_overdue (job_names jobs) c ≡ []
    → overdue (instances_of job.name c) c ≡ []
none_of_job config jobs n job rest c is none =
    first (overdue (instances_of job.name c) c) (sym (ap (λ js. all_overdue (job_names js) c) is) ∙ none_left config jobs n c none)
  where
    first : (xs : List ℕ) → xs ++ all_overdue (job_names rest) c ≡ [] → xs ≡ []
    first [] none = refl
    first (x ∷ xs) none = absurd cc
