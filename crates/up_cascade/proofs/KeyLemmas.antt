-- What the keys of instances stand for.
use Rattle.std.proofs.Common.{◌≡◌, ℕ, zero, suc, ◌<◌, ◌≤◌, ◌==◌, Bool, true, false, List, [], ◌∷◌, ◌++◌, Option, None, Some, length, drop, get_or, slice_get, option_map, if◌then◌else◌, refl, sym, ◌∙◌, ap, arith, append_assoc, eqb-true, ne_eqb}
use Rattle.std.specs.Prelude.{option_and_then}
use Rattle.std.proofs.lemmas.Option.{slice_get_read}
use Rattle.up_conf.specs.declared.job.JobDef.{JobDef}
use Rattle.up_job.specs.declared.instance_key.InstanceKey.{InstanceKey}
use Rattle.up_book.specs.Keys.{job_at, name_at, instance_at, instance_place}
use Rattle.up_model.specs.Predicates.{is_waiting}
use Rattle.up_cascade.proofs.HolderLemmas.{past-releasing}
use Rattle.up_model.specs.declared.state.State.{State}
use Rattle.up_model.specs.declared.state.State.TheVariants as state
use Rattle.up_model.specs.Chronicle.{Chronicle, Entry, Entered, Signalled}
use Rattle.up_model.specs.Clock.{kill, killing}
use Rattle.up_model.specs.Configuration.{Configuration}
use Rattle.up_model.specs.Instances.{Instance, instances_of}
use Rattle.up_model.specs.Replies.{releasing}
use Rattle.up_model.specs.Values.{Bytes}
use Rattle.up_model.specs.Readings.{entry_at, file_in, file_of}
use Rattle.up_model.proofs.FileLaws.{HasFile, files}
use Rattle.up_book.proofs.Keyed.{nth-get}
use Rattle.up_book.proofs.One.{nth-all}

-- the name of a job of the table
pub named_there : (config : Configuration) (jobs : List JobDef) (n : ℕ) (job : JobDef) → jobs ≡ config.jobs → n < length jobs → job ≡ get_or jobs n job
    → name_at config n ≡ Some job.name
named_there config jobs n job same within here =
    ap (option_map (λ (its : JobDef). its.name)) (ap (λ js. slice_get js n) (sym same) ∙ slice_get_read jobs (length jobs) n job refl within here)

-- the name of the job at an index of the table
pub job_name : (config : Configuration) (n : ℕ) (job : JobDef) → job_at config n ≡ Some job → name_at config n ≡ Some job.name
job_name config n job there = ap (option_map (λ (its : JobDef). its.name)) there

-- an item of a list at an index, and those after it
split : {X : Type 0} (xs : List X) (n : ℕ) → n < length xs → (x : X) × ((slice_get xs n ≡ Some x) × (drop n xs ≡ x ∷ drop (suc n) xs))
split [] n within = absurd (omega (arith, within))
split (x ∷ xs) zero within = (x, (refl, refl))
split (x ∷ xs) (suc n) within = let found = split xs n (omega (arith, within)) in (found.0, (found.1.0, found.1.1))

-- the same of an index within the table
pub job-at : (config : Configuration) (jobs : List JobDef) (n : ℕ) → jobs ≡ config.jobs → n < length jobs → (job : JobDef) × ((job_at config n ≡ Some job) × (drop n jobs ≡ job ∷ drop (suc n) jobs))
job-at config jobs n same inside = let found = split jobs n inside in (found.0, (ap (λ js. slice_get js n) (sym same) ∙ found.1.0, found.1.1))

pub one-some : {X : Type 0} (x y : X) → Some x ≡ Some y → x ≡ y
one-some x y same = cc

-- an instance at an index, and those after it
pub record InstanceThere (config : Configuration) (c : Chronicle) (key : InstanceKey) (instances : List Instance) : Type 0 where
  pub instance : Instance
  pub is : instance_at config c key ≡ Some instance
  pub place : instance_place config c key ≡ Some instance.place
  pub rest : drop key.at instances ≡ instance ∷ drop (suc key.at) instances

pub placed : (config : Configuration) (c : Chronicle) (key : InstanceKey) (its : Instance) → instance_at config c key ≡ Some its → instance_place config c key ≡ Some its.place
placed config c key its there = ap (option_map (λ (it : Instance). it.place)) there

pub there : (config : Configuration) (c : Chronicle) (key : InstanceKey) (job : Bytes) → name_at config key.job ≡ Some job → key.at < length (instances_of job c)
    → InstanceThere config c key (instances_of job c)
there config c key job named within =
    let found = split (instances_of job c) key.at within in
    let is : instance_at config c key ≡ Some found.0 = ap (option_and_then (λ (name : Bytes). slice_get (instances_of name c) key.at)) named ∙ found.1.0 in
    record { instance = found.0; is = is; place = placed config c key found.0 is; rest = found.1.1 }

-- the file of the instance of a key is the one by which it was made
pub file-there : (config : Configuration) (c : Chronicle) (key : InstanceKey) (x : Instance) → instance_at config c key ≡ Some x → file_of x.place c ≡ Some x.file
file-there config c key x found = by_name (name_at config key.job) found
  where
    by_name : (o : Option Bytes) → option_and_then (λ (name : Bytes). slice_get (instances_of name c) key.at) o ≡ Some x → file_of x.place c ≡ Some x.file
    by_name None found = absurd cc
    by_name (Some name) found =
        let has = nth-all (HasFile name c) key.at (instances_of name c) x (nth-get key.at (instances_of name c) ∙ found) (files name c) in
        has.1

-- which it keeps
none-past : (p : ℕ) (c : Chronicle) → length c ≤ p → entry_at p c ≡ None
none-past p [] past = refl
none-past p (e ∷ c) past =
    let apart : (length c == p) ≡ false = ne_eqb (length c) p (λ same. omega (arith, past, same)) in
    rw apart (none-past p c (omega (arith, past)))

pub file-kept : (i : ℕ) (e : Entry) (c : Chronicle) (job : JobDef) → file_of i c ≡ Some job → file_of i (e ∷ c) ≡ Some job
file-kept i e c job known = by_case (length c == i) refl
  where
    by_case : (b : Bool) → (length c == i) ≡ b → file_in (if b then Some e else entry_at i c) ≡ Some job
    by_case true same =
        let none : file_of i c ≡ None = ap file_in (none-past i c (omega (arith, eqb-true (length c) i same))) in
        let both : None ≡ Some job = sym none ∙ known in
        absurd cc
    by_case false apart = known

-- an instance that enters a state other than waiting stays
entered_of : (job : Bytes) (i : ℕ) (to : State) (c : Chronicle) → is_waiting to ≡ false → instances_of job (Entered i to ∷ c) ≡ instances_of job c
entered_of job i state.Waiting c other = absurd cc
entered_of job i to c other = refl

pub entered_there : (config : Configuration) (c : Chronicle) (key : InstanceKey) (its : Instance) (i : ℕ) (to : State) → is_waiting to ≡ false → instance_at config c key ≡ Some its
    → instance_at config (Entered i to ∷ c) key ≡ Some its
entered_there config c key its i to other there = same (name_at config key.job) ∙ there
  where
    same : (job : Option Bytes) → option_and_then (λ (name : Bytes). slice_get (instances_of name (Entered i to ∷ c)) key.at) job ≡ option_and_then (λ (name : Bytes). slice_get (instances_of name c) key.at) job
    same None = refl
    same (Some job) = ap (λ its. slice_get its key.at) (entered_of job i to c other)

-- and one that lets its holders go
pub released_there : (config : Configuration) (key : InstanceKey) (instance : ℕ) (failed : Bool) (c : Chronicle) → instance_place config (releasing instance failed c ++ c) key ≡ instance_place config c key
released_there config key instance failed c = past-releasing (λ d. instance_place config d key) (λ place answer d. refl) (λ i b d. refl) instance failed c

-- and those whose main process is killed
pub killed_there : (config : Configuration) (key : InstanceKey) (places : List ℕ) (c : Chronicle) → instance_place config (killing places ++ c) key ≡ instance_place config c key
killed_there config key [] c = refl
killed_there config key (place ∷ places) c =
    ap (λ d. instance_place config d key) (append_assoc (killing places) (Signalled place kill true ∷ []) c) ∙ killed_there config key places (Signalled place kill true ∷ c)
