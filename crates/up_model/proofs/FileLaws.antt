-- Files of names and instances: an instance goes by the file by which it was made, which has its job's name.
use Rattle.std.proofs.Common.{◌≡◌, ℕ, ◌<◌, Bool, true, false, ◌&&◌, not, List, [], ◌∷◌, length, Option, None, Some, if◌then◌else◌, bytes_eq, refl, sym, ◌∙◌, ap, arith, eq-eqb}
use Rattle.std.specs.List.{AllByRecursion}
use Rattle.up_conf.specs.declared.job.JobDef.{JobDef}
use Rattle.up_text.specs.Expansion.{Expansion, Expands, Lacks, Malformed}
use Rattle.up_model.specs.declared.state.State.TheVariants as state
use Rattle.up_text.specs.Scripts.{is_filled}
use Rattle.up_model.specs.Chronicle.{Chronicle, Entry, Made, Entered}
use Rattle.up_model.specs.Commands.{Target, Nobody, Concerns, target_as, target_in, target_of, known_target}
use Rattle.up_model.specs.Configuration.{Configuration, job_named, is_removed}
use Rattle.up_model.specs.Files.{file_in_force, known_file}
use Rattle.up_model.specs.Instances.{Instance, with_instance, without_instance, instances_of}
use Rattle.up_model.specs.Readings.{file_of}
use Rattle.up_model.specs.Values.{Bytes, Bindings}
use Rattle.up_model.proofs.NameLaws.{all-with}
use Rattle.up_model.proofs.Places.{bytes_same, older-other, all-without}

-- a file that a name finds has that name
pub named-name : (name : Bytes) (jobs : List JobDef) (job : JobDef) → job_named name jobs ≡ Some job → job.name ≡ name
named-name name [] job found = absurd cc
named-name name (its ∷ jobs) job found = by_case (bytes_eq its.name name) refl found (named-name name jobs job)
  where
    by_case : (b : Bool) → bytes_eq its.name name ≡ b → (if b then Some its else job_named name jobs) ≡ Some job → (job_named name jobs ≡ Some job → job.name ≡ name) → job.name ≡ name
    by_case true same found ih =
        let here : its ≡ job = cc in
        ap (λ (j : JobDef). j.name) (sym here) ∙ bytes_same its.name name same
    by_case false differs found ih = ih found

-- so it is the one that its own name finds
pub named-again : (name : Bytes) (jobs : List JobDef) (job : JobDef) → job_named name jobs ≡ Some job → job_named job.name jobs ≡ Some job
named-again name jobs job found = ap (λ n. job_named n jobs) (named-name name jobs job found) ∙ found

-- so does one in force, and one that requests know
pub in_force-name : (config : Configuration) (name : Bytes) (c : Chronicle) (job : JobDef) → file_in_force config name c ≡ Some job → job.name ≡ name
in_force-name config name c job found = by_case (is_removed config name) found
  where
    by_case : (b : Bool) → (if b then None else job_named name config.jobs) ≡ Some job → job.name ≡ name
    by_case true found = absurd cc
    by_case false found = named-name name config.jobs job found

pub known-name : (config : Configuration) (name : Bytes) (c : Chronicle) (job : JobDef) → known_file config name c ≡ Some job → job.name ≡ name
known-name config name c job found = by_case (is_removed config name && not (is_filled (instances_of name c))) found
  where
    by_case : (b : Bool) → (if b then None else job_named name config.jobs) ≡ Some job → job.name ≡ name
    by_case true found = absurd cc
    by_case false found = named-name name config.jobs job found

-- the file of an instance stays as it is
pub file_of-later : (p : ℕ) (e : Entry) (c : Chronicle) → p < length c → file_of p (e ∷ c) ≡ file_of p c
file_of-later p e c old = rw (older-other (length c) p old) refl

-- an instance whose file is that by which it was made, and has its job's name
abbrev pub HasFile : Bytes → Chronicle → Instance → Type 0
HasFile job c x = (x.place < length c) × (file_of x.place c ≡ Some x.file) × (x.file.name ≡ job)

-- it stays so
has-later : (job : Bytes) (e : Entry) (c : Chronicle) (xs : List Instance) → AllByRecursion (HasFile job c) xs → AllByRecursion (HasFile job (e ∷ c)) xs
has-later job e c [] all = tt
has-later job e c (x ∷ xs) all =
    ((omega (arith, all.0.0), file_of-later x.place e c all.0.0 ∙ all.0.1, all.0.2), has-later job e c xs all.1)

-- each instance of a job has its file
pub files : (job : Bytes) (c : Chronicle) → AllByRecursion (HasFile job c) (instances_of job c)
files job [] = tt
files job (Made file name ∷ c) = by_case (bytes_eq file.name job) refl (has-later job (Made file name) c (instances_of job c) (files job c))
  where
    d : Chronicle
    d = Made file name ∷ c

    made : Instance
    made = record { place = length c; name = name; file = file }

    by_case : (b : Bool) → bytes_eq file.name job ≡ b → AllByRecursion (HasFile job d) (instances_of job c)
        → AllByRecursion (HasFile job d) (if b then with_instance made (instances_of job c) else instances_of job c)
    by_case true same rest =
        all-with (HasFile job d) made (instances_of job c) (omega arith, rw (eq-eqb (length c) (length c) refl) refl, bytes_same file.name job same) rest
    by_case false differs rest = rest
files job (Entered i state.Waiting ∷ c) = has-later job (Entered i state.Waiting) c (without_instance i (instances_of job c)) (all-without (HasFile job c) i (instances_of job c) (files job c))
files job (entry ∷ c) = has-later job entry c (instances_of job c) (files job c)

pub all-weaker : (P Q : Instance → Type 0) → ((x : Instance) → P x → Q x) → (xs : List Instance) → AllByRecursion P xs → AllByRecursion Q xs
all-weaker P Q weaker [] all = tt
all-weaker P Q weaker (x ∷ xs) all = (weaker x all.0, all-weaker P Q weaker xs all.1)

pub files-named : (job : Bytes) (c : Chronicle) → AllByRecursion (λ x. x.file.name ≡ job) (instances_of job c)
files-named job c = all-weaker (HasFile job c) (λ x. x.file.name ≡ job) (λ x has. has.2) (instances_of job c) (files job c)

-- the instances of a job have the file that has its name among these
abbrev pub AreBy : List JobDef → Bytes → Chronicle → Type 0
AreBy jobs job c = AllByRecursion (λ x. job_named job jobs ≡ Some x.file) (instances_of job c)

-- each instance that was ever made was made by it
abbrev pub AreMadeBy : List JobDef → Chronicle → Type 0
AreMadeBy jobs [] = Unit {0}
AreMadeBy jobs (Made file name ∷ c) = (job_named file.name jobs ≡ Some file) × AreMadeBy jobs c
AreMadeBy jobs (entry ∷ c) = AreMadeBy jobs c

-- so those that exist have it
pub are_by : (jobs : List JobDef) (job : Bytes) (c : Chronicle) → AreMadeBy jobs c → AreBy jobs job c
are_by jobs job [] made = tt
are_by jobs job (Made file name ∷ c) made = by_case (bytes_eq file.name job) refl (are_by jobs job c made.1)
  where
    its : Instance
    its = record { place = length c; name = name; file = file }

    by_case : (b : Bool) → bytes_eq file.name job ≡ b → AreBy jobs job c
        → AllByRecursion (λ x. job_named job jobs ≡ Some x.file) (if b then with_instance its (instances_of job c) else instances_of job c)
    by_case true same rest =
        all-with (λ x. job_named job jobs ≡ Some x.file) its (instances_of job c) (ap (λ name. job_named name jobs) (sym (bytes_same file.name job same)) ∙ made.0) rest
    by_case false differs rest = rest
are_by jobs job (Entered i state.Waiting ∷ c) made = all-without (λ x. job_named job jobs ≡ Some x.file) i (instances_of job c) (are_by jobs job c made)
are_by jobs job (entry ∷ c) made = are_by jobs job c made

-- whom a request names is called by the name of its job's file
abbrev pub IsCalled : Target → Type 0
IsCalled (Nobody text) = Unit {0}
IsCalled (Concerns job who environment) = who.job ≡ job.name

as-called : (config : Configuration) (job : JobDef) (vars : Bindings) (x : Expansion) (c : Chronicle) → IsCalled (target_as config job vars x c)
as-called config job vars (Expands name) c = refl
as-called config job vars (Lacks key) c = tt
as-called config job vars Malformed c = tt

in-called : (config : Configuration) (name : Bytes) (file : Option JobDef) (vars : Bindings) (c : Chronicle) → IsCalled (target_in config name file vars c)
in-called config name None vars c = tt
in-called config name (Some job) vars c = as-called config job vars _ c

pub target-called : (config : Configuration) (name : Bytes) (vars : Bindings) (c : Chronicle) → IsCalled (target_of config name vars c)
target-called config name vars c = in-called config name (file_in_force config name c) vars c

pub known-called : (config : Configuration) (name : Bytes) (vars : Bindings) (c : Chronicle) → IsCalled (known_target config name vars c)
known-called config name vars c = in-called config name (known_file config name c) vars c
