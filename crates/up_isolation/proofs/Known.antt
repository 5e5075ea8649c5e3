-- Instances stand where they were made; what a place stands for never changes.
use Rattle.std.proofs.Common.{◌≡◌, ℕ, ◌<◌, ◌≤◌, ◌==◌, Bool, true, false, List, [], ◌∷◌, ◌++◌, Option, None}
use Rattle.std.proofs.Common.{Some, length, if◌then◌else◌, bytes_eq, refl, ◌∙◌, ap, subst, arith, eq-eqb}
use Rattle.std.proofs.Common.{eqb-true}
use Rattle.std.specs.List.{AllByRecursion}
use Rattle.up_conf.specs.declared.job.JobDef.{JobDef}
use Rattle.up_model.specs.declared.event.Event.{Event}
use Rattle.up_model.specs.declared.state.State.TheVariants as state
use Rattle.up_model.specs.Chronicle.{Chronicle, Entry, Offered, Fired, Made, Entered, Loaded, StartOn, StopOn, Expression}
use Rattle.up_model.specs.Configuration.{Configuration}
use Rattle.up_model.specs.Instances.{Instance, is_before, with_instance, without_instance, instances_of}
use Rattle.up_model.specs.Readings.{entry_at, event_at, made_at, file_of, event_of}
use Rattle.up_model.specs.Seen.{seen, sight_of, env_of, same_expression}
use Rattle.up_model.specs.Values.{Bytes, Bindings}
use Rattle.up_model.proofs.Places.{bytes_same, older-other, all-without}
use Rattle.up_model.proofs.NameLaws.{called}
use Rattle.up_expr.specs.Truth.{Sight}
use Rattle.up_isolation.specs.Parts.{contents}
use Rattle.up_isolation.proofs.Sights.{AreKnown, event_of_sight}

-- an instance that was made at its place, under its name and by its file
abbrev pub IsKnown : Bytes → Chronicle → Instance → Type 0
IsKnown job c x = (x.place < length c) × (made_at x.place c ≡ Some (called job x.name)) × (file_of x.place c ≡ Some x.file)

-- an instance has one file
pub one-file : (o : Option JobDef) (file other : JobDef) → o ≡ Some file → o ≡ Some other → file ≡ other
one-file o file other is are = cc

pub known-later : (job : Bytes) (e : Entry) (c : Chronicle) (xs : List Instance)
    → AllByRecursion (IsKnown job c) xs → AllByRecursion (IsKnown job (e ∷ c)) xs
known-later job e c [] all = tt
known-later job e c (x ∷ xs) all = (
  (
    omega (arith, all.0.0),
    rw (older-other (length c) x.place all.0.0)
        all.0.1,
    rw (older-other (length c) x.place all.0.0)
        all.0.2,
  ),
  known-later job e c xs all.1,
)

all-with : (P : Instance → Type 0) (y : Instance) (ys : List Instance) → P y → AllByRecursion P ys
    → AllByRecursion P (with_instance y ys)
all-with P y [] h all = (h, tt)
all-with P y (z ∷ zs) h all = by_case (is_before z y) (all-with P y zs h all.1)
  where
    by_case : (b : Bool) → AllByRecursion P (with_instance y zs)
        → AllByRecursion P (if b then z ∷ with_instance y zs else y ∷ z ∷ zs)
    by_case true ih = (all.0, ih)
    by_case false ih = (h, all)

-- each instance of a job is known
pub known : (job : Bytes) (c : Chronicle) → AllByRecursion (IsKnown job c) (instances_of job c)
known job [] = tt
known job (Made file name ∷ c) =
    by_case (bytes_eq file.name job) refl (known-later job (Made file name) c (instances_of job c) (known job c))
  where
    d : Chronicle
    d = Made file name ∷ c

    made : Instance
    made = record { place = length c; name = name; file = file }

    by_case : (b : Bool) → bytes_eq file.name job ≡ b → AllByRecursion (IsKnown job d) (instances_of job c)
        → AllByRecursion (IsKnown job d) (if b then with_instance made (instances_of job c)
        else instances_of job c)
    by_case true same rest =
        all-with (IsKnown job d) made (instances_of job c) (
          omega arith,
          rw (eq-eqb (length c) (length c) refl)
              (ap (λ its. Some (called its name)) (bytes_same file.name job same)),
          rw (eq-eqb (length c) (length c) refl) refl,
        ) rest
    by_case false differs rest = rest
known job (Entered i state.Waiting ∷ c) = known-later job (Entered i state.Waiting) c
    (without_instance i (instances_of job c))
    (all-without (IsKnown job c) i (instances_of job c) (known job c))
known job (entry ∷ c) = known-later job entry c (instances_of job c) (known job c)

-- what a place stands for is older than the end
pub entry-older : (p : ℕ) (c : Chronicle) (e : Entry) → entry_at p c ≡ Some e → p < length c
entry-older p [] e some = absurd (cc)
entry-older p (x ∷ c) e some = by_case (length c == p) refl some (entry-older p c e)
  where
    by_case : (b : Bool) → (length c == p) ≡ b → (if b then Some x else entry_at p c) ≡ Some e
        → (entry_at p c ≡ Some e → p < length c) → p < length (x ∷ c)
    by_case true same some ih = let here = eqb-true (length c) p same in omega arith
    by_case false differs some ih = let h = ih some in omega arith

-- and stands for it later
pub entry-later : (p : ℕ) (x : Entry) (c : Chronicle) → p < length c → entry_at p (x ∷ c) ≡ entry_at p c
entry-later p x c h = rw (older-other (length c) p h) refl

-- places older than one
abbrev pub AreOlder : ℕ → List ℕ → Type 0
AreOlder n ps = AllByRecursion (λ p. p < n) ps

pub contents-later : (ps : List ℕ) (x : Entry) (c : Chronicle) → AreOlder (length c) ps
    → contents ps (x ∷ c) ≡ contents ps c
contents-later [] x c older = refl
contents-later (p ∷ ps) x c older = rw (entry-later p x c older.0, contents-later ps x c older.1) refl

pub older-later : (n m : ℕ) (ps : List ℕ) → n ≤ m → AreOlder n ps → AreOlder m ps
older-later n m [] h older = tt
older-later n m (p ∷ ps) h older = (omega (arith, older.0), older-later n m ps h older.1)

-- each event that was seen is the one at its place
pub known-sights-later : (x : Entry) (c : Chronicle) (ss : List Sight) → AreKnown c ss → AreKnown (x ∷ c) ss
known-sights-later x c [] known = tt
known-sights-later x c (s ∷ ss) known = (by_case (entry_at s.event c) refl, known-sights-later x c ss known.1)
  where
    by_case : (o : Option Entry) → entry_at s.event c ≡ o → event_at s.event (x ∷ c) ≡ Some (event_of_sight s)
    by_case None none = let bad : event_of None
        ≡ Some (event_of_sight s) =
        subst (λ w. event_of w ≡ Some (event_of_sight s)) none known.0 in absurd (cc)
    by_case (Some e) some = ap event_of (entry-later s.event x c (entry-older s.event c e some)) ∙ known.0

known-append : (c : Chronicle) (ss rs : List Sight) → AreKnown c ss → AreKnown c rs → AreKnown c (ss ++ rs)
known-append c [] rs known other = other
known-append c (s ∷ ss) rs known other = (known.0, known-append c ss rs known.1 other)

pub seen-known : (config : Configuration) (expression : Expression) (c : Chronicle)
    → AreKnown c (seen config expression c)
seen-known config expression [] = tt
seen-known config expression (Offered other place ∷ c) = by_case (same_expression other expression)
    (known-sights-later (Offered other place) c (seen config expression c) (seen-known config expression c))
  where
    d : Chronicle
    d = Offered other place ∷ c

    one : (environment : Bindings) (o : Option Event) → event_at place c ≡ o
        → AreKnown c (sight_of place o environment)
    one environment None none = tt
    one environment (Some event) some = (some, tt)

    by_case : (b : Bool) → AreKnown d (seen config expression c)
        → AreKnown d (if b then seen config expression c ++ sight_of place (event_at place c)
        (env_of config expression c) else seen config expression c)
    by_case true ih =
        known-append d (seen config expression c)
        (sight_of place (event_at place c) (env_of config expression c)) ih
        (known-sights-later (Offered other place) c
        (sight_of place (event_at place c) (env_of config expression c))
        (one (env_of config expression c) (event_at place c) refl))
    by_case false ih = ih
seen-known config expression (Fired other taken ∷ c) = by_case (same_expression other expression)
    (known-sights-later (Fired other taken) c (seen config expression c) (seen-known config expression c))
  where
    by_case : (b : Bool) → AreKnown (Fired other taken ∷ c) (seen config expression c)
        → AreKnown (Fired other taken ∷ c) (if b then [] else seen config expression c)
    by_case true ih = tt
    by_case false ih = ih
seen-known config (StartOn job) (Loaded jobs ∷ c) = tt
seen-known config (StopOn i) (Loaded jobs ∷ c) =
    known-sights-later (Loaded jobs) c (seen config (StopOn i) c) (seen-known config (StopOn i) c)
seen-known config expression (entry ∷ c) =
    known-sights-later entry c (seen config expression c) (seen-known config expression c)
