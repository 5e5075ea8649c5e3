-- Which expressions are still to be offered an event, once one of them has fired and its instance has moved.
use Rattle.std.proofs.Common.{◌≡◌, ℕ, ◌<◌, ◌==◌, Bool, true, false, List, [], ◌∷◌, ◌++◌, length, bytes_eq, if◌then◌else◌, refl, ◌∙◌, ap, eqb-true, eq-eqb}
use Rattle.std.specs.List.{AllByRecursion}
use Rattle.up_conf.specs.declared.job.JobDef.{JobDef}
use Rattle.up_model.specs.declared.state.State.TheVariants as state
use Rattle.up_model.specs.Chronicle.{Chronicle, Entry, Expression, Given, Queued, Handled, Offered, Fired, Made, Aimed, Restarted, Released, Failed, Respawned, Entered, Ordered, Signalled, Replied, Entering, StartOn, StopOn}
use Rattle.up_model.specs.Instances.{Instance, is_before, with_instance, without_instance, instances_of}
use Rattle.up_model.specs.Offers.{is_newborn, is_open, offering}
use Rattle.up_model.specs.Seen.{was_offered}
use Rattle.up_model.specs.Values.{Bytes}
use Rattle.up_model.proofs.Places.{older-other}
use Rattle.up_cascade.specs.Offering.{open_stops, open_start, open_all}
use Rattle.up_book.proofs.One.{IsKnown, known-all}

-- an entry of a firing, a move or an effect that concerns an instance, beside the offer itself
abbrev pub About : ℕ → Entry → Type 0
About i (Queued (Entering j entered) event) = j ≡ i
About i (Fired x taken) = Unit {0}
About i (Aimed j aim environment its) = j ≡ i
About i (Released j failed) = Unit {0}
About i (Restarted j its) = j ≡ i
About i (Failed j failure) = j ≡ i
About i (Respawned j moment) = j ≡ i
About i (Entered j entered) = j ≡ i
About i (Ordered j process) = j ≡ i
About i (Signalled j signal by_timer) = Unit {0}
About i (Replied request answer) = Unit {0}
About i entry = ⊥

was-same : (x : Expression) (i : ℕ) (e : Entry) (c : Chronicle) → About i e → was_offered x (e ∷ c) ≡ was_offered x c
was-same x i (Given input) c is = absurd is
was-same x i (Offered y place) c is = absurd is
was-same x i e c is = refl

newborn-same : (q i : ℕ) (e : Entry) (c : Chronicle) → About i e → q < length c → is_newborn q (e ∷ c) ≡ is_newborn q c
newborn-same q i (Given input) c is older = absurd is
newborn-same q i (Made file name) c is older = absurd is
newborn-same q i e c is older = refl

pub offering-same : (i : ℕ) (e : Entry) (c : Chronicle) → About i e → offering (e ∷ c) ≡ offering c
offering-same i (Given input) c is = absurd is
offering-same i (Handled event) c is = absurd is
offering-same i e c is = refl

open-same : (q i : ℕ) (e : Entry) (c : Chronicle) → About i e → q < length c → is_open q (e ∷ c) ≡ is_open q c
open-same q i e c is older = rw (newborn-same q i e c is older, was-same (StopOn q) i e c is) refl

stops-same : (i : ℕ) (job : Bytes) (its : List Instance) (e : Entry) (c : Chronicle) → About i e → AllByRecursion (IsKnown job c) its → open_stops its (e ∷ c) ≡ open_stops its c
stops-same i job [] e c is known = refl
stops-same i job (x ∷ its) e c is known = rw (open-same x.place i e c is known.0.0, stops-same i job its e c is known.1) refl

-- one that isn't open may come or go
stops-with : (x : Instance) (its : List Instance) (d : Chronicle) → is_open x.place d ≡ false → open_stops (with_instance x its) d ≡ open_stops its d
stops-with x [] d closed = rw closed refl
stops-with x (y ∷ its) d closed = by_case (is_before y x) (is_open y.place d) (stops-with x its d closed)
  where
    by_case : (b mine : Bool) → open_stops (with_instance x its) d ≡ open_stops its d
        → open_stops (if b then y ∷ with_instance x its else x ∷ y ∷ its) d ≡ open_stops (y ∷ its) d
    by_case true mine ih = rw ih refl
    by_case false mine ih = rw closed refl

stops-without : (i : ℕ) (its : List Instance) (d : Chronicle) → is_open i d ≡ false → open_stops (without_instance i its) d ≡ open_stops its d
stops-without i [] d closed = refl
stops-without i (y ∷ its) d closed = by_case (y.place == i) refl (stops-without i its d closed)
  where
    by_case : (b : Bool) → (y.place == i) ≡ b → open_stops (without_instance i its) d ≡ open_stops its d
        → open_stops (if b then without_instance i its else y ∷ without_instance i its) d ≡ open_stops (y ∷ its) d
    by_case true same ih =
        let mine : is_open y.place d ≡ false = ap (λ p. is_open p d) (eqb-true y.place i same) ∙ closed in
        rw mine ih
    by_case false differs ih = rw ih refl

-- an instance that was just made isn't open
pub made-closed : (file : JobDef) (name : Bytes) (c : Chronicle) → is_open (length c) (Made file name ∷ c) ≡ false
made-closed file name c = rw (eq-eqb (length c) (length c) refl) refl

stops-made : (job file : JobDef) (name : Bytes) (c : Chronicle) → open_stops (instances_of job.name (Made file name ∷ c)) (Made file name ∷ c) ≡ open_stops (instances_of job.name c) c
stops-made job file name c = by_case (bytes_eq file.name job.name)
  where
    d : Chronicle
    d = Made file name ∷ c

    made : Instance
    made = record { place = length c; name = name; file = file }

    older-same : (its : List Instance) → AllByRecursion (IsKnown job.name c) its → open_stops its d ≡ open_stops its c
    older-same [] known = refl
    older-same (x ∷ its) known = rw (older-other (length c) x.place known.0.0, older-same its known.1) refl

    same : open_stops (instances_of job.name c) d ≡ open_stops (instances_of job.name c) c
    same = older-same (instances_of job.name c) (known-all job.name c)

    by_case : (b : Bool) → open_stops (if b then with_instance made (instances_of job.name c) else instances_of job.name c) d ≡ open_stops (instances_of job.name c) c
    by_case true = stops-with made (instances_of job.name c) d (made-closed file name c) ∙ same
    by_case false = same

stops-entry : (i : ℕ) (job : JobDef) (e : Entry) (c : Chronicle) → About i e → is_open i c ≡ false → open_stops (instances_of job.name (e ∷ c)) (e ∷ c) ≡ open_stops (instances_of job.name c) c
stops-entry i job (Made file name) c is closed = absurd is
stops-entry i job (Entered j state.Waiting) c is closed =
    let gone : is_open j c ≡ false = ap (λ p. is_open p c) is ∙ closed in
    stops-without j (instances_of job.name c) (Entered j state.Waiting ∷ c) gone ∙ stops-same i job.name (instances_of job.name c) (Entered j state.Waiting) c is (known-all job.name c)
stops-entry i job e c is closed = stops-same i job.name (instances_of job.name c) e c is (known-all job.name c)

start-entry : (i : ℕ) (job : JobDef) (e : Entry) (c : Chronicle) → About i e → open_start job (e ∷ c) ≡ open_start job c
start-entry i job e c is = rw (was-same (StartOn job.name) i e c is) refl

pub open-made : (jobs : List JobDef) (file : JobDef) (name : Bytes) (c : Chronicle) → open_all jobs (Made file name ∷ c) ≡ open_all jobs c
open-made [] file name c = refl
open-made (job ∷ jobs) file name c = rw (stops-made job file name c, open-made jobs file name c) refl

pub open-entry : (i : ℕ) (jobs : List JobDef) (e : Entry) (c : Chronicle) → About i e → is_open i c ≡ false → open_all jobs (e ∷ c) ≡ open_all jobs c
open-entry i [] e c is closed = refl
open-entry i (job ∷ jobs) e c is closed = rw (stops-entry i job e c is closed, start-entry i job e c is, open-entry i jobs e c is closed) refl

pub closed-entry : (i : ℕ) (e : Entry) (c : Chronicle) → About i e → is_open i c ≡ false → is_open i (e ∷ c) ≡ false
closed-entry i (Made file name) c is closed = absurd is
closed-entry i (Given input) c is closed = absurd is
closed-entry i (Offered x place) c is closed = absurd is
closed-entry i e c is closed = closed

-- entries about an instance that isn't open leave open what is open
pub open-entries : (i : ℕ) (jobs : List JobDef) (es c : List Entry) → AllByRecursion (About i) es → is_open i c ≡ false
    → (open_all jobs (es ++ c) ≡ open_all jobs c) × (is_open i (es ++ c) ≡ false) × (offering (es ++ c) ≡ offering c)
open-entries i jobs [] c all closed = (refl, closed, refl)
open-entries i jobs (e ∷ es) c all closed =
    let rest = open-entries i jobs es c all.1 closed in
    (open-entry i jobs e (es ++ c) all.0 rest.1 ∙ rest.0, closed-entry i e (es ++ c) all.0 rest.1, offering-same i e (es ++ c) all.0 ∙ rest.2)

-- a firing alone leaves open what is open
stops-fired : (its : List Instance) (x : Expression) (taken : List ℕ) (c : Chronicle) → open_stops its (Fired x taken ∷ c) ≡ open_stops its c
stops-fired [] x taken c = refl
stops-fired (y ∷ its) x taken c = rw (stops-fired its x taken c) refl

pub open-unmoved : (jobs : List JobDef) (x : Expression) (taken : List ℕ) (c : Chronicle) → open_all jobs (Fired x taken ∷ c) ≡ open_all jobs c
open-unmoved [] x taken c = refl
open-unmoved (job ∷ jobs) x taken c = rw (stops-fired (instances_of job.name c) x taken c, open-unmoved jobs x taken c) refl
