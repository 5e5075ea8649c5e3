-- What is read of the step so far.
use Rattle.std.proofs.Common.{◌≡◌, ℕ, ◌==◌, Bool, true, false, List, [], ◌∷◌, ◌++◌, Option, None, Some}
use Rattle.std.proofs.Common.{length, if◌then◌else◌, bytes_eq, refl, ◌∙◌, ap, ap₂, eq-eqb}
use Rattle.std.specs.List.{AllByRecursion}
use Rattle.up_conf.specs.declared.job.JobDef.{JobDef}
use Rattle.up_model.specs.declared.state.State.TheVariants as state
use Rattle.up_model.specs.Chronicle.{Chronicle, Entry, Given, Queued, Handled, Offered, Made, Released}
use Rattle.up_model.specs.Chronicle.{Entered, Ordered, Signalled, Replied, Entering, Expression, StartOn}
use Rattle.up_model.specs.Chronicle.{StopOn}
use Rattle.up_model.specs.Instances.{Instance, instances_of}
use Rattle.up_model.specs.Values.{Bytes}
use Rattle.up_model.proofs.Places.{older-other}
use Rattle.up_isolation.proofs.Known.{IsKnown}
use Rattle.std.proofs.Common.{not, ◌||◌}
use Rattle.up_model.specs.Instances.{is_before, with_instance}
use Rattle.up_model.specs.Moves.{move, next_of, who_of}
use Rattle.up_model.specs.Life.{entering}
use Rattle.up_model.specs.Offers.{is_newborn, is_open, offering}
use Rattle.up_model.specs.Readings.{state_of}
use Rattle.up_model.specs.Replies.{asked, was_answered, unless_answered, unanswered}
use Rattle.up_model.specs.Seen.{was_offered}
use Rattle.up_model.proofs.MoveLaws.{IsMove, enter-moves}
use Rattle.up_model.proofs.Places.{all-without}
use Rattle.up_model.proofs.Sparing.{all-weaker}
use Rattle.up_isolation.proofs.Known.{known}
use Rattle.up_isolation.proofs.Likes.{apart}
use Rattle.up_isolation.proofs.Foreign.{IsStrange, AreStrange}

abbrev pub NotGiven : Entry → Type 0
NotGiven (Given given) = ⊥
NotGiven e = Unit {0}

-- entries of moves
abbrev pub IsMoving : Entry → Type 0
IsMoving (Queued (Entering i to) event) = Unit {0}
IsMoving (Released i failed) = Unit {0}
IsMoving (Entered i to) = Unit {0}
IsMoving (Ordered i its) = Unit {0}
IsMoving (Signalled i signal by_timer) = Unit {0}
IsMoving (Replied request answer) = Unit {0}
IsMoving e = ⊥

moving-of : (p : ℕ) (e : Entry) → IsMove p e → IsMoving e
moving-of p (Queued (Entering i to) event) is = tt
moving-of p (Released i failed) is = tt
moving-of p (Entered i to) is = tt
moving-of p (Ordered i its) is = tt
moving-of p (Signalled i signal by_timer) is = tt
moving-of p (Replied request answer) is = tt
moving-of p e is = absurd is

pub moving-given : (e : Entry) → IsMoving e → NotGiven e
moving-given (Given given) is = is
moving-given e is = tt

pub move-moving : (def : JobDef) (x : Instance) (c : Chronicle) → AllByRecursion IsMoving (move def x c)
move-moving def x c =
    all-weaker (IsMove x.place) IsMoving (moving-of x.place) (move def x c)
    (enter-moves def (who_of def x) x.place (next_of def x.place c)
    (entering (next_of def x.place c) (state_of x.place c) def.task) c)

pub moving-offering : (e : Entry) (c : Chronicle) → IsMoving e → offering (e ∷ c) ≡ offering c
moving-offering (Given given) c is = absurd is
moving-offering (Handled event) c is = absurd is
moving-offering e c is = refl

pub moving-offered : (expression : Expression) (e : Entry) (c : Chronicle) → IsMoving e
    → was_offered expression (e ∷ c) ≡ was_offered expression c
moving-offered expression (Given given) c is = absurd is
moving-offered expression (Offered other event) c is = absurd is
moving-offered expression e c is = refl

moving-newborn : (i : ℕ) (e : Entry) (c : Chronicle) → IsMoving e → is_newborn i (e ∷ c) ≡ is_newborn i c
moving-newborn i (Given given) c is = absurd is
moving-newborn i (Made job name) c is = absurd is
moving-newborn i e c is = refl

pub moving-open : (i : ℕ) (e : Entry) (c : Chronicle) → IsMoving e → is_open i (e ∷ c) ≡ is_open i c
moving-open i e c is = ap₂ (λ a b. not (a || b)) (moving-newborn i e c is) (moving-offered (StopOn i) e c is)

-- an expression that isn't open stays so until the next step
open-once : (i : ℕ) (e : Entry) (c : Chronicle) → NotGiven e → is_open i c ≡ false → is_open i (e ∷ c) ≡ false
open-once i (Given given) c is shut = absurd is
open-once i (Made job name) c is shut = by_case (length c == i)
  where
    by_case : (b : Bool) → not ((if b then true else is_newborn i c) || was_offered (StopOn i) c) ≡ false
    by_case true = refl
    by_case false = shut
open-once i (Offered (StopOn other) event) c is shut =
    by_case (other == i) (is_newborn i c) (was_offered (StopOn i) c) shut
  where
    by_case : (b a o : Bool) → not (a || o) ≡ false → not (a || (if b then true else o)) ≡ false
    by_case true true o h = refl
    by_case true false o h = refl
    by_case false a o h = h
open-once i e c is shut = shut

-- no `stop on` of the job is open, and its `start on` was offered the event
pub record IsShut (job : Bytes) (c : Chronicle) : Type 0 where
  pub started : was_offered (StartOn job) c ≡ true
  pub shut : AllByRecursion (λ x. is_open x.place c ≡ false) (instances_of job c)

still-shut : (e : Entry) (c : Chronicle) (xs : List Instance) → NotGiven e
    → AllByRecursion (λ x. is_open x.place c ≡ false) xs
    → AllByRecursion (λ x. is_open x.place (e ∷ c) ≡ false) xs
still-shut e c [] is shut = tt
still-shut e c (x ∷ xs) is shut = (open-once x.place e c is shut.0, still-shut e c xs is shut.1)

all-with : (P : Instance → Type 0) (y : Instance) (ys : List Instance) → P y → AllByRecursion P ys
    → AllByRecursion P (with_instance y ys)
all-with P y [] h all = (h, tt)
all-with P y (z ∷ zs) h all = by_case (is_before z y) (all-with P y zs h all.1)
  where
    by_case : (b : Bool) → AllByRecursion P (with_instance y zs)
        → AllByRecursion P (if b then z ∷ with_instance y zs else y ∷ z ∷ zs)
    by_case true ih = (all.0, ih)
    by_case false ih = (h, all)

shut-list : (job : Bytes) (e : Entry) (c : Chronicle) → NotGiven e
    → AllByRecursion (λ x. is_open x.place c ≡ false) (instances_of job c)
    → AllByRecursion (λ x. is_open x.place (e ∷ c) ≡ false) (instances_of job (e ∷ c))
shut-list job (Made file name) c is shut = by_case (bytes_eq file.name job)
  where
    old : AllByRecursion (λ x. is_open x.place (Made file name ∷ c) ≡ false) (instances_of job c)
    old = still-shut (Made file name) c (instances_of job c) is shut

    by_case : (b : Bool)
        → AllByRecursion (λ x. is_open x.place (Made file name ∷ c) ≡ false)
        (if b then with_instance (record { place = length c; name = name; file = file }) (instances_of job c)
        else instances_of job c)
    by_case true = all-with (λ x. is_open x.place (Made file name ∷ c) ≡ false)
        (record { place = length c; name = name; file = file }) (instances_of job c)
        (rw (eq-eqb (length c) (length c) refl) refl) old
    by_case false = old
shut-list job (Entered i state.Waiting) c is shut =
    all-without (λ x. is_open x.place (Entered i state.Waiting ∷ c) ≡ false) i (instances_of job c)
    (still-shut (Entered i state.Waiting) c (instances_of job c) is shut)
shut-list job (Given given) c is shut = absurd is
shut-list job e c is shut = still-shut e c (instances_of job c) is shut

started-more : (job : Bytes) (e : Entry) (c : Chronicle) → NotGiven e → was_offered (StartOn job) c ≡ true
    → was_offered (StartOn job) (e ∷ c) ≡ true
started-more job (Given given) c is started = absurd is
started-more job (Offered (StartOn other) event) c is started = by_case (bytes_eq other job)
  where
    by_case : (b : Bool) → (if b then true else was_offered (StartOn job) c) ≡ true
    by_case true = refl
    by_case false = started
started-more job (Offered (StopOn i) event) c is started = started
started-more job e c is started = started

pub shut-more : (job : Bytes) (es c : List Entry) → AllByRecursion NotGiven es → IsShut job c
    → IsShut job (es ++ c)
shut-more job [] c is shut = shut
shut-more job (e ∷ es) c is shut =
    let rest = shut-more job es c is.1 shut in
    record {
      started = started-more job e (es ++ c) is.0 rest.started;
      shut = shut-list job e (es ++ c) is.0
          rest.shut;
    }

-- who is answered stays so
answered-more : (r : ℕ) (e : Entry) (c : Chronicle) → NotGiven e → was_answered r c ≡ true
    → was_answered r (e ∷ c) ≡ true
answered-more r (Given given) c is answered = absurd is
answered-more r (Replied other answer) c is answered = by_case (other == r)
  where
    by_case : (b : Bool) → (if b then true else was_answered r c) ≡ true
    by_case true = refl
    by_case false = answered
answered-more r e c is answered = answered

asked-more : (e : Entry) (c : Chronicle) → NotGiven e → asked (e ∷ c) ≡ asked c
asked-more (Given given) c is = absurd is
asked-more e c is = refl

pub silent-one : (e : Entry) (c : Chronicle) → NotGiven e → unanswered c ≡ None → unanswered (e ∷ c) ≡ None
silent-one e c is none = ap (λ o. unless_answered o (e ∷ c)) (asked-more e c is) ∙ by_asked (asked c) none
  where
    by_test : (r : ℕ) (b : Bool) → was_answered r c ≡ b → (if b then None else Some r) ≡ None
        → was_answered r (e ∷ c) ≡ true
    by_test r true answered none = answered-more r e c is answered
    by_test r false answered none = absurd (cc)

    by_asked : (o : Option ℕ) → unless_answered o c ≡ None → unless_answered o (e ∷ c) ≡ None
    by_asked None none = refl
    by_asked (Some r) none = rw (by_test r (was_answered r c) refl none) refl

pub silent-more : (es c : List Entry) → AllByRecursion NotGiven es → unanswered c ≡ None
    → unanswered (es ++ c) ≡ None
silent-more [] c is none = none
silent-more (e ∷ es) c is none = silent-one e (es ++ c) is.0 (silent-more es c is.1 none)

-- entries of another job
pub strange-given : (job : Bytes) (e : Entry) (c : Chronicle) → IsStrange job e c → NotGiven e
strange-given job (Given given) c is = is
strange-given job e c is = tt

pub stranges-given : (job : Bytes) (es c : List Entry) → AreStrange job es c → AllByRecursion NotGiven es
stranges-given job [] c are = tt
stranges-given job (e ∷ es) c are = (strange-given job e (es ++ c) are.0, stranges-given job es c are.1)

pub strange-offering : (job : Bytes) (e : Entry) (c : Chronicle) → IsStrange job e c
    → offering (e ∷ c) ≡ offering c
strange-offering job (Given given) c is = absurd is
strange-offering job (Handled event) c is = absurd is
strange-offering job e c is = refl

pub strange-started : (job : Bytes) (e : Entry) (c : Chronicle) → IsStrange job e c
    → was_offered (StartOn job) (e ∷ c) ≡ was_offered (StartOn job) c
strange-started job (Given given) c is = absurd is
strange-started job (Offered (StartOn other) event) c is = rw is refl
strange-started job (Offered (StopOn i) event) c is = refl
strange-started job e c is = refl

strange-offered : (job : Bytes) (x : Instance) (e : Entry) (c : Chronicle) → IsKnown job c x
    → IsStrange job e c → was_offered (StopOn x.place) (e ∷ c) ≡ was_offered (StopOn x.place) c
strange-offered job x (Given given) c known is = absurd is
strange-offered job x (Offered (StartOn other) event) c known is = refl
strange-offered job x (Offered (StopOn i) event) c known is = rw (apart job i c x known is.0) refl
strange-offered job x e c known is = refl

strange-newborn : (job : Bytes) (x : Instance) (e : Entry) (c : Chronicle) → IsKnown job c x
    → IsStrange job e c → is_newborn x.place (e ∷ c) ≡ is_newborn x.place c
strange-newborn job x (Given given) c known is = absurd is
strange-newborn job x (Made other name) c known is = rw (older-other (length c) x.place known.0) refl
strange-newborn job x e c known is = refl

pub strange-open : (job : Bytes) (x : Instance) (e : Entry) (c : Chronicle) → IsKnown job c x
    → IsStrange job e c → is_open x.place (e ∷ c) ≡ is_open x.place c
strange-open job x e c known is =
    ap₂ (λ a b. not (a || b)) (strange-newborn job x e c known is) (strange-offered job x e c known is)
