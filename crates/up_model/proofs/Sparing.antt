-- Entries about one job and an instance of it leave other jobs and instances alone.
use Rattle.std.proofs.Common.{◌≡◌, ℕ, ◌<◌, ◌==◌, Bool, true, false, List, [], ◌∷◌, ◌++◌, length, bytes_eq, refl, sym, ◌∙◌, arith, ne_eqb}
use Rattle.std.proofs.lemmas.Bool.{eqb-false}
use Rattle.std.specs.List.{AllByRecursion}
use Rattle.up_model.specs.Chronicle.{Chronicle, Entry, Given, Queued, Handled, Offered, Fired, Finished, Made, Aimed, Released, Entered, Ordered, Signalled, Replied, Entering, StartOn, StopOn}
use Rattle.up_model.specs.Offers.{is_newborn, offering}
use Rattle.up_model.specs.Readings.{goal, state_of, blocker}
use Rattle.up_model.specs.Seen.{was_offered}
use Rattle.up_model.specs.Predicates.{entries_if}
use Rattle.up_model.specs.Values.{Bytes}
use Rattle.up_model.specs.Work.{instance_work}
use Rattle.up_model.proofs.Places.{older-other}

-- what entries leave alone one by one they leave alone together
pub same-append : {X : Type 0} (reading : Chronicle → X) (P : Entry → Type 0) → ((e : Entry) (c : Chronicle) → P e → reading (e ∷ c) ≡ reading c)
    → (es c : List Entry) → AllByRecursion P es → reading (es ++ c) ≡ reading c
same-append reading P same [] c all = refl
same-append reading P same (e ∷ es) c all = same e (es ++ c) all.0 ∙ same-append reading P same es c all.1

-- what each of some entries implies holds of all of them
pub all-weaker : (P Q : Entry → Type 0) → ((e : Entry) → P e → Q e) → (es : List Entry) → AllByRecursion P es → AllByRecursion Q es
all-weaker P Q weaker [] all = tt
all-weaker P Q weaker (e ∷ es) all = (weaker e all.0, all-weaker P Q weaker es all.1)

-- entries after entries
pub all-append : (P : Entry → Type 0) (es others : List Entry) → AllByRecursion P es → AllByRecursion P others → AllByRecursion P (es ++ others)
all-append P [] others all other = other
all-append P (e ∷ es) others all other = (all.0, all-append P es others all.1 other)

-- a test lets through what it is given, or nothing
pub all-if : (P : Entry → Type 0) (b : Bool) (es : List Entry) → AllByRecursion P es → AllByRecursion P (entries_if b es)
all-if P true es all = all
all-if P false es all = tt

-- what holds with and without the entries of a test holds with those that the test lets in
pub either : (P : List Entry → Type 0) (b : Bool) (xs ys : List Entry) → P (xs ++ ys) → P ys → P (entries_if b xs ++ ys)
either P true xs ys h other = h
either P false xs ys h other = other

-- an entry that is due, about a job and an instance of it
abbrev pub IsOf : Bytes → ℕ → Entry → Type 0
IsOf job p (Queued (Entering instance entered) event) = instance ≡ p
IsOf job p (Offered (StartOn other) event) = other ≡ job
IsOf job p (Offered (StopOn instance) event) = instance ≡ p
IsOf job p (Fired expression taken) = Unit {0}
IsOf job p (Made file name) = file.name ≡ job
IsOf job p (Aimed instance aim environment its) = instance ≡ p
IsOf job p (Released instance failed) = Unit {0}
IsOf job p (Entered instance entered) = instance ≡ p
IsOf job p (Ordered instance process) = Unit {0}
IsOf job p (Signalled instance signal by_timer) = Unit {0}
IsOf job p (Replied request answer) = Unit {0}
IsOf job p entry = ⊥

-- two places are apart both ways
other_way : (p q : ℕ) → (q == p) ≡ false → (p == q) ≡ false
other_way p q h = ne_eqb p q (λ e. eqb-false q p h (sym e))

-- such an entry leaves the goal of another instance alone
pub spared-goal : (job : Bytes) (p q : ℕ) (e : Entry) (c : Chronicle) → IsOf job p e → (q == p) ≡ false → goal q (e ∷ c) ≡ goal q c
spared-goal job p q (Aimed i aim environment its) c of h = rw of (rw (other_way p q h) refl)
spared-goal job p q e c of h = refl

-- its state
pub spared-state : (job : Bytes) (p q : ℕ) (e : Entry) (c : Chronicle) → IsOf job p e → (q == p) ≡ false → state_of q (e ∷ c) ≡ state_of q c
spared-state job p q (Entered i entered) c of h = rw of (rw (other_way p q h) refl)
spared-state job p q e c of h = refl

-- the event that it waits for
pub spared-blocker : (job : Bytes) (p q : ℕ) (e : Entry) (c : Chronicle) → IsOf job p e → (q == p) ≡ false → blocker q (e ∷ c) ≡ blocker q c
spared-blocker job p q (Queued (Entering i entered) event) c of h = rw of (rw (other_way p q h) refl)
spared-blocker job p q (Finished event) c of h = absurd of
spared-blocker job p q e c of h = refl

-- whether it was made in this step
spared-newborn : (job : Bytes) (p q : ℕ) (e : Entry) (c : Chronicle) → IsOf job p e → q < length c → is_newborn q (e ∷ c) ≡ is_newborn q c
spared-newborn job p q (Made file name) c of older = rw (older-other (length c) q older) refl
spared-newborn job p q (Given input) c of older = absurd of
spared-newborn job p q e c of older = refl

-- whether its `stop on` was offered the event
spared-stop : (job : Bytes) (p q : ℕ) (e : Entry) (c : Chronicle) → IsOf job p e → (q == p) ≡ false
    → was_offered (StopOn q) (e ∷ c) ≡ was_offered (StopOn q) c
spared-stop job p q (Offered (StopOn i) event) c of h = rw of (rw (other_way p q h) refl)
spared-stop job p q (Offered (StartOn i) event) c of h = refl
spared-stop job p q (Given input) c of h = absurd of
spared-stop job p q e c of h = refl

-- whether the `start on` of another job was
spared-start : (job : Bytes) (p : ℕ) (k : Bytes) (e : Entry) (c : Chronicle) → IsOf job p e → bytes_eq job k ≡ false
    → was_offered (StartOn k) (e ∷ c) ≡ was_offered (StartOn k) c
spared-start job p k (Offered (StartOn i) event) c of h = rw of (rw h refl)
spared-start job p k (Offered (StopOn i) event) c of h = refl
spared-start job p k (Given input) c of h = absurd of
spared-start job p k e c of h = refl

-- several such entries leave the `start on` of another job alone
pub spared-starts : (job : Bytes) (p : ℕ) (k : Bytes) (es c : List Entry) → AllByRecursion (IsOf job p) es → bytes_eq job k ≡ false
    → was_offered (StartOn k) (es ++ c) ≡ was_offered (StartOn k) c
spared-starts job p k es c all h = same-append (was_offered (StartOn k)) (IsOf job p) (λ e d of. spared-start job p k e d of h) es c all

-- which event is offered
spared-offering : (job : Bytes) (p : ℕ) (e : Entry) (c : Chronicle) → IsOf job p e → offering (e ∷ c) ≡ offering c
spared-offering job p (Given input) c of = absurd of
spared-offering job p (Handled event) c of = absurd of
spared-offering job p e c of = refl

pub spared-offerings : (job : Bytes) (p : ℕ) (es c : List Entry) → AllByRecursion (IsOf job p) es → offering (es ++ c) ≡ offering c
spared-offerings job p es c of = same-append offering (IsOf job p) (spared-offering job p) es c of

-- the work of another instance
spared-work : (offers : Bool) (job : Bytes) (p q : ℕ) (e : Entry) (c : Chronicle) → IsOf job p e → (q == p) ≡ false → q < length c
    → instance_work offers q (e ∷ c) ≡ instance_work offers q c
spared-work offers job p q e c of apart older =
    simp (spared-goal job p q e c of apart, spared-state job p q e c of apart, spared-blocker job p q e c of apart, spared-newborn job p q e c of older, spared-stop job p q e c of apart)

longer : (q : ℕ) (es c : List Entry) → q < length c → q < length (es ++ c)
longer q [] c h = h
longer q (e ∷ es) c h = let rest = longer q es c h in omega (arith, rest)

-- and of several entries
pub spared-works : (offers : Bool) (job : Bytes) (p q : ℕ) (es c : List Entry) → AllByRecursion (IsOf job p) es → (q == p) ≡ false → q < length c
    → instance_work offers q (es ++ c) ≡ instance_work offers q c
spared-works offers job p q [] c all apart older = refl
spared-works offers job p q (e ∷ es) c all apart older =
    spared-work offers job p q e (es ++ c) all.0 apart (longer q es c older) ∙ spared-works offers job p q es c all.1 apart older
