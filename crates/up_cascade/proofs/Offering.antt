-- The offers that are left in a step, and that doing what is due leaves what comes of it.
use Rattle.std.proofs.Common.{◌≡◌, ℕ, suc, ◌+◌, ◌||◌, Bool, true, false, not, List, [], ◌∷◌, ◌++◌, filter, if◌then◌else◌, refl, ◌∙◌, ap, arith, append_assoc}
use Rattle.up_conf.specs.declared.job.JobDef.{JobDef}
use Rattle.up_model.specs.Chronicle.{Chronicle, Entry, Expression, Offered, StartOn, StopOn}
use Rattle.up_model.specs.Configuration.{Configuration}
use Rattle.up_model.specs.Due.{due}
use Rattle.up_model.specs.Instances.{Instance, instances_of}
use Rattle.up_model.specs.Offers.{is_newborn, is_open, stop_offer, stop_offer_in, start_offer}
use Rattle.up_model.specs.Predicates.{entries_if, or_else}
use Rattle.up_model.specs.Seen.{same_expression, was_offered}
use Rattle.up_model.specs.Work.{work, settle}
use Rattle.up_model.proofs.JobOffers.{offer_first}
use Rattle.up_model.proofs.Settling.{settle_enough}
use Rattle.up_cascade.specs.Offering.{Asked, OfStop, OfStart, expression_of, open_stops, open_start, open_all, offer_at, offer_one}
use Rattle.up_book.proofs.Lists.{cons_same}

-- what comes of a chronicle once nothing is due
abbrev pub rested : Configuration → Chronicle → Chronicle
rested config c = settle (work config c) config c

-- doing what is due leaves what comes of it
pub rested-next : (config : Configuration) (c : Chronicle) → rested config (due config c ++ c) ≡ rested config c
unfolding settle
rested-next config c =
    let d : Chronicle = due config c ++ c in
    let n = work config c + work config d in
    settle_enough (work config d) n config d (omega arith) (omega arith) ∙ settle_enough (suc n) (work config c) config c (omega arith) (omega arith)

-- the first offer is to the first of those that are left
or_else-cons : (entries : List Entry) (last : Entry) (others : List Entry) → or_else (entries ++ last ∷ []) others ≡ entries ++ last ∷ []
or_else-cons [] last others = refl
or_else-cons (entry ∷ entries) last others = refl

pub offer-filled : (config : Configuration) (a : Asked) (event : ℕ) (c : Chronicle) (others : List Entry) → or_else (offer_at config a event c) others ≡ offer_at config a event c
offer-filled config (OfStop file i) event c others = or_else-cons _ (Offered (StopOn i) event) others
offer-filled config (OfStart job) event c others = or_else-cons _ (Offered (StartOn job.name) event) others

one-append : (config : Configuration) (xs ys : List Asked) (event : ℕ) (c : Chronicle) → or_else (offer_one config xs event c) (offer_one config ys event c) ≡ offer_one config (xs ++ ys) event c
one-append config [] ys event c = refl
one-append config (a ∷ xs) ys event c = offer-filled config a event c (offer_one config ys event c)

stops-one : (config : Configuration) (its : List Instance) (event : ℕ) (c : Chronicle) → stop_offer_in config its event c ≡ offer_one config (open_stops its c) event c
stops-one config [] event c = refl
stops-one config (x ∷ its) event c = by_case (is_open x.place c) (stops-one config its event c)
  where
    by_case : (b : Bool) → stop_offer_in config its event c ≡ offer_one config (open_stops its c) event c
        → or_else (entries_if b (stop_offer config x.file x.place event c)) (stop_offer_in config its event c) ≡ offer_one config (if b then OfStop x.file x.place ∷ open_stops its c else open_stops its c) event c
    by_case true ih = offer-filled config (OfStop x.file x.place) event c (stop_offer_in config its event c)
    by_case false ih = ih

start-one : (config : Configuration) (job : JobDef) (event : ℕ) (c : Chronicle) → entries_if (not (was_offered (StartOn job.name) c)) (start_offer config job event c) ≡ offer_one config (open_start job c) event c
start-one config job event c = by_case (was_offered (StartOn job.name) c)
  where
    by_case : (b : Bool) → entries_if (not b) (start_offer config job event c) ≡ offer_one config (if b then [] else OfStart job ∷ []) event c
    by_case true = refl
    by_case false = refl

pub first-offer : (config : Configuration) (jobs : List JobDef) (event : ℕ) (c : Chronicle) → offer_first config jobs event c ≡ offer_one config (open_all jobs c) event c
first-offer config [] event c = refl
first-offer config (job ∷ jobs) event c =
    let stops = open_stops (instances_of job.name c) c in
    rw (stops-one config (instances_of job.name c) event c, start-one config job event c, first-offer config jobs event c, one-append config stops (open_start job c) event c)
    (one-append config (stops ++ open_start job c) (open_all jobs c) event c ∙ ap (λ xs. offer_one config xs event c) (append_assoc stops (open_start job c) (open_all jobs c)))

-- an offer takes its expression off those that are left, and no other
abbrev pub is_left : Expression → Asked → Bool
is_left x asked = not (same_expression x (expression_of asked))

filter-append : (P : Asked → Bool) (xs ys : List Asked) → filter P (xs ++ ys) ≡ filter P xs ++ filter P ys
filter-append P [] ys = refl
filter-append P (x ∷ xs) ys = by_case (P x) (filter-append P xs ys)
  where
    by_case : (b : Bool) → filter P (xs ++ ys) ≡ filter P xs ++ filter P ys → (if b then x ∷ filter P (xs ++ ys) else filter P (xs ++ ys)) ≡ (if b then x ∷ filter P xs else filter P xs) ++ filter P ys
    by_case true ih = cons_same refl ih
    by_case false ih = ih

stops-left : (x : Expression) (event : ℕ) (its : List Instance) (c : Chronicle) → open_stops its (Offered x event ∷ c) ≡ filter (is_left x) (open_stops its c)
stops-left x event [] c = refl
stops-left x event (y ∷ its) c = by_case (is_newborn y.place c) (same_expression x (StopOn y.place)) (was_offered (StopOn y.place) c) refl (stops-left x event its c)
  where
    by_case : (newborn same was : Bool) → same_expression x (StopOn y.place) ≡ same → open_stops its (Offered x event ∷ c) ≡ filter (is_left x) (open_stops its c)
        → (if not (newborn || (if same then true else was)) then OfStop y.file y.place ∷ open_stops its (Offered x event ∷ c) else open_stops its (Offered x event ∷ c))
        ≡ filter (is_left x) (if not (newborn || was) then OfStop y.file y.place ∷ open_stops its c else open_stops its c)
    by_case true same was h ih = ih
    by_case false true true h ih = ih
    by_case false true false h ih = rw h ih
    by_case false false true h ih = ih
    by_case false false false h ih = rw h (cons_same refl ih)

start-left : (x : Expression) (event : ℕ) (job : JobDef) (c : Chronicle) → open_start job (Offered x event ∷ c) ≡ filter (is_left x) (open_start job c)
start-left x event job c = by_case (same_expression x (StartOn job.name)) (was_offered (StartOn job.name) c) refl
  where
    by_case : (same was : Bool) → same_expression x (StartOn job.name) ≡ same → (if (if same then true else was) then [] else OfStart job ∷ []) ≡ filter (is_left x) (if was then [] else OfStart job ∷ [])
    by_case true true h = refl
    by_case true false h = rw h refl
    by_case false true h = refl
    by_case false false h = rw h refl

pub all-left : (x : Expression) (event : ℕ) (jobs : List JobDef) (c : Chronicle) → open_all jobs (Offered x event ∷ c) ≡ filter (is_left x) (open_all jobs c)
all-left x event [] c = refl
all-left x event (job ∷ jobs) c =
    let stops = open_stops (instances_of job.name c) c in
    rw (stops-left x event (instances_of job.name c) c, start-left x event job c, all-left x event jobs c, filter-append (is_left x) stops (open_start job c ++ open_all jobs c), filter-append (is_left x) (open_start job c) (open_all jobs c)) refl
