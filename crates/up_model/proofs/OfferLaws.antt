-- An offer leaves one expression fewer to be offered, which counts for more than the moves that it can bring.
use Rattle.std.proofs.Common.{◌≡◌, ℕ, suc, nat_lt, ◌+◌, ◌<◌, ◌≤◌, Bool, true, false, ◌||◌, not, List, [], ◌∷◌, ◌++◌, length, Option, None, Some, is_some, bytes_eq, refl, ◌∙◌, ap, subst, arith, eq-eqb, append_assoc}
use Rattle.std.proofs.Math.Bool.{or-true}
use Rattle.std.specs.List.{AllByRecursion}
use Rattle.up_expr.specs.Truth.{Sight}
use Rattle.up_conf.specs.declared.job.JobDef.{JobDef}
use Rattle.up_model.specs.declared.state.Goal.TheVariants.{Start}
use Rattle.up_model.specs.declared.who.Who.{Who}
use Rattle.up_model.specs.Chronicle.{Chronicle, Entry, Given, Offered, Fired, Made, Aimed, Released, Entered, Replied, Expression, StartOn, StopOn}
use Rattle.up_model.specs.Configuration.{Configuration}
use Rattle.up_model.specs.Environments.{env_of_job, instance_name}
use Rattle.up_model.specs.Events.{events_at, events_env, with_instance, stopped_by}
use Rattle.up_model.specs.Instances.{instances_of, all_instances, instance_named}
use Rattle.up_model.specs.Offers.{is_newborn, is_open, stop_of, stop_by, stop_offer, max_instances, start_of, who_called, start_who, start_by, start_offer, start_env}
use Rattle.up_model.specs.Readings.{goal, state_of, blocker}
use Rattle.up_model.specs.Replies.{releasing}
use Rattle.up_model.specs.Seen.{seen, holds, taken, was_offered}
use Rattle.up_model.specs.Predicates.{is_start, entries_if}
use Rattle.up_model.specs.Values.{Bytes, Bindings}
use Rattle.up_model.specs.Work.{offer_work, instance_work, work_in, start_work}
use Rattle.up_model.proofs.MoveLaws.{moves-few, Lessens}
use Rattle.up_model.proofs.Places.{bytes_same, bytes_refl, count, count-older, all_instances-older, all_instances-once, instances-exist}
use Rattle.up_model.proofs.ReplyLaws.{releasing-all}
use Rattle.up_model.proofs.Sparing.{same-append, all-append, all-if, all-weaker, either, IsOf, spared-works, spared-starts}
use Rattle.up_model.proofs.Sums.{IsSpared, sum-same, sum-less, sum-more}

-- an entry of an offer to an instance
abbrev IsStop : ℕ → Entry → Type 0
IsStop p (Offered (StopOn instance) event) = instance ≡ p
IsStop p (Fired expression taken) = Unit {0}
IsStop p (Aimed instance aim environment its) = instance ≡ p
IsStop p (Released instance failed) = Unit {0}
IsStop p (Replied request answer) = Unit {0}
IsStop p entry = ⊥

stop-is_of : (job : Bytes) (p : ℕ) (e : Entry) → IsStop p e → IsOf job p e
stop-is_of job p (Offered (StopOn instance) event) is = is
stop-is_of job p (Fired expression taken) is = is
stop-is_of job p (Aimed instance aim environment its) is = is
stop-is_of job p (Released instance failed) is = is
stop-is_of job p (Replied request answer) is = is
stop-is_of job p e is = absurd is

-- it leaves the instances alone
stop-all_instances : (p : ℕ) (e : Entry) (c : Chronicle) → IsStop p e → all_instances (e ∷ c) ≡ all_instances c
stop-all_instances p (Made file name) c is = absurd is
stop-all_instances p (Entered i entered) c is = absurd is
stop-all_instances p e c is = refl

-- and what was offered to the jobs
stop-start : (p : ℕ) (k : Bytes) (e : Entry) (c : Chronicle) → IsStop p e → was_offered (StartOn k) (e ∷ c) ≡ was_offered (StartOn k) c
stop-start p k (Given input) c is = absurd is
stop-start p k (Offered (StopOn i) event) c is = refl
stop-start p k (Offered (StartOn i) event) c is = absurd is
stop-start p k e c is = refl

-- an entry by which nothing is offered
abbrev IsUnoffered : Entry → Type 0
IsUnoffered (Given input) = ⊥
IsUnoffered (Offered expression event) = ⊥
IsUnoffered entry = Unit {0}

unoffered-same : (expression : Expression) (e : Entry) (c : Chronicle) → IsUnoffered e → was_offered expression (e ∷ c) ≡ was_offered expression c
unoffered-same expression (Given input) c is = absurd is
unoffered-same expression (Offered other event) c is = absurd is
unoffered-same expression e c is = refl

three : (xs c : Chronicle) (e f : Entry) → ((xs ++ e ∷ []) ++ f ∷ []) ++ c ≡ xs ++ e ∷ f ∷ c
three xs c e f = append_assoc (xs ++ e ∷ []) (f ∷ []) c ∙ append_assoc xs (e ∷ []) (f ∷ c)

stop_by-all : (p : ℕ) (events : List ℕ) (c : Chronicle) → AllByRecursion (IsStop p) (stop_by p events c)
stop_by-all p events c =
    all-if (IsStop p) (is_start (goal p c)) (stop_of p (stopped_by (events_at events c)) events c)
    (refl, releasing-all (IsStop p) (λ request answer. tt) p false tt c)

-- an offer to an instance's `stop on` leaves its job less to do
pub stop_offer-lessens : (config : Configuration) (job : JobDef) (p event : ℕ) (c : Chronicle) → 0 < count p (instances_of job.name c)
    → is_open p c ≡ true → Lessens true job.name c (stop_offer config job p event c)
stop_offer-lessens config job p event c there left = record {
  place = p;
  of = all-weaker (IsStop p) (IsOf job.name p) (stop-is_of job.name p) es all;
  each = λ k. omega (arith, start k);
  less = omega (arith, start job.name, now, sum-less true p c d (all_instances c) spared (all_instances-older c) fewer (omega (arith, there, instances-exist p job.name c)));
}
  where
    sights : List Sight
    sights = seen config (StopOn p) (Offered (StopOn p) event ∷ c)

    events : List ℕ
    events = taken job.stop_on sights

    fired : Chronicle
    fired = Fired (StopOn p) events ∷ Offered (StopOn p) event ∷ c

    fires : List Entry
    fires = stop_by p events fired ++ Fired (StopOn p) events ∷ []

    es : List Entry
    es = stop_offer config job p event c

    d : Chronicle
    d = es ++ c

    all : AllByRecursion (IsStop p) es
    all =
        all-append (IsStop p) (entries_if (holds job.stop_on sights) fires) (Offered (StopOn p) event ∷ [])
        (all-if (IsStop p) (holds job.stop_on sights) fires
        (all-append (IsStop p) (stop_by p events (Fired (StopOn p) events ∷ Offered (StopOn p) event ∷ c)) (Fired (StopOn p) events ∷ [])
        (stop_by-all p events (Fired (StopOn p) events ∷ Offered (StopOn p) event ∷ c)) (tt, tt)))
        (refl, tt)

    spared : IsSpared true p c d
    spared q apart older = spared-works true job.name p q es c (all-weaker (IsStop p) (IsOf job.name p) (stop-is_of job.name p) es all) apart older

    offered : was_offered (StopOn p) d ≡ true
    offered =
        either (λ xs. was_offered (StopOn p) (xs ++ c) ≡ true) (holds job.stop_on sights) fires (Offered (StopOn p) event ∷ [])
        (ap (was_offered (StopOn p)) (three (stop_by p events fired) c (Fired (StopOn p) events) (Offered (StopOn p) event))
        ∙ same-append (was_offered (StopOn p)) IsUnoffered (unoffered-same (StopOn p)) (stop_by p events fired) fired
        (all-if IsUnoffered (is_start (goal p fired)) (stop_of p (stopped_by (events_at events fired)) events fired)
        (tt, releasing-all IsUnoffered (λ request answer. tt) p false tt fired))
        ∙ rw (eq-eqb p p refl) refl)
        (rw (eq-eqb p p refl) refl)

    shut : is_open p d ≡ false
    shut = ap (λ b. not (is_newborn p d || b)) offered ∙ ap not (or-true (is_newborn p d))

    fewer : instance_work true p d < instance_work true p c
    fewer =
        let few = moves-few (goal p d) (state_of p d) (is_some (blocker p d)) in
        let none : offer_work true (is_open p d) ≡ 0 = ap (offer_work true) shut in
        let six : offer_work true (is_open p c) ≡ 6 = ap (offer_work true) left in
        omega (arith, few, none, six)

    start : (k : Bytes) → start_work true k d ≡ start_work true k c
    start k = ap (λ b. offer_work true (not b)) (same-append (was_offered (StartOn k)) (IsStop p) (stop-start p k) es c all)

    now : work_in true (all_instances d) d ≡ work_in true (all_instances c) d
    now = ap (λ xs. work_in true xs d) (same-append all_instances (IsStop p) (stop-all_instances p) es c all)

-- an entry of an offer to a job's `start on`, if it has the instance
abbrev IsStart : Bytes → ℕ → Entry → Type 0
IsStart job p (Offered (StartOn other) event) = other ≡ job
IsStart job p (Fired expression taken) = Unit {0}
IsStart job p (Aimed instance aim environment its) = instance ≡ p
IsStart job p (Released instance failed) = Unit {0}
IsStart job p (Replied request answer) = Unit {0}
IsStart job p entry = ⊥

start-is_of : (job : Bytes) (p : ℕ) (e : Entry) → IsStart job p e → IsOf job p e
start-is_of job p (Offered (StartOn other) event) is = is
start-is_of job p (Fired expression taken) is = is
start-is_of job p (Aimed instance aim environment its) is = is
start-is_of job p (Released instance failed) is = is
start-is_of job p (Replied request answer) is = is
start-is_of job p e is = absurd is

-- it leaves the instances alone
start-all_instances : (job : Bytes) (p : ℕ) (e : Entry) (c : Chronicle) → IsStart job p e → all_instances (e ∷ c) ≡ all_instances c
start-all_instances job p (Made file name) c is = absurd is
start-all_instances job p (Entered i entered) c is = absurd is
start-all_instances job p e c is = refl

-- which of them were made in this step
start-newborn : (job : Bytes) (p q : ℕ) (e : Entry) (c : Chronicle) → IsStart job p e → is_newborn q (e ∷ c) ≡ is_newborn q c
start-newborn job p q (Given input) c is = absurd is
start-newborn job p q (Made file name) c is = absurd is
start-newborn job p q e c is = refl

-- and what was offered to them
start-stop : (job : Bytes) (p q : ℕ) (e : Entry) (c : Chronicle) → IsStart job p e → was_offered (StopOn q) (e ∷ c) ≡ was_offered (StopOn q) c
start-stop job p q (Given input) c is = absurd is
start-stop job p q (Offered (StartOn i) event) c is = refl
start-stop job p q (Offered (StopOn i) event) c is = absurd is
start-stop job p q e c is = refl

-- the `start on` of this name was offered the event, and those of other names have no more
starts-each : (job : Bytes) (p : ℕ) (k : Bytes) (es c : List Entry) → AllByRecursion (IsOf job p) es → was_offered (StartOn job) (es ++ c) ≡ true
    → start_work true k (es ++ c) ≤ start_work true k c
starts-each job p k es c of offered = by_case (bytes_eq job k) refl
  where
    by_case : (b : Bool) → bytes_eq job k ≡ b → start_work true k (es ++ c) ≤ start_work true k c
    by_case true e =
        let none : start_work true k (es ++ c) ≡ 0 = ap (λ b. offer_work true (not b)) (subst (λ name. was_offered (StartOn name) (es ++ c) ≡ true) (bytes_same job k e) offered) in
        omega (arith, none)
    by_case false e = let same = ap (λ b. offer_work true (not b)) (spared-starts job p k es c of e) in omega (arith, same)

-- the instances have less than six more to do, and the `start on` six less
starts-lessens : (job : Bytes) (p : ℕ) (es c : List Entry) → AllByRecursion (IsOf job p) es → was_offered (StartOn job) (es ++ c) ≡ true
    → was_offered (StartOn job) c ≡ false → work_in true (all_instances (es ++ c)) (es ++ c) < work_in true (all_instances c) c + 6 → Lessens true job c es
starts-lessens job p es c of offered left few = record {
  place = p;
  of = of;
  each = λ k. starts-each job p k es c of offered;
  less = omega (arith, none, six, few);
}
  where
    none : start_work true job (es ++ c) ≡ 0
    none = ap (λ b. offer_work true (not b)) offered

    six : start_work true job c ≡ 6
    six = ap (λ b. offer_work true (not b)) left

-- an offer to a job's `start on` that does this when it fires
abbrev offer_with : Bytes → (event : ℕ) → Bool → List ℕ → List Entry → List Entry
offer_with name event true events does = (does ++ Fired (StartOn name) events ∷ []) ++ Offered (StartOn name) event ∷ []
offer_with name event false events does = Offered (StartOn name) event ∷ []

-- an offer to a job's `start on` that leaves the instances alone
start-idle : (name : Bytes) (es c : List Entry) → AllByRecursion (IsOf name (suc (suc (length c)))) es → all_instances (es ++ c) ≡ all_instances c
    → was_offered (StartOn name) (es ++ c) ≡ true → was_offered (StartOn name) c ≡ false → Lessens true name c es
start-idle name es c of same offered left = starts-lessens name p es c of offered left (omega (arith, now, sums))
  where
    p : ℕ
    p = suc (suc (length c))

    young : count p (all_instances c) ≡ 0
    young = count-older p (length c) (all_instances c) (all_instances-older c) (omega arith)

    sums : work_in true (all_instances c) (es ++ c) ≡ work_in true (all_instances c) c
    sums = sum-same true p c (es ++ c) (all_instances c) (λ q. spared-works true name p q es c of) (all_instances-older c) young

    now : work_in true (all_instances (es ++ c)) (es ++ c) ≡ work_in true (all_instances c) (es ++ c)
    now = ap (λ xs. work_in true xs (es ++ c)) same

-- one that doesn't fire
start-none : (name : Bytes) (event : ℕ) (c : Chronicle) → was_offered (StartOn name) c ≡ false → Lessens true name c (Offered (StartOn name) event ∷ [])
start-none name event c left = start-idle name (Offered (StartOn name) event ∷ []) c (refl, tt) refl (rw (bytes_refl name) refl) left

-- one that fires without effect
start-vain : (name : Bytes) (event : ℕ) (events : List ℕ) (c : Chronicle) → was_offered (StartOn name) c ≡ false
    → Lessens true name c (Fired (StartOn name) events ∷ Offered (StartOn name) event ∷ [])
start-vain name event events c left =
    start-idle name (Fired (StartOn name) events ∷ Offered (StartOn name) event ∷ []) c (tt, (refl, tt)) refl (rw (bytes_refl name) refl) left

-- one that starts an instance which the job has, and answers what it held
start-aims : (name : Bytes) (event p : ℕ) (events : List ℕ) (environment : Bindings) (c : Chronicle) → was_offered (StartOn name) c ≡ false
    → Lessens true name c
    (((Aimed p Start environment events ∷ releasing p false (Fired (StartOn name) events ∷ Offered (StartOn name) event ∷ c)) ++ Fired (StartOn name) events ∷ []) ++ Offered (StartOn name) event ∷ [])
start-aims name event p events environment c left = starts-lessens name p es c of offered left few
  where
    fired : Chronicle
    fired = Fired (StartOn name) events ∷ Offered (StartOn name) event ∷ c

    front : List Entry
    front = Aimed p Start environment events ∷ releasing p false fired

    es : List Entry
    es = (front ++ Fired (StartOn name) events ∷ []) ++ Offered (StartOn name) event ∷ []

    d : Chronicle
    d = es ++ c

    all : AllByRecursion (IsStart name p) es
    all =
        all-append (IsStart name p) (front ++ Fired (StartOn name) events ∷ []) (Offered (StartOn name) event ∷ [])
        (all-append (IsStart name p) front (Fired (StartOn name) events ∷ [])
        (refl, releasing-all (IsStart name p) (λ request answer. tt) p false tt fired) (tt, tt))
        (refl, tt)

    of : AllByRecursion (IsOf name p) es
    of = all-weaker (IsStart name p) (IsOf name p) (start-is_of name p) es all

    offered : was_offered (StartOn name) d ≡ true
    offered =
        ap (was_offered (StartOn name)) (three front c (Fired (StartOn name) events) (Offered (StartOn name) event))
        ∙ same-append (was_offered (StartOn name)) IsUnoffered (unoffered-same (StartOn name)) front fired (tt, releasing-all IsUnoffered (λ request answer. tt) p false tt fired)
        ∙ rw (bytes_refl name) refl

    same : is_open p d ≡ is_open p c
    same =
        ap (λ b. not (b || was_offered (StopOn p) d)) (same-append (is_newborn p) (IsStart name p) (start-newborn name p p) es c all)
        ∙ ap (λ b. not (is_newborn p c || b)) (same-append (was_offered (StopOn p)) (IsStart name p) (start-stop name p p) es c all)

    few : work_in true (all_instances d) d < work_in true (all_instances c) c + 6
    few =
        let moves = moves-few (goal p d) (state_of p d) (is_some (blocker p d)) in
        let stop : offer_work true (is_open p d) ≡ offer_work true (is_open p c) = ap (offer_work true) same in
        let now : work_in true (all_instances d) d ≡ work_in true (all_instances c) d = ap (λ xs. work_in true xs d) (same-append all_instances (IsStart name p) (start-all_instances name p) es c all) in
        let more = sum-more true p c d (all_instances c) (λ q. spared-works true name p q es c of) (all_instances-older c) (omega (arith, moves, stop)) (all_instances-once p c) in
        omega (arith, now, more)

-- one that makes an instance
start-makes : (job : JobDef) (its : Bytes) (event : ℕ) (events : List ℕ) (environment : Bindings) (c : Chronicle) → was_offered (StartOn job.name) c ≡ false
    → Lessens true job.name c (Aimed (suc (suc (length c))) Start environment events ∷ Made job its ∷ Fired (StartOn job.name) events ∷ Offered (StartOn job.name) event ∷ [])
start-makes job its event events environment c left = starts-lessens job.name p es c of (rw (bytes_refl job.name) refl) left few
  where
    p : ℕ
    p = suc (suc (length c))

    young : count p (all_instances c) ≡ 0
    young = count-older p (length c) (all_instances c) (all_instances-older c) (omega arith)

    es : List Entry
    es = Aimed p Start environment events ∷ Made job its ∷ Fired (StartOn job.name) events ∷ Offered (StartOn job.name) event ∷ []

    of : AllByRecursion (IsOf job.name p) es
    of = (refl, (refl, (tt, (refl, tt))))

    few : work_in true (all_instances (es ++ c)) (es ++ c) < work_in true (all_instances c) c + 6
    few =
        let moves = moves-few (goal p (es ++ c)) (state_of p (es ++ c)) (is_some (blocker p (es ++ c))) in
        let newborn : is_newborn p (es ++ c) ≡ true = rw (eq-eqb p p refl) refl in
        let shut : offer_work true (is_open p (es ++ c)) ≡ 0 = ap (λ b. offer_work true (not (b || was_offered (StopOn p) (es ++ c)))) newborn in
        let same = sum-same true p c (es ++ c) (all_instances c) (λ q. spared-works true job.name p q es c of) (all_instances-older c) young in
        omega (arith, moves, shut, same)

-- whatever instance a start concerns, the offer leaves the job less to do
start-lessens : (job : JobDef) (event : ℕ) (events : List ℕ) (environment : Bindings) (c : Chronicle) (found : Option Bytes) (b : Bool)
    → was_offered (StartOn job.name) c ≡ false
    → Lessens true job.name c (offer_with job.name event b events (start_who job environment events (who_called job.name found) (Fired (StartOn job.name) events ∷ Offered (StartOn job.name) event ∷ c)))
start-lessens job event events environment c found false left = start-none job.name event c left
start-lessens job event events environment c None true left = start-vain job.name event events c left
start-lessens job event events environment c (Some its) true left = by_case (instance_named who fired)
  where
    who : Who
    who = record { job = job.name; instance = its }

    fired : Chronicle
    fired = Fired (StartOn job.name) events ∷ Offered (StartOn job.name) event ∷ c

    told : Bindings
    told = with_instance who environment

    by_room : (b : Bool)
        → Lessens true job.name c ((entries_if b (Aimed (length fired) Start told events ∷ Made job its ∷ []) ++ Fired (StartOn job.name) events ∷ []) ++ Offered (StartOn job.name) event ∷ [])
    by_room true = start-makes job its event events told c left
    by_room false = start-vain job.name event events c left

    by_goal : (p : ℕ) (b : Bool)
        → Lessens true job.name c ((entries_if b (Aimed p Start told events ∷ releasing p false fired) ++ Fired (StartOn job.name) events ∷ []) ++ Offered (StartOn job.name) event ∷ [])
    by_goal p true = start-aims job.name event p events told c left
    by_goal p false = start-vain job.name event events c left

    by_case : (o : Option ℕ) → Lessens true job.name c ((start_of job who told events o fired ++ Fired (StartOn job.name) events ∷ []) ++ Offered (StartOn job.name) event ∷ [])
    by_case None = by_room (nat_lt (length (instances_of job.name fired)) max_instances)
    by_case (Some p) = by_goal p (not (is_start (goal p fired)))

-- an offer to a job's `start on` leaves it less to do
pub start_offer-lessens : (config : Configuration) (job : JobDef) (event : ℕ) (c : Chronicle) → was_offered (StartOn job.name) c ≡ false
    → Lessens true job.name c (start_offer config job event c)
start_offer-lessens config job event c left = by_case (holds job.start_on sights)
  where
    sights : List Sight
    sights = seen config (StartOn job.name) (Offered (StartOn job.name) event ∷ c)

    events : List ℕ
    events = taken job.start_on sights

    fired : Chronicle
    fired = Fired (StartOn job.name) events ∷ Offered (StartOn job.name) event ∷ c

    name : Option Bytes
    name = instance_name job (events_env (env_of_job config job.name) (events_at events fired))

    environment : Bindings
    environment = start_env config (who_called job.name name) (events_at events fired) fired

    by_case : (b : Bool) → Lessens true job.name c (entries_if b (start_by config job events fired ++ Fired (StartOn job.name) events ∷ []) ++ Offered (StartOn job.name) event ∷ [])
    by_case true = start-lessens job event events environment c name true left
    by_case false = start-lessens job event events environment c None false left
