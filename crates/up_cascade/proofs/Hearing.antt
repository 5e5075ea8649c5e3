-- A step that handles an event: each job hears of it, and what comes of the chronicle stays.
use Rattle.up_cascade.proofs.Names.{◌≡◌, ℕ, zero, suc, nat_lt, ◌+◌, ◌≤◌, ◌==◌, Bool, true, false, not, List, [], ◌∷◌}
use Rattle.up_cascade.proofs.Names.{◌++◌, length, Option, None, Some, is_some, bytes_eq, if◌then◌else◌, refl, sym}
use Rattle.up_cascade.proofs.Names.{◌∙◌, ap, subst, arith, append_assoc, AllByRecursion, JobDef, Input, Turn, Start}
use Rattle.up_cascade.proofs.Names.{Waiting, Who, Chronicle, Entry, Given, Handled, Offered, Fired, Made, Aimed}
use Rattle.up_cascade.proofs.Names.{Entered, StartOn, Configuration, due, effect, events_at, Instance}
use Rattle.up_cascade.proofs.Names.{without_instance, instances_of, place_named, instance_named, may_leave, next_of}
use Rattle.up_cascade.proofs.Names.{move, offering, stop_offer, max_instances, start_of, who_called, start_who}
use Rattle.up_cascade.proofs.Names.{start_by, start_offer, start_env, is_start, entries_if, or_else, goal, state_of}
use Rattle.up_cascade.proofs.Names.{blocker, made_at, releasing, asked, unless_answered, answering_hurried}
use Rattle.up_cascade.proofs.Names.{answering_last, seen, holds, taken, Bytes, Bindings, moves_at, HasFile, files}
use Rattle.up_cascade.proofs.Names.{offer_next, moves-few, count, one_if, bytes_refl, instances-exist, same-append}
use Rattle.up_cascade.proofs.Names.{nth, AreDistinct, nth-get, IsKnown, known-all, called, none-of-others, apart-back}
use Rattle.up_cascade.proofs.Names.{Asked, OfStop, OfStart, settle_one, settle_each, settle_all, hear_stops, hear}
use Rattle.up_cascade.proofs.Names.{hear_all, ListsAfter, NoneHolds}
use Rattle.up_model.specs.Events as events_of
use Rattle.up_model.specs.Instances.{is_before, with_instance, all_instances}
use Rattle.up_model.proofs.Places.{count-older, all_instances-older}
use Rattle.up_cascade.specs.Settling.{hear_start, after_in}
use Rattle.up_cascade.proofs.JobMoves.{move_first, due-by}
use Rattle.up_cascade.proofs.Unfired.{none-stop, none-start, none-one}
use Rattle.up_cascade.proofs.Acts.{Fires, releases, stop-of, start-all}
use Rattle.up_cascade.proofs.Effects.{one-same, each-same, settled-rested}
use Rattle.up_cascade.proofs.Firing.{IsHandling, IsAt}
use Rattle.up_cascade.proofs.Handling.{all_stops, all_asked, all-apart, taken-up, handled-all}
use Rattle.up_cascade.proofs.Moving.{StayIn, Stay}
use Rattle.up_cascade.proofs.Offering.{rested}
use Rattle.up_cascade.proofs.Opening.{About}
use Rattle.up_cascade.proofs.Passing.{AreApart, or-nil-first}
use Rattle.up_cascade.proofs.Resting.{lists-kept, move-leaves, move-keeps, goes-or-stays, without-one, once, all-middle, Rest}
use Rattle.up_cascade.proofs.Settled.{StandsStill, still-instances, gone-stays, one-stays, settled-one}
use Rattle.up_cascade.proofs.Shapes.{IsApart, AfterStart, started, started_at, started_who, start_name, after-stop, after-start, due-offer}

-- the instances after one of them has settled
pub record Settles (n : ℕ) (job : JobDef) (x : Instance) (c : Chronicle) : Type 0 where
  pub stays : Bool
  pub lists : ListsAfter stays x c (settle_one n job x c)

pub lists-then : (b : Bool) (x : Instance) (c d f : Chronicle) → ListsAfter true x c d → ListsAfter b x d f → ListsAfter b x c f
lists-then true x c d f first lists = λ job. lists job ∙ first job
lists-then false x c d f first lists = λ job. lists job ∙ ap (without_instance x.place) (first job)

pub settle-lists : (n : ℕ) (job : JobDef) (x : Instance) (c : Chronicle) → Settles n job x c
settle-lists zero job x c = record { stays = true; lists = λ job. refl }
settle-lists (suc n) job x c = by_case (may_leave job x.place c) refl (settle-lists n job x (move job x c ++ c))
  where
    d : Chronicle
    d = move job x c ++ c

    After : Chronicle → Type 0
    After f = (b : Bool) × ListsAfter b x c f

    goes : next_of job x.place c ≡ Waiting → After (settle_one n job x d)
    goes to = (false, subst (ListsAfter false x c) (sym (one-stays n job x d (gone-stays job x c to))) (move-leaves job x c to))

    goes_on : Settles n job x d → StandsStill (Entered x.place (next_of job x.place c)) → After (settle_one n job x d)
    goes_on rest still = (rest.stays, lists-then rest.stays x c d (settle_one n job x d) (move-keeps job x c still) rest.lists)

    may : Settles n job x d → After (settle_one n job x d)
    may rest = goes-or-stays (After (settle_one n job x d)) x.place (next_of job x.place c) goes (goes_on rest)

    pack : (f : Chronicle) → settle_one (suc n) job x c ≡ f → After f → Settles (suc n) job x c
    pack f same after = record { stays = after.0; lists = subst (ListsAfter after.0 x c) (sym same) after.1 }

    by_case : (b : Bool) → may_leave job x.place c ≡ b → Settles n job x d → Settles (suc n) job x c
    by_case true leaves rest = pack (settle_one n job x d) (ap (λ (b : Bool). if b then settle_one n job x d else c) leaves) (may rest)
    by_case false leaves rest = pack c (ap (λ (b : Bool). if b then settle_one n job x d else c) leaves) (true, λ job. refl)

-- the lists of other jobs stay
abbrev pub KeepsOthers : JobDef → Chronicle → Chronicle → Type 0
KeepsOthers job c d = (other : JobDef) → bytes_eq other.name job.name ≡ false → instances_of other.name d ≡ instances_of other.name c

others-then : (job : JobDef) (c d f : Chronicle) → KeepsOthers job c d → KeepsOthers job d f → KeepsOthers job c f
others-then job c d f first then_ other apart = then_ other apart ∙ first other apart

settle-others : (n : ℕ) (file job : JobDef) (x : Instance) (c : Chronicle) → made_at x.place c ≡ Some (called job.name x.name) → KeepsOthers job c (settle_one n file x c)
settle-others n file job x c made other apart =
    let all = settle-lists n file x c in
    lists-kept all.stays x c (settle_one n file x c) all.lists other.name (none-of-others other.name c x.place (called job.name x.name) (instances_of other.name c) (known-all other.name c) made apart)

known-in : (job : JobDef) (front back : List Instance) (x : Instance) (c : Chronicle) → instances_of job.name c ≡ front ++ x ∷ back → made_at x.place c ≡ Some (called job.name x.name)
known-in job front back x c list = (all-middle (IsKnown job.name c) front x back (subst (AllByRecursion (IsKnown job.name c)) list (known-all job.name c))).1

pub asked-others : (job : JobDef) (jobs : List JobDef) (c d : Chronicle) → AllByRecursion (λ other. bytes_eq other.name job.name ≡ false) jobs → KeepsOthers job c d → all_asked jobs d ≡ all_asked jobs c
asked-others job [] c d apart keeps = refl
asked-others job (other ∷ jobs) c d apart keeps =
    ap (λ its. all_stops its ++ (OfStart other ∷ all_asked jobs d)) (keeps other apart.0)
    ∙ ap (λ rest. all_stops (instances_of other.name c) ++ (OfStart other ∷ rest)) (asked-others job jobs c d apart.1 keeps)

-- places of lists
pub nth-middle : {X : Type 0} (front : List X) (x : X) (back : List X) → nth (length front) (front ++ x ∷ back) ≡ Some x
nth-middle [] x back = refl
nth-middle (y ∷ front) x back = nth-middle front x back

stands-fires : Fires StandsStill
stands-fires = record { offered = λ x event. tt; acts = record { fired = λ x its. tt; aimed = λ i aim environment its. tt; released = λ i failed. tt; replied = λ request answer. tt } }

-- an offer to a `stop on` leaves all lists
pub stop-lists : (config : Configuration) (job : JobDef) (i e : ℕ) (c : Chronicle) (name : Bytes) → instances_of name (stop_offer config job i e c ++ c) ≡ instances_of name c
stop-lists config job i e c name = same-append (instances_of name) StandsStill (still-instances name) (stop_offer config job i e c) c (stop-of StandsStill stands-fires config job i e c)

-- what a job hears leaves the rest to hear of it
pub record Heard (config : Configuration) (e : ℕ) (job : JobDef) (left : List Asked) (c d : Chronicle) : Type 0 where
  pub handling : IsHandling config.jobs e left d
  pub others : KeepsOthers job c d
  pub same : rested config d ≡ rested config c
  pub untrue : NoneHolds config c → NoneHolds config d

few-moves : (i : ℕ) (c : Chronicle) → moves_at i c ≤ 5
few-moves i c = omega (arith, moves-few (goal i c) (state_of i c) (is_some (blocker i c)))

stops-heard : (config : Configuration) (e : ℕ) (done : List JobDef) (job : JobDef) (todo : List JobDef) (front its : List Instance) (left : List Asked) (c : Chronicle) → AreDistinct config.jobs
    → config.jobs ≡ done ++ job ∷ todo → IsHandling config.jobs e (all_stops its ++ left) c → AreApart (all_stops its ++ left) → instances_of job.name c ≡ front ++ its
    → Heard config e job left c (hear_stops config its e c)
stops-heard config e done job todo front [] left c distinct split h apart list = record { handling = h; others = λ other apart. refl; same = refl; untrue = λ none. none }
stops-heard config e done job todo front (x ∷ its) left c distinct split h apart list =
    goes-on stays_or_not (λ front list. stops-heard config e done job todo front its left f distinct split one.0 apart.1 list)
  where
    d : Chronicle
    d = stop_offer config x.file x.place e c ++ c

    f : Chronicle
    f = settle_one 5 x.file x d

    there : nth (length done) config.jobs ≡ Some job
    there = ap (nth (length done)) split ∙ nth-middle done job todo

    list_d : instances_of job.name d ≡ front ++ x ∷ its
    list_d = stop-lists config x.file x.place e c job.name ∙ list

    one : IsHandling config.jobs e (all_stops its ++ left) f × (rested config f ≡ rested config d)
    one =
        settled-one 5 config e (all_stops its ++ left) (length done) (length front) job x d (after-stop config x.file x.place (all_stops its ++ left) e c h apart.0) distinct there
        (ap (nth (length front)) list_d ∙ nth-middle front x its) (few-moves x.place d)

    same : rested config f ≡ rested config c
    same = one.1 ∙ (due-offer config (OfStop x.file x.place) (all_stops its ++ left) e c h).1

    others : KeepsOthers job c f
    others =
        others-then job c d f (λ other apart. stop-lists config x.file x.place e c other.name) (settle-others 5 x.file job x d (known-in job front its x d list_d))

    known : HasFile job.name c x
    known = all-middle (HasFile job.name c) front x its (subst (AllByRecursion (HasFile job.name c)) list (files job.name c))

    untrue : NoneHolds config c → NoneHolds config f
    untrue none = none-one 5 config x.file x d (none-stop config x.file x.place e c known.0 known.1 none)

    stays_or_not : (front : List Instance) × (instances_of job.name f ≡ front ++ its)
    stays_or_not = by_case (settle-lists 5 x.file x d).stays (settle-lists 5 x.file x d).lists
      where
        by_case : (b : Bool) → ListsAfter b x d f → (front : List Instance) × (instances_of job.name f ≡ front ++ its)
        by_case true lists = (front ++ x ∷ [], lists job.name ∙ list_d ∙ sym (append_assoc front (x ∷ []) its))
        by_case false lists = (front, lists job.name ∙ without-one job.name d front its x list_d)

    Later : Type 0
    Later = Heard config e job left f (hear_stops config its e f)

    goes-on : (front : List Instance) × (instances_of job.name f ≡ front ++ its) → ((front : List Instance) → instances_of job.name f ≡ front ++ its → Later)
        → Heard config e job left c (hear_stops config its e f)
    goes-on after again =
        let rest = again after.0 after.1 in
        record { handling = rest.handling; others = others-then job c f (hear_stops config its e f) others rest.others; same = rest.same ∙ same; untrue = λ none. rest.untrue (untrue none) }

-- an offer to a `start on` leaves the lists of other jobs
abbrev MakesOf : Bytes → Entry → Type 0
MakesOf job (Made file name) = file.name ≡ job
MakesOf job (Entered i Waiting) = ⊥
MakesOf job entry = Unit {0}

makes-others : (job k : Bytes) → bytes_eq job k ≡ false → (e : Entry) (c : Chronicle) → MakesOf job e → instances_of k (e ∷ c) ≡ instances_of k c
makes-others job k apart (Made file name) c is =
    ap (λ (b : Bool). if b then with_instance (record { place = length c; name = name; file = file }) (instances_of k c) else instances_of k c) (ap (λ its. bytes_eq its k) is ∙ apart)
makes-others job k apart (Entered i Waiting) c is = absurd is
makes-others job k apart e c is = refl

start-others : (config : Configuration) (job : JobDef) (e : ℕ) (c : Chronicle) → KeepsOthers job c (start_offer config job e c ++ c)
start-others config job e c other apart =
    same-append (instances_of other.name) (MakesOf job.name) (makes-others job.name other.name (apart-back other.name job.name apart)) (start_offer config job e c) c
    (start-all (MakesOf job.name) (record { offered = λ x event. tt; acts = record { fired = λ x its. tt; aimed = λ i aim environment its. tt; released = λ i failed. tt; replied = λ request answer. tt } }) config job (λ name. refl) e c)

-- the instance that it starts stands in its job's list
record StandsIn (p : ℕ) (its : List Instance) : Type 0 where
  pub front : List Instance
  pub here : Instance
  pub back : List Instance
  pub list : its ≡ front ++ here ∷ back
  pub place : here.place ≡ p

stands-next : (p : ℕ) (y : Instance) (its : List Instance) → StandsIn p its → StandsIn p (y ∷ its)
stands-next p y its in_ = record { front = y ∷ in_.front; here = in_.here; back = in_.back; list = ap (λ xs. y ∷ xs) in_.list; place = in_.place }

with-stands : (x : Instance) (its : List Instance) → StandsIn x.place (with_instance x its)
with-stands x [] = record { front = []; here = x; back = []; list = refl; place = refl }
with-stands x (y ∷ its) = by_case (is_before y x) (with-stands x its)
  where
    by_case : (b : Bool) → StandsIn x.place (with_instance x its) → StandsIn x.place (if b then y ∷ with_instance x its else x ∷ y ∷ its)
    by_case true rest = stands-next x.place y (with_instance x its) rest
    by_case false rest = record { front = []; here = x; back = y ∷ its; list = refl; place = refl }

named-stands : (name : Bytes) (p : ℕ) (its : List Instance) → place_named name its ≡ Some p → StandsIn p its
named-stands name p [] found = absurd cc
named-stands name p (y ∷ its) found = by_case (bytes_eq y.name name) found (named-stands name p its)
  where
    by_case : (b : Bool) → (if b then Some y.place else place_named name its) ≡ Some p → (place_named name its ≡ Some p → StandsIn p its) → StandsIn p (y ∷ its)
    by_case true found rest = record { front = []; here = y; back = its; list = refl; place = cc }
    by_case false found rest = stands-next p y its (rest found)

started-of : (job : JobDef) (who : Who) (environment : Bindings) (its : List ℕ) (o : Option ℕ) (c : Chronicle) (p : ℕ) → who.job ≡ job.name → place_named who.instance (instances_of who.job c) ≡ o → started_at who o c ≡ Some p
    → StandsIn p (instances_of who.job (start_of job who environment its o c ++ c))
started-of job who environment its None c p named is some = by_case (nat_lt (length (instances_of who.job c)) max_instances) some
  where
    made : Instance
    made = record { place = length c; name = who.instance; file = job }

    by_case : (b : Bool) → (if b then Some (length c) else None) ≡ Some p → StandsIn p (instances_of who.job (entries_if b (Aimed (length c) Start environment its ∷ Made job who.instance ∷ []) ++ c))
    by_case true some =
        let here : length c ≡ p = cc in
        let list : with_instance made (instances_of who.job c) ≡ (if bytes_eq job.name who.job then with_instance made (instances_of who.job c) else instances_of who.job c) =
        ap (λ (b : Bool). if b then with_instance made (instances_of who.job c) else instances_of who.job c) (sym (ap (λ name. bytes_eq name who.job) (sym named) ∙ bytes_refl who.job)) in
        subst (λ xs. StandsIn p xs) list (subst (λ q. StandsIn q (with_instance made (instances_of who.job c))) here (with-stands made (instances_of who.job c)))
    by_case false some = absurd cc
started-of job who environment its (Some q) c p named is some = by_case (not (is_start (goal q c))) some
  where
    es : List Entry
    es = Aimed q Start environment its ∷ releasing q false c

    same : instances_of who.job (es ++ c) ≡ instances_of who.job c
    same = same-append (instances_of who.job) StandsStill (still-instances who.job) es c (tt, releases StandsStill stands-fires.acts q c)

    by_case : (b : Bool) → (if b then Some q else None) ≡ Some p → StandsIn p (instances_of who.job (entries_if b es ++ c))
    by_case true some =
        let here : q ≡ p = cc in
        subst (λ xs. StandsIn p xs) (sym same) (named-stands who.instance p (instances_of who.job c) (is ∙ ap Some here))
    by_case false some = absurd cc

started-called : (job : JobDef) (name : Option Bytes) (environment : Bindings) (its : List ℕ) (c : Chronicle) (p : ℕ) → started_who (who_called job.name name) c ≡ Some p
    → StandsIn p (instances_of job.name (start_who job environment its (who_called job.name name) c ++ c))
started-called job None environment its c p some = absurd cc
started-called job (Some name) environment its c p some =
    let who : Who = record { job = job.name; instance = name } in
    started-of job who (events_of.with_instance who environment) its (instance_named who c) c p refl refl some

started-stands : (config : Configuration) (job : JobDef) (e : ℕ) (c : Chronicle) (p : ℕ) → started config job e c ≡ Some p → StandsIn p (instances_of job.name (start_offer config job e c ++ c))
started-stands config job e c p some = by_case (holds job.start_on (seen config (StartOn job.name) d)) some
  where
    d : Chronicle
    d = Offered (StartOn job.name) e ∷ c

    events : List ℕ
    events = taken job.start_on (seen config (StartOn job.name) d)

    f : Chronicle
    f = Fired (StartOn job.name) events ∷ d

    name : Option Bytes
    name = start_name config job events f

    env : Bindings
    env = start_env config (who_called job.name name) (events_at events f) f

    effect : List Entry
    effect = start_by config job events f

    order : ((effect ++ Fired (StartOn job.name) events ∷ []) ++ Offered (StartOn job.name) e ∷ []) ++ c ≡ effect ++ f
    order = append_assoc (effect ++ Fired (StartOn job.name) events ∷ []) (Offered (StartOn job.name) e ∷ []) c ∙ append_assoc effect (Fired (StartOn job.name) events ∷ []) d

    by_case : (b : Bool) → (if b then started_who (who_called job.name name) f else None) ≡ Some p
        → StandsIn p (instances_of job.name ((entries_if b (effect ++ Fired (StartOn job.name) events ∷ []) ++ Offered (StartOn job.name) e ∷ []) ++ c))
    by_case true some = subst (λ g. StandsIn p (instances_of job.name g)) (sym order) (started-called job name env events f p some)
    by_case false some = absurd cc

-- instances that rest settle at once
pub each-still : (its : List Instance) (c : Chronicle) → Rest its c → settle_each its c ≡ c
each-still [] c rest = refl
each-still (x ∷ its) c rest = ap (settle_each its) (one-stays 5 x.file x c rest.0) ∙ each-still its c rest.1

pub each-append : (xs ys : List Instance) (c : Chronicle) → settle_each (xs ++ ys) c ≡ settle_each ys (settle_each xs c)
each-append [] ys c = refl
each-append (x ∷ xs) ys c = each-append xs ys (settle_one 5 x.file x c)

stay-middle : (i : ℕ) (done : List JobDef) (job : JobDef) (todo : List JobDef) (c : Chronicle) → Stay i (done ++ job ∷ todo) c → StayIn i (instances_of job.name c) c
stay-middle i [] job todo c stay = stay.0
stay-middle i (first ∷ done) job todo c stay = stay-middle i done job todo c stay.1

pub stay-rest : (i : ℕ) (its : List Instance) (c : Chronicle) → StayIn i its c → count i its ≡ 0 → Rest its c
stay-rest i [] c all none = tt
stay-rest i (x ∷ its) c all none = by_case (x.place == i) refl none (stay-rest i its c all.1)
  where
    by_case : (b : Bool) → (x.place == i) ≡ b → one_if b + count i its ≡ 0 → (count i its ≡ 0 → Rest its c) → Rest (x ∷ its) c
    by_case true same none rest = absurd (omega (arith, none))
    by_case false differs none rest = (all.0 differs, rest (omega (arith, none)))

pub handling-rest : (config : Configuration) (e : ℕ) (done : List JobDef) (job : JobDef) (todo : List JobDef) (left : List Asked) (c : Chronicle) → config.jobs ≡ done ++ job ∷ todo
    → IsHandling config.jobs e left c → Rest (instances_of job.name c) c
handling-rest config e done job todo left c split h =
    let stay : Stay (length c) (done ++ job ∷ todo) c = subst (λ js. Stay (length c) js c) split (h.still (length c)) in
    let none : count (length c) (instances_of job.name c) ≡ 0 = omega (arith, instances-exist (length c) job.name c, count-older (length c) (length c) (all_instances c) (all_instances-older c) (omega arith)) in
    stay-rest (length c) (instances_of job.name c) c (stay-middle (length c) done job todo c stay) none

pub all-front : {X : Type 0} (P : X → Type 0) (xs ys : List X) → AllByRecursion P (xs ++ ys) → AllByRecursion P xs
all-front P [] ys all = tt
all-front P (x ∷ xs) ys all = (all.0, all-front P xs ys all.1)

pub all-back : {X : Type 0} (P : X → Type 0) (xs ys : List X) → AllByRecursion P (xs ++ ys) → AllByRecursion P ys
all-back P [] ys all = all
all-back P (x ∷ xs) ys all = all-back P xs ys all.1

-- a job's `start on` hears of the event
start-heard : (config : Configuration) (e : ℕ) (done : List JobDef) (job : JobDef) (todo : List JobDef) (left : List Asked) (c : Chronicle) → AreDistinct config.jobs → config.jobs ≡ done ++ job ∷ todo
    → IsHandling config.jobs e (OfStart job ∷ left) c → IsApart (OfStart job) left → Heard config e job left c (hear_start config job e c)
start-heard config e done job todo left c distinct split h apart = by_case (started config job e c) refl (after-start config job left e c h apart)
  where
    d : Chronicle
    d = start_offer config job e c ++ c

    its : List Instance
    its = instances_of job.name d

    same : rested config d ≡ rested config c
    same = (due-offer config (OfStart job) left e c h).1

    others : KeepsOthers job c d
    others = start-others config job e c

    untrue : NoneHolds config c → NoneHolds config d
    untrue none = none-start config job (length done) e c distinct (sym (nth-get (length done) config.jobs) ∙ ap (nth (length done)) split ∙ nth-middle done job todo) none

    none : IsHandling config.jobs e left d → Heard config e job left c (settle_each its d)
    none handling =
        let still : settle_each its d ≡ d = each-still its d (handling-rest config e done job todo left d split handling) in
        subst (Heard config e job left c) (sym still) (record { handling = handling; others = others; same = same; untrue = untrue })

    one : (front back : List Instance) (x : Instance) → its ≡ front ++ x ∷ back → IsAt x.place config.jobs e left d → Heard config e job left c (settle_each its d)
    one front back x list at =
        let there : nth (length done) config.jobs ≡ Some job = ap (nth (length done)) split ∙ nth-middle done job todo in
        let here : nth (length front) its ≡ Some x = ap (nth (length front)) list ∙ nth-middle front x back in
        let f = settle_one 5 x.file x d in
        let moved = settled-one 5 config e left (length done) (length front) job x d at distinct there here (few-moves x.place d) in
        let stay : StayIn x.place its d = stay-middle x.place done job todo d (subst (λ js. Stay x.place js d) split at.stay) in
        let stay_front : StayIn x.place front d = all-front (λ y. (y.place == x.place) ≡ false → may_leave y.file y.place d ≡ false) front (x ∷ back) (subst (λ xs. StayIn x.place xs d) list stay) in
        let rest_front : Rest front d = stay-rest x.place front d stay_front (once job.name d front back x list).before in
        let rest : Rest (instances_of job.name f) f = handling-rest config e done job todo left f split moved.0 in
        let lists = settle-lists 5 x.file x d in
        let rest_back : Rest back f = back-rests lists.stays front back x list lists.lists rest in
        let whole : settle_each its d ≡ f =
        ap (λ xs. settle_each xs d) list ∙ each-append front (x ∷ back) d ∙ ap (λ g. settle_each back (settle_one 5 x.file x g)) (each-still front d rest_front) ∙ each-still back f rest_back in
        subst (Heard config e job left c) (sym whole)
        (record { handling = moved.0; others = others-then job c d f others (settle-others 5 x.file job x d (known-in job front back x d list)); same = moved.1 ∙ same; untrue = λ holds. none-one 5 config x.file x d (untrue holds) })
      where
        back-rests : (b : Bool) (front back : List Instance) (x : Instance) → its ≡ front ++ x ∷ back → ListsAfter b x d (settle_one 5 x.file x d)
            → Rest (instances_of job.name (settle_one 5 x.file x d)) (settle_one 5 x.file x d) → Rest back (settle_one 5 x.file x d)
        back-rests true front back x list lists rest =
            (all-back (λ y. may_leave y.file y.place (settle_one 5 x.file x d) ≡ false) front (x ∷ back) (subst (λ xs. Rest xs (settle_one 5 x.file x d)) (lists job.name ∙ list) rest)).1
        back-rests false front back x list lists rest =
            all-back (λ y. may_leave y.file y.place (settle_one 5 x.file x d) ≡ false) front back (subst (λ xs. Rest xs (settle_one 5 x.file x d)) (lists job.name ∙ without-one job.name d front back x list) rest)

    by_case : (o : Option ℕ) → started config job e c ≡ o → AfterStart o config.jobs e left d → Heard config e job left c (settle_each its d)
    by_case None is after = none after
    by_case (Some p) is after =
        let in_ = started-stands config job e c p is in
        one in_.front in_.back in_.here in_.list (subst (λ q. IsAt q config.jobs e left d) (sym in_.place) after)

-- each of those that are left is another than the rest
apart-back-part : (xs ys : List Asked) → AreApart (xs ++ ys) → AreApart ys
apart-back-part [] ys apart = apart
apart-back-part (x ∷ xs) ys apart = apart-back-part xs ys apart.1

-- a job hears of the event
pub job-heard : (config : Configuration) (e : ℕ) (done : List JobDef) (job : JobDef) (todo : List JobDef) (c : Chronicle) → AreDistinct config.jobs → config.jobs ≡ done ++ job ∷ todo
    → IsHandling config.jobs e (all_asked (job ∷ todo) c) c → AreApart (all_asked (job ∷ todo) c) → Heard config e job (all_asked todo c) c (hear config job e c)
job-heard config e done job todo c distinct split h apart =
    let its = instances_of job.name c in
    let left : List Asked = OfStart job ∷ all_asked todo c in
    let stops = stops-heard config e done job todo [] its left c distinct split h apart refl in
    let d = hear_stops config its e c in
    let start = start-heard config e done job todo (all_asked todo c) d distinct split stops.handling (apart-back-part (all_stops its) left apart).0 in
    record { handling = start.handling; others = others-then job c d (hear_start config job e d) stops.others start.others; same = start.same ∙ stops.same; untrue = λ none. start.untrue (stops.untrue none) }

pub distinct-after : (done jobs : List JobDef) → AreDistinct (done ++ jobs) → AreDistinct jobs
distinct-after [] jobs distinct = distinct
distinct-after (first ∷ done) jobs distinct = distinct-after done jobs distinct.1

jobs-heard : (config : Configuration) (e : ℕ) (done jobs : List JobDef) (c : Chronicle) → AreDistinct config.jobs → config.jobs ≡ done ++ jobs → IsHandling config.jobs e (all_asked jobs c) c
    → IsHandling config.jobs e [] (hear_all config jobs e c) × (rested config (hear_all config jobs e c) ≡ rested config c) × (NoneHolds config c → NoneHolds config (hear_all config jobs e c))
jobs-heard config e done [] c distinct split h = (h, refl, λ none. none)
jobs-heard config e done (job ∷ jobs) c distinct split h =
    let mine : AreDistinct (job ∷ jobs) = distinct-after done (job ∷ jobs) (subst AreDistinct split distinct) in
    let one = job-heard config e done job jobs c distinct split h (all-apart (job ∷ jobs) c mine) in
    let d = hear config job e c in
    let handling : IsHandling config.jobs e (all_asked jobs d) d = subst (λ left. IsHandling config.jobs e left d) (sym (asked-others job jobs c d mine.0 one.others)) one.handling in
    let rest = jobs-heard config e (done ++ job ∷ []) jobs d distinct (split ∙ sym (append_assoc done (job ∷ []) jobs)) handling in
    (rest.0, rest.1 ∙ one.same, λ none. rest.2 (one.untrue none))

-- no input is given meanwhile
abbrev pub GivesNone : Entry → Type 0
GivesNone (Given given) = ⊥
GivesNone entry = Unit {0}

gives-fires : Fires GivesNone
gives-fires = record { offered = λ x event. tt; acts = record { fired = λ x its. tt; aimed = λ i aim environment its. tt; released = λ i failed. tt; replied = λ request answer. tt } }

pub asked-same : (e : Entry) (c : Chronicle) → GivesNone e → asked (e ∷ c) ≡ asked c
asked-same (Given given) c is = absurd is
asked-same e c is = refl

asked-about : (i : ℕ) (e : Entry) (c : Chronicle) → About i e → asked (e ∷ c) ≡ asked c
asked-about i (Given given) c is = absurd is
asked-about i e c is = refl

asked-stops : (config : Configuration) (its : List Instance) (e : ℕ) (c : Chronicle) → asked (hear_stops config its e c) ≡ asked c
asked-stops config [] e c = refl
asked-stops config (x ∷ its) e c =
    let d = stop_offer config x.file x.place e c ++ c in
    asked-stops config its e (settle_one 5 x.file x d) ∙ one-same asked asked-about 5 x.file x d
    ∙ same-append asked GivesNone asked-same (stop_offer config x.file x.place e c) c (stop-of GivesNone gives-fires config x.file x.place e c)

asked-heard : (config : Configuration) (jobs : List JobDef) (e : ℕ) (c : Chronicle) → asked (hear_all config jobs e c) ≡ asked c
asked-heard config [] e c = refl
asked-heard config (job ∷ jobs) e c =
    let d = hear_stops config (instances_of job.name c) e c in
    let f = start_offer config job e d ++ d in
    asked-heard config jobs e (hear config job e c) ∙ each-same asked asked-about (instances_of job.name f) f
    ∙ same-append asked GivesNone asked-same (start_offer config job e d) d (start-all GivesNone gives-fires config job (λ name. tt) e d) ∙ asked-stops config (instances_of job.name c) e c

asked-taken : (jobs : List JobDef) (e : ℕ) (c : Chronicle) → all_asked jobs (Handled e ∷ Given Turn ∷ c) ≡ all_asked jobs c
asked-taken [] e c = refl
asked-taken (job ∷ jobs) e c = ap (λ rest. all_stops (instances_of job.name c) ++ (OfStart job ∷ rest)) (asked-taken jobs e c)

pub none-moves : (config : Configuration) (c : Chronicle) → due config c ≡ [] → move_first config.jobs c ≡ []
none-moves config c none = or-nil-first (move_first config.jobs c) (or_else (offer_next config (offering c) c) (answering_last c)) (sym (due-by config c) ∙ none)

-- what is left to hear of an event that was just taken up: all
pub all-left : (config : Configuration) (e : ℕ) (c : Chronicle) → due config c ≡ [] → IsHandling config.jobs e (all_asked config.jobs (Handled e ∷ Given Turn ∷ c)) (Handled e ∷ Given Turn ∷ c)
all-left config e c none =
    subst (λ left. IsHandling config.jobs e left (Handled e ∷ Given Turn ∷ c)) (sym (asked-taken config.jobs e c)) (taken-up config.jobs e c (none-moves config c none))

-- so the step is done when all have heard of it
pub heard-rested : (config : Configuration) (e : ℕ) (c : Chronicle) → AreDistinct config.jobs → due config c ≡ []
    → (hear_all config config.jobs e (Handled e ∷ Given Turn ∷ c) ≡ rested config (Handled e ∷ Given Turn ∷ c))
    × (NoneHolds config (Handled e ∷ Given Turn ∷ c) → NoneHolds config (hear_all config config.jobs e (Handled e ∷ Given Turn ∷ c)))
heard-rested config e c distinct none =
    let d : Chronicle = Handled e ∷ Given Turn ∷ c in
    let f = hear_all config config.jobs e d in
    let all = jobs-heard config e [] config.jobs d distinct refl (all-left config e c none) in
    let unasked : asked f ≡ None = asked-heard config config.jobs e d in
    let quiet : answering_last f ≡ [] = ap (λ o. answering_hurried (unless_answered o f) f) unasked in
    (sym (handled-all config e f all.0 quiet).1 ∙ all.1, all.2)

-- what is after an input that takes an event up, and after any other
pub after-taken : (config : Configuration) (given : Input) (c : Chronicle) (e : ℕ) → AreDistinct config.jobs → due config c ≡ [] → effect config given c ++ c ≡ Handled e ∷ Given Turn ∷ c
    → hear_all config config.jobs e (Handled e ∷ Given Turn ∷ c) ≡ after_in config c given
unfolding after_in
after-taken config given c e distinct none same = (heard-rested config e c distinct none).0 ∙ ap (rested config) (sym same)

pub after-other : (config : Configuration) (given : Input) (c : Chronicle) → AreDistinct config.jobs → offering (effect config given c ++ c) ≡ None
    → answering_last (settle_all config.jobs (effect config given c ++ c)) ++ settle_all config.jobs (effect config given c ++ c) ≡ after_in config c given
unfolding after_in
after-other config given c distinct none = settled-rested config (effect config given c ++ c) distinct none
