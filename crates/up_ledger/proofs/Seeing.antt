-- What is kept after an offer, and after an expression has fired.
use Rattle.up_ledger.proofs.Names.{◌≡◌, ℕ, ◌==◌, Bool, true, false, List, [], ◌∷◌, ◌++◌, length, map, Option, None}
use Rattle.up_ledger.proofs.Names.{Some, if◌then◌else◌, refl, sym, ◌∙◌, ap, subst, arith, zero, suc, ◌+◌, ◌≤◌}
use Rattle.up_ledger.proofs.Names.{replicate, is_some, eq-eqb, JobDef, Sight, LiveEvent, named, with_hold, EventId}
use Rattle.up_ledger.proofs.Names.{Chronicle, Entry, Expression, Offered, Fired, StartOn, StopOn, Configuration}
use Rattle.up_ledger.proofs.Names.{is_spoilt, Instance, instances_of, queue, file_of, event_at, Bytes, Bindings}
use Rattle.up_ledger.proofs.Names.{bytes_refl, queue_by_age, InstanceKey, JobInstances, changed_in, changed_at, list_of}
use Rattle.up_ledger.proofs.Names.{with_stop_on, nth, with_at, Mark, Offer, Firing, sight_of, naming_in, Remembers}
use Rattle.up_ledger.proofs.Names.{kept_by, uses_by, seen_own, Keeps, AreOlder, Places, view, job_view, cons_same}
use Rattle.up_ledger.proofs.Names.{There, there, its-file, IsKnown, known-all, nth-all, Past, one_if, holder_uses, uses}
use Rattle.up_ledger.proofs.Names.{start_uses, place_of, Standing, standing_of, holds_of, Hears, Fires, trigger_in}
use Rattle.up_ledger.proofs.Names.{trigger_at, trigger_of, freed, all_changed, as_holders, AllLive, MayFollow}
use Rattle.up_ledger.proofs.Names.{InstancesRemember, StopsRemember, StartsRemember, Remembered, Forgets, event_place}
use Rattle.up_job.specs.declared.instance.Instance.{Instance as Kept}
use Rattle.up_model.specs.Clock as clock
use Rattle.up_model.specs.Readings.{env}
use Rattle.up_model.specs.Seen as seen
use Rattle.up_model.specs.Environments.{env_of_job}
use Rattle.up_ledger.specs.Standing.{instance_place}
use Rattle.up_ledger.proofs.Entering.{brought}
use Rattle.up_ledger.proofs.Holds.{holds-all, frees-all, all-standings, all-places, mild-hold, mild-free}
use Rattle.up_ledger.proofs.Leaving.{trigger-listed}
use Rattle.up_ledger.proofs.Regulars.{regular-next}
use Rattle.up_ledger.proofs.Sights.{SeenBy, remembered-stop, remembered-start}
use Rattle.up_ledger.proofs.Standing.{age-all, standings-later}
use Rattle.up_ledger.proofs.Starting.{uses-at}
use Rattle.up_ledger.proofs.Triggers.{remembered-agrees}
use Rattle.up_ledger.proofs.Whole.{Spares, keeps-spared, keeps-agree}
use Rattle.up_ledger.proofs.Frames.{spared}
use Rattle.up_ledger.proofs.Beginning.{blank-unused}
use Rattle.up_ledger.proofs.Closing.{named-there}
use Rattle.up_ledger.proofs.Finding.{standing-known}

-- what a trigger is isn't known of an instance
unseen-view : (places : Places) (trigger : Option (List Mark)) (at : ℕ) (its : List Kept) → map (view places) (with_at at (with_stop_on trigger) its) ≡ map (view places) its
unseen-view places trigger at [] = refl
unseen-view places trigger zero (k ∷ its) = refl
unseen-view places trigger (suc at) (k ∷ its) = cons_same refl (unseen-view places trigger at its)

unseen-jobs : (places : Places) (trigger : Option (List Mark)) (place at : ℕ) (jobs : List JobInstances) → map (job_view places) (with_at place (changed_in at (with_stop_on trigger)) jobs) ≡ map (job_view places) jobs
unseen-jobs places trigger place at [] = refl
unseen-jobs places trigger zero at (j ∷ jobs) = cons_same (ap (λ its. record { name = j.name; instances = its }) (unseen-view places trigger at j.instances)) refl
unseen-jobs places trigger (suc place) at (j ∷ jobs) = cons_same refl (unseen-jobs places trigger place at jobs)

keeps-trigger : (places : Places) (trigger : Option (List Mark)) (key : InstanceKey) (jobs : List JobInstances) (config : Configuration) (c : Chronicle) → Keeps places jobs config c → Keeps places (changed_at key (with_stop_on trigger) jobs) config c
keeps-trigger places trigger key jobs config c keeps = record {
  jobs = unseen-jobs places trigger key.job key.at jobs ∙ keeps.jobs;
  older = keeps.older;
  later = keeps.later;
  distinct = keeps.distinct;
}

-- the holds of one event
repeated : (id other : EventId) (n : ℕ) → holder_uses other (as_holders (replicate n id)) ≡ (if id.key == other.key then n else 0)
repeated id other zero = by_case (id.key == other.key)
  where
    by_case : (b : Bool) → zero ≡ (if b then zero else zero)
    by_case true = refl
    by_case false = refl
repeated id other (suc n) = by_case (id.key == other.key) (repeated id other n)
  where
    by_case : (b : Bool) → holder_uses other (as_holders (replicate n id)) ≡ (if b then n else 0) → one_if b + holder_uses other (as_holders (replicate n id)) ≡ (if b then suc n else 0)
    by_case true ih = omega (arith, ih)
    by_case false ih = omega (arith, ih)

pub all-live : (events : List LiveEvent) (id : EventId) (n : ℕ) → is_some (named id events) ≡ true → AllLive events (as_holders (replicate n id))
all-live events id zero some = tt
all-live events id (suc n) some = (each, all-live events id n some)
  where
    each : (other : EventId) → Some id ≡ Some other → is_some (named other events) ≡ true
    each other same = (let its : id ≡ other = cc in ap (λ i. is_some (named i events)) (sym its) ∙ some)

-- the holds of an event after as many more
pub hold-times : (events : List LiveEvent) (id other : EventId) (n : ℕ) → is_some (named id events) ≡ true → holds_of other (all_changed with_hold (as_holders (replicate n id)) events) ≡ holds_of other events + (if id.key == other.key then n else 0)
hold-times events id other n some = holds-all (as_holders (replicate n id)) events other (all-live events id n some) ∙ ap (λ m. holds_of other events + m) (repeated id other n)

-- an entry by which nothing but triggers and holds changes
pub forgets-seen : (book after : Past) (config : Configuration) (c : Chronicle) (e : Entry) → Forgets book config c → Spares config c e → AreOlder (length c) (brought e) → queue (e ∷ c) ≡ queue c → MayFollow config c e
    → ((p : ℕ) → is_spoilt p (e ∷ c) ≡ is_spoilt p c) → clock.now (e ∷ c) ≡ clock.now c → Remembered (place_of book.events (queue c)) after.instances after.starts.items config (e ∷ c)
    → Keeps (place_of book.events (queue c)) after.instances config (e ∷ c) → map standing_of after.events ≡ map standing_of book.events → ((id : EventId) → place_of after.events (queue c) id ≡ place_of book.events (queue c) id)
    → ((id : EventId) → holds_of id after.events ≡ uses id after.instances + start_uses id after.starts.items) → after.reading ≡ book.reading → Forgets after config (e ∷ c)
forgets-seen book after config c e f spares new same follow spoilt clock_same remembered keeps standings agree counted reading =
    let older = age-all (queue c) (length c) (queue_by_age c) in
    let old = place_of book.events (queue c) in
    let moved = place_of after.events (queue c) in
    record {
      lives = rw same (keeps-agree old moved after.instances config (e ∷ c) keeps agree);
      remembered = rw same (remembered-agrees old moved after.instances after.starts.items config (e ∷ c) (λ id used. agree id) remembered);
      standings = rw same (standings ∙ f.standings ∙ sym (standings-later e c (queue c) f.regular.origins older spoilt));
      counted = counted;
      regular = regular-next config c e f.regular follow;
      reading = reading ∙ f.reading ∙ sym clock_same;
    }

pub offered-spares : (config : Configuration) (c : Chronicle) (x : Expression) (e : ℕ) → Spares config c (Offered x e)
offered-spares config c x e = record { spares = λ y older. spared (Offered x e) c y refl older; instances = λ job. refl }

fired-spares : (config : Configuration) (c : Chronicle) (x : Expression) (ts : List ℕ) → Spares config c (Fired x ts)
fired-spares config c x ts = record { spares = λ y older. spared (Fired x ts) c y refl older; instances = λ job. refl }

if-apart : {X : Type 0} (b : Bool) (x y : X) → b ≡ false → (if b then x else y) ≡ y
if-apart true x y h = absurd cc
if-apart false x y h = refl

pub offered-seen : (config : Configuration) (c : Chronicle) (own : Expression) (e : ℕ) → SeenBy config c (Offered own e) own
offered-seen config c own e = record { instances = λ job. refl; others = λ x apart. if-apart (seen.same_expression own x) _ _ apart }

fired-seen : (config : Configuration) (c : Chronicle) (own : Expression) (ts : List ℕ) → SeenBy config c (Fired own ts) own
fired-seen config c own ts = record { instances = λ job. refl; others = λ x apart. if-apart (seen.same_expression own x) _ _ apart }

-- what the `stop on` of an instance remembers before
stop-in : (places : Places) (config : Configuration) (c : Chronicle) (at : ℕ) (its : List Kept) (xs : List Instance) (k : Kept) (x : Instance) → nth at its ≡ Some k → nth at xs ≡ Some x → InstancesRemember places config c its xs
    → Remembers places k.stop_on x.file.stop_on (seen.seen config (StopOn x.place) c)
stop-in places config c at [] xs k x there here r = absurd cc
stop-in places config c at (j ∷ its) [] k x there here r = absurd r
stop-in places config c zero (j ∷ its) (y ∷ xs) k x there here r =
    let mine : j ≡ k = cc in
    let its_own : y ≡ x = cc in
    subst (λ (z : Instance). Remembers places k.stop_on z.file.stop_on (seen.seen config (StopOn z.place) c)) its_own (subst (λ (z : Kept). Remembers places z.stop_on y.file.stop_on (seen.seen config (StopOn y.place) c)) mine r.0)
stop-in places config c (suc at) (j ∷ its) (y ∷ xs) k x there here r = stop-in places config c at its xs k x there here r.1

stop-of : (places : Places) (config : Configuration) (c : Chronicle) (place at : ℕ) (its : List JobInstances) (jobs : List JobDef) (j : JobInstances) (job : JobDef) (k : Kept) (x : Instance) → nth place its ≡ Some j → nth at j.instances ≡ Some k
    → nth place jobs ≡ Some job → nth at (instances_of job.name c) ≡ Some x → StopsRemember places config c its jobs → Remembers places k.stop_on x.file.stop_on (seen.seen config (StopOn x.place) c)
stop-of places config c place at [] jobs j job k x there found in_jobs here r = absurd cc
stop-of places config c place at (i ∷ its) [] j job k x there found in_jobs here r = absurd r
stop-of places config c zero at (i ∷ its) (d ∷ jobs) j job k x there found in_jobs here r =
    let mine : i ≡ j = cc in
    let own : d ≡ job = cc in
    stop-in places config c at j.instances (instances_of job.name c) k x found here
    (subst (λ (z : JobDef). InstancesRemember places config c j.instances (instances_of z.name c)) own (subst (λ (z : JobInstances). InstancesRemember places config c z.instances (instances_of d.name c)) mine r.0))
stop-of places config c (suc place) at (i ∷ its) (d ∷ jobs) j job k x there found in_jobs here r = stop-of places config c place at its jobs j job k x there found in_jobs here r.1

pub stop-known : (book : Past) (config : Configuration) (c : Chronicle) (key : InstanceKey) (i : ℕ) (t : There (place_of book.events (queue c)) book.instances config c key i) → Forgets book config c
    → Remembers (place_of book.events (queue c)) t.kept.stop_on t.its.file.stop_on (seen.seen config (StopOn t.its.place) c)
stop-known book config c key i t f = by_job (nth key.job book.instances) refl t.found
  where
    by_job : (o : Option JobInstances) → nth key.job book.instances ≡ o → nth key.at (list_of o) ≡ Some t.kept → Remembers (place_of book.events (queue c)) t.kept.stop_on t.its.file.stop_on (seen.seen config (StopOn t.its.place) c)
    by_job None is found = absurd cc
    by_job (Some j) is found = stop-of (place_of book.events (queue c)) config c key.job key.at book.instances config.jobs j t.job t.kept t.its is found t.in_jobs t.in_instances f.remembered.stops

-- the `stop on` of an instance was offered an event
pub forgets-offered-stop : (book after : Past) (config : Configuration) (c : Chronicle) (key : InstanceKey) (i e : ℕ) (id : EventId) (live : LiveEvent) (t : There (place_of book.events (queue c)) book.instances config c key i) (trigger : Option (List Mark)) (nodes : List ℕ)
    (environment : Bindings) (offer : Offer) → Forgets book config c → event_place book c id ≡ Some e → named id book.events ≡ Some live → Hears t.kept.stop_on trigger t.its.file.stop_on nodes id live.event environment offer
    → environment ≡ env i c → nodes ≡ naming_in t.its.file.stop_on live.event.name → after.instances ≡ changed_at key (with_stop_on trigger) book.instances → after.starts ≡ book.starts
    → after.events ≡ all_changed with_hold (as_holders (replicate offer.kept id)) book.events → after.reading ≡ book.reading → Forgets after config (Offered (StopOn i) e ∷ c)
forgets-offered-stop book after config c key i e id live t trigger nodes environment offer f placed there hears in_force leaves does starts events reading =
    subst (λ p. Forgets after config (Offered (StopOn p) e ∷ c)) t.place whole
  where
    places : Places
    places = place_of book.events (queue c)

    own : Expression
    own = StopOn t.its.place

    sights : List Sight
    sights = seen.seen config (StopOn t.its.place) c

    before : Remembers places t.kept.stop_on t.its.file.stop_on (seen.seen config (StopOn t.its.place) c)
    before = stop-known book config c key i t f

    counted : (other : EventId) → holds_of other (all_changed with_hold (as_holders (replicate offer.kept id)) book.events) ≡ uses other (changed_at key (with_stop_on trigger) book.instances) + start_uses other book.starts.items
    counted other =
        let some : is_some (named id book.events) ≡ true = ap (λ (o : Option LiveEvent). is_some o) there in
        omega (arith, hold-times book.events id other offer.kept some, f.counted other, uses-at other (with_stop_on trigger) key book.instances t.kept t.found, hears.uses places (seen.seen config (StopOn t.its.place) c) other before leaves)

    whole : Forgets after config (Offered (StopOn t.its.place) e ∷ c)
    whole =
        let known = standing-known book config c id e live f placed there in
        let queued : event_at e c ≡ Some live.event = ap (λ p. event_at p c) (sym known.1) ∙ sym (ap (λ (s : Standing). s.event) known.2) in
        let mine : seen.same_expression (StopOn t.its.place) (StopOn t.its.place) ≡ true = eq-eqb t.its.place t.its.place refl in
        let in_env : environment ≡ env t.its.place c = in_force ∙ ap (λ p. env p c) (sym t.place) in
        let saw : seen.seen config (StopOn t.its.place) (Offered (StopOn t.its.place) e ∷ c) ≡ seen.seen config (StopOn t.its.place) c ++ sight_of e live.event.name live.event.vars environment ∷ [] =
        seen_own config (StopOn t.its.place) (StopOn t.its.place) e c mine ∙ ap (λ o. seen.seen config (StopOn t.its.place) c ++ seen.sight_of e o (env t.its.place c)) queued
        ∙ ap (λ en. seen.seen config (StopOn t.its.place) c ++ sight_of e live.event.name live.event.vars en ∷ []) (sym in_env) in
        let new : Remembers places trigger t.its.file.stop_on (seen.seen config (StopOn t.its.place) (Offered (StopOn t.its.place) e ∷ c)) =
        subst (Remembers places trigger t.its.file.stop_on) (sym saw) (hears.remembers places (seen.seen config (StopOn t.its.place) c) e before placed leaves) in
        let within = (nth-all (IsKnown t.job.name c) key.at (instances_of t.job.name c) t.its t.in_instances (known-all t.job.name c)).0 in
        let remembered : Remembered places after.instances after.starts.items config (Offered (StopOn t.its.place) e ∷ c) = rw (does, starts)
        (remembered-stop places book.instances book.starts.items config c (Offered (StopOn t.its.place) e) trigger key t.job t.its (offered-seen config c (StopOn t.its.place) e) f.lives.distinct t.in_jobs t.in_instances within new f.remembered) in
        let keeps : Keeps places after.instances config (Offered (StopOn t.its.place) e ∷ c) = rw does
        (keeps-trigger places trigger key book.instances config (Offered (StopOn t.its.place) e ∷ c) (keeps-spared places book.instances config c (Offered (StopOn t.its.place) e) f.lives (offered-spares config c (StopOn t.its.place) e) tt)) in
        forgets-seen book after config c (Offered (StopOn t.its.place) e) f (offered-spares config c (StopOn t.its.place) e) tt refl tt (λ p. refl) refl remembered keeps
        (ap (map standing_of) events ∙ all-standings with_hold (as_holders (replicate offer.kept id)) book.events mild-hold)
        (λ one. ap (λ es. place_of es (queue c) one) events ∙ all-places with_hold (as_holders (replicate offer.kept id)) book.events (queue c) one mild-hold)
        (λ other. rw (events, does, starts) (counted other)) reading

-- it fired
pub forgets-fired-stop : (book after : Past) (config : Configuration) (c : Chronicle) (key : InstanceKey) (i : ℕ) (t : There (place_of book.events (queue c)) book.instances config c key i) (trigger : Option (List Mark)) (firing : Firing) (ts : List ℕ)
    → Forgets book config c → Fires t.kept.stop_on trigger t.its.file.stop_on firing → after.instances ≡ changed_at key (with_stop_on trigger) book.instances → after.starts ≡ book.starts
    → after.events ≡ all_changed (freed false) (as_holders firing.kept) book.events → after.reading ≡ book.reading → Forgets after config (Fired (StopOn i) ts ∷ c)
forgets-fired-stop book after config c key i t trigger firing ts f fires does starts events reading =
    subst (λ p. Forgets after config (Fired (StopOn p) ts ∷ c)) t.place whole
  where
    places : Places
    places = place_of book.events (queue c)

    before : Remembers places t.kept.stop_on t.its.file.stop_on (seen.seen config (StopOn t.its.place) c)
    before = stop-known book config c key i t f

    kept : firing.kept ≡ kept_by t.kept.stop_on
    kept = fires.kept places (seen.seen config (StopOn t.its.place) c) before

    listed : (other : EventId) → holder_uses other (as_holders firing.kept) ≡ uses_by other t.kept.stop_on
    listed other = ap (λ ids. holder_uses other (as_holders ids)) kept ∙ trigger-listed other t.kept.stop_on

    unused : (other : EventId) → uses_by other trigger ≡ 0
    unused other = blank-unused trigger t.its.file.stop_on (λ others. fires.remembers places others (seen.seen config (StopOn t.its.place) c) before) other

    counted : (other : EventId) → holds_of other (all_changed (freed false) (as_holders firing.kept) book.events) ≡ uses other (changed_at key (with_stop_on trigger) book.instances) + start_uses other book.starts.items
    counted other =
        let enough : (one : EventId) → holder_uses one (as_holders firing.kept) ≤ holds_of one book.events = λ one. omega (arith, listed one, f.counted one, uses-at one (with_stop_on None) key book.instances t.kept t.found) in
        omega (arith, frees-all false (as_holders firing.kept) book.events other enough, listed other, f.counted other, uses-at other (with_stop_on trigger) key book.instances t.kept t.found, unused other)

    whole : Forgets after config (Fired (StopOn t.its.place) ts ∷ c)
    whole =
        let mine : seen.same_expression (StopOn t.its.place) (StopOn t.its.place) ≡ true = eq-eqb t.its.place t.its.place refl in
        let none : seen.seen config (StopOn t.its.place) (Fired (StopOn t.its.place) ts ∷ c) ≡ [] = rw mine refl in
        let new : Remembers places trigger t.its.file.stop_on (seen.seen config (StopOn t.its.place) (Fired (StopOn t.its.place) ts ∷ c)) =
        subst (Remembers places trigger t.its.file.stop_on) (sym none) (fires.remembers places places (seen.seen config (StopOn t.its.place) c) before) in
        let within = (nth-all (IsKnown t.job.name c) key.at (instances_of t.job.name c) t.its t.in_instances (known-all t.job.name c)).0 in
        let remembered : Remembered places after.instances after.starts.items config (Fired (StopOn t.its.place) ts ∷ c) = rw (does, starts)
        (remembered-stop places book.instances book.starts.items config c (Fired (StopOn t.its.place) ts) trigger key t.job t.its (fired-seen config c (StopOn t.its.place) ts) f.lives.distinct t.in_jobs t.in_instances within new f.remembered) in
        let keeps : Keeps places after.instances config (Fired (StopOn t.its.place) ts ∷ c) = rw does
        (keeps-trigger places trigger key book.instances config (Fired (StopOn t.its.place) ts ∷ c) (keeps-spared places book.instances config c (Fired (StopOn t.its.place) ts) f.lives (fired-spares config c (StopOn t.its.place) ts) tt)) in
        forgets-seen book after config c (Fired (StopOn t.its.place) ts) f (fired-spares config c (StopOn t.its.place) ts) tt refl tt (λ p. refl) refl remembered keeps
        (ap (map standing_of) events ∙ all-standings (freed false) (as_holders firing.kept) book.events mild-free)
        (λ one. ap (λ es. place_of es (queue c) one) events ∙ all-places (freed false) (as_holders firing.kept) book.events (queue c) one mild-free)
        (λ other. rw (events, does, starts) (counted other)) reading

-- what the `start on` of a job remembers before
pub start-of : (places : Places) (config : Configuration) (c : Chronicle) (place : ℕ) (ts : List (Option (List Mark))) (jobs : List JobDef) (job : JobDef) → nth place jobs ≡ Some job → StartsRemember places config c ts jobs
    → (Remembers places (trigger_in place ts) job.start_on (seen.seen config (StartOn job.name) c)) × (nth place ts ≡ Some (trigger_in place ts))
start-of places config c place [] [] job there r = absurd cc
start-of places config c place [] (d ∷ jobs) job there r = absurd r
start-of places config c place (t ∷ ts) [] job there r = absurd r
start-of places config c zero (t ∷ ts) (d ∷ jobs) job there r =
    let own : d ≡ job = cc in
    (subst (λ (z : JobDef). Remembers places t z.start_on (seen.seen config (StartOn z.name) c)) own r.0, refl)
start-of places config c (suc place) (t ∷ ts) (d ∷ jobs) job there r = start-of places config c place ts jobs job there r.1

-- what triggers use after one of them changed
start-uses : (id : EventId) (new : Option (List Mark)) (place : ℕ) (ts : List (Option (List Mark))) (old : Option (List Mark)) → nth place ts ≡ Some old → start_uses id (with_at place (λ t. new) ts) + uses_by id old ≡ start_uses id ts + uses_by id new
start-uses id new place [] old there = absurd cc
start-uses id new zero (t ∷ ts) old there =
    let same : t ≡ old = cc in
    omega (arith, ap (uses_by id) same)
start-uses id new (suc place) (t ∷ ts) old there = omega (arith, start-uses id new place ts old there)

-- the `start on` of a job was offered an event
pub forgets-offered-start : (book after : Past) (config : Configuration) (c : Chronicle) (place e : ℕ) (job : JobDef) (id : EventId) (live : LiveEvent) (trigger : Option (List Mark)) (nodes : List ℕ) (environment : Bindings) (offer : Offer)
    → Forgets book config c → nth place config.jobs ≡ Some job → event_place book c id ≡ Some e → named id book.events ≡ Some live → Hears (trigger_in place book.starts.items) trigger job.start_on nodes id live.event environment offer
    → environment ≡ env_of_job config job.name → nodes ≡ naming_in job.start_on live.event.name → after.instances ≡ book.instances → after.starts.items ≡ with_at place (λ t. trigger) book.starts.items
    → after.events ≡ all_changed with_hold (as_holders (replicate offer.kept id)) book.events → after.reading ≡ book.reading → Forgets after config (Offered (StartOn job.name) e ∷ c)
forgets-offered-start book after config c place e job id live trigger nodes environment offer f in_jobs placed there hears in_force leaves does starts events reading = whole
  where
    places : Places
    places = place_of book.events (queue c)

    before : (Remembers places (trigger_in place book.starts.items) job.start_on (seen.seen config (StartOn job.name) c)) × (nth place book.starts.items ≡ Some (trigger_in place book.starts.items))
    before = start-of places config c place book.starts.items config.jobs job in_jobs f.remembered.starts

    counted : (other : EventId) → holds_of other (all_changed with_hold (as_holders (replicate offer.kept id)) book.events) ≡ uses other book.instances + start_uses other (with_at place (λ t. trigger) book.starts.items)
    counted other =
        let some : is_some (named id book.events) ≡ true = ap (λ (o : Option LiveEvent). is_some o) there in
        omega (arith, hold-times book.events id other offer.kept some, f.counted other, start-uses other trigger place book.starts.items (trigger_in place book.starts.items) before.1, hears.uses places (seen.seen config (StartOn job.name) c) other before.0 leaves)

    whole : Forgets after config (Offered (StartOn job.name) e ∷ c)
    whole =
        let known = standing-known book config c id e live f placed there in
        let queued : event_at e c ≡ Some live.event = ap (λ p. event_at p c) (sym known.1) ∙ sym (ap (λ (s : Standing). s.event) known.2) in
        let mine : seen.same_expression (StartOn job.name) (StartOn job.name) ≡ true = bytes_refl job.name in
        let saw : seen.seen config (StartOn job.name) (Offered (StartOn job.name) e ∷ c) ≡ seen.seen config (StartOn job.name) c ++ sight_of e live.event.name live.event.vars environment ∷ [] =
        seen_own config (StartOn job.name) (StartOn job.name) e c mine ∙ ap (λ o. seen.seen config (StartOn job.name) c ++ seen.sight_of e o (env_of_job config job.name)) queued
        ∙ ap (λ en. seen.seen config (StartOn job.name) c ++ sight_of e live.event.name live.event.vars en ∷ []) (sym in_force) in
        let new : Remembers places trigger job.start_on (seen.seen config (StartOn job.name) (Offered (StartOn job.name) e ∷ c)) =
        subst (Remembers places trigger job.start_on) (sym saw) (hears.remembers places (seen.seen config (StartOn job.name) c) e before.0 placed leaves) in
        let remembered : Remembered places after.instances after.starts.items config (Offered (StartOn job.name) e ∷ c) = rw (does, starts)
        (remembered-start places book.instances book.starts.items config c (Offered (StartOn job.name) e) trigger place job (offered-seen config c (StartOn job.name) e) f.lives.distinct in_jobs new f.remembered) in
        let keeps : Keeps places after.instances config (Offered (StartOn job.name) e ∷ c) = rw does
        (keeps-spared places book.instances config c (Offered (StartOn job.name) e) f.lives (offered-spares config c (StartOn job.name) e) tt) in
        forgets-seen book after config c (Offered (StartOn job.name) e) f (offered-spares config c (StartOn job.name) e) tt refl tt (λ p. refl) refl remembered keeps
        (ap (map standing_of) events ∙ all-standings with_hold (as_holders (replicate offer.kept id)) book.events mild-hold)
        (λ one. ap (λ es. place_of es (queue c) one) events ∙ all-places with_hold (as_holders (replicate offer.kept id)) book.events (queue c) one mild-hold)
        (λ other. rw (events, does, starts) (counted other)) reading

-- it fired
pub forgets-fired-start : (book after : Past) (config : Configuration) (c : Chronicle) (place : ℕ) (job : JobDef) (trigger : Option (List Mark)) (firing : Firing) (ts : List ℕ) → Forgets book config c → nth place config.jobs ≡ Some job
    → Fires (trigger_in place book.starts.items) trigger job.start_on firing → after.instances ≡ book.instances → after.starts.items ≡ with_at place (λ t. trigger) book.starts.items
    → after.events ≡ all_changed (freed false) (as_holders firing.kept) book.events → after.reading ≡ book.reading → Forgets after config (Fired (StartOn job.name) ts ∷ c)
forgets-fired-start book after config c place job trigger firing ts f in_jobs fires does starts events reading = whole
  where
    places : Places
    places = place_of book.events (queue c)

    before : (Remembers places (trigger_in place book.starts.items) job.start_on (seen.seen config (StartOn job.name) c)) × (nth place book.starts.items ≡ Some (trigger_in place book.starts.items))
    before = start-of places config c place book.starts.items config.jobs job in_jobs f.remembered.starts

    listed : (other : EventId) → holder_uses other (as_holders firing.kept) ≡ uses_by other (trigger_in place book.starts.items)
    listed other = ap (λ ids. holder_uses other (as_holders ids)) (fires.kept places (seen.seen config (StartOn job.name) c) before.0) ∙ trigger-listed other (trigger_in place book.starts.items)

    unused : (other : EventId) → uses_by other trigger ≡ 0
    unused other = blank-unused trigger job.start_on (λ others. fires.remembers places others (seen.seen config (StartOn job.name) c) before.0) other

    counted : (other : EventId) → holds_of other (all_changed (freed false) (as_holders firing.kept) book.events) ≡ uses other book.instances + start_uses other (with_at place (λ t. trigger) book.starts.items)
    counted other =
        let enough : (one : EventId) → holder_uses one (as_holders firing.kept) ≤ holds_of one book.events = λ one. omega (arith, listed one, f.counted one, start-uses one None place book.starts.items (trigger_in place book.starts.items) before.1) in
        omega (arith, frees-all false (as_holders firing.kept) book.events other enough, listed other, f.counted other, start-uses other trigger place book.starts.items (trigger_in place book.starts.items) before.1, unused other)

    whole : Forgets after config (Fired (StartOn job.name) ts ∷ c)
    whole =
        let mine : seen.same_expression (StartOn job.name) (StartOn job.name) ≡ true = bytes_refl job.name in
        let none : seen.seen config (StartOn job.name) (Fired (StartOn job.name) ts ∷ c) ≡ [] = rw mine refl in
        let new : Remembers places trigger job.start_on (seen.seen config (StartOn job.name) (Fired (StartOn job.name) ts ∷ c)) =
        subst (Remembers places trigger job.start_on) (sym none) (fires.remembers places places (seen.seen config (StartOn job.name) c) before.0) in
        let remembered : Remembered places after.instances after.starts.items config (Fired (StartOn job.name) ts ∷ c) = rw (does, starts)
        (remembered-start places book.instances book.starts.items config c (Fired (StartOn job.name) ts) trigger place job (fired-seen config c (StartOn job.name) ts) f.lives.distinct in_jobs new f.remembered) in
        let keeps : Keeps places after.instances config (Fired (StartOn job.name) ts ∷ c) = rw does
        (keeps-spared places book.instances config c (Fired (StartOn job.name) ts) f.lives (fired-spares config c (StartOn job.name) ts) tt) in
        forgets-seen book after config c (Fired (StartOn job.name) ts) f (fired-spares config c (StartOn job.name) ts) tt refl tt (λ p. refl) refl remembered keeps
        (ap (map standing_of) events ∙ all-standings (freed false) (as_holders firing.kept) book.events mild-free)
        (λ one. ap (λ es. place_of es (queue c) one) events ∙ all-places (freed false) (as_holders firing.kept) book.events (queue c) one mild-free)
        (λ other. rw (events, does, starts) (counted other)) reading

-- the same by keys
some_same : {X : Type 0} {a b : X} → Some a ≡ Some b → a ≡ b
some_same same = cc

-- what an offer to the `stop on` of the instance of a key says
pub record StopOffer (book : Past) (key : InstanceKey) (job : JobDef) (id : EventId) (environment : Bindings) (trigger : Option (List Mark)) (nodes : Bytes → List ℕ) (offer : Offer) : Type 0 where
  pub hears : (live : LiveEvent) → named id book.events ≡ Some live → Hears (trigger_at key book.instances) trigger job.stop_on (nodes live.event.name) id live.event environment offer
  pub leaves : (name : Bytes) → nodes name ≡ naming_in job.stop_on name

pub stop-offered : (book after : Past) (config : Configuration) (c : Chronicle) (key : InstanceKey) (i e : ℕ) (job : JobDef) (id : EventId) (environment : Bindings) (trigger : Option (List Mark)) (nodes : Bytes → List ℕ) (offer : Offer)
    → Forgets book config c → instance_place book c key ≡ Some i → file_of i c ≡ Some job → event_place book c id ≡ Some e → environment ≡ env i c → StopOffer book key job id environment trigger nodes offer
    → after.instances ≡ changed_at key (with_stop_on trigger) book.instances → after.starts ≡ book.starts → after.events ≡ all_changed with_hold (as_holders (replicate offer.kept id)) book.events → after.reading ≡ book.reading
    → Forgets after config (Offered (StopOn i) e ∷ c)
stop-offered book after config c key i e job id environment trigger nodes offer f found in_jobs placed in_force o does starts events reading =
    let t = there (place_of book.events (queue c)) book.instances config c key i f.lives.jobs found in
    let live = named-there book.events (queue c) id e placed in
    let own : t.its.file ≡ job = its-file (place_of book.events (queue c)) book.instances config c key i job t in_jobs in
    let old : trigger_at key book.instances ≡ t.kept.stop_on = ap trigger_of t.found in
    let hears : Hears t.kept.stop_on trigger t.its.file.stop_on (nodes live.0.event.name) id live.0.event environment offer =
    subst (λ (j : JobDef). Hears t.kept.stop_on trigger j.stop_on (nodes live.0.event.name) id live.0.event environment offer) (sym own)
    (subst (λ x. Hears x trigger job.stop_on (nodes live.0.event.name) id live.0.event environment offer) old (o.hears live.0 live.1)) in
    forgets-offered-stop book after config c key i e id live.0 t trigger (nodes live.0.event.name) environment offer f placed live.1 hears in_force (o.leaves live.0.event.name ∙ ap (λ (j : JobDef). naming_in j.stop_on live.0.event.name) (sym own)) does starts events reading

-- whether it is true then
pub stop-true : (book : Past) (config : Configuration) (c : Chronicle) (key : InstanceKey) (i e : ℕ) (job : JobDef) (id : EventId) (environment : Bindings) (trigger : Option (List Mark)) (nodes : Bytes → List ℕ) (offer : Offer)
    → Forgets book config c → instance_place book c key ≡ Some i → file_of i c ≡ Some job → event_place book c id ≡ Some e → environment ≡ env i c → StopOffer book key job id environment trigger nodes offer
    → offer.holds ≡ seen.holds job.stop_on (seen.seen config (StopOn i) (Offered (StopOn i) e ∷ c))
stop-true book config c key i e job id environment trigger nodes offer f found in_jobs placed in_force o =
    let t = there (place_of book.events (queue c)) book.instances config c key i f.lives.jobs found in
    let live = named-there book.events (queue c) id e placed in
    let own : t.its.file ≡ job = its-file (place_of book.events (queue c)) book.instances config c key i job t in_jobs in
    let old : trigger_at key book.instances ≡ t.kept.stop_on = ap trigger_of t.found in
    let known = standing-known book config c id e live.0 f placed live.1 in
    let queued : event_at e c ≡ Some live.0.event = ap (λ p. event_at p c) (sym known.1) ∙ sym (ap (λ (s : Standing). s.event) known.2) in
    let before : Remembers (place_of book.events (queue c)) (trigger_at key book.instances) job.stop_on (seen.seen config (StopOn i) c) =
    subst (λ x. Remembers (place_of book.events (queue c)) x job.stop_on (seen.seen config (StopOn i) c)) (sym old)
    (subst (λ (j : JobDef). Remembers (place_of book.events (queue c)) t.kept.stop_on j.stop_on (seen.seen config (StopOn i) c)) own
    (subst (λ p. Remembers (place_of book.events (queue c)) t.kept.stop_on t.its.file.stop_on (seen.seen config (StopOn p) c)) t.place (stop-known book config c key i t f))) in
    let saw : seen.seen config (StopOn i) (Offered (StopOn i) e ∷ c) ≡ seen.seen config (StopOn i) c ++ sight_of e live.0.event.name live.0.event.vars environment ∷ [] =
    seen_own config (StopOn i) (StopOn i) e c (eq-eqb i i refl) ∙ ap (λ x. seen.seen config (StopOn i) c ++ seen.sight_of e x (env i c)) queued
    ∙ ap (λ en. seen.seen config (StopOn i) c ++ sight_of e live.0.event.name live.0.event.vars en ∷ []) (sym in_force) in
    (o.hears live.0 live.1).holds (place_of book.events (queue c)) (seen.seen config (StopOn i) c) e before placed (o.leaves live.0.event.name) ∙ ap (seen.holds job.stop_on) (sym saw)

-- what an offer to the `start on` of a job says
pub record StartOffer (book : Past) (place : ℕ) (job : JobDef) (id : EventId) (environment : Bindings) (trigger : Option (List Mark)) (nodes : Bytes → List ℕ) (offer : Offer) : Type 0 where
  pub hears : (live : LiveEvent) → named id book.events ≡ Some live → Hears (trigger_in place book.starts.items) trigger job.start_on (nodes live.event.name) id live.event environment offer
  pub leaves : (name : Bytes) → nodes name ≡ naming_in job.start_on name

pub start-offered : (book after : Past) (config : Configuration) (c : Chronicle) (place e : ℕ) (job : JobDef) (id : EventId) (environment : Bindings) (trigger : Option (List Mark)) (nodes : Bytes → List ℕ) (offer : Offer)
    → Forgets book config c → nth place config.jobs ≡ Some job → event_place book c id ≡ Some e → environment ≡ env_of_job config job.name → StartOffer book place job id environment trigger nodes offer
    → after.instances ≡ book.instances → after.starts.items ≡ with_at place (λ t. trigger) book.starts.items → after.events ≡ all_changed with_hold (as_holders (replicate offer.kept id)) book.events → after.reading ≡ book.reading
    → Forgets after config (Offered (StartOn job.name) e ∷ c)
start-offered book after config c place e job id environment trigger nodes offer f in_jobs placed in_force o does starts events reading =
    let live = named-there book.events (queue c) id e placed in
    forgets-offered-start book after config c place e job id live.0 trigger (nodes live.0.event.name) environment offer f in_jobs placed live.1 (o.hears live.0 live.1) in_force (o.leaves live.0.event.name) does starts events reading

pub start-true : (book : Past) (config : Configuration) (c : Chronicle) (place e : ℕ) (job : JobDef) (id : EventId) (environment : Bindings) (trigger : Option (List Mark)) (nodes : Bytes → List ℕ) (offer : Offer)
    → Forgets book config c → nth place config.jobs ≡ Some job → event_place book c id ≡ Some e → environment ≡ env_of_job config job.name → StartOffer book place job id environment trigger nodes offer
    → offer.holds ≡ seen.holds job.start_on (seen.seen config (StartOn job.name) (Offered (StartOn job.name) e ∷ c))
start-true book config c place e job id environment trigger nodes offer f in_jobs placed in_force o =
    let live = named-there book.events (queue c) id e placed in
    let known = standing-known book config c id e live.0 f placed live.1 in
    let queued : event_at e c ≡ Some live.0.event = ap (λ p. event_at p c) (sym known.1) ∙ sym (ap (λ (s : Standing). s.event) known.2) in
    let before = (start-of (place_of book.events (queue c)) config c place book.starts.items config.jobs job in_jobs f.remembered.starts).0 in
    let saw : seen.seen config (StartOn job.name) (Offered (StartOn job.name) e ∷ c) ≡ seen.seen config (StartOn job.name) c ++ sight_of e live.0.event.name live.0.event.vars environment ∷ [] =
    seen_own config (StartOn job.name) (StartOn job.name) e c (bytes_refl job.name) ∙ ap (λ x. seen.seen config (StartOn job.name) c ++ seen.sight_of e x (env_of_job config job.name)) queued
    ∙ ap (λ en. seen.seen config (StartOn job.name) c ++ sight_of e live.0.event.name live.0.event.vars en ∷ []) (sym in_force) in
    (o.hears live.0 live.1).holds (place_of book.events (queue c)) (seen.seen config (StartOn job.name) c) e before placed (o.leaves live.0.event.name) ∙ ap (seen.holds job.start_on) (sym saw)

-- a firing, by keys
pub stop-fired : (book after : Past) (config : Configuration) (c : Chronicle) (key : InstanceKey) (i : ℕ) (job : JobDef) (trigger : Option (List Mark)) (firing : Firing) (ts : List ℕ) → Forgets book config c → instance_place book c key ≡ Some i
    → file_of i c ≡ Some job → Fires (trigger_at key book.instances) trigger job.stop_on firing → after.instances ≡ changed_at key (with_stop_on trigger) book.instances → after.starts ≡ book.starts
    → after.events ≡ all_changed (freed false) (as_holders firing.kept) book.events → after.reading ≡ book.reading → Forgets after config (Fired (StopOn i) ts ∷ c)
stop-fired book after config c key i job trigger firing ts f found in_jobs fires does starts events reading =
    let t = there (place_of book.events (queue c)) book.instances config c key i f.lives.jobs found in
    let own : t.its.file ≡ job = its-file (place_of book.events (queue c)) book.instances config c key i job t in_jobs in
    let its : Fires t.kept.stop_on trigger t.its.file.stop_on firing =
    subst (λ (j : JobDef). Fires t.kept.stop_on trigger j.stop_on firing) (sym own) (subst (λ x. Fires x trigger job.stop_on firing) (ap trigger_of t.found) fires) in
    forgets-fired-stop book after config c key i t trigger firing ts f its does starts events reading

-- and what it takes
map-same : (f g : Places) (ids : List EventId) → ((id : EventId) → f id ≡ g id) → map f ids ≡ map g ids
map-same f g [] same = refl
map-same f g (id ∷ ids) same = cons_same (same id) (map-same f g ids same)

pub stop-taken : (book : Past) (after : List LiveEvent) (config : Configuration) (c : Chronicle) (key : InstanceKey) (i : ℕ) (job : JobDef) (trigger : Option (List Mark)) (firing : Firing) (ts : List ℕ) → Forgets book config c → instance_place book c key ≡ Some i
    → file_of i c ≡ Some job → Fires (trigger_at key book.instances) trigger job.stop_on firing → after ≡ all_changed (freed false) (as_holders firing.kept) book.events
    → map (place_of after (queue c)) firing.taken ≡ map Some (seen.taken job.stop_on (seen.seen config (StopOn i) c))
stop-taken book after config c key i job trigger firing ts f found in_jobs fires events =
    let places = place_of book.events (queue c) in
    let t = there places book.instances config c key i f.lives.jobs found in
    let own : t.its.file ≡ job = its-file (place_of book.events (queue c)) book.instances config c key i job t in_jobs in
    let before : Remembers places (trigger_at key book.instances) job.stop_on (seen.seen config (StopOn i) c) =
    subst (λ x. Remembers places x job.stop_on (seen.seen config (StopOn i) c)) (sym (ap trigger_of t.found))
    (subst (λ (j : JobDef). Remembers places t.kept.stop_on j.stop_on (seen.seen config (StopOn i) c)) own
    (subst (λ p. Remembers places t.kept.stop_on t.its.file.stop_on (seen.seen config (StopOn p) c)) t.place (stop-known book config c key i t f))) in
    map-same (place_of after (queue c)) places firing.taken (λ id. ap (λ es. place_of es (queue c) id) events ∙ all-places (freed false) (as_holders firing.kept) book.events (queue c) id mild-free)
    ∙ fires.taken places (seen.seen config (StopOn i) c) before

pub start-taken : (book : Past) (after : List LiveEvent) (config : Configuration) (c : Chronicle) (place : ℕ) (job : JobDef) (trigger : Option (List Mark)) (firing : Firing) (ts : List ℕ) → Forgets book config c → nth place config.jobs ≡ Some job
    → Fires (trigger_in place book.starts.items) trigger job.start_on firing → after ≡ all_changed (freed false) (as_holders firing.kept) book.events
    → map (place_of after (queue c)) firing.taken ≡ map Some (seen.taken job.start_on (seen.seen config (StartOn job.name) c))
start-taken book after config c place job trigger firing ts f in_jobs fires events =
    let places = place_of book.events (queue c) in
    let before = (start-of places config c place book.starts.items config.jobs job in_jobs f.remembered.starts).0 in
    map-same (place_of after (queue c)) places firing.taken (λ id. ap (λ es. place_of es (queue c) id) events ∙ all-places (freed false) (as_holders firing.kept) book.events (queue c) id mild-free)
    ∙ fires.taken places (seen.seen config (StartOn job.name) c) before
