-- A job that doesn't hear of an event is passed by: the book stands for what it makes of the chronicle without being told.
use Rattle.up_cascade.proofs.Names.{◌≡◌, ℕ, zero, suc, ◌+◌, ◌≤◌, ◌==◌, Bool, true, false, List, [], ◌∷◌, ◌++◌, length}
use Rattle.up_cascade.proofs.Names.{nat_lt, Option, None, Some, if◌then◌else◌, refl, sym, ◌∙◌, ap, subst, arith, append_assoc}
use Rattle.up_cascade.proofs.Names.{◌||◌, append-nil, AllByRecursion, JobDef, Event, Turn, Chronicle, Given, Handled}
use Rattle.up_cascade.proofs.Names.{Offered, StartOn, Expression, StopOn, Configuration, due, Instance, instances_of}
use Rattle.up_cascade.proofs.Names.{wait_in, may_leave, stop_offer, start_offer, state_of, seen, holds, Bytes}
use Rattle.up_cascade.proofs.Names.{HasFile, files, nth, AreDistinct, nth-get, settle_one, settle_each, hear_stops}
use Rattle.up_cascade.proofs.Names.{hear, hear_all, NoneHolds}
use Rattle.std.proofs.Common.{◌-◌, ◌<◌, drop, length-append, eqb-true, ne_eqb, ltb-false, ltb-true}
use Rattle.up_job.specs.declared.instance_key.InstanceKey.{InstanceKey}
use Rattle.up_marks.specs.Ruling.{may_hear}
use Rattle.up_marks.specs.Skipping.{Stops, Starts}
use Rattle.up_marks.proofs.Ruled.{unheard-offer, holds-unheard}
use Rattle.up_model.specs.declared.event_id.EventId.{EventId}
use Rattle.up_model.specs.Readings.{entry_at, event_of, event_at, file_of}
use Rattle.up_book.specs.Hearers.{AreDeaf, IsDeaf, IsNextHearer, one_hears}
use Rattle.up_book.specs.Keys.{job_at, instance_at, instance_place}
use Rattle.up_book.proofs.Keyed.{job-there}
use Rattle.up_cascade.specs.Unheard.{AreUnheard, NoneHears}
use Rattle.up_cascade.proofs.Firing.{IsHandling}
use Rattle.up_cascade.proofs.Handling.{all_asked, all-apart}
use Rattle.up_cascade.proofs.Hearing.{Heard, nth-middle, asked-others, job-heard, distinct-after, each-still, handling-rest, all-left}
use Rattle.up_cascade.proofs.KeyLemmas.{job_name, placed}
use Rattle.up_cascade.proofs.Passing.{over-offered}
use Rattle.up_cascade.proofs.Positions.{instance-here, drop-front}
use Rattle.up_cascade.proofs.Resting.{Rest, all-middle}
use Rattle.up_cascade.proofs.Settled.{one-stays}
use Rattle.up_cascade.proofs.Unfired.{none-entry, none-stop-offered}

-- what an offer that changes nothing leaves to a book
pub record PassesBy (stands : Chronicle → Type 0) (places : Chronicle → EventId → Option ℕ) (config : Configuration) : Type 0 where
  pub start : (c : Chronicle) (n : ℕ) (job : JobDef) (e : ℕ) → stands c → job_at config n ≡ Some job → may_hear job.start_on (event_at e c) ≡ false → stands (Offered (StartOn job.name) e ∷ c)
  pub stop : (c : Chronicle) (key : InstanceKey) (job : JobDef) (i e : ℕ) → stands c → instance_place config c key ≡ Some i → file_of i c ≡ Some job → may_hear job.stop_on (event_at e c) ≡ false
      → stands (Offered (StopOn i) e ∷ c)
  pub events : (c : Chronicle) (x : Expression) (e : ℕ) (k : EventId) → places (Offered x e ∷ c) k ≡ places c k

-- an offer isn't what was queued at a place
pub none-later : (place : ℕ) (c : Chronicle) → length c ≤ place → entry_at place c ≡ None
none-later place [] later = refl
none-later place (entry ∷ c) later =
    ap (λ (b : Bool). if b then Some entry else entry_at place c) (ne_eqb (length c) place (λ same. omega (arith, same, later))) ∙ none-later place c (omega (arith, later))

event-same : (x : Expression) (p e : ℕ) (c : Chronicle) → event_at e (Offered x p ∷ c) ≡ event_at e c
event-same x p e c = by_case (length c == e) refl
  where
    by_case : (b : Bool) → (length c == e) ≡ b → event_of (if b then Some (Offered x p) else entry_at e c) ≡ event_of (entry_at e c)
    by_case true same = sym (ap event_of (none-later e c (omega (arith, eqb-true (length c) e same))))
    by_case false apart = refl

-- no one moves for it
stays-offered : (job : JobDef) (i : ℕ) (c : Chronicle) (x : Expression) (e : ℕ) → may_leave job i c ≡ false → may_leave job i (Offered x e ∷ c) ≡ false
stays-offered job i c x e stays = over-offered job i (wait_in (state_of i c)) c x e ∙ stays

rest-offered : (its : List Instance) (c : Chronicle) (x : Expression) (e : ℕ) → Rest its c → Rest its (Offered x e ∷ c)
rest-offered [] c x e rest = tt
rest-offered (y ∷ its) c x e rest = (stays-offered y.file y.place c x e rest.0, rest-offered its c x e rest.1)

-- a book stands for what came of a chronicle by offers to a job that change nothing
record Passed (stands : Chronicle → Type 0) (places : Chronicle → EventId → Option ℕ) (config : Configuration) (e : ℕ) (event : EventId) (job : JobDef) (c f : Chronicle) : Type 0 where
  pub stood : stands f
  pub known : places f event ≡ Some e
  pub told : event_at e f ≡ event_at e c
  pub lists : (name : Bytes) → instances_of name f ≡ instances_of name c
  pub rest : Rest (instances_of job.name f) f
  pub untrue : NoneHolds config f

passed-then : (stands : Chronicle → Type 0) (places : Chronicle → EventId → Option ℕ) (config : Configuration) (e : ℕ) (event : EventId) (job : JobDef) (c d f : Chronicle) → event_at e d ≡ event_at e c → ((name : Bytes) → instances_of name d ≡ instances_of name c)
    → Passed stands places config e event job d f → Passed stands places config e event job c f
passed-then stands places config e event job c d f told lists p = record { stood = p.stood; known = p.known; told = p.told ∙ told; lists = λ name. p.lists name ∙ lists name; rest = p.rest; untrue = p.untrue }

pub some-same : {X : Type 0} {x y : X} → Some x ≡ Some y → x ≡ y
some-same e = cc

-- an offer changes nothing about who hears of the event
deaf-offered : (e : ℕ) (its : List Instance) (c : Chronicle) (x : Expression) (p : ℕ) → AreDeaf (event_at e c) its → AreDeaf (event_at e (Offered x p ∷ c)) its
deaf-offered e [] c x p deaf = tt
deaf-offered e (y ∷ its) c x p deaf = (ap (may_hear y.file.stop_on) (event-same x p e c) ∙ deaf.0, deaf-offered e its c x p deaf.1)

passed-stops : (stands : Chronicle → Type 0) (places : Chronicle → EventId → Option ℕ) (config : Configuration) → PassesBy stands places config → (e : ℕ) (event : EventId) (n : ℕ) (job : JobDef) → job_at config n ≡ Some job
    → (front its : List Instance) (c : Chronicle) → instances_of job.name c ≡ front ++ its → stands c → places c event ≡ Some e → AreDeaf (event_at e c) its → Rest (instances_of job.name c) c → NoneHolds config c
    → Passed stands places config e event job c (hear_stops config its e c)
passed-stops stands places config by e event n job there front [] c list stood known deaf rest untrue =
    record { stood = stood; known = known; told = refl; lists = λ name. refl; rest = rest; untrue = untrue }
passed-stops stands places config by e event n job there front (x ∷ its) c list stood known deaf rest untrue =
    subst (λ f. Passed stands places config e event job c (hear_stops config its e f)) (sym step)
    (passed-then stands places config e event job c d (hear_stops config its e d) (event-same (StopOn x.place) e e c) (λ name. refl)
    (passed-stops stands places config by e event n job there (front ++ x ∷ []) its d (list ∙ sym (append_assoc front (x ∷ []) its)) stood_d (by.events c (StopOn x.place) e event ∙ known)
    (deaf-offered e its c (StopOn x.place) e deaf.1) (rest-offered (instances_of job.name c) c (StopOn x.place) e rest) untrue_d))
  where
    d : Chronicle
    d = Offered (StopOn x.place) e ∷ c

    its_own : HasFile job.name c x
    its_own = all-middle (HasFile job.name c) front x its (subst (AllByRecursion (HasFile job.name c)) list (files job.name c))

    false_yet : holds x.file.stop_on (seen config (StopOn x.place) c) ≡ false
    false_yet = untrue.stops x.place x.file its_own.1

    stays : may_leave x.file x.place c ≡ false
    stays = all-middle (λ y. may_leave y.file y.place c ≡ false) front x its (subst (λ xs. Rest xs c) list rest)

    offer : stop_offer config x.file x.place e c ≡ Offered (StopOn x.place) e ∷ []
    offer = unheard-offer config (Stops x.file x.place) e c deaf.0 false_yet

    step : settle_one 5 x.file x (stop_offer config x.file x.place e c ++ c) ≡ d
    step = ap (λ es. settle_one 5 x.file x (es ++ c)) offer ∙ one-stays 5 x.file x d (stays-offered x.file x.place c (StopOn x.place) e stays)

    key : InstanceKey
    key = record { job = n; at = length front }

    found : instance_at config c key ≡ Some x
    found = instance-here config c key job.name x its (job_name config n job there) (ap (drop (length front)) list ∙ drop-front front (x ∷ its))

    stood_d : stands d
    stood_d = by.stop c key x.file x.place e stood (placed config c key x found) its_own.1 deaf.0

    untrue_d : NoneHolds config d
    untrue_d =
        none-stop-offered config x.file x.place e c its_own.0 its_own.1 (holds-unheard config x.file.stop_on (StopOn x.place) (StopOn x.place) e c deaf.0 ∙ false_yet) untrue

-- so it stands for what the job makes of it
passed-job : (stands : Chronicle → Type 0) (places : Chronicle → EventId → Option ℕ) (config : Configuration) → PassesBy stands places config → (e : ℕ) (event : EventId) (n : ℕ) (job : JobDef) → job_at config n ≡ Some job
    → (c : Chronicle) → stands c → places c event ≡ Some e → IsDeaf job (event_at e c) c → Rest (instances_of job.name c) c → NoneHolds config c
    → stands (hear config job e c) × (places (hear config job e c) event ≡ Some e) × (event_at e (hear config job e c) ≡ event_at e c) × ((name : Bytes) → instances_of name (hear config job e c) ≡ instances_of name c)
passed-job stands places config by e event n job there c stood known deaf rest untrue =
    let f = hear_stops config (instances_of job.name c) e c in
    let p = passed-stops stands places config by e event n job there [] (instances_of job.name c) c refl stood known deaf.1 rest untrue in
    let x : Expression = StartOn job.name in
    let g : Chronicle = Offered x e ∷ f in
    let quiet : may_hear job.start_on (event_at e f) ≡ false = ap (may_hear job.start_on) p.told ∙ deaf.0 in
    let offer : start_offer config job e f ≡ Offered x e ∷ [] = unheard-offer config (Starts job) e f quiet (p.untrue.starts n job there) in
    let step : hear config job e c ≡ g =
    ap (λ es. settle_each (instances_of job.name (es ++ f)) (es ++ f)) offer ∙ each-still (instances_of job.name f) g (rest-offered (instances_of job.name f) f x e p.rest) in (
      subst stands (sym step) (by.start f n job e p.stood there quiet),
      ap (λ h. places h event) step ∙ by.events f x e event ∙ p.known,
      ap (event_at e) step ∙ event-same x e e f ∙ p.told,
      (λ name. ap (instances_of name) step ∙ p.lists name),
    )

-- a book stands for what the jobs before one have made of a chronicle
pub record HeardTo (stands : Chronicle → Type 0) (places : Chronicle → EventId → Option ℕ) (config : Configuration) (e : ℕ) (event : EventId) (from : ℕ) (c : Chronicle) : Type 0 where
  pub d : Chronicle
  pub done : List JobDef
  pub todo : List JobDef
  pub split : config.jobs ≡ done ++ todo
  pub count : length done ≡ from
  pub stood : stands d
  pub known : places d event ≡ Some e
  pub same : hear_all config config.jobs e c ≡ hear_all config todo e d
  pub handling : IsHandling config.jobs e (all_asked todo d) d
  pub untrue : NoneHolds config d

-- at first that is none of them
pub heard-none : (stands : Chronicle → Type 0) (places : Chronicle → EventId → Option ℕ) (config : Configuration) (e : ℕ) (event : EventId) (c : Chronicle) → due config c ≡ [] → NoneHolds config c → stands (Handled e ∷ Given Turn ∷ c)
    → places (Handled e ∷ Given Turn ∷ c) event ≡ Some e → HeardTo stands places config e event 0 (Handled e ∷ Given Turn ∷ c)
heard-none stands places config e event c none untrue stood known = record {
  d = Handled e ∷ Given Turn ∷ c;
  done = [];
  todo = config.jobs;
  split = refl;
  count = refl;
  stood = stood;
  known = known;
  same = refl;
  handling = all-left config e c none;
  untrue = none-entry config (Handled e) (Given Turn ∷ c) tt (none-entry config (Given Turn) c tt untrue);
}

record Next (n : ℕ) (done todo : List JobDef) (job : JobDef) : Type 0 where
  pub rest : List JobDef
  pub list : todo ≡ job ∷ rest

next-job : (jobs done todo : List JobDef) (n : ℕ) (job : JobDef) → jobs ≡ done ++ todo → length done ≡ n → nth n jobs ≡ Some job → Next n done todo job
next-job jobs done [] n job split count there = absurd (past done n count (sym (ap (nth n) (split ∙ append-nil done)) ∙ there))
  where
    past : (xs : List JobDef) (m : ℕ) → length xs ≡ m → nth m xs ≡ Some job → ⊥
    past [] zero same found = cc
    past [] (suc m) same found = cc
    past (x ∷ xs) zero same found = omega (arith, same)
    past (x ∷ xs) (suc m) same found = past xs m (omega (arith, same)) found
next-job jobs done (j ∷ rest) n job split count there =
    let here : nth n jobs ≡ Some j = ap (nth n) split ∙ ap (λ m. nth m (done ++ j ∷ rest)) (sym count) ∙ nth-middle done j rest in
    record { rest = rest; list = ap (λ k. k ∷ rest) (some-same (sym here ∙ there)) }

-- then one more, whichever way the book came to stand for it
pub heard-one : (stands then_ : Chronicle → Type 0) (places later : Chronicle → EventId → Option ℕ) (config : Configuration) (e : ℕ) (event : EventId) (from : ℕ) (job : JobDef) (c : Chronicle) → AreDistinct config.jobs → job_at config from ≡ Some job
    → (h : HeardTo stands places config e event from c) → then_ (hear config job e h.d) → later (hear config job e h.d) event ≡ Some e → HeardTo then_ later config e event (from + 1) c
heard-one stands then_ places later config e event from job c distinct there h stood known = record {
  d = f;
  done = h.done ++ job ∷ [];
  todo = next.rest;
  split = split ∙ sym (append_assoc h.done (job ∷ []) next.rest);
  count = length-append h.done (job ∷ []) ∙ omega (arith, h.count);
  stood = stood;
  known = known;
  same = h.same ∙ ap (λ js. hear_all config js e h.d) next.list;
  handling = subst (λ left. IsHandling config.jobs e left f) (sym (asked-others job next.rest h.d f mine.0 heard.others)) heard.handling;
  untrue = heard.untrue h.untrue;
}
  where
    next : Next from h.done h.todo job
    next = next-job config.jobs h.done h.todo from job h.split h.count (job-there config from job there)

    f : Chronicle
    f = hear config job e h.d

    split : config.jobs ≡ h.done ++ job ∷ next.rest
    split = h.split ∙ ap (λ js. h.done ++ js) next.list

    mine : AreDistinct (job ∷ next.rest)
    mine = distinct-after h.done (job ∷ next.rest) (subst AreDistinct split distinct)

    heard : Heard config e job (all_asked next.rest h.d) h.d f
    heard =
        job-heard config e h.done job next.rest h.d distinct split (subst (λ js. IsHandling config.jobs e (all_asked js h.d) h.d) next.list h.handling) (all-apart (job ∷ next.rest) h.d mine)

-- a job that doesn't hear of the event
record PassedOne (stands : Chronicle → Type 0) (places : Chronicle → EventId → Option ℕ) (config : Configuration) (e : ℕ) (event : EventId) (to : ℕ) (c d : Chronicle) : Type 0 where
  pub heard : HeardTo stands places config e event to c
  pub told : event_at e heard.d ≡ event_at e d
  pub lists : (name : Bytes) → instances_of name heard.d ≡ instances_of name d

passed-one : (stands : Chronicle → Type 0) (places : Chronicle → EventId → Option ℕ) (config : Configuration) → PassesBy stands places config → AreDistinct config.jobs → (e : ℕ) (event : EventId) (from : ℕ) (job : JobDef) (c : Chronicle)
    → job_at config from ≡ Some job → (h : HeardTo stands places config e event from c) → IsDeaf job (event_at e h.d) h.d → PassedOne stands places config e event (from + 1) c h.d
unfolding heard-one
passed-one stands places config by distinct e event from job c there h deaf =
    let next = next-job config.jobs h.done h.todo from job h.split h.count (job-there config from job there) in
    let rest = handling-rest config e h.done job next.rest (all_asked h.todo h.d) h.d (h.split ∙ ap (λ js. h.done ++ js) next.list) h.handling in
    let passed = passed-job stands places config by e event from job there h.d h.stood h.known deaf rest h.untrue in
    record { heard = heard-one stands stands places places config e event from job c distinct there h passed.0 passed.1; told = passed.2; lists = passed.3 }

-- who doesn't hear of the event still doesn't
still-deaf : (job : JobDef) (event told : Option Event) (c d : Chronicle) → told ≡ event → ((name : Bytes) → instances_of name d ≡ instances_of name c) → IsDeaf job event c → IsDeaf job told d
still-deaf job event told c d same lists deaf = (
  ap (may_hear job.start_on) same ∙ deaf.0,
  subst (AreDeaf told) (sym (lists job.name)) (subst (λ ev. AreDeaf ev (instances_of job.name c)) (sym same) deaf.1),
)

-- and all of them up to another
record At (n : ℕ) (jobs : List JobDef) : Type 0 where
  pub job : JobDef
  pub there : nth n jobs ≡ Some job

at-index : (n : ℕ) (jobs : List JobDef) → n < length jobs → At n jobs
at-index n [] within = absurd (omega (arith, within))
at-index zero (job ∷ jobs) within = record { job = job; there = refl }
at-index (suc n) (job ∷ jobs) within =
    let rest = at-index n jobs (omega (arith, within)) in
    record { job = rest.job; there = rest.there }

passed-more : (k : ℕ) (stands : Chronicle → Type 0) (places : Chronicle → EventId → Option ℕ) (config : Configuration) → PassesBy stands places config → AreDistinct config.jobs → (e : ℕ) (event : EventId) (from : ℕ) (c : Chronicle)
    → k + from ≤ length config.jobs → (h : HeardTo stands places config e event from c) → AreUnheard config (event_at e h.d) h.d from (k + from) → PassedOne stands places config e event (k + from) c h.d
passed-more zero stands places config by distinct e event from c within h unheard =
    let same : from ≡ 0 + from = omega arith in
    subst (λ m. PassedOne stands places config e event m c h.d) same (record { heard = h; told = refl; lists = λ name. refl })
passed-more (suc k) stands places config by distinct e event from c within h unheard =
    let here = at-index from config.jobs (omega (arith, within)) in
    let there : job_at config from ≡ Some here.job = sym (nth-get from config.jobs) ∙ here.there in
    let one = passed-one stands places config by distinct e event from here.job c there h (unheard from here.job (omega arith) (omega arith) there) in
    let rest = passed-more k stands places config by distinct e event (from + 1) c (omega (arith, within)) one.heard
    (λ n job after before its. still-deaf job (event_at e h.d) (event_at e one.heard.d) h.d one.heard.d one.told one.lists (unheard n job (omega (arith, after)) (omega (arith, before)) its)) in
    let same : k + (from + 1) ≡ suc k + from = omega arith in
    subst (λ m. PassedOne stands places config e event m c h.d) same (record { heard = rest.heard; told = rest.told ∙ one.told; lists = λ name. rest.lists name ∙ one.lists name })

pub passed-to : (stands : Chronicle → Type 0) (places : Chronicle → EventId → Option ℕ) (config : Configuration) → PassesBy stands places config → AreDistinct config.jobs → (e : ℕ) (event : EventId) (from to : ℕ) (c : Chronicle) → from ≤ to
    → to ≤ length config.jobs → (h : HeardTo stands places config e event from c) → AreUnheard config (event_at e h.d) h.d from to → HeardTo stands places config e event to c
passed-to stands places config by distinct e event from to c up within h unheard =
    let sum : (to - from) + from ≡ to = omega (arith, up) in
    subst (λ m. HeardTo stands places config e event m c) sum
    (passed-more (to - from) stands places config by distinct e event from c (omega (arith, up, within)) h (λ n job after before there. unheard n job after (omega (arith, before, up)) there)).heard

-- when all have been told or passed by, the book stands for what they all make of it
pub heard-last : (stands : Chronicle → Type 0) (places : Chronicle → EventId → Option ℕ) (config : Configuration) (e : ℕ) (event : EventId) (c : Chronicle) → HeardTo stands places config e event (length config.jobs) c → stands (hear_all config config.jobs e c)
heard-last stands places config e event c h = subst stands (sym (h.same ∙ ap (λ js. hear_all config js e h.d) (none h.todo (ap length h.split ∙ length-append h.done h.todo)))) h.stood
  where
    none : (todo : List JobDef) → length config.jobs ≡ length h.done + length todo → todo ≡ []
    none [] sum = refl
    none (job ∷ todo) sum = absurd (omega (arith, sum, h.count))

-- no instance hears of an event if each is deaf to it, and the other way round
deaf-none : (event : Option Event) (its : List Instance) → AreDeaf event its → one_hears event its ≡ false
deaf-none event [] deaf = refl
deaf-none event (x ∷ its) deaf = ap (λ (b : Bool). b || one_hears event its) deaf.0 ∙ deaf-none event its deaf.1

or-first : (a b : Bool) → (a || b) ≡ false → a ≡ false
or-first true b none = none
or-first false b none = refl

or-rest : (a b : Bool) → (a || b) ≡ false → b ≡ false
or-rest true b none = absurd cc
or-rest false b none = none

none-deaf : (event : Option Event) (its : List Instance) → one_hears event its ≡ false → AreDeaf event its
none-deaf event [] none = tt
none-deaf event (x ∷ its) none =
    let mine = may_hear x.file.stop_on event in
    (or-first mine (one_hears event its) none, none-deaf event its (or-rest mine (one_hears event its) none))

pub deaf : (job : JobDef) (event : Option Event) (c : Chronicle) → (may_hear job.start_on event || one_hears event (instances_of job.name c)) ≡ false → IsDeaf job event c
deaf job event c none =
    let starts = may_hear job.start_on event in
    let stops = one_hears event (instances_of job.name c) in
    (or-first starts stops none, none-deaf event (instances_of job.name c) (or-rest starts stops none))

-- no job hears of an event of which none does
pub hears-none : (config : Configuration) (n : ℕ) (job : JobDef) (event : Option Event) (c : Chronicle) → NoneHears config event c → job_at config n ≡ Some job
    → (may_hear job.start_on event || one_hears event (instances_of job.name c)) ≡ true → ⊥
hears-none config n job event c none there heard =
    let its = none n job there in
    let both : true ≡ false = sym heard ∙ ap (λ (b : Bool). b || one_hears event (instances_of job.name c)) its.0 ∙ deaf-none event (instances_of job.name c) its.1 in
    absurd cc

-- nor does the one that was looked at, if it is deaf, so that none does up to the next
pub unheard-on : (config : Configuration) (event : Option Event) (c : Chronicle) (from at index : ℕ) → AreUnheard config event c from at → IsNextHearer config event c at (Some index)
    → ((job : JobDef) → job_at config index ≡ Some job → IsDeaf job event c) → AreUnheard config event c from (index + 1)
unheard-on config event c from at index before next here n job after within there = by_place (nat_lt n at) (nat_lt n index) refl refl
  where
    by_place : (b d : Bool) → nat_lt n at ≡ b → nat_lt n index ≡ d → IsDeaf job event c
    by_place true d low is = before n job after (ltb-true n at low) there
    by_place false true high low = next.1 n job (ltb-false n at high) (ltb-true n index low) there
    by_place false false high same =
        let it : n ≡ index = omega (arith, ltb-false n index same, within) in
        here job (subst (λ m. job_at config m ≡ Some job) it there)
