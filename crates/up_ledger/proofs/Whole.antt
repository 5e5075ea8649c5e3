-- The whole book, one entry later.
use Rattle.std.proofs.Common.{◌≡◌, ℕ, zero, suc, ◌+◌, ◌<◌, ◌==◌, Bool, true, false, List, [], ◌∷◌, ◌++◌, length, map, Option, None, Some, option_map, if◌then◌else◌, refl, sym, ◌∙◌, ap, arith, eqb-true}
use Rattle.up_job.specs.Changes.{begun}
use Rattle.up_job.specs.JobLists.{changed_in, changed_at}
use Rattle.up_job.specs.Lists.{with_at}
use Rattle.std.specs.List.{AllByRecursion}
use Rattle.up_conf.specs.declared.job.JobDef.{JobDef}
use Rattle.up_event.specs.declared.live.LiveEvent.{LiveEvent}
use Rattle.up_event.specs.LiveEvents.{IsLive, named, with_change, as_handled, is, new_live}
use Rattle.up_model.specs.declared.event.Event.{Event}
use Rattle.up_model.specs.declared.event_id.EventId.{EventId}
use Rattle.up_model.specs.declared.state.State.{State}
use Rattle.up_model.specs.Chronicle.{Chronicle, Entry, Origin, Handled, Queued, Expression}
use Rattle.up_model.specs.Clock as clock
use Rattle.up_model.specs.Configuration.{Configuration}
use Rattle.up_model.specs.Instances.{Instance, instances_of}
use Rattle.up_model.specs.Queue.{Live, live_at, queue, with_handled}
use Rattle.up_model.specs.Held.{is_spoilt}
use Rattle.up_model.specs.Seen.{seen}
use Rattle.up_model.specs.Values.{Bytes}
use Rattle.up_model.proofs.QueueLaws.{queue_by_age}
use Rattle.up_ledger.specs.declared.past.Past.{Past}
use Rattle.up_job.specs.declared.instances.JobInstances.{JobInstances}
use Rattle.up_job.specs.declared.instance.Instance.{Instance as Kept}
use Rattle.up_model.specs.Readings.{blocker}
use Rattle.up_model.specs.Replies.{waiter_in}
use Rattle.up_job.specs.declared.instance_key.InstanceKey.{InstanceKey}
use Rattle.up_ledger.specs.Counting.{kept_uses, uses, start_uses}
use Rattle.up_ledger.specs.Remembering.{Remembered}
use Rattle.up_ledger.proofs.Triggers.{Unseen, remembered-agrees, remembered-later}
use Rattle.up_ledger.specs.Eventing.{number_of, standing_of, standing_at, place_of, holds_of, holds_in}
use Rattle.up_book.specs.Keeps.{Keeps, AreOlder, HoldsOlder}
use Rattle.up_ledger.specs.Regular.{MayFollow}
use Rattle.up_ledger.specs.Standing.{Forgets, event_place}
use Rattle.up_book.specs.Summaries.{Summary, JobSummary, summary, job_summary, known}
use Rattle.up_book.specs.Views.{Places, view, job_view}
use Rattle.up_ledger.proofs.Regulars.{regular-next}
use Rattle.up_ledger.proofs.Entering.{brought, older-after}
use Rattle.up_ledger.proofs.Frames.{concerns, spared}
use Rattle.up_book.proofs.Lists.{cons_same}
use Rattle.up_ledger.proofs.Placing.{Agree, BlockersAgree, jobs-agree, place-queued, used-queued}
use Rattle.up_ledger.proofs.Standing.{age-all, standings-later, standings-queued, standings-handled, place-handled}

-- an entry that leaves all that is known of instances
pub record Passes (config : Configuration) (c : Chronicle) (e : Entry) : Type 0 where
  pub spares : (x : Instance) → HoldsOlder x.place c → summary (e ∷ c) x ≡ summary c x
  pub instances : (job : Bytes) → instances_of job (e ∷ c) ≡ instances_of job c
  pub seen : (x : Expression) → seen config x (e ∷ c) ≡ seen config x c

-- an entry that leaves all that is known of instances, whatever expressions see by it
pub record Spares (config : Configuration) (c : Chronicle) (e : Entry) : Type 0 where
  pub spares : (x : Instance) → HoldsOlder x.place c → summary (e ∷ c) x ≡ summary c x
  pub instances : (job : Bytes) → instances_of job (e ∷ c) ≡ instances_of job c

-- since it concerns none
pub passing : (config : Configuration) (c : Chronicle) (e : Entry) → ((i : ℕ) → concerns i e ≡ false) → ((job : Bytes) → instances_of job (e ∷ c) ≡ instances_of job c) → ((x : Expression) → seen config x (e ∷ c) ≡ seen config x c) → Passes config c e
passing config c e nobody instances same = record {
  spares = λ x older. spared e c x (nobody x.place) older;
  instances = instances;
  seen = same;
}

summaries-past : (config : Configuration) (job : JobDef) (e : Entry) (c : Chronicle) (xs : List Instance) → ((x : Instance) → HoldsOlder x.place c → summary (e ∷ c) x ≡ summary c x) → ((i : ℕ) → HoldsOlder i c)
    → map (summary (e ∷ c)) xs ≡ map (summary c) xs
summaries-past config job e c [] spares older = refl
summaries-past config job e c (x ∷ xs) spares older = cons_same (spares x (older x.place)) (summaries-past config job e c xs spares older)

jobs-past : (config : Configuration) (e : Entry) (c : Chronicle) (jobs : List JobDef) → Spares config c e → ((i : ℕ) → HoldsOlder i c) → map (job_summary (e ∷ c)) jobs ≡ map (job_summary c) jobs
jobs-past config e c [] passes older = refl
jobs-past config e c (job ∷ jobs) passes older =
    cons_same (rw (passes.instances job.name) (ap (λ (xs : List Summary). record (job_summary c job) { instances = xs }) (summaries-past config job e c (instances_of job.name c) passes.spares older)))
    (jobs-past config e c jobs passes older)

pub keeps-spared : (places : Places) (book : List JobInstances) (config : Configuration) (c : Chronicle) (e : Entry) → Keeps places book config c → Spares config c e → AreOlder (length c) (brought e) → Keeps places book config (e ∷ c)
keeps-spared places book config c e keeps spares new = record {
  jobs = keeps.jobs ∙ sym (jobs-past config e c config.jobs spares keeps.older);
  older = older-after e c new keeps.older;
  later = λ x past. spares.spares x (keeps.older x.place) ∙ keeps.later x (omega (arith, past));
  distinct = keeps.distinct;
}

pub keeps-past : (places : Places) (book : List JobInstances) (config : Configuration) (c : Chronicle) (e : Entry) → Keeps places book config c → Passes config c e → AreOlder (length c) (brought e) → Keeps places book config (e ∷ c)
keeps-past places book config c e keeps passes new = keeps-spared places book config c e keeps (record { spares = passes.spares; instances = passes.instances }) new

-- other places that agree
blockers-agree : (old new : Places) (jobs : List JobInstances) → ((id : EventId) → Agree old new id) → BlockersAgree old new jobs
blockers-agree old new [] agree = tt
blockers-agree old new (job ∷ jobs) agree = (each job.instances, blockers-agree old new jobs agree)
  where
    each : (its : List Kept) → AllByRecursion (λ k. (id : EventId) → k.blocker ≡ Some id → Agree old new id) its
    each [] = tt
    each (k ∷ its) = ((λ id b. agree id), each its)

pub unseen : (config : Configuration) (c : Chronicle) (e : Entry) → Passes config c e → Unseen config c e
unseen config c e passes = record { instances = passes.instances; seen = passes.seen }

pub keeps-agree : (old new : Places) (book : List JobInstances) (config : Configuration) (c : Chronicle) → Keeps old book config c → ((id : EventId) → Agree old new id) → Keeps new book config c
keeps-agree old new book config c keeps agree = record {
  jobs = jobs-agree old new book (λ id used. agree id) (blockers-agree old new book agree) ∙ keeps.jobs;
  older = keeps.older;
  later = keeps.later;
  distinct = keeps.distinct;
}

-- a change that keeps ids keeps holds if it keeps each
holds-changed : (id other : EventId) (events : List LiveEvent) → holds_of other (with_change id as_handled events) ≡ holds_of other events
holds-changed id other [] = refl
holds-changed id other (e ∷ events) = by_case (e.id.key == id.key) (e.id.key == other.key) (holds-changed id other events)
  where
    by_case : (b d : Bool) → holds_of other (with_change id as_handled events) ≡ holds_of other events
        → holds_in (named other (if b then as_handled e ∷ events else e ∷ with_change id as_handled events)) ≡ holds_in (if e.id.key == other.key then Some e else named other events)
    by_case true d ih = by_id (e.id.key == other.key)
      where
        by_id : (x : Bool) → holds_in (if x then Some (as_handled e) else named other events) ≡ holds_in (if x then Some e else named other events)
        by_id true = refl
        by_id false = refl
    by_case false d ih = by_id (e.id.key == other.key)
      where
        by_id : (x : Bool) → holds_in (if x then Some e else named other (with_change id as_handled events)) ≡ holds_in (if x then Some e else named other events)
        by_id true = refl
        by_id false = ih

pub absent_change : (id : EventId) (change : LiveEvent → LiveEvent) (events : List LiveEvent) → named id events ≡ None → with_change id change events ≡ events
absent_change id change [] none = refl
absent_change id change (e ∷ events) none = by_case (e.id.key == id.key) none (absent_change id change events)
  where
    by_case : (b : Bool) → (if b then Some e else named id events) ≡ None → (named id events ≡ None → with_change id change events ≡ events)
        → (if b then change e ∷ events else e ∷ with_change id change events) ≡ e ∷ events
    by_case true none ih = absurd cc
    by_case false none ih = cons_same refl (ih none)

pub is_live : (id : EventId) (live : LiveEvent) (events : List LiveEvent) → named id events ≡ Some live → IsLive id events
is_live id live events found = rw found refl

-- a turn takes an event up
pub forgets-handled : (book after : Past) (config : Configuration) (c : Chronicle) (id : EventId) (e : ℕ) → Forgets book config c → event_place book c id ≡ Some e
    → after.events ≡ with_change id as_handled book.events → after.instances ≡ book.instances → after.starts ≡ book.starts → after.reading ≡ book.reading → Forgets after config (Handled e ∷ c)
forgets-handled book after config c id e f found does lives starts reading =
    let older = age-all (queue c) (length c) (queue_by_age c) in
    let later = standings-later (Handled e) c (queue c) f.regular.origins older (λ p. refl) in
    let passes : Passes config c (Handled e) = passing config c (Handled e) (λ i. refl) (λ job. refl) (λ x. refl) in
    let old = place_of book.events (queue c) in
    let new = place_of (with_change id as_handled book.events) (with_handled e (queue c)) in
    rw (does, lives, starts, reading) (record {
      lives = keeps-agree old new book.instances config (Handled e ∷ c) (keeps-past old book.instances config c (Handled e) f.lives passes tt) (λ other. place-handled book.events (queue c) e id other);
      remembered = remembered-agrees old new book.instances book.starts.items config (Handled e ∷ c) (λ other used. place-handled book.events (queue c) e id other)
          (remembered-later old book.instances book.starts.items config c (Handled e) (unseen config c (Handled e) passes) f.remembered);
      standings = standings-handled book.events (queue c) (length c) e id c (Handled e ∷ c) (queue_by_age c) found f.standings later;
      counted = λ other. holds-changed id other book.events ∙ f.counted other;
      regular = regular-next config c (Handled e) f.regular tt;
      reading = f.reading;
    })

-- an entry that changes nothing of the queue, and of lives what these then keep
pub forgets-lives : (book after : Past) (config : Configuration) (c : Chronicle) (e : Entry) → Forgets book config c → Keeps (place_of book.events (queue c)) after.instances config (e ∷ c)
    → Remembered (place_of book.events (queue c)) after.instances book.starts.items config (e ∷ c) → queue (e ∷ c) ≡ queue c → MayFollow config c e → ((p : ℕ) → is_spoilt p (e ∷ c) ≡ is_spoilt p c) → clock.now (e ∷ c) ≡ clock.now c → ((id : EventId) → uses id after.instances ≡ uses id book.instances)
    → after.starts ≡ book.starts → after.events ≡ book.events → after.reading ≡ book.reading → Forgets after config (e ∷ c)
forgets-lives book after config c e f lives remembered same follow spoilt clock_same used starts events reading =
    let older = age-all (queue c) (length c) (queue_by_age c) in
    record {
      lives = rw (events, same) lives;
      remembered = rw (events, same, starts) remembered;
      standings = rw (events, same) (f.standings ∙ sym (standings-later e c (queue c) f.regular.origins older spoilt));
      counted = λ id. rw (events, starts) (f.counted id ∙ ap (λ n. n + start_uses id book.starts.items) (sym (used id)));
      regular = regular-next config c e f.regular follow;
      reading = reading ∙ f.reading ∙ sym clock_same;
    }

-- what is entered uses what was used
kept-same : (id : EventId) (f : Kept → Kept) → ((k : Kept) → (f k).stop_on ≡ k.stop_on) → ((k : Kept) → (f k).holders ≡ k.holders) → (at : ℕ) (its : List Kept) → kept_uses id (with_at at f its) ≡ kept_uses id its
kept-same id f stops holders at [] = refl
kept-same id f stops holders zero (k ∷ its) = rw (stops k, holders k) refl
kept-same id f stops holders (suc at) (k ∷ its) = omega (arith, kept-same id f stops holders at its)

pub uses-same : (id : EventId) (f : Kept → Kept) → ((k : Kept) → (f k).stop_on ≡ k.stop_on) → ((k : Kept) → (f k).holders ≡ k.holders) → (key : InstanceKey) (jobs : List JobInstances) → uses id (changed_at key f jobs) ≡ uses id jobs
uses-same id f stops holders key jobs = by_place key.job jobs
  where
    by_place : (place : ℕ) (its : List JobInstances) → uses id (with_at place (changed_in key.at f) its) ≡ uses id its
    by_place place [] = refl
    by_place zero (j ∷ its) = omega (arith, kept-same id f stops holders key.at j.instances)
    by_place (suc place) (j ∷ its) = omega (arith, by_place place its)

pub entered-holders : (to : State) (k : Kept) (b : Bool) → (let x : Kept = record (if b then begun k else k) { state = to; restarted = false; kill_moment = None } in x).holders ≡ k.holders
entered-holders to k true = refl
entered-holders to k false = refl

-- the event that an instance waits for lives
known-place : (places : Places) (its : Option EventId) (place : Option ℕ) (id : EventId) → option_map places its ≡ known place → its ≡ Some id → (p : ℕ) × (places id ≡ Some p)
known-place places None place id same is = absurd cc
known-place places (Some other) None id same is = absurd cc
known-place places (Some other) (Some p) id same is = (p, cc)

abbrev pub AreLiveIn : Places → List Kept → Type 0
AreLiveIn places its = AllByRecursion (λ k. (id : EventId) → k.blocker ≡ Some id → (p : ℕ) × (places id ≡ Some p)) its

abbrev pub AreLive : Places → List JobInstances → Type 0
AreLive places jobs = AllByRecursion (λ j. AreLiveIn places j.instances) jobs

live-in : (places : Places) (config : Configuration) (job : JobDef) (c : Chronicle) (its : List Kept) (xs : List Instance) → map (view places) its ≡ map (summary c) xs → AreLiveIn places its
live-in places config job c [] xs same = tt
live-in places config job c (k ∷ its) [] same = absurd cc
live-in places config job c (k ∷ its) (x ∷ xs) same =
    let first : view places k ≡ summary c x = cc in
    let rest : map (view places) its ≡ map (summary c) xs = cc in
    ((λ id is. known-place places k.blocker (blocker x.place c) id (ap (λ (s : Summary). s.blocker) first) is), live-in places config job c its xs rest)

live-jobs : (places : Places) (config : Configuration) (c : Chronicle) (jobs : List JobInstances) (defs : List JobDef) → map (job_view places) jobs ≡ map (job_summary c) defs → AreLive places jobs
live-jobs places config c [] defs same = tt
live-jobs places config c (j ∷ jobs) [] same = absurd cc
live-jobs places config c (j ∷ jobs) (d ∷ defs) same =
    let first : job_view places j ≡ job_summary c d = cc in
    let rest : map (job_view places) jobs ≡ map (job_summary c) defs = cc in
    (live-in places config d c j.instances (instances_of d.name c) (ap (λ (s : JobSummary). s.instances) first), live-jobs places config c jobs defs rest)

named-placed : (events : List LiveEvent) (lives : List Live) (id : EventId) (p : ℕ) → place_of events lives id ≡ Some p → named id events ≡ None → ⊥
named-placed [] lives id p found none = absurd cc
named-placed (e ∷ events) [] id p found none = absurd cc
named-placed (e ∷ events) (l ∷ lives) id p found none = by_case (e.id.key == id.key) found none (named-placed events lives id p)
  where
    by_case : (b : Bool) → (if b then Some l.place else place_of events lives id) ≡ Some p → (if b then Some e else named id events) ≡ None → (place_of events lives id ≡ Some p → named id events ≡ None → ⊥) → ⊥
    by_case true found none ih = absurd cc
    by_case false found none ih = ih found none

blocked-agree : (events : List LiveEvent) (lives : List Live) (live : LiveEvent) (place : ℕ) (jobs : List JobInstances) → length events ≡ length lives → named live.id events ≡ None → AreLive (place_of events lives) jobs
    → BlockersAgree (place_of events lives) (place_of (events ++ live ∷ []) (lives ++ live_at place false ∷ [])) jobs
blocked-agree events lives live place [] same fresh all = tt
blocked-agree events lives live place (j ∷ jobs) same fresh all = (each j.instances all.0, blocked-agree events lives live place jobs same fresh all.1)
  where
    with_key : ℕ → EventId
    with_key key = record { key = key }

    apart : (id : EventId) (p : ℕ) → place_of events lives id ≡ Some p → (b : Bool) → (live.id.key == id.key) ≡ b → b ≡ false
    apart id p found true same_key =
        let its : named id events ≡ None = ap (λ key. named (with_key key) events) (sym (eqb-true live.id.key id.key same_key)) ∙ fresh in
        absurd (named-placed events lives id p found its)
    apart id p found false differs = refl

    each : (its : List Kept) → AreLiveIn (place_of events lives) its → AllByRecursion (λ k. (id : EventId) → k.blocker ≡ Some id → Agree (place_of events lives) (place_of (events ++ live ∷ []) (lives ++ live_at place false ∷ [])) id) its
    each [] known = tt
    each (k ∷ its) known = ((λ id is. let at = known.0 id is in place-queued events lives live place id same (apart id at.0 at.1 (live.id.key == id.key) refl)), each its known.1)

-- lives stay what they are as an event goes to the end of the queue
pub keeps-queued : (book : List JobInstances) (events : List LiveEvent) (config : Configuration) (c d : Chronicle) (live : LiveEvent) (place : ℕ) → Keeps (place_of events (queue c)) book config d → length events ≡ length (queue c)
    → ((id : EventId) → 0 < uses id book → 0 < holds_of id events) → named live.id events ≡ None → Keeps (place_of (events ++ live ∷ []) (queue c ++ live_at place false ∷ [])) book config d
keeps-queued book events config c d live place keeps same counted fresh = record {
  jobs = jobs-agree (place_of events (queue c)) (place_of (events ++ live ∷ []) (queue c ++ live_at place false ∷ [])) book
      (λ id used. used-queued events (queue c) live place id same fresh (counted id used))
      (blocked-agree events (queue c) live place book same fresh (live-jobs (place_of events (queue c)) config d book config.jobs keeps.jobs)) ∙ keeps.jobs;
  older = keeps.older;
  later = keeps.later;
  distinct = keeps.distinct;
}

pub holds-pushed : (id other : EventId) (event : Event) (waits : Option ℕ) (events : List LiveEvent) → named id events ≡ None → holds_of other (events ++ new_live id event waits ∷ []) ≡ holds_of other events
holds-pushed id other event waits [] fresh = by_id (id.key == other.key)
  where
    by_id : (b : Bool) → holds_in (if b then Some (new_live id event waits) else None) ≡ 0
    by_id true = refl
    by_id false = refl
holds-pushed id other event waits (e ∷ events) fresh = by_case (e.id.key == id.key) (e.id.key == other.key) fresh (holds-pushed id other event waits events)
  where
    by_case : (b d : Bool) → (if b then Some e else named id events) ≡ None → (named id events ≡ None → holds_of other (events ++ new_live id event waits ∷ []) ≡ holds_of other events)
        → holds_in (if d then Some e else named other (events ++ new_live id event waits ∷ [])) ≡ holds_in (if d then Some e else named other events)
    by_case true d fresh ih = absurd cc
    by_case false true fresh ih = refl
    by_case false false fresh ih = ih fresh

pub map-length : {X Y Z : Type 0} (f : X → Z) (g : Y → Z) (xs : List X) (ys : List Y) → map f xs ≡ map g ys → length xs ≡ length ys
map-length f g [] [] same = refl
map-length f g [] (y ∷ ys) same = absurd cc
map-length f g (x ∷ xs) [] same = absurd cc
map-length f g (x ∷ xs) (y ∷ ys) same = ap suc (map-length f g xs ys (cc))

-- an entry that changes nothing that is kept
pub forgets-passing : (book : Past) (config : Configuration) (c : Chronicle) (e : Entry) → Forgets book config c → Passes config c e → AreOlder (length c) (brought e) → queue (e ∷ c) ≡ queue c → MayFollow config c e
    → ((p : ℕ) → is_spoilt p (e ∷ c) ≡ is_spoilt p c) → clock.now (e ∷ c) ≡ clock.now c → Forgets book config (e ∷ c)
forgets-passing book config c e f passes new same follow spoilt clock_same =
    let places = place_of book.events (queue c) in
    forgets-lives book book config c e f (keeps-past places book.instances config c e f.lives passes new)
    (remembered-later places book.instances book.starts.items config c e (unseen config c e passes) f.remembered) same follow spoilt clock_same (λ id. refl) refl refl refl

-- an event that no instance waits for goes to the end of the queue
pub forgets-queued : (book after : Past) (config : Configuration) (c : Chronicle) (id : EventId) (event : Event) (origin : Origin) (waits : Option ℕ) → Forgets book config c → MayFollow config c (Queued origin event)
    → Passes config c (Queued origin event) → number_of (waiter_in (Some (Queued origin event)) (Queued origin event ∷ c)) (Queued origin event ∷ c) ≡ waits → named id book.events ≡ None
    → after.events ≡ book.events ++ new_live id event waits ∷ [] → after.instances ≡ book.instances → after.starts ≡ book.starts → after.reading ≡ book.reading → Forgets after config (Queued origin event ∷ c)
forgets-queued book after config c id event origin waits f follow passes who fresh does lives starts reading =
    let count = map-length standing_of (standing_at c) book.events (queue c) f.standings in
    let old = place_of book.events (queue c) in
    let d : Chronicle = Queued origin event ∷ c in
    let live = new_live id event waits in
    rw (does, lives, starts, reading) (record {
      lives = keeps-queued book.instances book.events config c d live (length c)
          (keeps-past old book.instances config c (Queued origin event) f.lives passes tt) count (λ other used. omega (arith, f.counted other, used)) fresh;
      remembered = remembered-agrees old (place_of (book.events ++ live ∷ []) (queue d)) book.instances book.starts.items config d
          (λ other used. used-queued book.events (queue c) live (length c) other count fresh (omega (arith, f.counted other, used)))
          (remembered-later old book.instances book.starts.items config c (Queued origin event) (unseen config c (Queued origin event) passes) f.remembered);
      standings = standings-queued book.events c id event origin waits f.regular.origins f.standings (f.regular.unspoilt (length c) (omega arith)) who;
      counted = λ other. holds-pushed id other event waits book.events fresh ∙ f.counted other;
      regular = regular-next config c (Queued origin event) f.regular follow;
      reading = f.reading;
    })
