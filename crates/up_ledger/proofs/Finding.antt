-- Events by their ids, and instances by their names.
use Rattle.std.proofs.Common.{◌≡◌, ℕ, suc, ◌+◌, ◌==◌, Bool, true, false, List, [], ◌∷◌, length, map, Option, None, Some, option_map, IfSome, bytes_eq, if◌then◌else◌, refl, sym, ◌∙◌, ap, arith}
use Rattle.up_conf.specs.declared.job.JobDef.{JobDef}
use Rattle.up_event.specs.LiveEvents.{named, outcome_of}
use Rattle.up_event.specs.declared.live.Finished.{Finished}
use Rattle.up_event.specs.declared.live.LiveEvent.{LiveEvent}
use Rattle.up_job.specs.InstanceLists.{name_of}
use Rattle.up_job.specs.JobLists.{instances_at, key_of, list_of}
use Rattle.up_job.specs.Lists.{nth}
use Rattle.up_job.specs.Named.{place_of as placed_by}
use Rattle.up_job.specs.declared.instance.Instance.{Instance as Kept}
use Rattle.up_job.specs.declared.instance_key.InstanceKey.{InstanceKey}
use Rattle.up_job.specs.declared.instances.JobInstances.{JobInstances}
use Rattle.up_model.specs.Chronicle.{Chronicle}
use Rattle.up_model.specs.Configuration.{Configuration}
use Rattle.up_model.specs.Instances.{Instance, instances_of, instance_named, place_named}
use Rattle.up_model.specs.Held.{is_spoilt}
use Rattle.up_model.specs.Queue.{Live, queue}
use Rattle.up_model.specs.Readings.{event_at}
use Rattle.up_model.specs.Replies.{waiter}
use Rattle.up_model.specs.Values.{Bytes}
use Rattle.up_model.specs.declared.event.Event.{Event}
use Rattle.up_model.specs.declared.event_id.EventId.{EventId}
use Rattle.up_ledger.specs.declared.past.Past.{Past}
use Rattle.up_ledger.specs.Eventing.{Standing, standing_of, standing_at, number_of, finished_at, place_of}
use Rattle.up_book.specs.Keeps.{KeepsJobs, instance_in, place_at}
use Rattle.up_book.specs.Keys.{called}
use Rattle.up_ledger.specs.Standing.{Forgets, event_place, instance_place}
use Rattle.up_book.specs.Summaries.{JobSummary, summary, job_summary}
use Rattle.up_book.specs.Views.{Places, view, job_view}
use Rattle.up_book.proofs.Lists.{map-nth, nth-map}
use Rattle.up_ledger.proofs.MadeTriggers.{names-same}
use Rattle.up_ledger.proofs.Standing.{head-same, tail-same}
use Rattle.up_ledger.proofs.Whole.{map-length}

-- what stands at the place of an id
standing-in : (events : List LiveEvent) (lives : List Live) (c : Chronicle) (id : EventId) (p : ℕ) (live : LiveEvent) → map standing_of events ≡ map (standing_at c) lives → place_of events lives id ≡ Some p → named id events ≡ Some live
    → (l : Live) × (l.place ≡ p) × (standing_of live ≡ standing_at c l)
standing-in [] lives c id p live same placed there = absurd cc
standing-in (e ∷ events) [] c id p live same placed there = absurd cc
standing-in (e ∷ events) (l ∷ lives) c id p live same placed there = by_case (e.id.key == id.key) placed there (standing-in events lives c id p live (tail-same same))
  where
    by_case : (b : Bool) → (if b then Some l.place else place_of events lives id) ≡ Some p → (if b then Some e else named id events) ≡ Some live
        → (place_of events lives id ≡ Some p → named id events ≡ Some live → (m : Live) × (m.place ≡ p) × (standing_of live ≡ standing_at c m)) → (m : Live) × (m.place ≡ p) × (standing_of live ≡ standing_at c m)
    by_case true placed there ih =
        let here : l.place ≡ p = cc in
        let its : e ≡ live = cc in
        (l, here, ap standing_of (sym its) ∙ head-same same)
    by_case false placed there ih = ih placed there

pub standing-known : (book : Past) (config : Configuration) (c : Chronicle) (id : EventId) (p : ℕ) (live : LiveEvent) → Forgets book config c → event_place book c id ≡ Some p → named id book.events ≡ Some live
    → (l : Live) × (l.place ≡ p) × (standing_of live ≡ standing_at c l)
standing-known book config c id p live f placed there = standing-in book.events (queue c) c id p live f.standings placed there

abbrev left_of : Event → Bool → Option ℕ → Finished
left_of event spoilt waits = record { event = event; spoilt = spoilt; waiter = waits }

left-same : (event : Event) (known : Option Event) (spoilt said : Bool) (waits asks : Option ℕ) → Some event ≡ known → spoilt ≡ said → waits ≡ asks
    → Some (left_of event spoilt waits) ≡ option_map (λ its. left_of its said asks) known
left-same event known spoilt said waits asks same its who = rw (sym same, its, who) refl

-- what is left of it when it finishes
finished-known : (book : Past) (config : Configuration) (c : Chronicle) (id : EventId) (p : ℕ) (live : LiveEvent) → Forgets book config c → event_place book c id ≡ Some p → named id book.events ≡ Some live
    → option_map outcome_of (named id book.events) ≡ finished_at p c
finished-known book config c id p live f placed there =
    let its = standing-known book config c id p live f placed there in
    let event : Some live.event ≡ event_at its.0.place c = ap (λ (s : Standing). s.event) its.2 in
    let spoilt : live.spoilt ≡ is_spoilt its.0.place c = ap (λ (s : Standing). s.spoilt) its.2 in
    let waits : live.waiter ≡ number_of (waiter its.0.place c) c = ap (λ (s : Standing). s.waiter) its.2 in
    ap (option_map outcome_of) there ∙ left-same live.event (event_at its.0.place c) live.spoilt (is_spoilt its.0.place c) live.waiter (number_of (waiter its.0.place c) c) event spoilt waits ∙ ap (λ n. finished_at n c) its.1

none-placed : (events : List LiveEvent) (lives : List Live) (id : EventId) (p : ℕ) → place_of events lives id ≡ Some p → named id events ≡ None → ⊥
none-placed [] lives id p placed none = absurd cc
none-placed (e ∷ events) [] id p placed none = absurd cc
none-placed (e ∷ events) (l ∷ lives) id p placed none = by_case (e.id.key == id.key) placed none (none-placed events lives id p)
  where
    by_case : (b : Bool) → (if b then Some l.place else place_of events lives id) ≡ Some p → (if b then Some e else named id events) ≡ None → (place_of events lives id ≡ Some p → named id events ≡ None → ⊥) → ⊥
    by_case true placed none ih = absurd cc
    by_case false placed none ih = ih placed none

pub event-lives : {X : Type 0} (book : Past) (c : Chronicle) (id : EventId) (p : ℕ) → event_place book c id ≡ Some p → named id book.events ≡ None → X
event-lives book c id p placed none = absurd (none-placed book.events (queue c) id p placed none)

pub finished-told : (book : Past) (config : Configuration) (c : Chronicle) (id : EventId) (p : ℕ) → Forgets book config c → event_place book c id ≡ Some p → option_map outcome_of (named id book.events) ≡ finished_at p c
finished-told book config c id p f placed = by_case (named id book.events) refl
  where
    by_case : (its : Option LiveEvent) → named id book.events ≡ its → option_map outcome_of (named id book.events) ≡ finished_at p c
    by_case None none = event-lives book c id p placed none
    by_case (Some live) there = finished-known book config c id p live f placed there

-- the job of a place, by what is kept and by the chronicle
pub record Job (places : Places) (jobs : List JobInstances) (config : Configuration) (c : Chronicle) (place : ℕ) (job : JobDef) : Type 0 where
  pub kept : JobInstances
  pub there : nth place jobs ≡ Some kept
  pub name : kept.name ≡ job.name
  pub same : map (view places) kept.instances ≡ map (summary c) (instances_of job.name c)

pub job-there : (places : Places) (jobs : List JobInstances) (config : Configuration) (c : Chronicle) (place : ℕ) (job : JobDef) → KeepsJobs places jobs config c → nth place config.jobs ≡ Some job → Job places jobs config c place job
job-there places jobs config c place job keeps there =
    let viewed : nth place (map (job_view places) jobs) ≡ Some (job_summary c job) = ap (nth place) keeps ∙ map-nth (job_summary c) place config.jobs job there in
    let its = nth-map (job_view places) place jobs (job_summary c job) viewed in
    record { kept = its.0; there = its.1; name = ap (λ (s : JobSummary). s.name) its.2; same = ap (λ (s : JobSummary). s.instances) its.2 }

-- how many instances it has
pub counts : (book : Past) (config : Configuration) (c : Chronicle) (place : ℕ) (job : JobDef) → Forgets book config c → nth place config.jobs ≡ Some job → length (instances_at place book.instances) ≡ length (instances_of job.name c)
counts book config c place job f there =
    let its = job-there (place_of book.events (queue c)) book.instances config c place job f.lives.jobs there in
    ap (λ o. length (list_of o)) its.there ∙ map-length (view (place_of book.events (queue c))) (summary c) its.kept.instances (instances_of job.name c) its.same

-- the one of a name
place_in : List Instance → ℕ → Option ℕ
place_in xs at = option_map {T = Instance} (λ x. x.place) (nth at xs)

found-in : (name : Bytes) (its : List Kept) (xs : List Instance) (f : ℕ → ℕ) (places : ℕ → Option ℕ) → ((at : ℕ) → places (f at) ≡ option_map {T = Instance} (λ x. x.place) (nth at xs))
    → map (λ (k : Kept). k.name) its ≡ map (λ (x : Instance). x.name) xs → option_map (λ at. places (f at)) (placed_by name_of name its) ≡ option_map Some (place_named name xs)
found-in name [] [] f places stand same = refl
found-in name [] (x ∷ xs) f places stand same = absurd cc
found-in name (k ∷ its) [] f places stand same = absurd cc
found-in name (k ∷ its) (x ∷ xs) f places stand same =
    let first : k.name ≡ x.name = cc in
    let rest : map (λ (k : Kept). k.name) its ≡ map (λ (x : Instance). x.name) xs = cc in
    by_case (bytes_eq k.name name) (bytes_eq x.name name) (ap (λ n. bytes_eq n name) first) (found-in name its xs (λ at. f (at + 1)) places (λ at. stand (at + 1) ∙ later at) rest)
  where
    later : (at : ℕ) → option_map {T = Instance} (λ y. y.place) (nth (at + 1) (x ∷ xs)) ≡ option_map {T = Instance} (λ y. y.place) (nth at xs)
    later at =
        let one : at + 1 ≡ suc at = omega arith in
        ap (λ n. option_map {T = Instance} (λ y. y.place) (nth n (x ∷ xs))) one

    twice : (o : Option ℕ) → option_map (λ at. places (f at)) (option_map (λ at. at + 1) o) ≡ option_map (λ at. places (f (at + 1))) o
    twice None = refl
    twice (Some at) = refl

    by_case : (b d : Bool) → b ≡ d → option_map (λ at. places (f (at + 1))) (placed_by name_of name its) ≡ option_map Some (place_named name xs)
        → option_map (λ at. places (f at)) (if b then Some 0 else option_map (λ at. at + 1) (placed_by name_of name its)) ≡ option_map Some (if d then Some x.place else place_named name xs)
    by_case true true same ih = ap Some (stand 0)
    by_case true false same ih = absurd cc
    by_case false true same ih = absurd cc
    by_case false false same ih = twice (placed_by name_of name its) ∙ ih

pub finds : (book : Past) (config : Configuration) (c : Chronicle) (place : ℕ) (job : JobDef) (name : Bytes) → Forgets book config c → nth place config.jobs ≡ Some job
    → option_map (instance_place book c) (key_of place name book.instances) ≡ option_map Some (instance_named (called job.name name) c)
finds book config c place job name f there =
    let places = place_of book.events (queue c) in
    let its = job-there places book.instances config c place job f.lives.jobs there in
    let key_at : ℕ → InstanceKey = λ at. record { job = place; at = at } in
    let stand : (at : ℕ) → place_at book.instances c (key_at at) ≡ option_map {T = Instance} (λ x. x.place) (nth at (instances_of job.name c)) =
    λ at. ap (λ o. option_map {T = Instance} (λ x. x.place) (instance_in at o c)) its.there ∙ ap (λ n. option_map {T = Instance} (λ x. x.place) (nth at (instances_of n c))) its.name in
    ap (λ o. option_map (instance_place book c) (option_map key_at (placed_by name_of name (list_of o)))) its.there
    ∙ once (placed_by name_of name its.kept.instances)
    ∙ found-in name its.kept.instances (instances_of job.name c) (λ at. at) (λ at. place_at book.instances c (key_at at)) stand (names-same places c its.kept.instances (instances_of job.name c) its.same)
  where
    once : (o : Option ℕ) → (let key_at : ℕ → InstanceKey = λ at. record { job = place; at = at } in option_map (instance_place book c) (option_map key_at o)) ≡ option_map (λ at. place_at book.instances c (record { job = place; at = at })) o
    once None = refl
    once (Some at) = refl

-- a key is of the job that was asked for
pub key-of-job : (job : ℕ) (name : Bytes) (jobs : List JobInstances) → IfSome (key_of job name jobs) (λ key. key.job ≡ job)
key-of-job job name jobs = by_place (placed_by name_of name (instances_at job jobs))
  where
    by_place : (o : Option ℕ) → IfSome (option_map (λ at. record { job = job; at = at }) o) (λ (key : InstanceKey). key.job ≡ job)
    by_place None = tt
    by_place (Some at) = refl
