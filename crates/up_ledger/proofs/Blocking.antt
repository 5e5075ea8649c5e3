-- Which instance waits for an event.
use Rattle.std.proofs.Common.{◌≡◌, ℕ, zero, suc, true, false, List, [], ◌∷◌, map, Option, None, Some, option_map, refl, sym, ◌∙◌, ap, eqb-true, eq-eqb}
use Rattle.up_job.specs.JobLists.{list_of}
use Rattle.up_job.specs.Lists.{nth}
use Rattle.up_job.specs.Unblocking.{is_event, is_blocked, IsBlocked}
use Rattle.up_job.specs.declared.instance.Instance.{Instance as Kept}
use Rattle.up_job.specs.declared.instance_key.InstanceKey.{InstanceKey}
use Rattle.up_job.specs.declared.instances.JobInstances.{JobInstances}
use Rattle.up_model.specs.declared.event_id.EventId.{EventId}
use Rattle.up_model.specs.Chronicle.{Chronicle}
use Rattle.up_model.specs.Configuration.{Configuration}
use Rattle.up_model.specs.Instances.{Instance, instances_of}
use Rattle.up_model.specs.Queue.{queue}
use Rattle.up_model.specs.Readings.{blocker}
use Rattle.up_ledger.specs.Eventing.{place_of}
use Rattle.up_book.specs.Keeps.{KeepsJobs, place_at}
use Rattle.up_ledger.specs.Standing.{Forgets, event_place}
use Rattle.up_book.specs.Summaries.{JobSummary, summary, job_summary, known}
use Rattle.up_book.specs.Unblocking.{IsBlockedBy}
use Rattle.up_book.specs.Views.{Places, view, job_view, kept_at}
use Rattle.up_ledger.specs.declared.past.Past.{Past}
use Rattle.up_ledger.proofs.Counting.{Names}
use Rattle.up_book.proofs.Keyed.{place-keyed}
use Rattle.up_ledger.proofs.Knowing.{knows}
use Rattle.up_book.proofs.One.{there}
use Rattle.up_ledger.proofs.Placing.{names}

-- two lists that are seen alike have their items at the same places
map-nth : {X Y Z : Type 0} (f : X → Z) (g : Y → Z) (xs : List X) (ys : List Y) (n : ℕ) (x : X) → map f xs ≡ map g ys → nth n xs ≡ Some x → (y : Y) × (nth n ys ≡ Some y) × (f x ≡ g y)
map-nth f g [] ys n x same here = absurd cc
map-nth f g (a ∷ xs) [] n x same here = absurd cc
map-nth f g (a ∷ xs) (b ∷ ys) zero x same here =
    let first : f a ≡ g b = cc in
    let is : a ≡ x = cc in
    (b, refl, ap f (sym is) ∙ first)
map-nth f g (a ∷ xs) (b ∷ ys) (suc n) x same here =
    let rest : map f xs ≡ map g ys = cc in
    map-nth f g xs ys n x rest here

-- so what is kept of an instance is that of one that was made
record Made (config : Configuration) (c : Chronicle) (jobs : List JobInstances) (key : InstanceKey) : Type 0 where
  pub place : ℕ
  pub is : place_at jobs c key ≡ Some place

made-in : (places : Places) (jobs : List JobInstances) (config : Configuration) (c : Chronicle) (key : InstanceKey) (kept : Kept) → KeepsJobs places jobs config c → kept_at key jobs ≡ Some kept → Made config c jobs key
made-in places jobs config c key kept keeps found = by_job (nth key.job jobs) refl found
  where
    by_job : (o : Option JobInstances) → nth key.job jobs ≡ o → nth key.at (list_of o) ≡ Some kept → Made config c jobs key
    by_job None is found = absurd cc
    by_job (Some j) is found =
        let def = map-nth (job_view places) (job_summary c) jobs config.jobs key.job j keeps is in
        let alike : map (view places) j.instances ≡ map (summary c) (instances_of def.0.name c) = ap (λ (s : JobSummary). s.instances) def.2 in
        let named : j.name ≡ def.0.name = ap (λ (s : JobSummary). s.name) def.2 in
        let its = map-nth (view places) (summary c) j.instances (instances_of def.0.name c) key.at kept alike found in
        record {
          place = its.0.place;
          is = ap (λ (o : Option JobInstances). option_map {T = Instance} (λ x. x.place) (Rattle.up_book.specs.Keeps.instance_in key.at o c)) is
              ∙ ap (λ name. option_map {T = Instance} (λ x. x.place) (nth key.at (instances_of name c))) named ∙ ap (option_map {T = Instance} (λ x. x.place)) its.1;
        }

-- an id stands for an event that an instance waits for if the chronicle says so
with_key : ℕ → EventId
with_key key = record { key = key }

blocks : (places : Places) (id : EventId) (e : ℕ) (its : Option EventId) (o : Option ℕ) → Names places id e → option_map places its ≡ known o → is_event id its ≡ true → o ≡ Some e
blocks places id e None o n same is = absurd cc
blocks places id e (Some other) None n same is = absurd cc
blocks places id e (Some other) (Some p) n same is =
    let one : other.key ≡ id.key = eqb-true other.key id.key is in
    let place : places other ≡ Some e = ap (λ key. places (record { key = key })) one ∙ n.is in
    let its : places other ≡ Some p = cc in
    sym its ∙ place

blocked : (places : Places) (id : EventId) (e : ℕ) (its : Option EventId) (o : Option ℕ) → Names places id e → option_map places its ≡ known o → o ≡ Some e → is_event id its ≡ true
blocked places id e its None n same is = absurd cc
blocked places id e None (Some p) n same is = absurd cc
blocked places id e (Some other) (Some p) n same is =
    let place : places other ≡ Some p = cc in
    eq-eqb other.key id.key (n.alone other (place ∙ is))

by-kept : (id : EventId) (o : Option Kept) (kept : Kept) → o ≡ Some kept → is_blocked id o ≡ is_event id kept.blocker
by-kept id o kept is = ap (is_blocked id) is

some-kept : (id : EventId) (o : Option Kept) → is_blocked id o ≡ true → (kept : Kept) × (o ≡ Some kept) × (is_event id kept.blocker ≡ true)
some-kept id None is = absurd cc
some-kept id (Some kept) is = (kept, refl, is)

pub blocked-by : (past : Past) (config : Configuration) (c : Chronicle) (id : EventId) (e : ℕ) (on : Option InstanceKey) → Forgets past config c → event_place past c id ≡ Some e → IsBlocked id past.instances on → IsBlockedBy config e c on
blocked-by past config c id e None f found none = λ key i here blocks_.
    let places = place_of past.events (queue c) in
    let place : place_at past.instances c key ≡ Some i = place-keyed places past.instances config c key f.lives.jobs ∙ here in
    let t = there places past.instances config c key i f.lives.jobs place in
    let its = knows places past.instances config c key i t.kept f.lives place t.found in
    let yes : is_event id t.kept.blocker ≡ true = blocked places id e t.kept.blocker (blocker i c) (names past.events c id e found) its.blocker blocks_ in
    let no : is_event id t.kept.blocker ≡ false = sym (by-kept id (kept_at key past.instances) t.kept t.found) ∙ none key in
    absurd cc
blocked-by past config c id e (Some key) f found is =
    let places = place_of past.events (queue c) in
    let kept = some-kept id (kept_at key past.instances) is in
    let made = made-in places past.instances config c key kept.0 f.lives.jobs kept.1 in
    let its = knows places past.instances config c key made.place kept.0 f.lives made.is kept.1 in
    (made.place, sym (place-keyed places past.instances config c key f.lives.jobs) ∙ made.is, blocks places id e kept.0.blocker (blocker made.place c) (names past.events c id e found) its.blocker kept.2)
