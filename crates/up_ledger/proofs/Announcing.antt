-- An instance emits an event on entering a state.
use Rattle.std.proofs.Common.{◌≡◌, ℕ, ◌+◌, ◌==◌, ◌&&◌, Bool, true, false, [], ◌∷◌, ◌++◌, length, Option, None, Some, if◌then◌else◌, List, refl, sym, ◌∙◌, ap, arith, eqb-true}
use Rattle.up_job.specs.Changes.{changed}
use Rattle.up_job.specs.JobLists.{changed_at}
use Rattle.up_event.specs.LiveEvents.{named, new_live}
use Rattle.up_event.specs.declared.live.LiveEvent.{LiveEvent}
use Rattle.up_model.specs.declared.event.Event.{Event}
use Rattle.up_model.specs.declared.event_id.EventId.{EventId}
use Rattle.up_model.specs.declared.state.State.{State}
use Rattle.up_model.specs.Chronicle.{Chronicle, Queued, Entering}
use Rattle.up_model.specs.Configuration.{Configuration}
use Rattle.up_model.specs.Queue.{Live, live_at, queue}
use Rattle.up_model.specs.Readings.{holders, is_blocking}
use Rattle.up_job.specs.declared.change.Change.TheVariants as change
use Rattle.up_job.specs.declared.instance_key.InstanceKey.{InstanceKey}
use Rattle.up_ledger.specs.declared.past.Past.{Past}
use Rattle.up_ledger.specs.Counting.{start_uses}
use Rattle.up_ledger.specs.Eventing.{standing_of, standing_at, place_of}
use Rattle.up_ledger.specs.Standing.{Forgets, instance_place}
use Rattle.up_ledger.proofs.Entering.{is-blocked, keeps-after}
use Rattle.up_ledger.proofs.Frames.{holding-later}
use Rattle.up_ledger.proofs.Closing.{named-there}
use Rattle.up_ledger.proofs.Placing.{place-new, place-queued, used-queued}
use Rattle.up_ledger.proofs.Regulars.{regular-next}
use Rattle.up_ledger.proofs.Standing.{standings-queued}
use Rattle.up_ledger.proofs.Starting.{remembered-so, same-trigger}
use Rattle.up_ledger.proofs.Triggers.{remembered-agrees}
use Rattle.up_ledger.proofs.Whole.{Passes, keeps-queued, forgets-queued, map-length, holds-pushed, uses-same}

-- which it doesn't wait for
no-wait : (b : Bool) (x y : Option ℕ) → (if b && false then x else y) ≡ y
no-wait true x y = refl
no-wait false x y = refl

unblocking : (config : Configuration) (c : Chronicle) (i : ℕ) (to : State) (event : Event) → is_blocking to ≡ false → Passes config c (Queued (Entering i to) event)
unblocking config c i to event free = record {
  spares = λ x older. rw (free, no-wait (i == x.place) (Some (length c)) _, holding-later (Queued (Entering i to) event) c (holders x.place c) older) refl;
  instances = λ job. refl;
  seen = λ x. refl;
}

pub forgets-emitted : (book after : Past) (config : Configuration) (c : Chronicle) (i : ℕ) (to : State) (event : Event) (id : EventId) → Forgets book config c → is_blocking to ≡ false → named id book.events ≡ None
    → after.events ≡ book.events ++ new_live id event None ∷ [] → after.instances ≡ book.instances → after.starts ≡ book.starts → after.reading ≡ book.reading → Forgets after config (Queued (Entering i to) event ∷ c)
forgets-emitted book after config c i to event id f free fresh does lives starts reading =
    forgets-queued book after config c id event (Entering i to) None f tt (unblocking config c i to event free) refl fresh does lives starts reading

-- or that it waits for
pub forgets-blocked : (book after : Past) (config : Configuration) (c : Chronicle) (key : InstanceKey) (i : ℕ) (to : State) (event : Event) (id : EventId) → Forgets book config c → instance_place book c key ≡ Some i
    → is_blocking to ≡ true → named id book.events ≡ None → after.events ≡ book.events ++ new_live id event None ∷ []
    → after.instances ≡ changed_at key (changed (change.Waits (Some id))) book.instances → after.starts ≡ book.starts → after.reading ≡ book.reading → Forgets after config (Queued (Entering i to) event ∷ c)
forgets-blocked book after config c key i to event id f found blocking fresh events does starts reading =
    let count = map-length standing_of (standing_at c) book.events (queue c) f.standings in
    let e = Queued (Entering i to) event in
    let its = change.Waits (Some id) in
    let live = new_live id event None in
    let old = place_of book.events (queue c) in
    let new = place_of (book.events ++ live ∷ []) (queue c ++ live_at (length c) false ∷ []) in
    let is = is-blocked new config c i to event id blocking (place-new book.events (queue c) live (length c) count fresh) f.lives.older in
    let lives = keeps-queued book.instances book.events config c c live (length c) f.lives count (λ other used. omega (arith, f.counted other, used)) fresh in
    let remembered = remembered-agrees old new book.instances book.starts.items config c (λ other used. used-queued book.events (queue c) live (length c) other count fresh (omega (arith, f.counted other, used))) f.remembered in
    record {
      lives = rw events (keeps-after new book.instances after.instances config c key i e its lives found is tt does);
      remembered = rw (events, starts) (remembered-so new its key book.instances after.instances book.starts.items config c i e is does remembered);
      standings = rw events (standings-queued book.events c id event (Entering i to) None f.regular.origins f.standings (f.regular.unspoilt (length c) (omega arith)) refl);
      counted = λ other. rw (events, does, starts)
          (holds-pushed id other event None book.events fresh ∙ f.counted other ∙ ap (λ n. n + start_uses other book.starts.items) (sym (uses-same other (changed its) (same-trigger its) (λ k. refl) key book.instances)));
      regular = regular-next config c e f.regular tt;
      reading = reading ∙ f.reading;
    }

-- where other events were queued stays
pub pushed-place : (events : List LiveEvent) (lives : List Live) (live : LiveEvent) (place : ℕ) (k : EventId) (j : ℕ) → length events ≡ length lives → named live.id events ≡ None → place_of events lives k ≡ Some j
    → place_of (events ++ live ∷ []) (lives ++ live_at place false ∷ []) k ≡ Some j
pushed-place events lives live place k j same fresh found = place-queued events lives live place k same (apart (live.id.key == k.key) refl) ∙ found
  where
    with_key : ℕ → EventId
    with_key key = record { key = key }

    apart : (b : Bool) → (live.id.key == k.key) ≡ b → b ≡ false
    apart true keys =
        let none : named k events ≡ None = ap (λ key. named (with_key key) events) (sym (eqb-true live.id.key k.key keys)) ∙ fresh in
        let there = named-there events lives k j found in
        let both : None ≡ Some there.0 = sym none ∙ there.1 in
        absurd cc
    apart false differs = refl

pub pushed-so : (past : Past) (config : Configuration) (c : Chronicle) (id : EventId) (event : Event) (waits : Option ℕ) (news : List LiveEvent) (k : EventId) (j : ℕ) → Forgets past config c → named id past.events ≡ None
    → news ≡ past.events ++ new_live id event waits ∷ [] → place_of past.events (queue c) k ≡ Some j → place_of news (queue c ++ live_at (length c) false ∷ []) k ≡ Some j
pushed-so past config c id event waits news k j f fresh does found =
    ap (λ events. place_of events (queue c ++ live_at (length c) false ∷ []) k) does
    ∙ pushed-place past.events (queue c) (new_live id event waits) (length c) k j (map-length standing_of (standing_at c) past.events (queue c) f.standings) fresh found
