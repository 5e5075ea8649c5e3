-- The goal of an instance changes, with what it holds.
use Rattle.std.proofs.Common.{◌≡◌, ℕ, zero, suc, ◌+◌, ◌≤◌, Bool, true, false, List, [], ◌∷◌, length, map, Option, None, Some, if◌then◌else◌, refl, sym, ◌∙◌, ap, arith}
use Rattle.up_job.specs.Changes.{changed, begun, is_starting}
use Rattle.up_job.specs.JobLists.{changed_in, changed_at}
use Rattle.up_job.specs.Lists.{with_at, nth}
use Rattle.up_event.specs.LiveEvents.{with_hold}
use Rattle.up_model.specs.declared.event_id.EventId.{EventId}
use Rattle.up_model.specs.Chronicle.{Chronicle, Entry}
use Rattle.up_model.specs.Clock as clock
use Rattle.up_model.specs.Configuration.{Configuration}
use Rattle.up_model.specs.Held.{is_spoilt}
use Rattle.up_model.specs.Queue.{queue}
use Rattle.up_model.proofs.QueueLaws.{queue_by_age}
use Rattle.up_ledger.specs.declared.past.Past.{Past}
use Rattle.up_job.specs.declared.change.Change.TheVariants as change
use Rattle.up_job.specs.declared.instance_key.InstanceKey.{InstanceKey}
use Rattle.up_job.specs.declared.holder.Holder.{Holder}
use Rattle.up_job.specs.declared.instances.JobInstances.{JobInstances}
use Rattle.up_job.specs.declared.instance.Instance.{Instance as Kept}
use Rattle.up_ledger.specs.Counting.{holder_uses, uses, start_uses}
use Rattle.up_ledger.specs.Remembering.{Remembered}
use Rattle.up_event.specs.LiveEvents.{AreDistinct}
use Rattle.up_model.specs.Chronicle.{Released}
use Rattle.up_model.specs.Readings.{holders}
use Rattle.up_book.specs.Summaries.{Summary, holding_at}
use Rattle.up_book.specs.Views.{holding_of}
use Rattle.up_ledger.proofs.Entering.{Is, brought, keeps-after, is-released-all}
use Rattle.up_ledger.proofs.Failing.{marked-all, standings-spoilt}
use Rattle.up_book.proofs.One.{There}
use Rattle.up_ledger.proofs.Turning.{matches}
use Rattle.up_ledger.proofs.Triggers.{remembered-agrees, remembered-later, remembered-changed}
use Rattle.up_marks.specs.declared.mark.Mark.{Mark}
use Rattle.up_marks.specs.Triggers.{uses_by}
use Rattle.up_model.specs.declared.state.State.{State}
use Rattle.up_job.specs.declared.change.Change.{Change}
use Rattle.up_ledger.specs.Eventing.{place_of, holds_of}
use Rattle.up_ledger.specs.Holding.{freed, all_changed, AllLive}
use Rattle.up_book.specs.Keeps.{AreOlder}
use Rattle.up_ledger.specs.Regular.{MayFollow}
use Rattle.up_ledger.specs.Standing.{Forgets, instance_place}
use Rattle.up_book.specs.Views.{Places, kept_in, kept_at}
use Rattle.up_ledger.proofs.Counting.{uses-changed}
use Rattle.up_ledger.proofs.Holds.{holds-all, frees-all, all-standings, all-places, all-same-places, mild-hold, mild-free}
use Rattle.up_ledger.proofs.Regulars.{regular-next}
use Rattle.up_ledger.proofs.Standing.{age-all, standings-later}
use Rattle.up_ledger.proofs.Whole.{keeps-agree, forgets-lives, uses-same}

-- what one change makes of all uses
uses-in : (id : EventId) (f : Kept → Kept) (place at : ℕ) (jobs : List JobInstances) (k : Kept) → kept_in at (nth place jobs) ≡ Some k
    → uses id (with_at place (changed_in at f) jobs) + (uses_by id k.stop_on + holder_uses id k.holders) ≡ uses id jobs + (uses_by id (f k).stop_on + holder_uses id (f k).holders)
uses-in id f place at [] k there = absurd cc
uses-in id f zero at (j ∷ jobs) k there = omega (arith, uses-changed id f at j.instances k there)
uses-in id f (suc place) at (j ∷ jobs) k there = omega (arith, uses-in id f place at jobs k there)

pub uses-at : (id : EventId) (f : Kept → Kept) (key : InstanceKey) (jobs : List JobInstances) (k : Kept) → kept_at key jobs ≡ Some k
    → uses id (changed_at key f jobs) + (uses_by id k.stop_on + holder_uses id k.holders) ≡ uses id jobs + (uses_by id (f k).stop_on + holder_uses id (f k).holders)
uses-at id f key jobs k there = uses-in id f key.job key.at jobs k there

-- an instance uses no more than is used
uses-most : (id : EventId) (key : InstanceKey) (jobs : List JobInstances) (k : Kept) → kept_at key jobs ≡ Some k → holder_uses id k.holders ≤ uses id jobs
uses-most id key jobs k there = let f : Kept → Kept = λ kept. record kept { holders = [] } in omega (arith, uses-at id f key jobs k there)

-- each change leaves the trigger
entered-trigger : (to : State) (k : Kept) (b : Bool) → (let x : Kept = record (if b then begun k else k) { state = to; restarted = false; kill_moment = None } in x).stop_on ≡ k.stop_on
entered-trigger to k true = refl
entered-trigger to k false = refl

pub same-trigger : (its : Change) (k : Kept) → (changed its k).stop_on ≡ k.stop_on
same-trigger (change.Starts environment holders) k = refl
same-trigger (change.Stops environment holders) k = refl
same-trigger change.Ends k = refl
same-trigger (change.Restarts holders) k = refl
same-trigger (change.Releases none) k = refl
same-trigger (change.Fails failure) k = refl
same-trigger (change.Enters state) k = entered-trigger state k (is_starting state)
same-trigger (change.Orders its) k = refl
same-trigger (change.Answers its pid) k = refl
same-trigger (change.Loses its) k = refl
same-trigger (change.Signals moment) k = refl
same-trigger (change.Waits event) k = refl
same-trigger (change.Respawns moment) k = refl

-- what is remembered after an entry that is such a change
pub remembered-so : (places : Places) (its : Change) (key : InstanceKey) (jobs after : List JobInstances) (starts : List (Option (List Mark))) (config : Configuration) (c : Chronicle) (i : ℕ) (e : Entry) → Is places config c i e its
    → after ≡ changed_at key (changed its) jobs → Remembered places jobs starts config c → Remembered places after starts config (e ∷ c)
remembered-so places its key jobs after starts config c i e is does r =
    rw does (remembered-changed places (changed its) key jobs starts config (e ∷ c) (same-trigger its) (remembered-later places jobs starts config c e (record { instances = is.instances; seen = is.seen }) r))

-- the entry is a change of an instance that leaves what it holds
pub forgets-change : (book after : Past) (config : Configuration) (c : Chronicle) (e : Entry) (key : InstanceKey) (i : ℕ) (its : Change) → Forgets book config c → instance_place book c key ≡ Some i
    → Is (place_of book.events (queue c)) config c i e its → AreOlder (length c) (brought e) → ((kept : Kept) → (changed its kept).holders ≡ kept.holders) → queue (e ∷ c) ≡ queue c → MayFollow config c e
    → ((p : ℕ) → is_spoilt p (e ∷ c) ≡ is_spoilt p c) → clock.now (e ∷ c) ≡ clock.now c → after.instances ≡ changed_at key (changed its) book.instances → after.starts ≡ book.starts → after.events ≡ book.events
    → after.reading ≡ book.reading → Forgets after config (e ∷ c)
forgets-change book after config c e key i its f found is new holders same follow spoilt clock_same does starts events reading =
    let places = place_of book.events (queue c) in
    forgets-lives book after config c e f (keeps-after places book.instances after.instances config c key i e its f.lives found is new does)
    (remembered-so places its key book.instances after.instances book.starts.items config c i e is does f.remembered) same follow spoilt clock_same
    (λ id. ap (uses id) does ∙ uses-same id (changed its) (same-trigger its) holders key book.instances) starts events reading

-- the entry gives an instance these holders in place of those that it had
pub forgets-holders : (book after : Past) (config : Configuration) (c : Chronicle) (e : Entry) (key : InstanceKey) (i : ℕ) (its : Change) (k : Kept) (new : List Holder) → Forgets book config c
    → instance_place book c key ≡ Some i → Is (place_of book.events (queue c)) config c i e its → AreOlder (length c) (brought e) → kept_at key book.instances ≡ Some k → ((kept : Kept) → (changed its kept).holders ≡ new)
    → AllLive book.events new → queue (e ∷ c) ≡ queue c → MayFollow config c e → ((p : ℕ) → is_spoilt p (e ∷ c) ≡ is_spoilt p c) → clock.now (e ∷ c) ≡ clock.now c
    → after.instances ≡ changed_at key (changed its) book.instances → after.starts ≡ book.starts → after.events ≡ all_changed (freed false) k.holders (all_changed with_hold new book.events) → after.reading ≡ book.reading
    → Forgets after config (e ∷ c)
forgets-holders book after config c e key i its k new forgets found is brings there holders live same follow spoilt clock_same does starts events reading =
    let older = age-all (queue c) (length c) (queue_by_age c) in
    let held = all_changed with_hold new book.events in
    let old = place_of book.events (queue c) in
    let moved = place_of (all_changed (freed false) k.holders held) (queue c) in
    let agree : (id : EventId) → moved id ≡ old id =
    λ id. all-places (freed false) k.holders held (queue c) id mild-free ∙ all-places with_hold new book.events (queue c) id mild-hold in
    let lives = keeps-after old book.instances after.instances config c key i e its forgets.lives found is brings does in
    let remembered = remembered-so old its key book.instances after.instances book.starts.items config c i e is does forgets.remembered in
    record {
      lives = rw (events, same) (keeps-agree old moved after.instances config (e ∷ c) lives agree);
      remembered = rw (events, same, starts) (remembered-agrees old moved after.instances book.starts.items config (e ∷ c) (λ id used. agree id) remembered);
      standings = rw (events, same) (all-standings (freed false) k.holders held mild-free ∙ all-standings with_hold new book.events mild-hold ∙ forgets.standings ∙ sym (standings-later e c (queue c) forgets.regular.origins older spoilt));
      counted = λ id. rw (events, does, starts) (counted id);
      regular = regular-next config c e forgets.regular follow;
      reading = reading ∙ forgets.reading ∙ sym clock_same;
    }
  where
    enough : (id : EventId) → holder_uses id k.holders ≤ holds_of id (all_changed with_hold new book.events)
    enough id = omega (arith, uses-most id key book.instances k there, forgets.counted id, holds-all new book.events id live)

    counted : (id : EventId) → holds_of id (all_changed (freed false) k.holders (all_changed with_hold new book.events)) ≡ uses id (changed_at key (changed its) book.instances) + start_uses id book.starts.items
    counted id =
        let stop_marks : uses_by id (changed its k).stop_on ≡ uses_by id k.stop_on = ap (uses_by id) (same-trigger its k) in
        let new_uses : holder_uses id (changed its k).holders ≡ holder_uses id new = ap (holder_uses id) (holders k) in
        omega (arith, frees-all false k.holders (all_changed with_hold new book.events) id enough, holds-all new book.events id live, forgets.counted id, uses-at id (changed its) key book.instances k there, stop_marks, new_uses)

-- an instance that failed lets go what it held, which is spoilt by that
pub forgets-failed : (book after : Past) (config : Configuration) (c : Chronicle) (key : InstanceKey) (i : ℕ) (none : List Holder) (t : There (place_of book.events (queue c)) book.instances config c key i) → Forgets book config c
    → AreDistinct book.events → instance_place book c key ≡ Some i → none ≡ [] → after.instances ≡ changed_at key (changed (change.Releases none)) book.instances → after.starts ≡ book.starts
    → after.events ≡ all_changed (freed true) t.kept.holders book.events → after.reading ≡ book.reading → Forgets after config (Released i true ∷ c)
forgets-failed book after config c key i none t forgets distinct found empty does starts events reading =
    let older = age-all (queue c) (length c) (queue_by_age c) in
    let old = place_of book.events (queue c) in
    let moved = place_of (all_changed (freed true) t.kept.holders book.events) (queue c) in
    let its = change.Releases none in
    let is = is-released-all old config c i true none empty in
    let agree : (id : EventId) → moved id ≡ old id = λ id. all-same-places true t.kept.holders book.events (queue c) id in
    let lives = keeps-after old book.instances after.instances config c key i (Released i true) its forgets.lives found is tt does in
    let remembered = remembered-so old its key book.instances after.instances book.starts.items config c i (Released i true) is does forgets.remembered in
    let holds : map (holding_of old) t.kept.holders ≡ map (holding_at c) (holders i c) = ap (λ (s : Summary). s.holders) t.same ∙ ap (λ p. map (holding_at c) (holders p c)) t.place in
    record {
      lives = rw events (keeps-agree old moved after.instances config (Released i true ∷ c) lives agree);
      remembered = rw (events, starts) (remembered-agrees old moved after.instances book.starts.items config (Released i true ∷ c) (λ id used. agree id) remembered);
      standings = rw events (marked-all t.kept.holders book.events distinct enough ∙ standings-spoilt book.events c i t.kept.holders book.events (queue c) forgets.regular.origins older holds (matches book.events (queue c) c distinct forgets.standings));
      counted = λ id. rw (events, does, starts) (counted id);
      regular = regular-next config c (Released i true) forgets.regular (forgets.lives.older i);
      reading = reading ∙ forgets.reading;
    }
  where
    enough : (id : EventId) → holder_uses id t.kept.holders ≤ holds_of id book.events
    enough id = omega (arith, uses-most id key book.instances t.kept t.found, forgets.counted id)

    counted : (id : EventId) → holds_of id (all_changed (freed true) t.kept.holders book.events) ≡ uses id (changed_at key (changed (change.Releases none)) book.instances) + start_uses id book.starts.items
    counted id =
        let new_uses : holder_uses id none ≡ 0 = ap (holder_uses id) empty in
        omega (arith, frees-all true t.kept.holders book.events id enough, forgets.counted id, uses-at id (changed (change.Releases none)) key book.instances t.kept t.found, new_uses)
