-- What each entry changes of its instance.
use Rattle.std.proofs.Common.{◌≡◌, ℕ, ◌<◌, ◌≤◌, ◌==◌, Bool, true, false, List, [], ◌∷◌, length, map, Option, None, Some, if◌then◌else◌, refl, sym, ◌∙◌, ap, arith, eqb-true, eq-eqb, ne_eqb}
use Rattle.up_job.specs.Changes.{changed}
use Rattle.up_job.specs.JobLists.{changed_at}
use Rattle.std.proofs.lemmas.Bool.{eqb-false}
use Rattle.up_stanza.specs.declared.process.Process.{Process}
use Rattle.up_stanza.specs.declared.process.Process.TheVariants as process
use Rattle.up_model.specs.declared.failure.Failure.{Failure}
use Rattle.up_model.specs.declared.state.Goal.TheVariants.{Start, Stop}
use Rattle.up_model.specs.declared.state.State.{State}
use Rattle.up_model.specs.declared.state.State.TheVariants as state
use Rattle.up_model.specs.Chronicle.{Chronicle, Entry, Queued, Aimed, Restarted, Released, Failed, Entered, Ordered, Signalled, Expression, Entering}
use Rattle.up_model.specs.declared.event.Event.{Event}
use Rattle.up_model.specs.Clock.{now}
use Rattle.up_model.specs.Configuration.{Configuration}
use Rattle.up_model.specs.Instances.{Instance, instances_of}
use Rattle.up_model.specs.Readings.{holders, is_blocking}
use Rattle.up_model.specs.Seen.{seen}
use Rattle.up_model.specs.Values.{Bytes, Bindings}
use Rattle.up_job.specs.declared.change.Change.{Change}
use Rattle.up_job.specs.declared.change.Change.TheVariants as change
use Rattle.up_job.specs.declared.instance_key.InstanceKey.{InstanceKey}
use Rattle.up_job.specs.declared.holder.Holder.{Holder}
use Rattle.up_job.specs.declared.instances.JobInstances.{JobInstances}
use Rattle.up_model.specs.declared.event_id.EventId.{EventId}
use Rattle.up_model.specs.Predicates.{is_waiting}
use Rattle.up_book.specs.Keeps.{Keeps, AreOlder, HoldsOlder, place_at}
use Rattle.up_ledger.specs.Stepping.{stepped}
use Rattle.up_book.specs.Summaries.{summary, holding_at, blank}
use Rattle.up_book.specs.Views.{Places, holding_of, bindings_of}
use Rattle.up_ledger.proofs.Frames.{concerns, spared, holding-later}
use Rattle.up_book.proofs.One.{Touches, one, place_at-changed, there, nth-all, IsKnown, known-all, all-of}
use Rattle.up_ledger.proofs.Steps.{view-changed}

-- what an entry brings to be held
abbrev pub brought : Entry → List ℕ
brought (Aimed other goal env its) = its
brought (Restarted other its) = its
brought entry = []

older-suc : (e : Entry) (c : Chronicle) (places : List ℕ) → AreOlder (length c) places → AreOlder (length (e ∷ c)) places
older-suc e c [] all = tt
older-suc e c (place ∷ places) all = (omega (arith, all.0), older-suc e c places all.1)

older-if : (n : ℕ) (b : Bool) (xs ys : List ℕ) → AreOlder n xs → AreOlder n ys → AreOlder n (if b then xs else ys)
older-if n true xs ys one two = one
older-if n false xs ys one two = two

pub older-after : (e : Entry) (c : Chronicle) → AreOlder (length c) (brought e) → ((i : ℕ) → HoldsOlder i c) → (i : ℕ) → HoldsOlder i (e ∷ c)
older-after (Aimed other goal env its) c new old i =
    older-if (length (Aimed other goal env its ∷ c)) (other == i) its (holders i c) (older-suc (Aimed other goal env its) c its new) (older-suc (Aimed other goal env its) c (holders i c) (old i))
older-after (Restarted other its) c new old i =
    older-if (length (Restarted other its ∷ c)) (other == i) its (holders i c) (older-suc (Restarted other its) c its new) (older-suc (Restarted other its) c (holders i c) (old i))
older-after (Released other failed) c new old i = older-if (length (Released other failed ∷ c)) (other == i) [] (holders i c) tt (older-suc (Released other failed) c (holders i c) (old i))
older-after e c new old i = older-suc e c (holders i c) (old i)

-- an entry is what a change says of an instance
pub record Is (places : Places) (config : Configuration) (c : Chronicle) (i : ℕ) (e : Entry) (its : Change) : Type 0 where
  pub apart : (p : ℕ) → (i == p) ≡ false → concerns p e ≡ false
  pub instances : (job : Bytes) → instances_of job (e ∷ c) ≡ instances_of job c
  pub seen : (x : Expression) → seen config x (e ∷ c) ≡ seen config x c
  pub here : (x : Instance) → (i == x.place) ≡ true → summary (e ∷ c) x ≡ stepped places its (summary c x)

pub flipped : (p q : ℕ) → (p == q) ≡ false → (q == p) ≡ false
flipped p q apart = ne_eqb q p (λ e. eqb-false p q apart (sym e))

pub touches-by : (places : Places) (config : Configuration) (c : Chronicle) (place i : ℕ) (e : Entry) (its : Change) → Is places config c i e its → ((p : ℕ) → HoldsOlder p c)
    → Touches config c (e ∷ c) place i (stepped places its)
touches-by places config c place i e its is older = record {
  instances = is.instances;
  others = λ job. all-of (λ x. (x.place == i) ≡ false → summary (e ∷ c) x ≡ summary c x) (instances_of job.name c) (λ x apart. spared e c x (is.apart x.place (flipped x.place i apart)) (older x.place));
  here = λ x at. is.here x (eq-eqb i x.place (sym at));
}

-- the instance of a key is older than the end
pub place-older : (places : Places) (book : List JobInstances) (config : Configuration) (c : Chronicle) (key : InstanceKey) (i : ℕ) → Keeps places book config c → place_at book c key ≡ Some i → i < length c
place-older places book config c key i keeps found =
    let t = there places book config c key i keeps.jobs found in
    let its = nth-all (IsKnown t.job.name c) key.at (instances_of t.job.name c) t.its t.in_instances (known-all t.job.name c) in
    omega (arith, t.place, its.0)

pub later-after : (places : Places) (book : List JobInstances) (config : Configuration) (c : Chronicle) (i : ℕ) (e : Entry) → Keeps places book config c → i < length c
    → ((x : Instance) → (x.place == i) ≡ false → summary (e ∷ c) x ≡ summary c x) → (its : Instance) → length (e ∷ c) ≤ its.place → summary (e ∷ c) its ≡ blank its.file its.name
later-after places book config c i e keeps within same its past =
    same its (ne_eqb its.place i (λ p. omega (arith, past, within))) ∙ keeps.later its (omega (arith, past))

-- the book keeps one entry more
pub keeps-after : (places : Places) (book after : List JobInstances) (config : Configuration) (c : Chronicle) (key : InstanceKey) (i : ℕ) (e : Entry) (its : Change)
    → Keeps places book config c → place_at book c key ≡ Some i → Is places config c i e its → AreOlder (length c) (brought e)
    → after ≡ changed_at key (changed its) book → Keeps places after config (e ∷ c)
keeps-after places book after config c key i e its keeps found is new does =
    let t = touches-by places config c key.job i e its is keeps.older in
    record {
      jobs = rw does (one places (changed its) (stepped places its) book config c (e ∷ c) key i (view-changed places its) keeps.jobs keeps.distinct found t);
      older = older-after e c new keeps.older;
      later = later-after places book config c i e keeps (place-older places book config c key i keeps found) (λ x apart. spared e c x (is.apart x.place (flipped x.place i apart)) (keeps.older x.place));
      distinct = keeps.distinct;
    }

pub stays : (old after : List JobInstances) (c d : Chronicle) (key other : InstanceKey) (its : Change) (i : ℕ) → ((job : Bytes) → instances_of job d ≡ instances_of job c)
    → after ≡ changed_at key (changed its) old → place_at old c other ≡ Some i → place_at after d other ≡ Some i
stays old after c d key other its i same does found =
    ap (λ jobs. place_at jobs d other) does ∙ place_at-changed key other (changed its) old c d same ∙ found

-- the entries
pub is-entered : (places : Places) (config : Configuration) (c : Chronicle) (i : ℕ) (to : State) → is_waiting to ≡ false → ((p : ℕ) → HoldsOlder p c)
    → Is places config c i (Entered i to) (change.Enters to)
is-entered places config c i to other older = record {
  apart = λ p apart. apart;
  instances = λ job. moved to other job;
  seen = λ x. refl;
  here = λ x same. by_state to x same;
}
  where
    moved : (its : State) → is_waiting its ≡ false → (job : Bytes) → instances_of job (Entered i its ∷ c) ≡ instances_of job c
    moved state.Waiting waits job = absurd cc
    moved its waits job = refl

    by_state : (its : State) (x : Instance) → (i == x.place) ≡ true → summary (Entered i its ∷ c) x ≡ stepped places (change.Enters its) (summary c x)
    by_state state.Starting x same = rw (same, holding-later (Entered i state.Starting) c (holders x.place c) (older x.place)) refl
    by_state its x same = rw (same, holding-later (Entered i its) c (holders x.place c) (older x.place)) refl

pub is-started : (places : Places) (config : Configuration) (c : Chronicle) (i : ℕ) (environment : Bindings) (its : List Holder) (events : List ℕ)
    → AreOlder (length c) events → map (holding_of places) its ≡ map (holding_at c) events → Is places config c i (Aimed i Start environment events) (change.Starts environment its)
is-started places config c i environment its events new same = record {
  apart = λ p apart. apart;
  instances = λ job. refl;
  seen = λ x. refl;
  here = λ x at. rw (at, holding-later (Aimed i Start environment events) c events new, same) refl;
}

pub is-stopped : (places : Places) (config : Configuration) (c : Chronicle) (i : ℕ) (environment : Option Bindings) (its : List Holder) (events : List ℕ)
    → AreOlder (length c) events → map (holding_of places) its ≡ map (holding_at c) events → Is places config c i (Aimed i Stop (bindings_of environment) events) (change.Stops environment its)
is-stopped places config c i environment its events new same = record {
  apart = λ p apart. apart;
  instances = λ job. refl;
  seen = λ x. refl;
  here = λ x at. rw (at, holding-later (Aimed i Stop (bindings_of environment) events) c events new, same) refl;
}

pub is-ended : (places : Places) (config : Configuration) (c : Chronicle) (i : ℕ) → ((p : ℕ) → HoldsOlder p c) → Is places config c i (Aimed i Stop [] (holders i c)) change.Ends
is-ended places config c i older = record {
  apart = λ p apart. apart;
  instances = λ job. refl;
  seen = λ x. refl;
  here = λ x at.
      let mine : holders i c ≡ holders x.place c = ap (λ p. holders p c) (eqb-true i x.place at) in
      rw (at, holding-later (Aimed i Stop [] (holders i c)) c (holders i c) (older i), mine) refl;
}

pub is-restarted : (places : Places) (config : Configuration) (c : Chronicle) (i : ℕ) (its : List Holder) (events : List ℕ)
    → AreOlder (length c) events → map (holding_of places) its ≡ map (holding_at c) events → Is places config c i (Restarted i events) (change.Restarts its)
is-restarted places config c i its events new same = record {
  apart = λ p apart. apart;
  instances = λ job. refl;
  seen = λ x. refl;
  here = λ x at. rw (at, holding-later (Restarted i events) c events new, same) refl;
}

pub is-released : (places : Places) (config : Configuration) (c : Chronicle) (i : ℕ) (failed : Bool) → Is places config c i (Released i failed) (change.Releases [])
is-released places config c i failed = record {
  apart = λ p apart. apart;
  instances = λ job. refl;
  seen = λ x. refl;
  here = λ x at. rw at refl;
}

pub is-failed : (places : Places) (config : Configuration) (c : Chronicle) (i : ℕ) (failure : Failure) → ((p : ℕ) → HoldsOlder p c) → Is places config c i (Failed i failure) (change.Fails failure)
is-failed places config c i failure older = record {
  apart = λ p apart. apart;
  instances = λ job. refl;
  seen = λ x. refl;
  here = λ x at. rw (at, holding-later (Failed i failure) c (holders x.place c) (older x.place)) refl;
}

pub is-ordered : (places : Places) (config : Configuration) (c : Chronicle) (i : ℕ) (its : Process) → ((p : ℕ) → HoldsOlder p c) → Is places config c i (Ordered i its) (change.Orders its)
is-ordered places config c i its older = record {
  apart = λ p apart. apart;
  instances = λ job. refl;
  seen = λ x. refl;
  here = λ x at. by_process its x at;
}
  where
    by_process : (p : Process) (x : Instance) → (i == x.place) ≡ true → summary (Ordered i p ∷ c) x ≡ stepped places (change.Orders p) (summary c x)
    by_process process.Main x at = rw (at, holding-later (Ordered i process.Main) c (holders x.place c) (older x.place)) refl
    by_process process.PreStart x at = rw (at, holding-later (Ordered i process.PreStart) c (holders x.place c) (older x.place)) refl
    by_process process.PostStart x at = rw (at, holding-later (Ordered i process.PostStart) c (holders x.place c) (older x.place)) refl
    by_process process.PreStop x at = rw (at, holding-later (Ordered i process.PreStop) c (holders x.place c) (older x.place)) refl
    by_process process.PostStop x at = rw (at, holding-later (Ordered i process.PostStop) c (holders x.place c) (older x.place)) refl

pub is-signalled : (places : Places) (config : Configuration) (c : Chronicle) (i signal : ℕ) → ((p : ℕ) → HoldsOlder p c) → Is places config c i (Signalled i signal false) (change.Signals (Some (now c)))
is-signalled places config c i signal older = record {
  apart = λ p apart. apart;
  instances = λ job. refl;
  seen = λ x. refl;
  here = λ x at. rw (at, holding-later (Signalled i signal false) c (holders x.place c) (older x.place)) refl;
}

pub is-killed : (places : Places) (config : Configuration) (c : Chronicle) (i signal : ℕ) → ((p : ℕ) → HoldsOlder p c) → Is places config c i (Signalled i signal true) (change.Signals None)
is-killed places config c i signal older = record {
  apart = λ p apart. apart;
  instances = λ job. refl;
  seen = λ x. refl;
  here = λ x at. rw (at, holding-later (Signalled i signal true) c (holders x.place c) (older x.place)) refl;
}

-- the own event of an instance, of which the id stands for the end of the chronicle
pub is-blocked : (places : Places) (config : Configuration) (c : Chronicle) (i : ℕ) (to : State) (event : Event) (id : EventId) → is_blocking to ≡ true → places id ≡ Some (length c)
    → ((p : ℕ) → HoldsOlder p c) → Is places config c i (Queued (Entering i to) event) (change.Waits (Some id))
is-blocked places config c i to event id blocking place older = record {
  apart = λ p apart. rw apart refl;
  instances = λ job. refl;
  seen = λ x. refl;
  here = λ x at. rw (at, blocking, place, holding-later (Queued (Entering i to) event) c (holders x.place c) (older x.place)) refl;
}

pub is-entered-moved : (to : State) (i : ℕ) (c : Chronicle) → is_waiting to ≡ false → (job : Bytes) → instances_of job (Entered i to ∷ c) ≡ instances_of job c
is-entered-moved state.Waiting i c waits job = absurd cc
is-entered-moved to i c waits job = refl

pub is-signalled-at : (places : Places) (config : Configuration) (c : Chronicle) (i signal moment : ℕ) → moment ≡ now c → ((p : ℕ) → HoldsOlder p c)
    → Is places config c i (Signalled i signal false) (change.Signals (Some moment))
is-signalled-at places config c i signal moment so older = rw so (is-signalled places config c i signal older)

pub is-released-all : (places : Places) (config : Configuration) (c : Chronicle) (i : ℕ) (failed : Bool) (none : List Holder) → none ≡ [] → Is places config c i (Released i failed) (change.Releases none)
is-released-all places config c i failed none so = rw so (is-released places config c i failed)
