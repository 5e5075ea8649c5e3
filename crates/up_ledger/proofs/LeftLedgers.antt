-- What a ledger stands for once an instance has left.
use Rattle.up_ledger.proofs.Names.{◌≡◌, ℕ, ◌==◌, Bool, true, false, List, [], ◌∷◌, ◌++◌, map, Option, None, Some}
use Rattle.up_ledger.proofs.Names.{if◌then◌else◌, refl, sym, ◌∙◌, ap, subst, arith, ◌&&◌, eqb-true, Event, Output}
use Rattle.up_ledger.proofs.Names.{Chronicle, Entry, Queued, Entered, Entering, Configuration, queue, holders}
use Rattle.up_ledger.proofs.Names.{releasing, status_of, Bytes, InstanceKey, HoldsOlder, instance_place, holding_at}
use Rattle.up_ledger.proofs.Names.{Places, holding_of, kept_at, place-keyed, There, Past, ActedOn, Exists, Gone, Asked}
use Rattle.up_ledger.proofs.Names.{place_of, held_by_kept, replies_to, OnMeans, IsGone, on_left, after_left, Forgets}
use Rattle.up_ledger.proofs.Names.{Asks}
use Rattle.up_model.specs.declared.output.Output.TheVariants as output
use Rattle.up_model.specs.declared.state.State.TheVariants as state
use Rattle.up_ledger.specs.Requesting.{same_key}
use Rattle.up_ledger.proofs.Entering.{older-after}
use Rattle.up_ledger.proofs.Frames.{holding-later}
use Rattle.up_ledger.proofs.Leaving.{forgets-gone}
use Rattle.up_ledger.proofs.Lifecycle.{keeps-left}
use Rattle.up_ledger.proofs.Outgoing.{entering-out, silent-out}
use Rattle.up_ledger.proofs.Requested.{status-apart, left-gone, other-gone, gone-later}
use Rattle.up_ledger.proofs.Runs.{step-released}
use Rattle.up_ledger.proofs.Shifting.{key-left}
use Rattle.up_ledger.proofs.StepFrames.{asks-same, step-more}
use Rattle.up_ledger.proofs.Ledgers.{keyed, there-so, exists-so, older-so, calm, kept-holders, held-outputs}
use Rattle.up_ledger.proofs.Ledgers.{forgets-released}

-- an instance leaves
key-eq : (key other : InstanceKey) → same_key key other ≡ true → key ≡ other
key-eq key other same = both (key.job == other.job) (key.at == other.at) refl refl same
  where
    both : (a b : Bool) → (key.job == other.job) ≡ a → (key.at == other.at) ≡ b → (a && b) ≡ true → key ≡ other
    both true true job at is =
        let jobs : key.job ≡ other.job = eqb-true key.job other.job job in
        let places : key.at ≡ other.at = eqb-true key.at other.at at in
        let make : ℕ → ℕ → InstanceKey = λ j a. record { job = j; at = a } in
        ap (λ j. make j key.at) jobs ∙ ap (λ a. make other.job a) places
    both true false job at is = absurd cc
    both false b job at is = absurd cc

key-refl : (key : InstanceKey) (other : InstanceKey) → same_key key other ≡ false → key.job ≡ other.job → key.at ≡ other.at → ⊥
key-refl key other differs job at = absurd_by (Rattle.std.proofs.Common.eq-eqb key.job other.job job) (Rattle.std.proofs.Common.eq-eqb key.at other.at at)
  where
    absurd_by : (key.job == other.job) ≡ true → (key.at == other.at) ≡ true → ⊥
    absurd_by a b =
        let yes : same_key key other ≡ true = rw (a, b) refl in
        let both : true ≡ false = sym yes ∙ differs in
        absurd cc

some-place : {a b : ℕ} → Some a ≡ Some b → a ≡ b
some-place e = cc

pub left-on : (past : Past) (config : Configuration) (c : Chronicle) (key : InstanceKey) (i : ℕ) (told : Bytes) (on : Option ActedOn) → Forgets past config c → instance_place config c key ≡ Some i
    → told ≡ status_of i (Entered i state.Waiting ∷ c) → OnMeans config c on → OnMeans config (Entered i state.Waiting ∷ c) (on_left key told on)
left-on past config c key i told None f found text means = means
left-on past config c key i told (Some (Gone other)) f found text means =
    let gone : IsGone means.0 c = means.3 in
    let e = Entered i state.Waiting in
    (means.0, means.1, status-apart means.0 e c (other-gone means.0 i c gone (exists-so past config c key i f found)) gone.0 ∙ means.2, gone-later means.0 e c gone)
left-on past config c key i told (Some (Exists on)) f found text means = by_case (same_key on key) refl
  where
    e : Entry
    e = Entered i state.Waiting

    places : Places
    places = place_of past.events (queue c)

    t : There places past.instances config c key i
    t = there-so past config c key i f found

    moved : (on.job ≡ key.job → on.at ≡ key.at → ⊥) → instance_place config (e ∷ c) (after_left key.job key.at on) ≡ Some means.0
    moved apart =
        let keeps = keeps-left places past.instances config c key.job key.at t.job t.its f.lives.jobs f.lives.distinct t.in_jobs f.lives.older t.in_instances in
        let d : Chronicle = Entered t.its.place state.Waiting ∷ c in
        let stands = key-left places past.instances config c key.job key.at t.job t.its on means.0 f.lives.jobs f.lives.distinct t.in_jobs t.in_instances apart (keyed past config c on means.0 f means.2) in
        subst (λ p. instance_place config (Entered p state.Waiting ∷ c) (after_left key.job key.at on) ≡ Some means.0) t.place
        (sym (place-keyed places _ config d (after_left key.job key.at on) keeps) ∙ stands)

    by_case : (b : Bool) → same_key on key ≡ b → OnMeans config (e ∷ c) (Some (if b then Gone told else Exists (after_left key.job key.at on)))
    by_case true same =
        let keys : on ≡ key = key-eq on key same in
        let one : i ≡ means.0 = some-place (sym found ∙ ap (instance_place config c) (sym keys) ∙ means.2) in
        (i, means.1 ∙ ap Some (sym one), sym text, left-gone i c (older-so past config c key i f found))
    by_case false differs = (means.0, means.1, moved (key-refl on key differs))

pub step-left : (outputs : List Output) (asked : Option Asked) (on : Option ActedOn) (past : Past) (config : Configuration) (c : Chronicle) (key : InstanceKey) (i : ℕ) (told : Bytes) → Forgets past config c → instance_place config c key ≡ Some i
    → told ≡ status_of i (Entered i state.Waiting ∷ c) → Asks outputs asked on config c → Asks outputs asked (on_left key told on) config (Entered i state.Waiting ∷ c)
step-left outputs asked on past config c key i told f found text s = record {
  outputs = s.outputs ∙ sym (silent-out config c (Entered i state.Waiting) tt);
  asked = s.asked;
  on = left-on past config c key i told on f found text s.on;
  unheld = s.unheld;
}

-- with its last event, and lets its holders go
pub step-leaves : (outputs : List Output) (asked : Option Asked) (on : Option ActedOn) (past : Past) (config : Configuration) (c : Chronicle) (key : InstanceKey) (i : ℕ) (told : Bytes) (event : Event) → Forgets past config c
    → instance_place config c key ≡ Some i → told ≡ status_of i (Entered i state.Waiting ∷ c) → Asks outputs asked on config c
    → (let d : Chronicle = Queued (Entering i state.Waiting) event ∷ Entered i state.Waiting ∷ c in
    Asks ((outputs ++ output.Emitted event ∷ []) ++ replies_to (held_by_kept (kept_at key past.instances)) false told) asked (on_left key told on) config (releasing i false d ++ d))
step-leaves outputs asked on past config c key i told event f found text s =
    let t = there-so past config c key i f found in
    let first : Entry = Entered i state.Waiting in
    let e : Entry = Queued (Entering i state.Waiting) event in
    let b : Chronicle = first ∷ c in
    let d : Chronicle = e ∷ b in
    let acted = on_left key told on in
    let left : Asks outputs asked acted config b = step-left outputs asked on past config c key i told f found text s in
    let outs = outputs ++ output.Emitted event ∷ [] in
    let emitted : Asks outs asked acted config d = step-more outputs (output.Emitted event ∷ []) asked acted config b e tt tt (calm config b e (λ job. refl) (λ j. refl) (λ j. refl)) (entering-out config b i state.Waiting event) left in
    let older = older-so past config c key i f found in
    let older_b : HoldsOlder i b = older-after first c tt f.lives.older i in
    let older_d : HoldsOlder i d = older-after e b tt (older-after first c tt f.lives.older) i in
    let same : map (holding_of (place_of past.events (queue c))) t.kept.holders ≡ map (holding_at d) (holders i c) =
    kept-holders past config c key i t ∙ sym (holding-later first c (holders i c) (f.lives.older i)) ∙ sym (holding-later e b (holders i c) older_b) in
    let words : status_of i d ≡ told = status-apart i e b refl (omega (arith, older)) ∙ sym text in
    asks-same (outs ++ replies_to t.kept.holders false told) _ asked asked acted acted config (releasing i false d ++ d) (held-outputs past config c key i t outs false told) refl refl
    (step-released outs asked acted (place_of past.events (queue c)) config d i false t.kept.holders told older_d same words emitted)

-- one that has left lets its holders go
pub forgets-left-released : (old past : Past) (config : Configuration) (c : Chronicle) (key : InstanceKey) (i : ℕ) (event : Event) → Forgets old config c → instance_place config c key ≡ Some i
    → (let d : Chronicle = Queued (Entering i state.Waiting) event ∷ Entered i state.Waiting ∷ c in Forgets past config d → Forgets past config (releasing i false d ++ d))
forgets-left-released old past config c key i event f found after =
    let first : Entry = Entered i state.Waiting in
    let e : Entry = Queued (Entering i state.Waiting) event in
    let gone : IsGone i (e ∷ first ∷ c) = gone-later i e (first ∷ c) (left-gone i c (older-so old config c key i f found)) in
    forgets-released past config (e ∷ first ∷ c) i false (forgets-gone past config (e ∷ first ∷ c) i after gone)
