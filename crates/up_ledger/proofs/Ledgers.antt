-- What a ledger stands for, one entry or one run of entries later.
use Rattle.up_ledger.proofs.Names.{◌≡◌, inl, ℕ, ◌<◌, ◌==◌, Bool, true, false, List, [], ◌∷◌, ◌++◌, length, map, Option}
use Rattle.up_ledger.proofs.Names.{None, Some, option_map, bytes_eq, if◌then◌else◌, refl, sym, ◌∙◌, ap, subst, arith}
use Rattle.up_ledger.proofs.Names.{append_assoc, AllByRecursion, JobDef, Process, LiveEvent, Event, EventId, Failure}
use Rattle.up_ledger.proofs.Names.{Input, Output, State, Chronicle, Entry, Given, Queued, Made, Released, Failed}
use Rattle.up_ledger.proofs.Names.{Entered, Ordered, Signalled, Replied, Outside, Configuration, job_named, Instance}
use Rattle.up_ledger.proofs.Names.{with_instance, instances_of, all_instances, outputs_of, is_waiting, queue, Live}
use Rattle.up_ledger.proofs.Names.{entry_at, file_of, holders, id_of, id_at, answering, answering_waiter, releasing}
use Rattle.up_ledger.proofs.Names.{if_waits, request_in, request_instance, status_if, status_of, waiter_in, Bytes}
use Rattle.up_ledger.proofs.Names.{count, bytes_same, releasing-all, same-append, InstanceKey, JobInstances}
use Rattle.up_ledger.proofs.Names.{new_instance, position_at, job_of, nth, Place, Holders, Taken, Client, Nobody}
use Rattle.up_ledger.proofs.Names.{IsFound, AreFound, AreDistinct, Stepping, job_at, instance_place, request_place}
use Rattle.up_ledger.proofs.Names.{held_as, listed, order_by, signal_by, status_by, Summary, holding_at, Places, view}
use Rattle.up_ledger.proofs.Names.{holding_of, kept_in, kept_at, place-keyed, job-there, There, there, its-file}
use Rattle.up_ledger.proofs.Names.{named-there, Ledger, Past, ActedOn, Exists, Asked, asked_in, asked_of, waiter_of}
use Rattle.up_ledger.proofs.Names.{number_of, place_of, held_by_kept, AreLeaves, Stands, replies_to, OnMeans, moved_on}
use Rattle.up_ledger.proofs.Names.{after_made, Forgets, Asks}
use Rattle.up_model.specs.declared.input.Input.TheVariants as input
use Rattle.up_model.specs.declared.state.State.TheVariants as state
use Rattle.up_model.proofs.Places.{all-without}
use Rattle.up_model.proofs.NameLaws.{all-with}
use Rattle.up_job.specs.declared.instance.Instance.{Instance as Kept}
use Rattle.up_book.specs.Keys.{Mode}
use Rattle.up_ledger.specs.Ledgers.{IsStepIn}
use Rattle.up_book.specs.Sending.{IsOrder, IsSignal}
use Rattle.up_ledger.specs.Standing as standing
use Rattle.up_ledger.proofs.Beginning.{new-blank}
use Rattle.up_ledger.proofs.Entering.{place-older}
use Rattle.up_ledger.proofs.Frames.{holding-later}
use Rattle.up_ledger.proofs.Leaving.{forgets-answered}
use Rattle.up_ledger.proofs.Making.{position-so}
use Rattle.up_ledger.proofs.Lifecycle.{keeps-made}
use Rattle.up_ledger.proofs.Outgoing.{IsSilent, ordered-out, signalled-out, silent-out, status-known}
use Rattle.up_ledger.proofs.Requested.{IsPlain, Mentions, status-apart, status-left, other-gone, on-later}
use Rattle.up_ledger.proofs.Runs.{IsMild, step-released}
use Rattle.up_ledger.proofs.Standing.{same-entry}
use Rattle.up_ledger.proofs.Shifting.{kept-name, key-made}
use Rattle.up_ledger.proofs.StepFrames.{Spares, IsUnasked, asks-same, step-silent, step-more, there-exists}

same-job : {a b : JobDef} → Some a ≡ Some b → a ≡ b
same-job e = cc

pub stood : (ledger : Ledger) (mode : Mode) (config : Configuration) (c : Chronicle) → Forgets ledger.past config c → AreLeaves ledger.index config.jobs → IsStepIn mode ledger.step config c → AreFound ledger.others config c
    → Stands ledger mode config c
stood ledger mode config c f index step found = record { past = f; index = index; step = step; found = found }

-- instances that stay are found
pub found-same : (others : List Place) (config : Configuration) (c d : Chronicle) → ((job : Bytes) → instances_of job d ≡ instances_of job c) → AreFound others config c → AreFound others config d
found-same others config c d same found = record { each = λ n job there. subst (AllByRecursion (IsFound others n job)) (sym (same job.name)) (found.each n job there) }

-- a release leaves the instances
pub mild-instances : (job : Bytes) (i : ℕ) (failed : Bool) (c : Chronicle) → instances_of job (releasing i failed c ++ c) ≡ instances_of job c
mild-instances job i failed c = same-append (instances_of job) IsMild (λ e d is. instances-mild e d is) (releasing i failed c) c (releasing-all IsMild (λ request answer. tt) i failed tt c)
  where
    instances-mild : (e : Entry) (d : Chronicle) → IsMild e → instances_of job (e ∷ d) ≡ instances_of job d
    instances-mild (Released instance failed) d is = refl
    instances-mild (Replied request answer) d is = refl
    instances-mild e d is = absurd is

-- and so does the answer to a client that waited
pub waiter-instances : (job : Bytes) (its : Option ℕ) (spoilt : Bool) (c : Chronicle) → instances_of job (answering_waiter its spoilt ++ c) ≡ instances_of job c
waiter-instances job None spoilt c = refl
waiter-instances job (Some request) spoilt c = refl

-- a new instance goes by the table
pub found-made : (others : List Place) (config : Configuration) (c : Chronicle) (place : ℕ) (file : JobDef) (name : Bytes) → AreDistinct config.jobs → job_at config place ≡ Some file → AreFound others config c → AreFound others config (Made file name ∷ c)
found-made others config c place file name distinct made found = record { each = λ n job there. by_case n job there (bytes_eq file.name job.name) refl (found.each n job there) }
  where
    new : Instance
    new = record { place = length c; name = name; file = file }

    by_case : (n : ℕ) (job : JobDef) → job_at config n ≡ Some job → (b : Bool) → bytes_eq file.name job.name ≡ b → AllByRecursion (IsFound others n job) (instances_of job.name c)
        → AllByRecursion (IsFound others n job) (if b then with_instance new (instances_of job.name c) else instances_of job.name c)
    by_case n job there true same all =
        let its : job_named file.name config.jobs ≡ Some file = named-there place config.jobs file (job-there config place file made) distinct in
        let mine : job_named job.name config.jobs ≡ Some job = named-there n config.jobs job (job-there config n job there) distinct in
        let one : file ≡ job = same-job (sym its ∙ ap (λ its_name. job_named its_name config.jobs) (bytes_same file.name job.name same) ∙ mine) in
        all-with (IsFound others n job) new (instances_of job.name c) (inl (ap (λ (j : JobDef). j.stop_on) one)) all
    by_case n job there false differs all = all

-- those that one has left are found
pub found-left : (others : List Place) (config : Configuration) (c : Chronicle) (i : ℕ) → AreFound others config c → AreFound others config (Entered i state.Waiting ∷ c)
found-left others config c i found = record { each = λ n job there. all-without (IsFound others n job) i (instances_of job.name c) (found.each n job there) }

-- a key of the table is one of what is kept
pub keyed : (past : Past) (config : Configuration) (c : Chronicle) (key : InstanceKey) (i : ℕ) → Forgets past config c → instance_place config c key ≡ Some i → standing.instance_place past c key ≡ Some i
keyed past config c key i f found = place-keyed (place_of past.events (queue c)) past.instances config c key f.lives.jobs ∙ found

pub there-so : (past : Past) (config : Configuration) (c : Chronicle) (key : InstanceKey) (i : ℕ) → Forgets past config c → instance_place config c key ≡ Some i → There (place_of past.events (queue c)) past.instances config c key i
there-so past config c key i f found = there (place_of past.events (queue c)) past.instances config c key i f.lives.jobs (keyed past config c key i f found)

pub exists-so : (past : Past) (config : Configuration) (c : Chronicle) (key : InstanceKey) (i : ℕ) → Forgets past config c → instance_place config c key ≡ Some i → 0 < count i (all_instances c)
exists-so past config c key i f found = there-exists (place_of past.events (queue c)) past.instances config c key i (there-so past config c key i f found)

pub older-so : (past : Past) (config : Configuration) (c : Chronicle) (key : InstanceKey) (i : ℕ) → Forgets past config c → instance_place config c key ≡ Some i → i < length c
older-so past config c key i f found = place-older (place_of past.events (queue c)) past.instances config c key i f.lives (keyed past config c key i f found)

-- an entry that asks for nothing
pub silent : (old : Ledger) (past : Past) (config : Configuration) (c : Chronicle) (e : Entry) → Stands old Stepping config c → Forgets past config (e ∷ c) → IsSilent e → IsPlain e → Spares config c e
    → Stands (record old { past = past }) Stepping config (e ∷ c)
silent old past config c e s f still plain spares = stood (record old { past = past }) Stepping config (e ∷ c) f s.index (step-silent old.step.outputs.items old.step.asked old.step.on config c e still plain spares s.step)
    (found-same old.others config c (e ∷ c) spares.instances s.found)

-- one that asks for something more
pub more : (old new : Ledger) (config : Configuration) (c : Chronicle) (e : Entry) (outs : List Output) → Stands old Stepping config c → Forgets new.past config (e ∷ c) → new.index ≡ old.index → new.others ≡ old.others → IsUnasked e → IsPlain e → Spares config c e
    → outputs_of (e ∷ c) ≡ outputs_of c ++ outs → new.step.outputs.items ≡ old.step.outputs.items ++ outs → new.step.asked ≡ old.step.asked → new.step.on ≡ old.step.on → Stands new Stepping config (e ∷ c)
more old new config c e outs s f index others unasked plain spares out outputs asked on =
    stood new Stepping config (e ∷ c) f (subst (λ its. AreLeaves its config.jobs) (sym index) s.index)
    (asks-same (old.step.outputs.items ++ outs) new.step.outputs.items old.step.asked new.step.asked old.step.on new.step.on config (e ∷ c) outputs asked on
    (step-more old.step.outputs.items outs old.step.asked old.step.on config c e unasked plain spares out s.step))
    (subst (λ its. AreFound its config (e ∷ c)) (sym others) (found-same old.others config c (e ∷ c) spares.instances s.found))

-- entries by which keys stand where they stood
pub calm : (config : Configuration) (c : Chronicle) (e : Entry) → ((job : Bytes) → instances_of job (e ∷ c) ≡ instances_of job c) → ((i : ℕ) → holders i (e ∷ c) ≡ holders i c) → ((i : ℕ) → Mentions i e ≡ false) → Spares config c e
calm config c e instances holds quiet = record { instances = instances; holders = holds; apart = λ i gone. quiet i }

-- a state other than waiting is entered
entered-instances : (job : Bytes) (i : ℕ) (to : State) (c : Chronicle) → is_waiting to ≡ false → instances_of job (Entered i to ∷ c) ≡ instances_of job c
entered-instances job i state.Waiting c is = absurd cc
entered-instances job i to c is = refl

pub spares-entered : (config : Configuration) (c : Chronicle) (i : ℕ) (to : State) → is_waiting to ≡ false → 0 < count i (all_instances c) → Spares config c (Entered i to)
spares-entered config c i to is exists = record { instances = λ job. entered-instances job i to c is; holders = λ j. refl; apart = λ j gone. other-gone j i c gone exists }

-- an order
pub ordered : (past : Past) (config : Configuration) (c : Chronicle) (key : InstanceKey) (i : ℕ) (job : JobDef) (its : Process) (out : Option Output) → Forgets past config c → instance_place config c key ≡ Some i
    → file_of i c ≡ Some job → IsOrder job (kept_at key past.instances) its out → outputs_of (Ordered i its ∷ c) ≡ outputs_of c ++ listed out
ordered past config c key i job its out f found file is =
    let t = there-so past config c key i f found in
    let order : (places : Places) → listed out ≡ order_by job (view places t.kept) its = subst (λ (k : Option Kept). IsOrder job k its out) t.found is in
    let one : t.its.file ≡ job = its-file (place_of past.events (queue c)) past.instances config c key i job t file in
    ap (λ p. outputs_of (Ordered p its ∷ c)) (sym t.place) ∙ ordered-out c key.at t.job t.its its t.in_instances
    ∙ ap (λ os. outputs_of c ++ os) (ap (λ s. order_by t.its.file s its) (sym t.same) ∙ ap (λ (j : JobDef). order_by j (view (place_of past.events (queue c)) t.kept) its) one ∙ sym (order (place_of past.events (queue c))))

-- a signal
kept-job : (at : ℕ) (o : Option JobInstances) (kept : Kept) → kept_in at o ≡ Some kept → (j : JobInstances) × (o ≡ Some j)
kept-job at None kept found = absurd cc
kept-job at (Some j) kept found = (j, refl)

pub signalled : (past : Past) (config : Configuration) (c : Chronicle) (key : InstanceKey) (i : ℕ) (signal : ℕ) (by_timer : Bool) (out : Option Output) → Forgets past config c → instance_place config c key ≡ Some i
    → IsSignal (nth key.job past.instances) (kept_at key past.instances) signal out → outputs_of (Signalled i signal by_timer ∷ c) ≡ outputs_of c ++ listed out
signalled past config c key i signal by_timer out f found is =
    let places = place_of past.events (queue c) in
    let t = there-so past config c key i f found in
    let j = kept-job key.at (nth key.job past.instances) t.kept t.found in
    let its = kept-name places past.instances config c key.job j.0 f.lives.jobs j.1 in
    let one : its.0 ≡ t.job = same-job (sym its.1 ∙ t.in_jobs) in
    let sent : IsSignal (Some j.0) (Some t.kept) signal out = subst (λ (k : Option Kept). IsSignal (Some j.0) k signal out) t.found (subst (λ (o : Option JobInstances). IsSignal o (kept_at key past.instances) signal out) j.1 is) in
    ap (λ p. outputs_of (Signalled p signal by_timer ∷ c)) (sym t.place) ∙ signalled-out config c key.at t.job t.its signal by_timer t.in_instances
    ∙ ap (λ os. outputs_of c ++ os) (ap (λ s. signal_by t.job s signal) (sym t.same) ∙ sym (sent places t.job (sym (its.2 ∙ ap (λ (job : JobDef). job.name) one))))

-- what clients read of an instance, by the name that is kept of its job
pub named-job : (past : Past) (config : Configuration) (c : Chronicle) (key : InstanceKey) (i : ℕ) (t : There (place_of past.events (queue c)) past.instances config c key i) → Forgets past config c → option_map job_of (nth key.job past.instances) ≡ Some t.job.name
named-job past config c key i t f =
    let j = kept-job key.at (nth key.job past.instances) t.kept t.found in
    let its = kept-name (place_of past.events (queue c)) past.instances config c key.job j.0 f.lives.jobs j.1 in
    let one : its.0 ≡ t.job = same-job (sym its.1 ∙ t.in_jobs) in
    ap (option_map job_of) j.1 ∙ ap Some (its.2 ∙ ap (λ (job : JobDef). job.name) one)

-- holders that are let go
pub kept-holders : (past : Past) (config : Configuration) (c : Chronicle) (key : InstanceKey) (i : ℕ) (t : There (place_of past.events (queue c)) past.instances config c key i)
    → map (holding_of (place_of past.events (queue c))) t.kept.holders ≡ map (holding_at c) (holders i c)
kept-holders past config c key i t = ap (λ (s : Summary). s.holders) t.same ∙ ap (λ p. map (holding_at c) (holders p c)) t.place

pub held-outputs : (past : Past) (config : Configuration) (c : Chronicle) (key : InstanceKey) (i : ℕ) (t : There (place_of past.events (queue c)) past.instances config c key i) (before : List Output) (failed : Bool) (told : Bytes)
    → before ++ replies_to (held_by_kept (kept_at key past.instances)) failed told ≡ before ++ replies_to t.kept.holders failed told
held-outputs past config c key i t before failed told = ap (λ (k : Option Kept). before ++ replies_to (held_by_kept k) failed told) t.found

pub released : (outputs : List Output) (asked : Option Asked) (on : Option ActedOn) (past : Past) (config : Configuration) (c : Chronicle) (key : InstanceKey) (i : ℕ) (failed : Bool) (told : Bytes) → Forgets past config c → instance_place config c key ≡ Some i
    → told ≡ status_of i c → Asks outputs asked on config c → Asks (outputs ++ replies_to (held_by_kept (kept_at key past.instances)) failed told) asked on config (releasing i failed c ++ c)
released outputs asked on past config c key i failed told f found text s =
    let t = there-so past config c key i f found in
    asks-same (outputs ++ replies_to t.kept.holders failed told) _ asked asked on on config (releasing i failed c ++ c) (held-outputs past config c key i t outputs failed told) refl refl
    (step-released outputs asked on (place_of past.events (queue c)) config c i failed t.kept.holders told (f.lives.older i) (kept-holders past config c key i t) (sym text) s)

pub forgets-released : (past : Past) (config : Configuration) (c : Chronicle) (i : ℕ) (failed : Bool) → Forgets past config (Released i failed ∷ c) → Forgets past config (releasing i failed c ++ c)
forgets-released past config c i failed f =
    subst (Forgets past config) (sym (append_assoc (answering (holders i c) failed (status_of i c) c) (Released i failed ∷ []) c)) (forgets-answered past config (holders i c) failed (status_of i c) c (Released i failed ∷ c) f)

-- one that failed lets them go
pub failed-so : (outputs : List Output) (asked : Option Asked) (on : Option ActedOn) (past next : Past) (config : Configuration) (c : Chronicle) (key : InstanceKey) (i : ℕ) (failure : Failure) (told : Bytes) → Forgets past config c
    → Forgets next config (Failed i failure ∷ c) → instance_place config c key ≡ Some i → told ≡ status_of i c → Asks outputs asked on config c
    → Asks (outputs ++ replies_to (held_by_kept (kept_at key past.instances)) true told) asked on config (releasing i true (Failed i failure ∷ c) ++ Failed i failure ∷ c)
failed-so outputs asked on past next config c key i failure told f next_f found text s =
    let t = there-so past config c key i f found in
    let e = Failed i failure in
    let between : Asks outputs asked on config (e ∷ c) = step-silent outputs asked on config c e tt tt (calm config c e (λ job. refl) (λ j. refl) (λ j. refl)) s in
    asks-same (outputs ++ replies_to t.kept.holders true told) _ asked asked on on config (releasing i true (e ∷ c) ++ e ∷ c) (held-outputs past config c key i t outputs true told) refl refl
    (step-released outputs asked on (place_of past.events (queue c)) config (e ∷ c) i true t.kept.holders told (next_f.lives.older i)
    (kept-holders past config c key i t ∙ sym (holding-later e c (holders i c) (f.lives.older i)))
    (status-apart i e c refl (older-so past config c key i f found) ∙ sym text) between)

-- an instance was made
pub step-made : (outputs : List Output) (asked : Option Asked) (on : Option ActedOn) (past : Past) (config : Configuration) (c : Chronicle) (place : ℕ) (job : JobDef) (name : Bytes) → Forgets past config c → nth place config.jobs ≡ Some job
    → Asks outputs asked on config c → Asks outputs asked (moved_on (after_made place (position_at name place past.instances)) on) config (Made job name ∷ c)
step-made outputs asked on past config c place job name f there s = record {
  outputs = s.outputs ∙ sym (silent-out config c (Made job name) tt);
  asked = s.asked;
  on = on-later config (Made job name) c on (after_made place (position_at name place past.instances)) tt moved (λ i gone. refl) s.on;
  unheld = s.unheld;
}
  where
    places : Places
    places = place_of past.events (queue c)

    d : Chronicle
    d = Made job name ∷ c

    new : Kept
    new = new_instance name job None

    moved : (key : InstanceKey) (i : ℕ) → on ≡ Some (Exists key) → request_instance c ≡ Some i → instance_place config c key ≡ Some i → instance_place config d (after_made place (position_at name place past.instances) key) ≡ Some i
    moved key i is acted found =
        let keeps = keeps-made places new past.instances config c place job name f.lives.jobs f.lives.distinct there f.lives.older
        (f.lives.later (record { place = length c; name = name; file = job }) (omega arith)) (new-blank places job name None) in
        let stands = key-made places past.instances config c place job new name key i f.lives.jobs f.lives.distinct there (keyed past config c key i f found) in
        ap (λ p. instance_place config d (after_made place p key)) (position-so past config c place job name f there)
        ∙ sym (place-keyed places _ config d _ keeps) ∙ stands

-- the client that waits for an event from outside
number-waits : (g : ℕ) (d : Chronicle) (given : Input) → entry_at g d ≡ Some (Given given) → number_of (if_waits g (request_in (entry_at g d))) d ≡ waiter_of (asked_in (Some given) false)
number-waits g d given there = ap (λ o. number_of (if_waits g (request_in o)) d) there ∙ by_input given there
  where
    by_wait : (b : Bool) (id : ℕ) → id_at g d ≡ Some id → number_of (if b then Some g else None) d ≡ (if b then Some id else None)
    by_wait true id number = number
    by_wait false id number = refl

    by_input : (its : Input) → entry_at g d ≡ Some (Given its) → number_of (if_waits g (request_in (Some (Given its)))) d ≡ waiter_of (asked_in (Some its) false)
    by_input (input.Request id request) here = by_wait request.wait id (ap id_of here)
    by_input (input.Emit other) here = refl
    by_input (input.Spawned who its pid) here = refl
    by_input (input.Refused who its) here = refl
    by_input (input.Ended who its how) here = refl
    by_input (input.Clock reading) here = refl
    by_input input.Turn here = refl
    by_input (input.Load id loaded) here = refl

pub waiter-known : (c : Chronicle) (given : Input) (event : Event)
    → number_of (waiter_in (Some (Queued (Outside (length c)) event)) (Queued (Outside (length c)) event ∷ Given given ∷ c)) (Queued (Outside (length c)) event ∷ Given given ∷ c) ≡ waiter_of (asked_of (Given given ∷ c))
waiter-known c given event =
    number-waits (length c) (Queued (Outside (length c)) event ∷ Given given ∷ c) given
    (same-entry (Queued (Outside (length c)) event) (Given given ∷ c) (length c) (omega arith)
    ∙ ap (λ b. if b then Some (Given given) else entry_at (length c) c) (Rattle.std.proofs.Common.eq-eqb (length c) (length c) refl))

-- what clients read of an instance
kept-same : {a b : Kept} → Some a ≡ Some b → a ≡ b
kept-same e = cc

pub status-so : (past : Past) (config : Configuration) (c : Chronicle) (key : InstanceKey) (i : ℕ) (kept : Kept) (told : Bytes) → Forgets past config c → standing.instance_place past c key ≡ Some i → kept_at key past.instances ≡ Some kept
    → ((places : Places) (its : JobDef) → option_map job_of (nth key.job past.instances) ≡ Some its.name → told ≡ status_by its (record (view places kept) { state = kept.state })) → told ≡ status_of i c
status-so past config c key i kept told f place found text =
    let places = place_of past.events (queue c) in
    let t = there places past.instances config c key i f.lives.jobs place in
    let one : kept ≡ t.kept = kept-same (sym found ∙ t.found) in
    text places t.job (named-job past config c key i t f) ∙ ap (λ (k : Kept). status_by t.job (view places k)) one ∙ ap (status_by t.job) t.same
    ∙ sym (status-known config c key.at t.job t.its t.in_instances) ∙ ap (λ p. status_of p c) t.place

pub last-status-so : (past : Past) (config : Configuration) (c : Chronicle) (key : InstanceKey) (i : ℕ) (kept : Kept) (told : Bytes) → Forgets past config c → standing.instance_place past c key ≡ Some i → kept_at key past.instances ≡ Some kept
    → ((places : Places) (its : JobDef) → option_map job_of (nth key.job past.instances) ≡ Some its.name → told ≡ status_by its (record (view places kept) { state = state.Waiting })) → told ≡ status_of i (Entered i state.Waiting ∷ c)
last-status-so past config c key i kept told f place found text =
    let places = place_of past.events (queue c) in
    let t = there places past.instances config c key i f.lives.jobs place in
    let one : kept ≡ t.kept = kept-same (sym found ∙ t.found) in
    let older : t.its.place < length c = subst (λ p. p < length c) (sym t.place) (place-older places past.instances config c key i f.lives place) in
    text places t.job (named-job past config c key i t f) ∙ ap (λ (k : Kept). status_by t.job (record (view places k) { state = state.Waiting })) one ∙ ap (λ (s : Summary). status_by t.job (record s { state = state.Waiting })) t.same
    ∙ sym (status-left config c key.at t.job t.its t.in_instances older) ∙ ap (λ p. status_of p (Entered p state.Waiting ∷ c)) t.place

-- a signal by the name that is kept of the job
sent-same : {a b : Bytes} → Some a ≡ Some b → a ≡ b
sent-same e = cc

pub sent-so : (o : Option JobInstances) (k : Option Kept) (name : Bytes) (kept : Kept) (signal : ℕ) (out : Option Output) → option_map job_of o ≡ Some name → k ≡ Some kept
    → ((places : Places) (its : JobDef) → its.name ≡ name → listed out ≡ signal_by its (view places kept) signal) → IsSignal o k signal out
sent-so None k name kept signal out named found sent = tt
sent-so (Some job) None name kept signal out named found sent = tt
sent-so (Some job) (Some other) name kept signal out named found sent =
    let one : kept ≡ other = kept-same (sym found) in
    λ places its its_name. sent places its (its_name ∙ sent-same named) ∙ ap (λ (x : Kept). signal_by its (view places x) signal) one

-- what the client is told of the instance that its request acted on
pub told-last : (config : Configuration) (c : Chronicle) (on : Option ActedOn) (key : InstanceKey) (text : Bytes) → on ≡ Some (Exists key) → OnMeans config c on
    → ((i : ℕ) → instance_place config c key ≡ Some i → text ≡ status_of i c) → text ≡ status_if (request_instance c) c
told-last config c on key text is means told =
    let its : OnMeans config c (Some (Exists key)) = subst (OnMeans config c) is means in
    told its.0 its.2 ∙ ap (λ o. status_if o c) (sym its.1)

-- where events were queued, by the ids of those that live
pub ids-place : (news olds : List LiveEvent) (lives : List Live) (k : EventId) → map (λ (live : LiveEvent). live.id) news ≡ map (λ (live : LiveEvent). live.id) olds → place_of news lives k ≡ place_of olds lives k
ids-place [] [] lives k same = refl
ids-place [] (e ∷ olds) lives k same = absurd cc
ids-place (e ∷ news) [] lives k same = absurd cc
ids-place (e ∷ news) (x ∷ olds) [] k same = refl
ids-place (e ∷ news) (x ∷ olds) (l ∷ lives) k same =
    let first : e.id ≡ x.id = cc in
    let rest : map (λ (live : LiveEvent). live.id) news ≡ map (λ (live : LiveEvent). live.id) olds = cc in
    ap (λ (id : EventId). if id.key == k.key then Some l.place else place_of news lives k) first ∙ ap (λ o. if x.id.key == k.key then Some l.place else o) (ids-place news olds lives k rest)

pub held-same : (new old : EventId → Option ℕ) (r s : Option ℕ) (who : Holders) → ((k : EventId) → new k ≡ old k) → r ≡ s → held_as new r who ≡ held_as old s who
held-same new old r s (Taken ids) same requests = each ids
  where
    each : (its : List EventId) → map new its ≡ map old its
    each [] = refl
    each (id ∷ its) = rw (same id, each its) refl
held-same new old r s Client same requests = ap (λ o. o ∷ []) requests
held-same new old r s Nobody same requests = refl

-- a release leaves the queue and the request
pub mild-queue : (i : ℕ) (failed : Bool) (c : Chronicle) → queue (releasing i failed c ++ c) ≡ queue c
mild-queue i failed c = same-append queue IsMild (λ e d is. queue-mild e d is) (releasing i failed c) c (releasing-all IsMild (λ request answer. tt) i failed tt c)
  where
    queue-mild : (e : Entry) (d : Chronicle) → IsMild e → queue (e ∷ d) ≡ queue d
    queue-mild (Released instance failed) d is = refl
    queue-mild (Replied request answer) d is = refl
    queue-mild e d is = absurd is

pub mild-request : (i : ℕ) (failed : Bool) (c : Chronicle) → request_place (releasing i failed c ++ c) ≡ request_place c
mild-request i failed c = same-append request_place IsMild (λ e d is. request-mild e d is) (releasing i failed c) c (releasing-all IsMild (λ request answer. tt) i failed tt c)
  where
    request-mild : (e : Entry) (d : Chronicle) → IsMild e → request_place (e ∷ d) ≡ request_place d
    request-mild (Released instance failed) d is = refl
    request-mild (Replied request answer) d is = refl
    request-mild e d is = absurd is
