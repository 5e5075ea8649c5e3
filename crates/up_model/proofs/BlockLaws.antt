-- An instance waits for an event of its own in starting and stopping alone, and does nothing before that has finished.
use Rattle.up_model.proofs.Names.{◌≡◌, ℕ, zero, suc, ◌==◌, Bool, true, false, not, List, [], ◌∷◌, ◌++◌, length}
use Rattle.up_model.proofs.Names.{Option, None, Some, is_some, if◌then◌else◌, refl, sym, ◌∙◌, ap, subst}
use Rattle.up_model.proofs.Names.{append_assoc, ◌&&◌, eq-eqb, nat_lt, eqb-true, filter, AllByRecursion, JobDef}
use Rattle.up_model.proofs.Names.{Process, Main, Sight, Event, Input, JobEvent, Start, State, Starting, Stopping}
use Rattle.up_model.proofs.Names.{Who, next, after, is_expected, after_all, Chronicle, Entry, Given, Queued}
use Rattle.up_model.proofs.Names.{Finished, Made, Aimed, Entered, Ordered, Signalled, Outside, Entering, Spoilt}
use Rattle.up_model.proofs.Names.{Offered, Fired, StartOn, StopOn, all_overdue, kill, killing, outcome_of}
use Rattle.up_model.proofs.Names.{entries_of, is_running, Configuration, turn_event, turn_of, end_by, due, effect}
use Rattle.up_model.proofs.Names.{env_of_job, instance_name, events_at, events_env, with_instance, stopped_by}
use Rattle.up_model.proofs.Names.{own_file, names_in_order, instance_named, Instance, instances_of, entering}
use Rattle.up_model.proofs.Names.{wait_in, in_force, loading, move_first, has_process, emitting, ordering, enter}
use Rattle.up_model.proofs.Names.{enter_whole, may_leave, next_of, who_of, move, move_of, move_in, is_over}
use Rattle.up_model.proofs.Names.{offering, offer_next, is_open, stop_of, stop_by, stop_offer, stop_offer_in}
use Rattle.up_model.proofs.Names.{max_instances, start_of, who_called, start_who, start_by, start_offer, start_env}
use Rattle.up_model.proofs.Names.{is_start, entries_if, or_else, queue, goal, state_of, blocker, holders}
use Rattle.up_model.proofs.Names.{is_blocking, lives, releasing, unanswered, answering_last, seen, holds, taken}
use Rattle.up_model.proofs.Names.{was_offered, Bindings, Bytes, work, settle}
use Rattle.up_model.specs.declared.failure.End.TheVariants as end
use Rattle.up_model.specs.declared.input.Input.TheVariants as input
use Rattle.up_model.specs.declared.life.EntryActions as table
use Rattle.up_model.specs.Blocks.{ActsUnblocked, unfinished}
use Rattle.up_model.specs.Clock.{is_killed, kill_due, overdue, has_passed, kill_moment, now, milliseconds}
use Rattle.up_model.specs.Moves.{job_event}
use Rattle.up_model.specs.Readings.{without}
use Rattle.up_model.proofs.ReplyLaws.{Allows, releasing-all, answering_hurried-all, start_of-all, stop_of-all}
use Rattle.up_model.proofs.ReplyLaws.{outcome-all}
use Rattle.up_model.proofs.Sparing.{all-append, all-if}
use Rattle.up_model.proofs.EffectLaws.{AllowsEnds, AllowsTurns, end_of-all, turn_of-all, loading-all}
use Rattle.up_model.proofs.JobOffers.{offer_in, offer_first, first-by-jobs}

-- an event, if there is one
abbrev pub listed : Option ℕ → List ℕ
listed None = []
listed (Some event) = event ∷ []

-- in a state that asks for no event of its own an instance waits for none; the one that it waits for is the only one of its own that
-- hasn't finished; and none did anything while it waited
pub record Keeps (c : Chronicle) : Type 0 where
  pub waiting : (instance : ℕ) → is_blocking (state_of instance c) ≡ false → blocker instance c ≡ None
  pub single : (instance : ℕ) → unfinished instance c ≡ listed (blocker instance c)
  pub patient : ActsUnblocked c

-- an event that finishes is waited for no longer
finished-listed : (event : ℕ) (waits : Option ℕ) → filter (λ other. not (other == event)) (listed waits) ≡ listed (without event waits)
finished-listed event None = refl
finished-listed event (Some other) = by_case (other == event)
  where
    by_case : (b : Bool) → (if not b then other ∷ [] else []) ≡ listed (if b then None else Some other)
    by_case true = refl
    by_case false = refl

-- an instance that waits for no event has none of its own that hasn't finished
none-unfinished : (p : ℕ) (c : Chronicle) → blocker p c ≡ None → Keeps c → unfinished p c ≡ []
none-unfinished p c free keeps = keeps.single p ∙ ap listed free

-- an entry by which no instance changes its state, comes to wait or does anything
abbrev IsIdle : Entry → Type 0
IsIdle (Queued (Entering instance entered) event) = ⊥
IsIdle (Entered instance entered) = ⊥
IsIdle (Ordered instance process) = ⊥
IsIdle (Signalled instance signal by_timer) = ⊥
IsIdle entry = Unit {0}

-- it leaves the rules kept
idle-keeps : (e : Entry) (c : Chronicle) → IsIdle e → Keeps c → Keeps (e ∷ c)
idle-keeps (Queued (Entering instance entered) event) c idle keeps = absurd idle
idle-keeps (Entered instance entered) c idle keeps = absurd idle
idle-keeps (Ordered instance process) c idle keeps = absurd idle
idle-keeps (Signalled instance signal by_timer) c idle keeps = absurd idle
idle-keeps (Finished event) c idle keeps = record {
  waiting = λ instance apart. ap (without event) (keeps.waiting instance apart);
  single = λ instance. ap (filter (λ other. not (other == event))) (keeps.single instance) ∙ finished-listed event (blocker instance c);
  patient = keeps.patient;
}
idle-keeps (Queued (Outside given) event) c idle keeps = record { waiting = keeps.waiting; single = keeps.single; patient = keeps.patient }
idle-keeps (Queued (Spoilt spoilt) event) c idle keeps = record { waiting = keeps.waiting; single = keeps.single; patient = keeps.patient }
idle-keeps e c idle keeps = record { waiting = keeps.waiting; single = keeps.single; patient = keeps.patient }

-- so do several
idles-keep : (es c : Chronicle) → AllByRecursion IsIdle es → Keeps c → Keeps (es ++ c)
idles-keep [] c idle keeps = keeps
idles-keep (e ∷ es) c idle keeps = idle-keeps e (es ++ c) idle.0 (idles-keep es c idle.1 keeps)

idle-allows : Allows IsIdle
idle-allows = record {
  replied = λ request answer. tt;
  released = λ instance failed. tt;
  aimed = λ instance aim environment its. tt;
  restarted = λ instance its. tt;
  queued = λ given event. tt;
}

-- a release is idle
releasing-idle : (p : ℕ) (failed : Bool) (c : Chronicle) → AllByRecursion IsIdle (releasing p failed c)
releasing-idle p failed c = releasing-all IsIdle (λ request answer. tt) p failed tt c

-- an instance that waits for no event enters a state
entered-keeps : (p : ℕ) (to : State) (c : Chronicle) → blocker p c ≡ None → Keeps c → Keeps (Entered p to ∷ c)
entered-keeps p to c free keeps = record {
  waiting = λ instance. by_case instance (p == instance) refl;
  single = keeps.single;
  patient = keeps.patient;
}
  where
    by_case : (instance : ℕ) (b : Bool) → (p == instance) ≡ b → is_blocking (if b then to else state_of instance c) ≡ false → blocker instance c ≡ None
    by_case instance true same apart = subst (λ place. blocker place c ≡ None) (eqb-true p instance same) free
    by_case instance false differs apart = keeps.waiting instance apart

-- it orders a process
ordered-keeps : (p : ℕ) (its : Process) (c : Chronicle) → blocker p c ≡ None → Keeps c → Keeps (Ordered p its ∷ c)
ordered-keeps p its c free keeps = record { waiting = keeps.waiting; single = keeps.single; patient = (none-unfinished p c free keeps, keeps.patient) }

-- its main gets a signal
signalled-keeps : (p signal : ℕ) (by_timer : Bool) (c : Chronicle) → blocker p c ≡ None → Keeps c → Keeps (Signalled p signal by_timer ∷ c)
signalled-keeps p signal by_timer c free keeps = record { waiting = keeps.waiting; single = keeps.single; patient = (none-unfinished p c free keeps, keeps.patient) }

-- an idle entry, or a signal to an instance that waits for no event in this chronicle
abbrev IsSafe : Chronicle → Entry → Type 0
IsSafe c (Queued (Entering instance entered) event) = ⊥
IsSafe c (Entered instance entered) = ⊥
IsSafe c (Ordered instance process) = ⊥
IsSafe c (Signalled instance signal by_timer) = blocker instance c ≡ None
IsSafe c entry = Unit {0}

-- by it no instance comes to wait
safe-free : (p : ℕ) (e : Entry) (c d : Chronicle) → IsSafe d e → blocker p c ≡ None → blocker p (e ∷ c) ≡ None
safe-free p (Queued (Entering instance entered) event) c d safe free = absurd safe
safe-free p (Entered instance entered) c d safe free = absurd safe
safe-free p (Ordered instance process) c d safe free = absurd safe
safe-free p (Queued (Outside given) event) c d safe free = free
safe-free p (Queued (Spoilt spoilt) event) c d safe free = free
safe-free p (Finished event) c d safe free = ap (without event) free
safe-free p e c d safe free = free

safes-free : (p : ℕ) (es c : Chronicle) → AllByRecursion (IsSafe c) es → blocker p c ≡ None → blocker p (es ++ c) ≡ None
safes-free p [] c safe free = free
safes-free p (e ∷ es) c safe free = safe-free p e (es ++ c) c safe.0 (safes-free p es c safe.1 free)

safe-keeps : (e : Entry) (c d : Chronicle) → IsSafe d e → ((p : ℕ) → blocker p d ≡ None → blocker p c ≡ None) → Keeps c → Keeps (e ∷ c)
safe-keeps (Signalled p signal by_timer) c d safe free keeps = signalled-keeps p signal by_timer c (free p safe) keeps
safe-keeps (Queued (Entering instance entered) event) c d safe free keeps = absurd safe
safe-keeps (Queued (Outside given) event) c d safe free keeps = idle-keeps (Queued (Outside given) event) c tt keeps
safe-keeps (Queued (Spoilt spoilt) event) c d safe free keeps = idle-keeps (Queued (Spoilt spoilt) event) c tt keeps
safe-keeps (Entered instance entered) c d safe free keeps = absurd safe
safe-keeps (Ordered instance process) c d safe free keeps = absurd safe
safe-keeps e c d safe free keeps = idle-keeps e c safe keeps

-- several leave the rules kept
safes-keep : (es c : Chronicle) → AllByRecursion (IsSafe c) es → Keeps c → Keeps (es ++ c)
safes-keep [] c safe keeps = keeps
safes-keep (e ∷ es) c safe keeps = safe-keeps e (es ++ c) c safe.0 (λ p. safes-free p es c safe.1) (safes-keep es c safe.1 keeps)

safe-allows : (c : Chronicle) → Allows (IsSafe c)
safe-allows c = record {
  replied = λ request answer. tt;
  released = λ instance failed. tt;
  aimed = λ instance aim environment its. tt;
  restarted = λ instance its. tt;
  queued = λ given event. tt;
}

-- an instance that runs waits for no event
running-apart : (its : State) → is_running its ≡ true → is_blocking its ≡ false
running-apart Starting h = cc
running-apart Stopping h = cc
running-apart its h = refl

-- an instance emits the event of the state that it is in
queued-keeps : (p : ℕ) (to : State) (event : Event) (c : Chronicle) → state_of p c ≡ to → blocker p c ≡ None → Keeps c → Keeps (Queued (Entering p to) event ∷ c)
queued-keeps p to event c here free keeps = record {
  waiting = λ instance apart. by_case instance apart (p == instance) refl (is_blocking to) refl;
  single = λ instance. by_one instance (p == instance) refl (is_blocking to);
  patient = keeps.patient;
}
  where
    by_one : (instance : ℕ) (b : Bool) → (p == instance) ≡ b → (blocks : Bool)
        → (if b && blocks then length c ∷ unfinished instance c else unfinished instance c) ≡ listed (if b && blocks then Some (length c) else blocker instance c)
    by_one instance false differs blocks = keeps.single instance
    by_one instance true same false = keeps.single instance
    by_one instance true same true =
        ap (λ rest. length c ∷ rest) (subst (λ place. unfinished place c ≡ []) (eqb-true p instance same) (none-unfinished p c free keeps))

    by_case : (instance : ℕ) → is_blocking (state_of instance c) ≡ false → (b : Bool) → (p == instance) ≡ b → (blocks : Bool) → is_blocking to ≡ blocks
        → (if b && blocks then Some (length c) else blocker instance c) ≡ None
    by_case instance apart false differs blocks e = keeps.waiting instance apart
    by_case instance apart true same false e = keeps.waiting instance apart
    by_case instance apart true same true e =
        absurd (not-both (is_blocking (state_of instance c)) (ap is_blocking (subst (λ place. state_of place c ≡ to) (eqb-true p instance same) here) ∙ e) apart)
      where
        not-both : (b : Bool) → b ≡ true → b ≡ false → ⊥
        not-both b is isnt = cc

-- what holds with and without some entries holds with those that a test lets in
if-keeps : (b : Bool) (es c : Chronicle) → Keeps (es ++ c) → Keeps c → Keeps (entries_if b es ++ c)
if-keeps true es c some none = some
if-keeps false es c some none = none

-- the first of two lists in which there is anything does what both do
or_else-keeps : (es others c : Chronicle) → Keeps (es ++ c) → Keeps (others ++ c) → Keeps (or_else es others ++ c)
or_else-keeps [] others c some other = other
or_else-keeps (e ∷ es) others c some other = some

-- an instance that entered this state and waits for no event
record Ready (p : ℕ) (to : State) (c : Chronicle) : Type 0 where
  keeps : Keeps c
  here : state_of p c ≡ to
  free : blocker p c ≡ None

entered-ready : (p : ℕ) (to : State) (c : Chronicle) → blocker p c ≡ None → Keeps c → Ready p to (Entered p to ∷ c)
entered-ready p to c free keeps = record { keeps = entered-keeps p to c free keeps; here = rw (eq-eqb p p refl) refl; free = free }

-- it is still so after it ordered a process
ordering-ready : (job : JobDef) (p : ℕ) (to : State) (its : Option Process) (c : Chronicle) → Ready p to c → Ready p to (ordering job p its ++ c)
ordering-ready job p to None c ready = ready
ordering-ready job p to (Some its) c ready = by_case (has_process job its)
  where
    by_case : (b : Bool) → Ready p to (entries_if b (Ordered p its ∷ []) ++ c)
    by_case true = record { keeps = ordered-keeps p its c ready.free ready.keeps; here = ready.here; free = ready.free }
    by_case false = ready

-- then it emits its event
emitting-keeps : (job : JobDef) (who : Who) (p : ℕ) (to : State) (kind : Option JobEvent) (d c : Chronicle) → Ready p to c
    → Keeps (emitting job who p to kind d ++ c) × (state_of p (emitting job who p to kind d ++ c) ≡ to)
emitting-keeps job who p to None d c ready = (ready.keeps, ready.here)
emitting-keeps job who p to (Some kind) d c ready = (queued-keeps p to (job_event job who p kind d) c ready.here ready.free ready.keeps, ready.here)

-- and its main gets its signal, if the state asks for no event
signal-keeps : (kills alive : Bool) (p signal : ℕ) (to : State) (c : Chronicle) → (kills ≡ true → is_blocking to ≡ false)
    → Keeps c × (state_of p c ≡ to) → Keeps (entries_if (kills && alive) (Signalled p signal false ∷ []) ++ c)
signal-keeps false alive p signal to c apart h = h.0
signal-keeps true false p signal to c apart h = h.0
signal-keeps true true p signal to c apart h = signalled-keeps p signal false c (h.0.waiting p (ap is_blocking h.1 ∙ apart refl)) h.0

pub five : (xs ys zs ws es c : Chronicle) → (xs ++ (ys ++ (zs ++ (ws ++ es)))) ++ c ≡ xs ++ (ys ++ (zs ++ (ws ++ (es ++ c))))
five xs ys zs ws es c =
    append_assoc xs (ys ++ (zs ++ (ws ++ es))) c ∙ ap (λ rest. xs ++ rest) (append_assoc ys (zs ++ (ws ++ es)) c
    ∙ ap (λ rest. ys ++ rest) (append_assoc zs (ws ++ es) c ∙ ap (λ rest. zs ++ rest) (append_assoc ws es c)))

-- an instance that waits for no event enters a state, with all that the table says of that
enter-keeps : (job : JobDef) (who : Who) (p : ℕ) (to : State) (entry : table.EntryActions) (c : Chronicle) → (entry.kills ≡ true → is_blocking to ≡ false)
    → blocker p c ≡ None → Keeps c → Keeps (enter_whole job who p to entry c ++ c)
enter-keeps job who p to entry c apart free keeps =
    subst Keeps (sym (five releases signals emits orders (Entered p to ∷ []) c))
    (if-keeps entry.releases (releasing p false (enter job who p to entry c ++ c)) d (idles-keep (releasing p false (enter job who p to entry c ++ c)) d (releasing-idle p false (enter job who p to entry c ++ c)) done) done)
  where
    orders : List Entry
    orders = ordering job p entry.orders

    emits : List Entry
    emits = emitting job who p to entry.emits ((orders ++ Entered p to ∷ []) ++ c)

    signals : List Entry
    signals = entries_if (entry.kills && lives p Main c) (Signalled p job.kill_signal false ∷ [])

    releases : List Entry
    releases = entries_if entry.releases (releasing p false (enter job who p to entry c ++ c))

    d : Chronicle
    d = signals ++ (emits ++ (orders ++ Entered p to ∷ c))

    done : Keeps d
    done =
        signal-keeps entry.kills (lives p Main c) p job.kill_signal to (emits ++ (orders ++ Entered p to ∷ c)) apart
        (emitting-keeps job who p to entry.emits ((orders ++ Entered p to ∷ []) ++ c) (orders ++ Entered p to ∷ c)
        (ordering-ready job p to entry.orders (Entered p to ∷ c) (entered-ready p to c free keeps)))

-- main gets its signal in killed, which asks for no event
kills-apart : (to from : State) (task : Bool) → (entering to from task).kills ≡ true → is_blocking to ≡ false
kills-apart Starting from task kills = cc
kills-apart Stopping from task kills = cc
kills-apart to from task kills = refl

pub none-of : (o : Option ℕ) → not (is_some o) ≡ true → o ≡ None
none-of None h = refl
none-of (Some place) h = cc

-- an instance that may leave its state waits for no event
leave-free : (job : JobDef) (p : ℕ) (from : State) (c : Chronicle) → state_of p c ≡ from → is_over job p (wait_in from) c ≡ true → Keeps c → blocker p c ≡ None
leave-free job p Starting c here over keeps = none-of (blocker p c) over
leave-free job p Stopping c here over keeps = none-of (blocker p c) over
leave-free job p from c here over keeps = keeps.waiting p (ap is_blocking here)

-- so a move leaves the rules kept
move_of-keeps : (job : JobDef) (x : Instance) (c : Chronicle) → Keeps c → Keeps (move_of job x c ++ c)
move_of-keeps job x c keeps = by_case (may_leave job x.place c) refl
  where
    from : State
    from = state_of x.place c

    to : State
    to = next_of job x.place c

    by_case : (b : Bool) → may_leave job x.place c ≡ b → Keeps (entries_if b (move job x c) ++ c)
    by_case true may =
        enter-keeps job (who_of job x) x.place to (entering to from job.task) c (kills-apart to from job.task)
        (leave-free job x.place from c refl may keeps) keeps
    by_case false stays = keeps

move_in-keeps : (xs : List Instance) (c : Chronicle) → Keeps c → Keeps (move_in xs c ++ c)
move_in-keeps [] c keeps = keeps
move_in-keeps (x ∷ xs) c keeps =
    or_else-keeps (move_of x.file x c) (move_in xs c) c (move_of-keeps x.file x c keeps) (move_in-keeps xs c keeps)

move_first-keeps : (names : List Bytes) (c : Chronicle) → Keeps c → Keeps (move_first names c ++ c)
move_first-keeps [] c keeps = keeps
move_first-keeps (name ∷ names) c keeps =
    or_else-keeps (move_in (instances_of name c) c) (move_first names c) c (move_in-keeps (instances_of name c) c keeps) (move_first-keeps names c keeps)

-- an offer to an instance's `stop on` is idle
stop_by-idle : (p : ℕ) (events : List ℕ) (c : Chronicle) → AllByRecursion IsIdle (stop_by p events c)
stop_by-idle p events c = all-if IsIdle (is_start (goal p c)) (stop_of p (stopped_by (events_at events c)) events c) (stop_of-all IsIdle idle-allows p (stopped_by (events_at events c)) events c)

stop_offer-idle : (config : Configuration) (job : JobDef) (p event : ℕ) (c : Chronicle) → AllByRecursion IsIdle (stop_offer config job p event c)
stop_offer-idle config job p event c =
    all-append IsIdle (entries_if (holds job.stop_on sights) fires) (Offered (StopOn p) event ∷ [])
    (all-if IsIdle (holds job.stop_on sights) fires
    (all-append IsIdle (stop_by p events fired) (Fired (StopOn p) events ∷ []) (stop_by-idle p events fired) (tt, tt)))
    (tt, tt)
  where
    sights : List Sight
    sights = seen config (StopOn p) (Offered (StopOn p) event ∷ c)

    events : List ℕ
    events = taken job.stop_on sights

    fired : Chronicle
    fired = Fired (StopOn p) events ∷ Offered (StopOn p) event ∷ c

    fires : List Entry
    fires = stop_by p events fired ++ Fired (StopOn p) events ∷ []

stop_offer_in-keeps : (config : Configuration) (xs : List Instance) (event : ℕ) (c : Chronicle) → Keeps c → Keeps (stop_offer_in config xs event c ++ c)
stop_offer_in-keeps config [] event c keeps = keeps
stop_offer_in-keeps config (x ∷ xs) event c keeps =
    or_else-keeps (entries_if (is_open x.place c) (stop_offer config x.file x.place event c)) (stop_offer_in config xs event c) c
    (if-keeps (is_open x.place c) (stop_offer config x.file x.place event c) c (idles-keep (stop_offer config x.file x.place event c) c (stop_offer-idle config x.file x.place event c) keeps) keeps)
    (stop_offer_in-keeps config xs event c keeps)

-- so is one to a job's `start on`
start_of-idle : (job : JobDef) (who : Who) (environment : Bindings) (holders : List ℕ) (o : Option ℕ) (c : Chronicle) → AllByRecursion IsIdle (start_of job who environment holders o c)
start_of-idle job who environment holders None c =
    all-if IsIdle (nat_lt (length (instances_of who.job c)) max_instances) (Aimed (length c) Start environment holders ∷ Made job who.instance ∷ []) (tt, (tt, tt))
start_of-idle job who environment holders (Some p) c = start_of-all IsIdle idle-allows job who environment holders p c

start_who-idle : (job : JobDef) (environment : Bindings) (holders : List ℕ) (o : Option Who) (c : Chronicle) → AllByRecursion IsIdle (start_who job environment holders o c)
start_who-idle job environment holders None c = tt
start_who-idle job environment holders (Some who) c = start_of-idle job who (with_instance who environment) holders (instance_named who c) c

start_offer-idle : (config : Configuration) (job : JobDef) (event : ℕ) (c : Chronicle) → AllByRecursion IsIdle (start_offer config job event c)
start_offer-idle config job event c =
    all-append IsIdle (entries_if (holds job.start_on sights) fires) (Offered (StartOn job.name) event ∷ [])
    (all-if IsIdle (holds job.start_on sights) fires
    (all-append IsIdle (start_by config job events fired) (Fired (StartOn job.name) events ∷ []) (start_who-idle job environment events (who_called job.name name) fired) (tt, tt)))
    (tt, tt)
  where
    sights : List Sight
    sights = seen config (StartOn job.name) (Offered (StartOn job.name) event ∷ c)

    events : List ℕ
    events = taken job.start_on sights

    fired : Chronicle
    fired = Fired (StartOn job.name) events ∷ Offered (StartOn job.name) event ∷ c

    name : Option Bytes
    name = instance_name job (events_env (env_of_job config job.name) (events_at events fired))

    environment : Bindings
    environment = start_env config (who_called job.name name) (events_at events fired) fired

    fires : List Entry
    fires = start_by config job events fired ++ Fired (StartOn job.name) events ∷ []

offer_in-keeps : (config : Configuration) (job : JobDef) (event : ℕ) (c : Chronicle) → Keeps c → Keeps (offer_in config job event c ++ c)
offer_in-keeps config job event c keeps =
    or_else-keeps (stop_offer_in config (instances_of job.name c) event c) (entries_if (not (was_offered (StartOn job.name) c)) (start_offer config job event c)) c
    (stop_offer_in-keeps config (instances_of job.name c) event c keeps)
    (if-keeps (not (was_offered (StartOn job.name) c)) (start_offer config job event c) c (idles-keep (start_offer config job event c) c (start_offer-idle config job event c) keeps) keeps)

offer_first-keeps : (config : Configuration) (jobs : List JobDef) (event : ℕ) (c : Chronicle) → Keeps c → Keeps (offer_first config jobs event c ++ c)
offer_first-keeps config [] event c keeps = keeps
offer_first-keeps config (job ∷ jobs) event c keeps =
    or_else-keeps (offer_in config job event c) (offer_first config jobs event c) c (offer_in-keeps config job event c keeps) (offer_first-keeps config jobs event c keeps)

offer_next-keeps : (config : Configuration) (event : Option ℕ) (c : Chronicle) → Keeps c → Keeps (offer_next config event c ++ c)
offer_next-keeps config None c keeps = keeps
offer_next-keeps config (Some event) c keeps = subst (λ es. Keeps (es ++ c)) (sym (first-by-jobs config event c)) (offer_first-keeps config config.jobs event c keeps)

-- what is due leaves the rules kept
due-keeps : (config : Configuration) (c : Chronicle) → Keeps c → Keeps (due config c ++ c)
unfolding due
due-keeps config c keeps =
    or_else-keeps (move_first (names_in_order config c) c) (or_else (offer_next config (offering c) c) (answering_last c)) c (move_first-keeps (names_in_order config c) c keeps)
    (or_else-keeps (offer_next config (offering c) c) (answering_last c) c (offer_next-keeps config (offering c) c keeps)
    (idles-keep (answering_last c) c (answering_hurried-all IsIdle (λ request answer. tt) (unanswered c) c) keeps))

settle-keeps : (n : ℕ) (config : Configuration) (c : Chronicle) → Keeps c → Keeps (settle n config c)
unfolding settle
settle-keeps zero config c keeps = keeps
settle-keeps (suc n) config c keeps = settle-keeps n config (due config c ++ c) (due-keeps config c keeps)

-- so are the end of a process and a turn
idle-ends : AllowsEnds IsIdle
idle-ends = record { allows = idle-allows; failed = λ instance its. tt; respawned = λ instance moment. tt }

idle-turns : AllowsTurns IsIdle
idle-turns = record { ends = idle-ends; told = λ spoilt event. tt; handled = λ event. tt; finished = λ event. tt }

-- these instances wait for no event
abbrev AreFree : Chronicle → List ℕ → Type 0
AreFree c places = AllByRecursion (λ place. blocker place c ≡ None) places

free-append : (c : Chronicle) (xs ys : List ℕ) → AreFree c xs → AreFree c ys → AreFree c (xs ++ ys)
free-append c [] ys all other = other
free-append c (x ∷ xs) ys all other = (all.0, free-append c xs ys all.1 other)

pub and-left : (a b : Bool) → a && b ≡ true → a ≡ true
and-left true b h = refl
and-left false b h = cc

killed-apart : (its : State) → is_killed its ≡ true → is_blocking its ≡ false
killed-apart Starting h = cc
killed-apart Stopping h = cc
killed-apart its h = refl

-- an instance whose main the timer kills waits for none
due-free : (job : JobDef) (p : ℕ) (c : Chronicle) → kill_due job p c ≡ true → Keeps c → blocker p c ≡ None
due-free job p c h keeps =
    keeps.waiting p (killed-apart (state_of p c) (and-left (is_killed (state_of p c)) (lives p Main c)
    (and-left (is_killed (state_of p c) && lives p Main c) (has_passed (kill_moment p c) (now c) (milliseconds job.kill_timeout)) h)))

overdue-free : (xs : List Instance) (c : Chronicle) → Keeps c → AreFree c (overdue xs c)
overdue-free [] c keeps = tt
overdue-free (x ∷ xs) c keeps =
    free-append c (entries_if (kill_due x.file x.place c) (x.place ∷ [])) (overdue xs c)
    (by_case (kill_due x.file x.place c) refl) (overdue-free xs c keeps)
  where
    by_case : (b : Bool) → kill_due x.file x.place c ≡ b → AreFree c (entries_if b (x.place ∷ []))
    by_case true h = (due-free x.file x.place c h keeps, tt)
    by_case false h = tt

all_overdue-free : (names : List Bytes) (c : Chronicle) → Keeps c → AreFree c (all_overdue names c)
all_overdue-free [] c keeps = tt
all_overdue-free (name ∷ names) c keeps =
    free-append c (overdue (instances_of name c) c) (all_overdue names c) (overdue-free (instances_of name c) c keeps) (all_overdue-free names c keeps)

-- so the timer's signals leave the rules kept
killing-keeps : (places : List ℕ) (c : Chronicle) → AreFree c places → Keeps c → Keeps (killing places ++ c)
killing-keeps [] c free keeps = keeps
killing-keeps (place ∷ places) c free keeps =
    rw append_assoc (killing-keeps places (Signalled place kill true ∷ c) free.1 (signalled-keeps place kill true c free.0 keeps))

-- idle entries before an input
given-keeps : (es : List Entry) (given : Input) (c : Chronicle) → AllByRecursion IsIdle es → Keeps c → Keeps ((es ++ Given given ∷ []) ++ c)
given-keeps es given c idle keeps = rw append_assoc (idles-keep es (Given given ∷ c) idle (idle-keeps (Given given) c tt keeps))

-- the effect of an input leaves the rules kept
effect-keeps : (config : Configuration) (given : Input) (c : Chronicle) → Keeps c → Keeps (effect config given c ++ c)
unfolding effect
effect-keeps config (input.Emit event) c keeps = idles-keep (Queued (Outside (length c)) event ∷ Given (input.Emit event) ∷ []) c (tt, (tt, tt)) keeps
effect-keeps config (input.Request id request) c keeps =
    let d : Chronicle = Given (input.Request id request) ∷ c in
    let given : Keeps d = idle-keeps (Given (input.Request id request)) c tt keeps in
    rw append_assoc (safes-keep (entries_of (length c) (outcome_of config (length c) request d)) d
    (outcome-all (IsSafe d) (safe-allows d) (λ job name. tt) config (length c) request d
    (λ p signal runs. given.waiting p (running-apart (state_of p d) runs))) given)
effect-keeps config (input.Spawned who process pid) c keeps = idle-keeps (Given (input.Spawned who process pid)) c tt keeps
effect-keeps config (input.Refused who process) c keeps =
    let d : Chronicle = Given (input.Refused who process) ∷ c in
    given-keeps (end_by who process end.Refused d) (input.Refused who process) c
    (end_of-all IsIdle idle-ends (own_file who d) (instance_named who d) process end.Refused d) keeps
effect-keeps config (input.Ended who process how) c keeps =
    let d : Chronicle = Given (input.Ended who process how) ∷ c in
    given-keeps (end_by who process (end.Ended how) d) (input.Ended who process how) c
    (end_of-all IsIdle idle-ends (own_file who d) (instance_named who d) process (end.Ended how) d) keeps
effect-keeps config (input.Clock reading) c keeps =
    let d : List Entry = Given (input.Clock reading) ∷ c in
    let given : Keeps d = idle-keeps (Given (input.Clock reading)) c tt keeps in
    rw append_assoc (killing-keeps (all_overdue (names_in_order config d) d) d (all_overdue-free (names_in_order config d) d given) given)
effect-keeps config input.Turn c keeps =
    given-keeps (turn_of (turn_event config (queue c) c) (Given input.Turn ∷ c)) input.Turn c
    (turn_of-all IsIdle idle-turns (turn_event config (queue c) c) (Given input.Turn ∷ c)) keeps
effect-keeps config (input.Load id its) c keeps = given-keeps (loading (length c) its) (input.Load id its) c (loading-all IsIdle (λ request answer. tt) (λ jobs. tt) (length c) its) keeps

-- so do inputs, one after another
after-keeps : (config : Configuration) (c : Chronicle) (given : Input) → Keeps c → Keeps (after config c given)
unfolding after
after-keeps config c given keeps =
    let d : Chronicle = effect (in_force config c) given c ++ c in
    settle-keeps (work (in_force config d) d) (in_force config d) d (effect-keeps (in_force config c) given c keeps)

next-keeps : (config : Configuration) (c : Chronicle) (given : Input) → Keeps c → Keeps (next config c given)
next-keeps config c given keeps = by_case (is_expected given c)
  where
    by_case : (b : Bool) → Keeps (if b then after config c given else c)
    by_case true = after-keeps config c given keeps
    by_case false = keeps

after_all-keeps : (config : Configuration) (c : Chronicle) (inputs : List Input) → Keeps c → Keeps (after_all config c inputs)
unfolding after_all
after_all-keeps config c [] keeps = keeps
after_all-keeps config c (given ∷ inputs) keeps = after_all-keeps config (next config c given) inputs (next-keeps config c given keeps)

-- at the start they are kept, and so in every chronicle that is reached
pub reached-keeps : (config : Configuration) (inputs : List Input) → Keeps (after_all config [] inputs)
reached-keeps config inputs = after_all-keeps config [] inputs (record { waiting = λ instance apart. refl; single = λ instance. refl; patient = tt })

-- so no instance does anything while it waits for its own event
pub patient : (config : Configuration) (inputs : List Input) → ActsUnblocked (after_all config [] inputs)
patient config inputs = (reached-keeps config inputs).patient
