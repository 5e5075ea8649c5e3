-- A move: what its entries leave alone, and that it leaves its instance less work.
use Rattle.std.proofs.Common.{◌≡◌, ℕ, ◌+◌, ◌<◌, ◌≤◌, Bool, true, false, ◌&&◌, ◌||◌, not, List, [], ◌∷◌, ◌++◌, Option, None, Some, is_some, if◌then◌else◌, refl, sym, ◌∙◌, ap, subst, arith, eq-eqb, append_assoc}
use Rattle.std.specs.List.{AllByRecursion}
use Rattle.up_stanza.specs.declared.process.Process.{Process}
use Rattle.up_stanza.specs.declared.process.Process.TheVariants.{Main}
use Rattle.up_conf.specs.declared.job.JobDef.{JobDef}
use Rattle.up_model.specs.declared.life.EntryActions as table
use Rattle.up_model.specs.declared.life.JobEvent.{JobEvent}
use Rattle.up_model.specs.declared.state.Goal.{Goal}
use Rattle.up_model.specs.declared.state.Goal.TheVariants.{Start, Stop}
use Rattle.up_model.specs.declared.state.State.{State}
use Rattle.up_model.specs.declared.state.State.TheVariants.{Waiting, Starting, PostStart, Running, PreStop, Stopping}
use Rattle.up_model.specs.declared.who.Who.{Who}
use Rattle.up_model.specs.Chronicle.{Chronicle, Entry, Given, Queued, Offered, Made, Aimed, Released, Entered, Ordered, Signalled, Replied, Entering, Expression, StartOn, StopOn}
use Rattle.up_model.specs.Instances.{Instance, without_instance, instances_of, all_instances}
use Rattle.up_model.specs.Life.{next_state, wait_in, entering}
use Rattle.up_model.specs.Moves.{has_process, emitting, ordering, enter, enter_whole, is_over, may_leave, next_of, who_of, move}
use Rattle.up_model.specs.Offers.{is_newborn, is_open}
use Rattle.up_model.specs.Readings.{goal, state_of, is_blocking, blocker, lives}
use Rattle.up_model.specs.Replies.{releasing}
use Rattle.up_model.specs.Seen.{was_offered}
use Rattle.up_model.specs.Predicates.{is_start, entries_if, is_waiting}
use Rattle.up_model.specs.Values.{Bytes}
use Rattle.up_model.specs.Work.{moves, moves_at, offer_work, instance_work, work_in, start_work}
use Rattle.up_model.proofs.Places.{count, all_instances-older, instances-exist}
use Rattle.up_model.proofs.ReplyLaws.{releasing-all}
use Rattle.up_model.proofs.Sparing.{same-append, all-append, all-if, all-weaker, IsOf, spared-works}
use Rattle.up_model.proofs.Sums.{IsSpared, sum-less, gone-less}

-- an instance can't make more than five moves
pub moves-few : (aim : Goal) (from : State) (blocked : Bool) → moves aim from blocked < 6
moves-few Start Starting true = omega arith
moves-few Start Starting false = omega arith
moves-few Start Stopping true = omega arith
moves-few Start Stopping false = omega arith
moves-few Stop Starting true = omega arith
moves-few Stop Starting false = omega arith
moves-few Stop Stopping true = omega arith
moves-few Stop Stopping false = omega arith
moves-few Start from blocked = omega arith
moves-few Stop from blocked = omega arith

-- on or back from post-start and pre-stop there are fewer than two moves left
whole-fewer : (b : Bool) → moves Start (if b then Running else Stopping) (is_blocking (if b then Running else Stopping)) < 2
whole-fewer true = omega arith
whole-fewer false = omega arith

-- what the count of moves asks of an instance that may leave its state: in waiting that it is to start, and in starting and stopping that
-- its event has finished
abbrev pub Leaves : Goal → State → (blocked : Bool) → Type 0
Leaves aim Waiting blocked = is_start aim ≡ true
Leaves aim Starting blocked = not blocked ≡ true
Leaves aim Stopping blocked = not blocked ≡ true
Leaves aim from blocked = Unit {0}

pub leaves : (job : JobDef) (p : ℕ) (from : State) (c : Chronicle) → is_over job p (wait_in from) c ≡ true → Leaves (goal p c) from (is_some (blocker p c))
leaves job p Waiting c over = over
leaves job p Starting c over = over
leaves job p Stopping c over = over
leaves job p from c over = tt

-- the next state has fewer moves left, with its own event in the queue
moves-fewer : (aim : Goal) (from : State) (blocked has_main lives : Bool) → Leaves aim from blocked
    → moves aim (next_state aim from has_main lives) (is_blocking (next_state aim from has_main lives)) < moves aim from blocked
moves-fewer Start Starting true has_main lives may = cc
moves-fewer Start Starting false has_main lives may = omega arith
moves-fewer Start PostStart blocked has_main lives may = whole-fewer (not has_main || lives)
moves-fewer Start PreStop blocked has_main lives may = whole-fewer (not has_main || lives)
moves-fewer Start Stopping true has_main lives may = cc
moves-fewer Start Stopping false has_main lives may = omega arith
moves-fewer Stop Waiting blocked has_main lives may = cc
moves-fewer Stop Starting true has_main lives may = cc
moves-fewer Stop Starting false has_main lives may = omega arith
moves-fewer Stop Running blocked has_main true may = omega arith
moves-fewer Stop Running blocked has_main false may = omega arith
moves-fewer Stop Stopping true has_main lives may = cc
moves-fewer Stop Stopping false has_main lives may = omega arith
moves-fewer Start from blocked has_main lives may = omega arith
moves-fewer Stop from blocked has_main lives may = omega arith

-- an entry of a move of an instance, but for the one that it enters a state
abbrev pub IsBeside : ℕ → Entry → Type 0
IsBeside p (Queued (Entering instance entered) event) = instance ≡ p
IsBeside p (Released instance failed) = Unit {0}
IsBeside p (Ordered instance process) = Unit {0}
IsBeside p (Signalled instance signal by_timer) = Unit {0}
IsBeside p (Replied request answer) = Unit {0}
IsBeside p entry = ⊥

-- an entry of a move of an instance
abbrev pub IsMove : ℕ → Entry → Type 0
IsMove p (Entered instance entered) = instance ≡ p
IsMove p entry = IsBeside p entry

-- which is due
pub move-is_of : (job : Bytes) (p : ℕ) (e : Entry) → IsMove p e → IsOf job p e
move-is_of job p (Queued (Entering instance entered) event) is = is
move-is_of job p (Released instance failed) is = is
move-is_of job p (Entered instance entered) is = is
move-is_of job p (Ordered instance process) is = is
move-is_of job p (Signalled instance signal by_timer) is = is
move-is_of job p (Replied request answer) is = is
move-is_of job p e is = absurd is

beside-is_move : (p : ℕ) (e : Entry) → IsBeside p e → IsMove p e
beside-is_move p (Queued (Entering instance entered) event) is = is
beside-is_move p (Released instance failed) is = is
beside-is_move p (Ordered instance process) is = is
beside-is_move p (Signalled instance signal by_timer) is = is
beside-is_move p (Replied request answer) is = is
beside-is_move p e is = absurd is

-- it leaves goals alone
pub move-goal : (p q : ℕ) (e : Entry) (c : Chronicle) → IsMove p e → goal q (e ∷ c) ≡ goal q c
move-goal p q (Aimed i aim environment its) c is = absurd is
move-goal p q e c is = refl

-- which instances were made in this step
move-newborn : (p q : ℕ) (e : Entry) (c : Chronicle) → IsMove p e → is_newborn q (e ∷ c) ≡ is_newborn q c
move-newborn p q (Given input) c is = absurd is
move-newborn p q (Made file name) c is = absurd is
move-newborn p q e c is = refl

-- and what was offered the event
move-offered : (p : ℕ) (expression : Expression) (e : Entry) (c : Chronicle) → IsMove p e → was_offered expression (e ∷ c) ≡ was_offered expression c
move-offered p expression (Given input) c is = absurd is
move-offered p expression (Offered other event) c is = absurd is
move-offered p expression e c is = refl

-- an entry beside it leaves the states
beside-state : (p q : ℕ) (e : Entry) (c : Chronicle) → IsBeside p e → state_of q (e ∷ c) ≡ state_of q c
beside-state p q (Entered i entered) c is = absurd is
beside-state p q e c is = refl

-- and the instances
beside-all_instances : (p : ℕ) (e : Entry) (c : Chronicle) → IsBeside p e → all_instances (e ∷ c) ≡ all_instances c
beside-all_instances p (Made file name) c is = absurd is
beside-all_instances p (Entered i entered) c is = absurd is
beside-all_instances p e c is = refl

emitting-beside : (job : JobDef) (who : Who) (p : ℕ) (to : State) (kind : Option JobEvent) (c : Chronicle) → AllByRecursion (IsBeside p) (emitting job who p to kind c)
emitting-beside job who p to None c = tt
emitting-beside job who p to (Some kind) c = (refl, tt)

ordering-beside : (job : JobDef) (p : ℕ) (its : Option Process) → AllByRecursion (IsBeside p) (ordering job p its)
ordering-beside job p None = tt
ordering-beside job p (Some its) = all-if (IsBeside p) (has_process job its) (Ordered p its ∷ []) (tt, tt)

-- the event of entering a state
abbrev emitted : JobDef → Who → ℕ → State → table.EntryActions → Chronicle → List Entry
emitted job who p to entry c = emitting job who p to entry.emits ((ordering job p entry.orders ++ Entered p to ∷ []) ++ c)

-- what an instance does beside entering a state
abbrev beside : JobDef → Who → ℕ → State → table.EntryActions → Chronicle → List Entry
beside job who p to entry c =
    entries_if entry.releases (releasing p false (enter job who p to entry c ++ c))
    ++ (entries_if (entry.kills && lives p Main c) (Signalled p job.kill_signal false ∷ []) ++ (emitted job who p to entry c ++ ordering job p entry.orders))

beside-all : (job : JobDef) (who : Who) (p : ℕ) (to : State) (entry : table.EntryActions) (c : Chronicle) → AllByRecursion (IsBeside p) (beside job who p to entry c)
beside-all job who p to entry c =
    all-append (IsBeside p) (entries_if entry.releases (releasing p false (enter job who p to entry c ++ c))) _
    (all-if (IsBeside p) entry.releases (releasing p false (enter job who p to entry c ++ c)) (releasing-all (IsBeside p) (λ request answer. tt) p false tt (enter job who p to entry c ++ c)))
    (all-append (IsBeside p) (entries_if (entry.kills && lives p Main c) (Signalled p job.kill_signal false ∷ [])) _
    (all-if (IsBeside p) (entry.kills && lives p Main c) (Signalled p job.kill_signal false ∷ []) (tt, tt))
    (all-append (IsBeside p) (emitted job who p to entry c) (ordering job p entry.orders) (emitting-beside job who p to entry.emits ((ordering job p entry.orders ++ Entered p to ∷ []) ++ c)) (ordering-beside job p entry.orders)))

four : (xs ys zs ws es : List Entry) → xs ++ (ys ++ (zs ++ (ws ++ es))) ≡ (xs ++ (ys ++ (zs ++ ws))) ++ es
four xs ys zs ws es =
    ap (λ rest. xs ++ (ys ++ rest)) (sym (append_assoc zs ws es)) ∙ ap (λ rest. xs ++ rest) (sym (append_assoc ys (zs ++ ws) es))
    ∙ sym (append_assoc xs (ys ++ (zs ++ ws)) es)

-- a move is that an instance enters a state, and what it does beside
enter-is : (job : JobDef) (who : Who) (p : ℕ) (to : State) (entry : table.EntryActions) (c : Chronicle)
    → enter_whole job who p to entry c ++ c ≡ beside job who p to entry c ++ Entered p to ∷ c
enter-is job who p to entry c =
    ap (λ es. es ++ c) (four (entries_if entry.releases (releasing p false (enter job who p to entry c ++ c))) (entries_if (entry.kills && lives p Main c) (Signalled p job.kill_signal false ∷ [])) (emitted job who p to entry c) (ordering job p entry.orders) (Entered p to ∷ []))
    ∙ append_assoc (beside job who p to entry c) (Entered p to ∷ []) c

pub enter-moves : (job : JobDef) (who : Who) (p : ℕ) (to : State) (entry : table.EntryActions) (c : Chronicle) → AllByRecursion (IsMove p) (enter_whole job who p to entry c)
enter-moves job who p to entry c =
    subst (AllByRecursion (IsMove p)) (sym (four (entries_if entry.releases (releasing p false (enter job who p to entry c ++ c))) (entries_if (entry.kills && lives p Main c) (Signalled p job.kill_signal false ∷ [])) (emitted job who p to entry c) (ordering job p entry.orders) (Entered p to ∷ [])))
    (all-append (IsMove p) (beside job who p to entry c) (Entered p to ∷ []) (all-weaker (IsBeside p) (IsMove p) (beside-is_move p) (beside job who p to entry c) (beside-all job who p to entry c)) (refl, tt))

-- the instance is then in that state
pub enter-state : (job : JobDef) (who : Who) (p : ℕ) (to : State) (entry : table.EntryActions) (c : Chronicle) → state_of p (enter_whole job who p to entry c ++ c) ≡ to
enter-state job who p to entry c =
    ap (state_of p) (enter-is job who p to entry c)
    ∙ same-append (state_of p) (IsBeside p) (beside-state p p) (beside job who p to entry c) (Entered p to ∷ c) (beside-all job who p to entry c)
    ∙ rw (eq-eqb p p refl) refl

-- an instance waits for its own event after it entered starting or stopping, and only these states ask for that
enter-blocker : (job : JobDef) (who : Who) (p : ℕ) (from to : State) (c : Chronicle) (aim : Goal)
    → moves aim to (is_some (blocker p (enter_whole job who p to (entering to from job.task) c ++ c))) ≡ moves aim to (is_blocking to)
enter-blocker job who p from Starting c aim = rw (eq-eqb p p refl) refl
enter-blocker job who p from Stopping c aim = rw (eq-eqb p p refl) refl
enter-blocker job who p from Waiting c Start = refl
enter-blocker job who p from to c Start = refl
enter-blocker job who p from to c Stop = refl

entered-all_instances : (p : ℕ) (to : State) (c : Chronicle)
    → all_instances (Entered p to ∷ c) ≡ (if is_waiting to then without_instance p (all_instances c) else all_instances c)
entered-all_instances p Waiting c = refl
entered-all_instances p to c = refl

-- an instance is gone when it entered waiting, and else stays
pub enter-all_instances : (job : JobDef) (who : Who) (p : ℕ) (to : State) (entry : table.EntryActions) (c : Chronicle)
    → all_instances (enter_whole job who p to entry c ++ c) ≡ (if is_waiting to then without_instance p (all_instances c) else all_instances c)
enter-all_instances job who p to entry c =
    ap all_instances (enter-is job who p to entry c)
    ∙ same-append all_instances (IsBeside p) (beside-all_instances p) (beside job who p to entry c) (Entered p to ∷ c) (beside-all job who p to entry c)
    ∙ entered-all_instances p to c

-- entries about a job and an instance of it, by which no job's `start on` has more to be offered, and the instances and this job's together
-- have less work
pub record Lessens (offers : Bool) (job : Bytes) (c es : List Entry) : Type 0 where
  pub place : ℕ
  pub of : AllByRecursion (IsOf job place) es
  pub each : (k : Bytes) → start_work offers k (es ++ c) ≤ start_work offers k c
  pub less : work_in offers (all_instances (es ++ c)) (es ++ c) + start_work offers job (es ++ c) < work_in offers (all_instances c) c + start_work offers job c

-- the work that is left of the instances when one of them has moved
moved-less : (offers : Bool) (p : ℕ) (gone : Bool) (c d : Chronicle) → IsSpared offers p c d → instance_work offers p d < instance_work offers p c
    → 0 < count p (all_instances c) → work_in offers (if gone then without_instance p (all_instances c) else all_instances c) d < work_in offers (all_instances c) c
moved-less offers p true c d spared fewer there = gone-less offers p c d (all_instances c) spared (all_instances-older c) (omega (arith, fewer)) there
moved-less offers p false c d spared fewer there = sum-less offers p c d (all_instances c) spared (all_instances-older c) fewer there

-- a move leaves the job of its instance less to do
pub move-lessens : (offers : Bool) (job : JobDef) (x : Instance) (c : Chronicle) → 0 < count x.place (instances_of job.name c) → may_leave job x.place c ≡ true
    → Lessens offers job.name c (move job x c)
move-lessens offers job x c there may = record {
  place = p;
  of = all-weaker (IsMove p) (IsOf job.name p) (move-is_of job.name p) es all;
  each = λ k. omega (arith, start k);
  less = omega (arith, start job.name, now, moved-less offers p (is_waiting to) c d spared fewer (omega (arith, there, instances-exist p job.name c)));
}
  where
    p : ℕ
    p = x.place

    from : State
    from = state_of p c

    to : State
    to = next_of job p c

    es : List Entry
    es = move job x c

    d : Chronicle
    d = es ++ c

    all : AllByRecursion (IsMove p) es
    all = enter-moves job (who_of job x) p to (entering to from job.task) c

    spared : IsSpared offers p c d
    spared q apart older = spared-works offers job.name p q es c (all-weaker (IsMove p) (IsOf job.name p) (move-is_of job.name p) es all) apart older

    still : is_open p d ≡ is_open p c
    still =
        ap (λ b. not (b || was_offered (StopOn p) d)) (same-append (is_newborn p) (IsMove p) (move-newborn p p) es c all)
        ∙ ap (λ b. not (is_newborn p c || b)) (same-append (was_offered (StopOn p)) (IsMove p) (move-offered p (StopOn p)) es c all)

    left : moves_at p d ≡ moves (goal p c) to (is_blocking to)
    left =
        ap (λ aim. moves aim (state_of p d) (is_some (blocker p d))) (same-append (goal p) (IsMove p) (move-goal p p) es c all)
        ∙ ap (λ s. moves (goal p c) s (is_some (blocker p d))) (enter-state job (who_of job x) p to (entering to from job.task) c)
        ∙ enter-blocker job (who_of job x) p from to c (goal p c)

    fewer : instance_work offers p d < instance_work offers p c
    fewer =
        let less = moves-fewer (goal p c) from (is_some (blocker p c)) (has_process job Main) (lives p Main c) (leaves job p from c may) in
        let same : offer_work offers (is_open p d) ≡ offer_work offers (is_open p c) = ap (offer_work offers) still in
        omega (arith, less, left, same)

    start : (k : Bytes) → start_work offers k d ≡ start_work offers k c
    start k = ap (λ b. offer_work offers (not b)) (same-append (was_offered (StartOn k)) (IsMove p) (move-offered p (StartOn k)) es c all)

    now : work_in offers (all_instances d) d ≡ work_in offers (if is_waiting to then without_instance p (all_instances c) else all_instances c) d
    now = ap (λ xs. work_in offers xs d) (enter-all_instances job (who_of job x) p to (entering to from job.task) c)
