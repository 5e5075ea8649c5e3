-- A move leaves fewer processes to be ordered, by those that it orders.
use Rattle.up_model.proofs.Names.{◌≡◌, ℕ, ◌+◌, ◌≤◌, Bool, true, false, not, List, [], ◌∷◌, ◌++◌, Option, None}
use Rattle.up_model.proofs.Names.{Some, is_some, if◌then◌else◌, refl, sym, ◌∙◌, ap, subst, arith, ◌<◌, ◌&&◌, ◌||◌}
use Rattle.up_model.proofs.Names.{eq-eqb, AllByRecursion, JobDef, Process, Main, JobEvent, Goal, Start, Stop}
use Rattle.up_model.proofs.Names.{State, Starting, Stopping, Waiting, PostStart, Running, PreStop, Who, Chronicle}
use Rattle.up_model.proofs.Names.{Entry, Entered, Ordered, Signalled, all_instances, Instance, without_instance}
use Rattle.up_model.proofs.Names.{instances_of, left_in, left_at, left_among, left, next_state, entering}
use Rattle.up_model.proofs.Names.{move_first, has_process, emitting, ordering, enter, enter_whole, may_leave}
use Rattle.up_model.proofs.Names.{next_of, who_of, move, move_of, move_in, entries_if, or_else, is_waiting, goal}
use Rattle.up_model.proofs.Names.{state_of, blocker, is_blocking, lives, releasing, Bytes}
use Rattle.up_model.specs.declared.life.EntryActions as table
use Rattle.up_model.proofs.FileLaws.{files-named}
use Rattle.up_model.proofs.LeftSums.{IsKept, kept-fewer, gone-no_more}
use Rattle.up_model.proofs.MoveLaws.{Leaves, leaves, IsMove, move-goal, move-is_of, enter-moves, enter-state}
use Rattle.up_model.proofs.MoveLaws.{enter-all_instances}
use Rattle.up_model.proofs.Places.{count, all-counted, instances-exist}
use Rattle.up_model.proofs.ReplyLaws.{releasing-all}
use Rattle.up_model.proofs.Sparing.{same-append, all-if, all-weaker, IsOf, spared-goal, spared-state}
use Rattle.up_model.proofs.Sparing.{spared-blocker}

-- how many processes entries order
abbrev pub ordered : List Entry → ℕ
ordered [] = 0
ordered (Ordered instance its ∷ es) = 1 + ordered es
ordered (e ∷ es) = ordered es

pub ordered-append : (es others : List Entry) → ordered (es ++ others) ≡ ordered es + ordered others
ordered-append [] others = omega arith
ordered-append (Ordered instance its ∷ es) others = omega (arith, ordered-append es others)
ordered-append (e ∷ es) others = ordered-append es others

-- an entry that orders none
abbrev pub OrdersNone : Entry → Type 0
OrdersNone (Ordered instance its) = ⊥
OrdersNone e = Unit {0}

pub none-ordered : (es : List Entry) → AllByRecursion OrdersNone es → ordered es ≡ 0
none-ordered [] all = refl
none-ordered (Ordered instance its ∷ es) all = absurd all.0
none-ordered (e ∷ es) all = none-ordered es all.1

-- how many the table says that entering a state orders
abbrev by_table : Option Process → ℕ
by_table None = 0
by_table (Some its) = 1

ordering-few : (job : JobDef) (p : ℕ) (its : Option Process) → ordered (ordering job p its) ≤ by_table its
ordering-few job p None = omega arith
ordering-few job p (Some its) = by_case (has_process job its)
  where
    by_case : (b : Bool) → ordered (entries_if b (Ordered p its ∷ [])) ≤ 1
    by_case true = omega arith
    by_case false = omega arith

emitting-none : (job : JobDef) (who : Who) (p : ℕ) (to : State) (kind : Option JobEvent) (c : Chronicle) → ordered (emitting job who p to kind c) ≡ 0
emitting-none job who p to None c = refl
emitting-none job who p to (Some kind) c = refl

-- a move orders no more than the table says
move-few : (job : JobDef) (who : Who) (p : ℕ) (to : State) (entry : table.EntryActions) (c : Chronicle) → ordered (enter_whole job who p to entry c) ≤ by_table entry.orders
move-few job who p to entry c =
    omega (arith, ordered-append xs (ys ++ (zs ++ (ws ++ es))), ordered-append ys (zs ++ (ws ++ es)), ordered-append zs (ws ++ es), ordered-append ws es, released, signalled, emitting-none job who p to entry.emits ((ws ++ es) ++ c), ordering-few job p entry.orders)
  where
    es : List Entry
    es = Entered p to ∷ []

    ws : List Entry
    ws = ordering job p entry.orders

    zs : List Entry
    zs = emitting job who p to entry.emits ((ws ++ es) ++ c)

    ys : List Entry
    ys = entries_if (entry.kills && lives p Main c) (Signalled p job.kill_signal false ∷ [])

    xs : List Entry
    xs = entries_if entry.releases (releasing p false (enter job who p to entry c ++ c))

    released : ordered xs ≡ 0
    released = none-ordered xs (all-if OrdersNone entry.releases (releasing p false (enter job who p to entry c ++ c)) (releasing-all OrdersNone (λ request answer. tt) p false tt (enter job who p to entry c ++ c)))

    signalled : ordered ys ≡ 0
    signalled = none-ordered ys (all-if OrdersNone (entry.kills && lives p Main c) (Signalled p job.kill_signal false ∷ []) (tt, tt))

-- on or back from post-start and pre-stop one can be left
whole-few : (b task : Bool) (from : State)
    → left_in Start (if b then Running else Stopping) (is_blocking (if b then Running else Stopping)) + by_table (entering (if b then Running else Stopping) from task).orders ≤ 1
whole-few true task from = omega arith
whole-few false task from = omega arith

-- the next state leaves fewer to be ordered, by what entering it orders
left-fewer : (aim : Goal) (from : State) (blocked has_main lives task : Bool) → Leaves aim from blocked
    → left_in aim (next_state aim from has_main lives) (is_blocking (next_state aim from has_main lives)) + by_table (entering (next_state aim from has_main lives) from task).orders ≤ left_in aim from blocked
left-fewer Start Starting true has_main lives task may = cc
left-fewer Start Starting false has_main lives task may = omega arith
left-fewer Start PostStart blocked has_main lives task may = whole-few (not has_main || lives) task PostStart
left-fewer Start PreStop blocked has_main lives task may = whole-few (not has_main || lives) task PreStop
left-fewer Start Stopping true has_main lives task may = cc
left-fewer Start Stopping false has_main lives task may = omega arith
left-fewer Stop Waiting blocked has_main lives task may = cc
left-fewer Stop Starting true has_main lives task may = cc
left-fewer Stop Starting false has_main lives task may = omega arith
left-fewer Stop Running blocked has_main true task may = omega arith
left-fewer Stop Running blocked has_main false task may = omega arith
left-fewer Stop Stopping true has_main lives task may = cc
left-fewer Stop Stopping false has_main lives task may = omega arith
left-fewer Start from blocked has_main lives task may = omega arith
left-fewer Stop from blocked has_main lives task may = omega arith

-- an instance waits for its own event after it entered starting or stopping, and only these states ask for that
enter-left : (job : JobDef) (who : Who) (p : ℕ) (from to : State) (c : Chronicle) (aim : Goal)
    → left_in aim to (is_some (blocker p (enter_whole job who p to (entering to from job.task) c ++ c))) ≡ left_in aim to (is_blocking to)
enter-left job who p from Starting c aim = rw (eq-eqb p p refl) refl
enter-left job who p from Stopping c aim = rw (eq-eqb p p refl) refl
enter-left job who p from Waiting c Start = refl
enter-left job who p from to c Start = refl
enter-left job who p from to c Stop = refl

-- entering waiting orders none
none-waiting : (to from : State) (task : Bool) → is_waiting to ≡ true → by_table (entering to from task).orders ≡ 0
none-waiting Waiting from task gone = refl
none-waiting to from task gone = absurd cc

-- what the instances can order when one of them has moved
moved-fewer : (k p : ℕ) (gone : Bool) (c d : Chronicle) → IsKept p c d → left_at p d + k ≤ left_at p c → (gone ≡ true → k ≡ 0)
    → 0 < count p (all_instances c) → left_among (if gone then without_instance p (all_instances c) else all_instances c) d + k ≤ left_among (all_instances c) c
moved-fewer k p true c d kept fewer none there = let nothing = none refl in omega (arith, nothing, gone-no_more p c d (all_instances c) kept)
moved-fewer k p false c d kept fewer none there = kept-fewer k p c d (all_instances c) kept fewer there

-- entries leave fewer processes to be ordered, by those that they order
abbrev pub Spent : Chronicle → List Entry → Type 0
Spent c es = left (es ++ c) + ordered es ≤ left c

pub none-spent : (c : Chronicle) → Spent c []
none-spent c = omega arith

-- so does a move
move-spends : (job : JobDef) (x : Instance) (c : Chronicle) → 0 < count x.place (instances_of job.name c) → may_leave job x.place c ≡ true → Spent c (move job x c)
unfolding left
move-spends job x c there may =
    omega (arith, now, move-few job (who_of job x) p to entry c, moved-fewer (by_table entry.orders) p (is_waiting to) c d kept fewer (none-waiting to from job.task) (omega (arith, there, instances-exist p job.name c)))
  where
    p : ℕ
    p = x.place

    from : State
    from = state_of p c

    to : State
    to = next_of job p c

    entry : table.EntryActions
    entry = entering to from job.task

    es : List Entry
    es = move job x c

    d : Chronicle
    d = es ++ c

    all : AllByRecursion (IsMove p) es
    all = enter-moves job (who_of job x) p to entry c

    of : AllByRecursion (IsOf job.name p) es
    of = all-weaker (IsMove p) (IsOf job.name p) (move-is_of job.name p) es all

    kept : IsKept p c d
    kept q apart =
        ap (λ aim. left_in aim (state_of q d) (is_some (blocker q d))) (same-append (goal q) (IsOf job.name p) (λ e f its. spared-goal job.name p q e f its apart) es c of)
        ∙ ap (λ s. left_in (goal q c) s (is_some (blocker q d))) (same-append (state_of q) (IsOf job.name p) (λ e f its. spared-state job.name p q e f its apart) es c of)
        ∙ ap (λ o. left_in (goal q c) (state_of q c) (is_some o)) (same-append (blocker q) (IsOf job.name p) (λ e f its. spared-blocker job.name p q e f its apart) es c of)

    here : left_at p d ≡ left_in (goal p c) to (is_blocking to)
    here =
        ap (λ aim. left_in aim (state_of p d) (is_some (blocker p d))) (same-append (goal p) (IsMove p) (move-goal p p) es c all)
        ∙ ap (λ s. left_in (goal p c) s (is_some (blocker p d))) (enter-state job (who_of job x) p to entry c)
        ∙ enter-left job (who_of job x) p from to c (goal p c)

    fewer : left_at p d + by_table entry.orders ≤ left_at p c
    fewer =
        let less = left-fewer (goal p c) from (is_some (blocker p c)) (has_process job Main) (lives p Main c) job.task (leaves job p from c may) in
        omega (arith, less, here)

    now : left_among (all_instances d) d ≡ left_among (if is_waiting to then without_instance p (all_instances c) else all_instances c) d
    now = ap (λ xs. left_among xs d) (enter-all_instances job (who_of job x) p to entry c)

-- what holds of two lists holds of the first in which there is anything
pub or_else-spends : (c : Chronicle) (es others : List Entry) → Spent c es → Spent c others → Spent c (or_else es others)
or_else-spends c [] others spent other = other
or_else-spends c (e ∷ es) others spent other = spent

if-spends : (c : Chronicle) (b : Bool) (es : List Entry) → (b ≡ true → Spent c es) → Spent c (entries_if b es)
if-spends c true es spent = spent refl
if-spends c false es spent = none-spent c

move_in-spends : (name : Bytes) (xs : List Instance) (c : Chronicle) → AllByRecursion (λ x. x.file.name ≡ name) xs
    → AllByRecursion (λ x. 0 < count x.place (instances_of name c)) xs → Spent c (move_in xs c)
move_in-spends name [] c named there = none-spent c
move_in-spends name (x ∷ xs) c named there =
    let own : 0 < count x.place (instances_of x.file.name c) = subst (λ n. 0 < count x.place (instances_of n c)) (sym named.0) there.0 in
    or_else-spends c (move_of x.file x c) (move_in xs c) (if-spends c (may_leave x.file x.place c) (move x.file x c) (λ may. move-spends x.file x c own may))
    (move_in-spends name xs c named.1 there.1)

pub move_first-spends : (names : List Bytes) (c : Chronicle) → Spent c (move_first names c)
move_first-spends [] c = none-spent c
move_first-spends (name ∷ names) c =
    or_else-spends c (move_in (instances_of name c) c) (move_first names c)
    (move_in-spends name (instances_of name c) c (files-named name c) (all-counted (instances_of name c)))
    (move_first-spends names c)
