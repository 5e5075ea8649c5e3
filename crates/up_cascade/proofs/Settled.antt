-- All moves of the one instance that may move.
use Rattle.up_cascade.proofs.Names.{◌≡◌, ℕ, zero, suc, ◌≤◌, Bool, true, false, List, [], ◌∷◌, ◌++◌, Option, None}
use Rattle.up_cascade.proofs.Names.{Some, if◌then◌else◌, refl, sym, ◌∙◌, ap, subst, arith, ◌&&◌, AllByRecursion}
use Rattle.up_cascade.proofs.Names.{JobDef, Process, JobEvent, Start, Stop, State, Waiting, Starting, PreStart}
use Rattle.up_cascade.proofs.Names.{Spawned, PostStart, Running, PreStop, Stopping, Killed, PostStop, Who, Chronicle}
use Rattle.up_cascade.proofs.Names.{Entry, Made, Entered, Signalled, Ordered, Configuration, Instance, instances_of}
use Rattle.up_cascade.proofs.Names.{entering, wait_in, may_leave, next_of, move, has_process, emitting, ordering}
use Rattle.up_cascade.proofs.Names.{enter, enter_whole, who_of, is_start, entries_if, goal, state_of, lives}
use Rattle.up_cascade.proofs.Names.{releasing, Bytes, moves_at, releasing-all, same-append, all-append, all-if, nth}
use Rattle.up_cascade.proofs.Names.{AreDistinct, Asked, settle_one}
use Rattle.up_stanza.specs.declared.process.Process.TheVariants.{Main}
use Rattle.up_model.specs.declared.life.EntryActions as table
use Rattle.up_model.specs.declared.state.Goal.{Goal}
use Rattle.up_model.specs.Life.{if_whole, next_state}
use Rattle.up_model.specs.Moves.{is_over}
use Rattle.up_model.proofs.MoveLaws.{IsMove, move-goal, enter-moves, enter-state}
use Rattle.up_cascade.proofs.Offering.{rested}
use Rattle.up_cascade.proofs.Firing.{IsHandling, IsAt}
use Rattle.up_cascade.proofs.Measure.{move-fewer, move-gone}
use Rattle.up_cascade.proofs.Shapes.{after-move, due-move, moves-done}
use Rattle.up_cascade.proofs.Handling.{moves-gone}

-- a move that doesn't end in waiting leaves all instances
abbrev pub StandsStill : Entry → Type 0
StandsStill (Made file name) = ⊥
StandsStill (Entered i Waiting) = ⊥
StandsStill entry = Unit {0}

pub still-instances : (name : Bytes) (e : Entry) (c : Chronicle) → StandsStill e → instances_of name (e ∷ c) ≡ instances_of name c
still-instances name (Made file other) c is = absurd is
still-instances name (Entered i Waiting) c is = absurd is
still-instances name e c is = refl

emitting-still : (job : JobDef) (who : Who) (p : ℕ) (to : State) (kind : Option JobEvent) (c : Chronicle) → AllByRecursion StandsStill (emitting job who p to kind c)
emitting-still job who p to None c = tt
emitting-still job who p to (Some kind) c = (tt, tt)

ordering-still : (job : JobDef) (p : ℕ) (its : Option Process) → AllByRecursion StandsStill (ordering job p its)
ordering-still job p None = tt
ordering-still job p (Some its) = all-if StandsStill (has_process job its) (Ordered p its ∷ []) (tt, tt)

pub enter-still : (job : JobDef) (who : Who) (p : ℕ) (to : State) (entry : table.EntryActions) (c : Chronicle) → StandsStill (Entered p to) → AllByRecursion StandsStill (enter_whole job who p to entry c)
enter-still job who p to entry c is =
    all-append StandsStill (entries_if entry.releases (releasing p false (enter job who p to entry c ++ c))) (enter job who p to entry c)
    (all-if StandsStill entry.releases (releasing p false (enter job who p to entry c ++ c)) (releasing-all StandsStill (λ request answer. tt) p false tt (enter job who p to entry c ++ c)))
    (all-append StandsStill (entries_if (entry.kills && lives p Main c) (Signalled p job.kill_signal false ∷ [])) (emitting job who p to entry.emits (entered ++ c) ++ entered)
    (all-if StandsStill (entry.kills && lives p Main c) (Signalled p job.kill_signal false ∷ []) (tt, tt))
    (all-append StandsStill (emitting job who p to entry.emits (entered ++ c)) entered (emitting-still job who p to entry.emits (entered ++ c))
    (all-append StandsStill (ordering job p entry.orders) (Entered p to ∷ []) (ordering-still job p entry.orders) (is, tt))))
  where
    entered : List Entry
    entered = ordering job p entry.orders ++ Entered p to ∷ []

-- an instance goes to waiting, or its list stays
abbrev Goes : State → Type 0
Goes Waiting = Unit {0}
Goes other = ⊥

-- one that is to start doesn't go to waiting
whole-not : (has_main lives : Bool) → if_whole has_main lives ≡ Waiting → ⊥
whole-not true true e = cc
whole-not true false e = cc
whole-not false true e = cc
whole-not false false e = cc

start-not : (from : State) (has_main lives : Bool) → next_state Start from has_main lives ≡ Waiting → ⊥
start-not Waiting has_main lives e = cc
start-not Starting has_main lives e = cc
start-not PreStart has_main lives e = cc
start-not Spawned has_main lives e = cc
start-not PostStart has_main lives e = whole-not has_main lives e
start-not Running has_main lives e = cc
start-not PreStop has_main lives e = whole-not has_main lives e
start-not Stopping has_main lives e = cc
start-not Killed has_main lives e = cc
start-not PostStop has_main lives e = cc

to-stop : (aim : Goal) (from : State) (has_main lives : Bool) → next_state aim from has_main lives ≡ Waiting → is_start aim ≡ false
to-stop Start from has_main lives e = absurd (start-not from has_main lives e)
to-stop Stop from has_main lives e = refl

-- so one that has gone to waiting may not move
pub gone-stays : (job : JobDef) (x : Instance) (c : Chronicle) → next_of job x.place c ≡ Waiting → may_leave job x.place (move job x c ++ c) ≡ false
gone-stays job x c goes =
    ap (λ s. is_over job x.place (wait_in s) d) (enter-state job (who_of job x) x.place to (entering to from job.task) c ∙ goes)
    ∙ ap is_start (same-append (goal x.place) (IsMove x.place) (move-goal x.place x.place) (move job x c) c (enter-moves job (who_of job x) x.place to (entering to from job.task) c))
    ∙ to-stop (goal x.place c) from (has_process job Main) (lives x.place Main c) goes
  where
    from : State
    from = state_of x.place c

    to : State
    to = next_of job x.place c

    d : Chronicle
    d = move job x c ++ c

pub one-stays : (n : ℕ) (job : JobDef) (x : Instance) (c : Chronicle) → may_leave job x.place c ≡ false → settle_one n job x c ≡ c
one-stays zero job x c stays = refl
one-stays (suc n) job x c stays = rw stays refl

-- after all its moves nobody may move, the same is to be offered, and the step ends alike
pub settled-one : (n : ℕ) (config : Configuration) (e : ℕ) (left : List Asked) (place at : ℕ) (job : JobDef) (x : Instance) (c : Chronicle) → IsAt x.place config.jobs e left c → AreDistinct config.jobs
    → nth place config.jobs ≡ Some job → nth at (instances_of job.name c) ≡ Some x → moves_at x.place c ≤ n
    → IsHandling config.jobs e left (settle_one n x.file x c) × (rested config (settle_one n x.file x c) ≡ rested config c)
settled-one zero config e left place at job x c h distinct there here few = by_case (may_leave x.file x.place c) refl
  where
    by_case : (b : Bool) → may_leave x.file x.place c ≡ b → IsHandling config.jobs e left c × (rested config c ≡ rested config c)
    by_case true may = absurd (omega (arith, move-fewer x.file x c may, few))
    by_case false stays = (moves-done config e left place at job x c h distinct there here stays, refl)
settled-one (suc n) config e left place at job x c h distinct there here few = by_case (may_leave x.file x.place c) refl (λ d at_d here_d few_d. settled-one n config e left place at job x d at_d distinct there here_d few_d)
  where
    d : Chronicle
    d = move x.file x c ++ c

    to : State
    to = next_of x.file x.place c

    Ends : Chronicle → Type 0
    Ends f = IsHandling config.jobs e left f × (rested config f ≡ rested config c)

    gone : next_of x.file x.place c ≡ Waiting → may_leave x.file x.place c ≡ true → Ends (settle_one n x.file x d)
    gone goes may =
        let due_so = due-move config e left place at job x c h distinct there here may in
        subst Ends (sym (one-stays n x.file x d (gone-stays x.file x c goes)))
        (moves-gone x.place config.jobs e left d (after-move config.jobs e left x.file x c h) (move-gone x.file x c goes), due_so.1)

    Rest : Type 0
    Rest = (f : Chronicle) → IsAt x.place config.jobs e left f → nth at (instances_of job.name f) ≡ Some x → moves_at x.place f ≤ n
        → IsHandling config.jobs e left (settle_one n x.file x f) × (rested config (settle_one n x.file x f) ≡ rested config f)

    goes_on : Rest → StandsStill (Entered x.place to) → may_leave x.file x.place c ≡ true → Ends (settle_one n x.file x d)
    goes_on rest still may =
        let due_so = due-move config e left place at job x c h distinct there here may in
        let list : instances_of job.name d ≡ instances_of job.name c = same-append (instances_of job.name) StandsStill (still-instances job.name) (move x.file x c) c
        (enter-still x.file (who_of x.file x) x.place to (entering to (state_of x.place c) x.file.task) c still) in
        let ih = rest d (after-move config.jobs e left x.file x c h) (ap (nth at) list ∙ here) (omega (arith, move-fewer x.file x c may, few)) in
        (ih.0, ih.1 ∙ due_so.1)

    by_state : Rest → (s : State) → to ≡ s → (StandsStill (Entered x.place s) → StandsStill (Entered x.place to)) → may_leave x.file x.place c ≡ true → Ends (settle_one n x.file x d)
    by_state rest Waiting is back may = gone is may
    by_state rest Starting is back may = goes_on rest (back tt) may
    by_state rest PreStart is back may = goes_on rest (back tt) may
    by_state rest Spawned is back may = goes_on rest (back tt) may
    by_state rest PostStart is back may = goes_on rest (back tt) may
    by_state rest Running is back may = goes_on rest (back tt) may
    by_state rest PreStop is back may = goes_on rest (back tt) may
    by_state rest Stopping is back may = goes_on rest (back tt) may
    by_state rest Killed is back may = goes_on rest (back tt) may
    by_state rest PostStop is back may = goes_on rest (back tt) may

    by_case : (b : Bool) → may_leave x.file x.place c ≡ b → Rest → Ends (if b then settle_one n x.file x d else c)
    by_case true may rest = by_state rest to refl (λ same. same) may
    by_case false stays rest = (moves-done config e left place at job x c h distinct there here stays, refl)
