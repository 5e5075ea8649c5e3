-- Each move of an instance leaves it fewer moves, and whether it has gone then.
use Rattle.std.proofs.Common.{◌≡◌, ℕ, ◌<◌, ◌==◌, Bool, true, false, ◌||◌, not, List, [], ◌∷◌, ◌++◌, is_some, if◌then◌else◌, refl, sym, ◌∙◌, ap, subst, arith, eq-eqb}
use Rattle.std.specs.List.{AllByRecursion}
use Rattle.up_stanza.specs.declared.process.Process.TheVariants.{Main}
use Rattle.up_conf.specs.declared.job.JobDef.{JobDef}
use Rattle.up_model.specs.declared.state.Goal.{Goal}
use Rattle.up_model.specs.declared.state.Goal.TheVariants.{Start, Stop}
use Rattle.up_model.specs.declared.state.State.{State}
use Rattle.up_model.specs.declared.state.State.TheVariants.{Waiting, Starting, PostStart, Running, PreStop, Stopping}
use Rattle.up_model.specs.declared.who.Who.{Who}
use Rattle.up_model.specs.Chronicle.{Chronicle, Entry}
use Rattle.up_model.specs.Instances.{Instance, without_instance, all_instances}
use Rattle.up_model.specs.Life.{next_state, entering}
use Rattle.up_model.specs.Moves.{has_process, enter_whole, may_leave, next_of, who_of, move}
use Rattle.up_model.specs.Readings.{goal, state_of, is_blocking, blocker, lives}
use Rattle.up_model.specs.Work.{moves, moves_at}
use Rattle.up_model.proofs.Places.{count}
use Rattle.up_model.proofs.Sparing.{same-append}
use Rattle.up_model.specs.Predicates.{is_waiting}
use Rattle.up_model.proofs.MoveLaws.{Leaves, leaves, IsMove, move-goal, enter-moves, enter-state, enter-all_instances}

whole-fewer : (b : Bool) → moves Start (if b then Running else Stopping) (is_blocking (if b then Running else Stopping)) < 2
whole-fewer true = omega arith
whole-fewer false = omega arith

moves-fewer : (aim : Goal) (from : State) (blocked has_main lives : Bool) → Leaves aim from blocked
    → moves aim (next_state aim from has_main lives) (is_blocking (next_state aim from has_main lives)) < moves aim from blocked
moves-fewer Start Starting true has_main lives may = cc
moves-fewer Start Starting false has_main lives may = omega arith
moves-fewer Start PostStart blocked has_main lives may = whole-fewer (not has_main || lives)
moves-fewer Start PreStop blocked has_main lives may = whole-fewer (not has_main || lives)
moves-fewer Start Stopping true has_main lives may = cc
moves-fewer Start Stopping false has_main lives may = omega arith
moves-fewer Stop Waiting blocked has_main lives may = cc
moves-fewer Stop Starting true has_main lives may = cc
moves-fewer Stop Starting false has_main lives may = omega arith
moves-fewer Stop Running blocked has_main true may = omega arith
moves-fewer Stop Running blocked has_main false may = omega arith
moves-fewer Stop Stopping true has_main lives may = cc
moves-fewer Stop Stopping false has_main lives may = omega arith
moves-fewer Start from blocked has_main lives may = omega arith
moves-fewer Stop from blocked has_main lives may = omega arith

enter-blocker : (job : JobDef) (who : Who) (p : ℕ) (from to : State) (c : Chronicle) (aim : Goal)
    → moves aim to (is_some (blocker p (enter_whole job who p to (entering to from job.task) c ++ c))) ≡ moves aim to (is_blocking to)
enter-blocker job who p from Starting c aim = rw (eq-eqb p p refl) refl
enter-blocker job who p from Stopping c aim = rw (eq-eqb p p refl) refl
enter-blocker job who p from Waiting c Start = refl
enter-blocker job who p from to c Start = refl
enter-blocker job who p from to c Stop = refl

-- no move is made more than five times
pub move-fewer : (job : JobDef) (x : Instance) (c : Chronicle) → may_leave job x.place c ≡ true → moves_at x.place (move job x c ++ c) < moves_at x.place c
move-fewer job x c may =
    subst (λ n. n < moves_at p c) (sym left) (moves-fewer (goal p c) from (is_some (blocker p c)) (has_process job Main) (lives p Main c) (leaves job p from c may))
  where
    p : ℕ
    p = x.place

    from : State
    from = state_of p c

    to : State
    to = next_of job p c

    es : List Entry
    es = move job x c

    d : Chronicle
    d = es ++ c

    all : AllByRecursion (IsMove p) es
    all = enter-moves job (who_of job x) p to (entering to from job.task) c

    left : moves_at p d ≡ moves (goal p c) to (is_blocking to)
    left =
        ap (λ aim. moves aim (state_of p d) (is_some (blocker p d))) (same-append (goal p) (IsMove p) (move-goal p p) es c all)
        ∙ ap (λ s. moves (goal p c) s (is_some (blocker p d))) (enter-state job (who_of job x) p to (entering to from job.task) c)
        ∙ enter-blocker job (who_of job x) p from to c (goal p c)

-- one that enters waiting is gone
pub count-gone : (p : ℕ) (xs : List Instance) → count p (without_instance p xs) ≡ 0
count-gone p [] = refl
count-gone p (x ∷ xs) = by_case (x.place == p) refl (count-gone p xs)
  where
    by_case : (b : Bool) → (x.place == p) ≡ b → count p (without_instance p xs) ≡ 0 → count p (if b then without_instance p xs else x ∷ without_instance p xs) ≡ 0
    by_case true same ih = ih
    by_case false differs ih = rw differs (omega (arith, ih))

pub move-gone : (job : JobDef) (x : Instance) (c : Chronicle) → next_of job x.place c ≡ Waiting → count x.place (all_instances (move job x c ++ c)) ≡ 0
move-gone job x c to = ap (count x.place) (enter-all_instances job (who_of job x) x.place (next_of job x.place c) (entering (next_of job x.place c) (state_of x.place c) job.task) c ∙ ap (λ s. if is_waiting s then without_instance x.place (all_instances c) else all_instances c) to) ∙ count-gone x.place (all_instances c)
