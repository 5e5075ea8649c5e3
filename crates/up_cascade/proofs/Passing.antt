-- An offer makes nobody move.
use Rattle.std.proofs.Common.{◌≡◌, ℕ, Bool, true, false, List, [], ◌∷◌, refl, sym, ◌∙◌, ap}
use Rattle.std.specs.List.{AllByRecursion}
use Rattle.up_conf.specs.declared.job.JobDef.{JobDef}
use Rattle.up_model.specs.Life.{Wait, ForStart, ForEvent, ForAnswer, ForProcess, ForChange, ForMain, wait_in}
use Rattle.up_model.specs.Chronicle.{Chronicle, Entry, Expression, Offered}
use Rattle.up_model.specs.Instances.{Instance, instances_of}
use Rattle.up_model.specs.Moves.{is_over, may_leave, move, move_of, move_in}
use Rattle.up_model.specs.Predicates.{entries_if, or_else}
use Rattle.up_model.specs.Readings.{state_of}
use Rattle.up_model.specs.Seen.{same_expression}
use Rattle.up_cascade.specs.Offering.{Asked, expression_of}
use Rattle.up_cascade.proofs.JobMoves.{move_first}
use Rattle.up_cascade.proofs.MoveLemmas.{filled_move}
use Rattle.up_text.specs.Scripts.{is_filled}

-- nothing first means neither
pub or-nil-first : (xs ys : List Entry) → or_else xs ys ≡ [] → xs ≡ []
or-nil-first [] ys h = refl
or-nil-first (x ∷ xs) ys h = absurd cc

pub or-nil-rest : (xs ys : List Entry) → or_else xs ys ≡ [] → ys ≡ []
or-nil-rest [] ys h = h
or-nil-rest (x ∷ xs) ys h = absurd cc

pub stays : (job : JobDef) (x : Instance) (c : Chronicle) → move_of job x c ≡ [] → may_leave job x.place c ≡ false
stays job x c none = by_case (may_leave job x.place c) none
  where
    by_case : (b : Bool) → entries_if b (move job x c) ≡ [] → b ≡ false
    by_case true h =
        let some : false ≡ true = ap is_filled (sym h) ∙ filled_move job x c in
        absurd cc
    by_case false h = refl

pub over-offered : (job : JobDef) (i : ℕ) (wait : Wait) (c : Chronicle) (x : Expression) (event : ℕ) → is_over job i wait (Offered x event ∷ c) ≡ is_over job i wait c
over-offered job i ForStart c x event = refl
over-offered job i ForEvent c x event = refl
over-offered job i (ForAnswer its) c x event = refl
over-offered job i (ForProcess its) c x event = refl
over-offered job i ForChange c x event = refl
over-offered job i ForMain c x event = refl

still-in : (its : List Instance) (c : Chronicle) (x : Expression) (event : ℕ) → move_in its c ≡ [] → move_in its (Offered x event ∷ c) ≡ []
still-in [] c x event none = refl
still-in (y ∷ its) c x event none =
    let here : may_leave y.file y.place (Offered x event ∷ c) ≡ false = over-offered y.file y.place (wait_in (state_of y.place c)) c x event ∙ stays y.file y c (or-nil-first (move_of y.file y c) (move_in its c) none) in
    rw here (still-in its c x event (or-nil-rest (move_of y.file y c) (move_in its c) none))

pub still-offered : (jobs : List JobDef) (c : Chronicle) (x : Expression) (event : ℕ) → move_first jobs c ≡ [] → move_first jobs (Offered x event ∷ c) ≡ []
still-offered [] c x event none = refl
still-offered (job ∷ jobs) c x event none =
    rw (still-in (instances_of job.name c) c x event (or-nil-first (move_in (instances_of job.name c) c) (move_first jobs c) none))
    (still-offered jobs c x event (or-nil-rest (move_in (instances_of job.name c) c) (move_first jobs c) none))

-- each is another expression than those after it
abbrev pub AreApart : List Asked → Type 0
AreApart [] = Unit {0}
AreApart (asked ∷ others) = AllByRecursion (λ other. same_expression (expression_of asked) (expression_of other) ≡ false) others × AreApart others
