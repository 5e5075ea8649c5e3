-- Who may move: after an entry about one instance that one alone, if none could before.
use Rattle.std.proofs.Common.{◌≡◌, ℕ, zero, suc, ◌+◌, ◌≤◌, ◌==◌, Bool, true, false, List, [], ◌∷◌, Some, bytes_eq, refl, ap, subst, arith, eq-eqb}
use Rattle.std.specs.List.{AllByRecursion}
use Rattle.up_conf.specs.declared.job.JobDef.{JobDef}
use Rattle.up_model.specs.Chronicle.{Chronicle, Entry}
use Rattle.up_model.specs.Instances.{Instance, instances_of}
use Rattle.up_model.specs.Moves.{may_leave, move_of, move_in}
use Rattle.up_model.specs.Readings.{made_at}
use Rattle.up_model.specs.Predicates.{or_else}
use Rattle.up_model.proofs.Places.{count, one_if, all_instances-once, instances-exist}
use Rattle.up_book.specs.Keeps.{AreDistinct}
use Rattle.up_job.specs.Lists.{nth}
use Rattle.up_book.proofs.One.{IsKnown, known-all, called, none-of-others, nth-all, nth-counted, nth-apart, apart-back}
use Rattle.up_cascade.proofs.JobMoves.{move_first}

-- all instances but one stay where they are
abbrev pub StayIn : ℕ → List Instance → Chronicle → Type 0
StayIn i its c = AllByRecursion (λ x. (x.place == i) ≡ false → may_leave x.file x.place c ≡ false) its

abbrev pub Stay : ℕ → List JobDef → Chronicle → Type 0
Stay i [] c = Unit {0}
Stay i (job ∷ jobs) c = StayIn i (instances_of job.name c) c × Stay i jobs c

no-move : (job : JobDef) (x : Instance) (c : Chronicle) → may_leave job x.place c ≡ false → move_of job x c ≡ []
no-move job x c stays = rw stays refl

or_else-nil : (entries : List Entry) → or_else entries [] ≡ entries
or_else-nil [] = refl
or_else-nil (entry ∷ entries) = refl

pub none-in : (i : ℕ) (its : List Instance) (c : Chronicle) → StayIn i its c → count i its ≡ 0 → move_in its c ≡ []
none-in i [] c all none = refl
none-in i (x ∷ its) c all none = by_case (x.place == i) refl none (none-in i its c all.1)
  where
    by_case : (b : Bool) → (x.place == i) ≡ b → one_if b + count i its ≡ 0 → (count i its ≡ 0 → move_in its c ≡ []) → move_in (x ∷ its) c ≡ []
    by_case true same none ih = absurd (omega arith)
    by_case false differs none ih = rw (no-move x.file x c (all.0 differs)) (ih (omega (arith, none)))

one-in : (at : ℕ) (its : List Instance) (x : Instance) (c : Chronicle) → nth at its ≡ Some x → count x.place its ≤ 1 → StayIn x.place its c → move_in its c ≡ move_of x.file x c
one-in at [] x c there once all = absurd cc
one-in zero (y ∷ its) x c there once all =
    let same : y ≡ x = cc in
    let one : one_if (y.place == x.place) ≡ 1 = ap one_if (eq-eqb y.place x.place (ap (λ (z : Instance). z.place) same)) in
    let rest = none-in x.place its c all.1 (omega (arith, one, once)) in
    rw (rest, same) (or_else-nil (move_of x.file x c))
one-in (suc at) (y ∷ its) x c there once all = by_case (y.place == x.place) refl once (λ few. one-in at its x c there few all.1)
  where
    by_case : (b : Bool) → (y.place == x.place) ≡ b → one_if b + count x.place its ≤ 1 → (count x.place its ≤ 1 → move_in its c ≡ move_of x.file x c) → move_in (y ∷ its) c ≡ move_of x.file x c
    by_case true same once ih = absurd (omega (arith, nth-counted at its x there))
    by_case false differs once ih = rw (no-move y.file y c (all.0 differs)) (ih (omega (arith, once)))

none-first : (x : Instance) (its : JobDef) (jobs : List JobDef) (c : Chronicle) → made_at x.place c ≡ Some (called its.name x.name) → AllByRecursion (λ other. bytes_eq other.name its.name ≡ false) jobs
    → Stay x.place jobs c → move_first jobs c ≡ []
none-first x its [] c made apart stay = refl
none-first x its (job ∷ jobs) c made apart stay =
    let none = none-of-others job.name c x.place (called its.name x.name) (instances_of job.name c) (known-all job.name c) made apart.0 in
    rw (none-in x.place (instances_of job.name c) c stay.0 none) (none-first x its jobs c made apart.1 stay.1)

-- the first to move is that one, if it may
pub first-moves : (jobs : List JobDef) (place at : ℕ) (job : JobDef) (x : Instance) (c : Chronicle) → nth place jobs ≡ Some job → nth at (instances_of job.name c) ≡ Some x → AreDistinct jobs
    → Stay x.place jobs c → move_first jobs c ≡ move_of x.file x c
first-moves [] place at job x c there here distinct stay = absurd cc
first-moves (first ∷ jobs) zero at job x c there here distinct stay =
    let same : first ≡ job = cc in
    let once : count x.place (instances_of job.name c) ≤ 1 = omega (arith, instances-exist x.place job.name c, all_instances-once x.place c) in
    let its = nth-all (IsKnown job.name c) at (instances_of job.name c) x here (known-all job.name c) in
    let stays : StayIn x.place (instances_of job.name c) c = subst (λ (j : JobDef). StayIn x.place (instances_of j.name c) c) same stay.0 in
    let apart : AllByRecursion (λ other. bytes_eq other.name job.name ≡ false) jobs = subst (λ (j : JobDef). AllByRecursion (λ other. bytes_eq other.name j.name ≡ false) jobs) same distinct.0 in
    let rest = none-first x job jobs c its.1 apart stay.1 in
    rw (rest, same, one-in at (instances_of job.name c) x c here once stays) (or_else-nil (move_of x.file x c))
first-moves (first ∷ jobs) (suc place) at job x c there here distinct stay =
    let its = nth-all (IsKnown job.name c) at (instances_of job.name c) x here (known-all job.name c) in
    let apart = apart-back job.name first.name (nth-apart place jobs job first there distinct.0) in
    let none = none-of-others first.name c x.place (called job.name x.name) (instances_of first.name c) (known-all first.name c) its.1 apart in
    rw (none-in x.place (instances_of first.name c) c stay.0 none) (first-moves jobs place at job x c there here distinct.1 stay.1)
