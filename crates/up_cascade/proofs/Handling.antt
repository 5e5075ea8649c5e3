-- A turn that handles an event: what is to be offered at first, that it is apart, the end, and an instance that left.
use Rattle.std.proofs.Common.{◌≡◌, ℕ, ◌+◌, ◌≤◌, ◌==◌, Bool, true, false, List, [], ◌∷◌, ◌++◌, length, Some, bytes_eq, refl, sym, ◌∙◌, ap, arith, eq-eqb, ne_eqb}
use Rattle.std.proofs.lemmas.Bool.{eqb-false}
use Rattle.std.specs.List.{AllByRecursion}
use Rattle.up_conf.specs.declared.job.JobDef.{JobDef}
use Rattle.up_model.specs.declared.input.Input.{Input}
use Rattle.up_model.specs.declared.input.Input.TheVariants as input
use Rattle.up_model.specs.Chronicle.{Chronicle, Given, Handled}
use Rattle.up_model.specs.Configuration.{Configuration}
use Rattle.up_model.specs.Due.{due}
use Rattle.up_model.specs.Instances.{Instance, instances_of, all_instances}
use Rattle.up_model.specs.Moves.{is_over}
use Rattle.up_model.specs.Offers.{offering}
use Rattle.up_model.specs.Predicates.{or_else}
use Rattle.up_model.specs.Readings.{made_at}
use Rattle.up_model.specs.Replies.{answering_last}
use Rattle.up_model.specs.Values.{Bytes}
use Rattle.up_model.specs.Work.{work}
use Rattle.up_model.proofs.JobOffers.{offer_next}
use Rattle.up_model.proofs.Settling.{settle_still}
use Rattle.up_model.proofs.Places.{bytes_same, bytes_refl, count, one_if, all_instances-once, instances-exist}
use Rattle.up_book.specs.Keeps.{AreDistinct}
use Rattle.up_cascade.specs.Offering.{Asked, OfStop, OfStart, open_stops, open_all}
use Rattle.up_book.proofs.Lists.{cons_same}
use Rattle.up_cascade.proofs.JobMoves.{move_first, due-by}
use Rattle.up_cascade.proofs.Moving.{StayIn, Stay}
use Rattle.up_cascade.proofs.Offering.{rested}
use Rattle.up_book.proofs.One.{IsKnown, known-all, called, none-of-others}
use Rattle.up_cascade.proofs.Passing.{AreApart}
use Rattle.up_cascade.proofs.Firing.{IsHandling, IsAt, stay-still, still-stay}
use Rattle.up_cascade.proofs.Shapes.{IsApart}

-- all expressions in force
abbrev pub all_stops : List Instance → List Asked
all_stops [] = []
all_stops (x ∷ its) = OfStop x.file x.place ∷ all_stops its

abbrev pub all_asked : List JobDef → Chronicle → List Asked
all_asked [] c = []
all_asked (job ∷ jobs) c = all_stops (instances_of job.name c) ++ (OfStart job ∷ all_asked jobs c)

-- when an event is taken up, all are to be offered it
stops-first : (its : List Instance) (e : ℕ) (given : Input) (c : Chronicle) → open_stops its (Handled e ∷ Given given ∷ c) ≡ all_stops its
stops-first [] e given c = refl
stops-first (x ∷ its) e given c = cons_same refl (stops-first its e given c)

pub all-first : (jobs : List JobDef) (e : ℕ) (given : Input) (c : Chronicle) → open_all jobs (Handled e ∷ Given given ∷ c) ≡ all_asked jobs c
all-first [] e given c = refl
all-first (job ∷ jobs) e given c = rw (stops-first (instances_of job.name c) e given c, all-first jobs e given c) refl

-- each of them is another than the rest
apart-append : (a : Asked) (xs ys : List Asked) → IsApart a xs → IsApart a ys → IsApart a (xs ++ ys)
apart-append a [] ys all other = other
apart-append a (x ∷ xs) ys all other = (all.0, apart-append a xs ys all.1 other)

stop-apart : (file : JobDef) (p : ℕ) (its : List Instance) → count p its ≡ 0 → IsApart (OfStop file p) (all_stops its)
stop-apart file p [] none = tt
stop-apart file p (x ∷ its) none = by_case (x.place == p) refl none (stop-apart file p its)
  where
    by_case : (b : Bool) → (x.place == p) ≡ b → one_if b + count p its ≡ 0 → (count p its ≡ 0 → IsApart (OfStop file p) (all_stops its)) → IsApart (OfStop file p) (all_stops (x ∷ its))
    by_case true same none ih = absurd (omega arith)
    by_case false differs none ih = (ne_eqb p x.place (λ e. eqb-false x.place p differs (sym e)), ih (omega (arith, none)))

start-apart : (job : JobDef) (its : List Instance) → IsApart (OfStart job) (all_stops its)
start-apart job [] = tt
start-apart job (x ∷ its) = (refl, start-apart job its)

-- of an instance of a job, the rest of the jobs
past-stop : (job : Bytes) (x : Instance) (jobs : List JobDef) (c : Chronicle) → made_at x.place c ≡ Some (called job x.name) → AllByRecursion (λ other. bytes_eq other.name job ≡ false) jobs → IsApart (OfStop x.file x.place) (all_asked jobs c)
past-stop job x [] c made apart = tt
past-stop job x (other ∷ jobs) c made apart =
    let none = none-of-others other.name c x.place (called job x.name) (instances_of other.name c) (known-all other.name c) made apart.0 in
    apart-append (OfStop x.file x.place) (all_stops (instances_of other.name c)) (OfStart other ∷ all_asked jobs c) (stop-apart x.file x.place (instances_of other.name c) none) (refl, past-stop job x jobs c made apart.1)

back : (x y : Bytes) → bytes_eq x y ≡ false → bytes_eq y x ≡ false
back x y apart = by_case (bytes_eq y x) refl
  where
    by_case : (b : Bool) → bytes_eq y x ≡ b → b ≡ false
    by_case true same =
        let yes : bytes_eq x y ≡ true = ap (λ z. bytes_eq x z) (bytes_same y x same) ∙ bytes_refl x in
        absurd cc
    by_case false differs = refl

past-start : (job : JobDef) (jobs : List JobDef) (c : Chronicle) → AllByRecursion (λ other. bytes_eq other.name job.name ≡ false) jobs → IsApart (OfStart job) (all_asked jobs c)
past-start job [] c apart = tt
past-start job (other ∷ jobs) c apart =
    apart-append (OfStart job) (all_stops (instances_of other.name c)) (OfStart other ∷ all_asked jobs c) (start-apart job (instances_of other.name c)) (back other.name job.name apart.0, past-start job jobs c apart.1)

stops-apart : (job : JobDef) (its : List Instance) (jobs : List JobDef) (c : Chronicle) → AllByRecursion (IsKnown job.name c) its → ((p : ℕ) → count p its ≤ 1) → AllByRecursion (λ other. bytes_eq other.name job.name ≡ false) jobs
    → AreApart (OfStart job ∷ all_asked jobs c) → AreApart (all_stops its ++ (OfStart job ∷ all_asked jobs c))
stops-apart job [] jobs c known once apart others = others
stops-apart job (x ∷ its) jobs c known once apart others =
    let one : one_if (x.place == x.place) ≡ 1 = ap one_if (eq-eqb x.place x.place refl) in
    let none : count x.place its ≡ 0 = omega (arith, once x.place, one) in (
      apart-append (OfStop x.file x.place) (all_stops its) (OfStart job ∷ all_asked jobs c) (stop-apart x.file x.place its none) (refl, past-stop job.name x jobs c known.0.1 apart),
      stops-apart job its jobs c known.1 (λ p. omega (arith, once p)) apart others,
    )

pub all-apart : (jobs : List JobDef) (c : Chronicle) → AreDistinct jobs → AreApart (all_asked jobs c)
all-apart [] c distinct = tt
all-apart (job ∷ jobs) c distinct =
    stops-apart job (instances_of job.name c) jobs c (known-all job.name c) (λ p. omega (arith, instances-exist p job.name c, all_instances-once p c)) distinct.0
    (past-start job jobs c distinct.0, all-apart jobs c distinct.1)

-- nobody may move when an event is taken up
over-taken : (job : JobDef) (i : ℕ) (wait : Rattle.up_model.specs.Life.Wait) (e : ℕ) (c : Chronicle) → is_over job i wait (Handled e ∷ Given input.Turn ∷ c) ≡ is_over job i wait c
over-taken job i Rattle.up_model.specs.Life.ForStart e c = refl
over-taken job i Rattle.up_model.specs.Life.ForEvent e c = refl
over-taken job i (Rattle.up_model.specs.Life.ForAnswer its) e c = refl
over-taken job i (Rattle.up_model.specs.Life.ForProcess its) e c = refl
over-taken job i Rattle.up_model.specs.Life.ForChange e c = refl
over-taken job i Rattle.up_model.specs.Life.ForMain e c = refl

stayin-taken : (i : ℕ) (its : List Instance) (e : ℕ) (c : Chronicle) → StayIn i its c → StayIn i its (Handled e ∷ Given input.Turn ∷ c)
stayin-taken i [] e c all = tt
stayin-taken i (x ∷ its) e c all =
    ((λ apart. over-taken x.file x.place (Rattle.up_model.specs.Life.wait_in (Rattle.up_model.specs.Readings.state_of x.place c)) e c ∙ all.0 apart), stayin-taken i its e c all.1)

stay-taken : (i : ℕ) (jobs : List JobDef) (e : ℕ) (c : Chronicle) → Stay i jobs c → Stay i jobs (Handled e ∷ Given input.Turn ∷ c)
stay-taken i [] e c stay = tt
stay-taken i (job ∷ jobs) e c stay = (stayin-taken i (instances_of job.name c) e c stay.0, stay-taken i jobs e c stay.1)

pub taken-up : (jobs : List JobDef) (e : ℕ) (c : Chronicle) → move_first jobs c ≡ [] → IsHandling jobs e (all_asked jobs c) (Handled e ∷ Given input.Turn ∷ c)
taken-up jobs e c none = record {
  open_left = all-first jobs e input.Turn c;
  handles = refl;
  still = λ i. stay-taken i jobs e c (stay-still i jobs c none);
}

-- an instance that has left may not move
stayin-gone : (i j : ℕ) (its : List Instance) (c : Chronicle) → count i its ≡ 0 → StayIn i its c → StayIn j its c
stayin-gone i j [] c none all = tt
stayin-gone i j (x ∷ its) c none all = by_case (x.place == i) refl none (stayin-gone i j its c)
  where
    by_case : (b : Bool) → (x.place == i) ≡ b → one_if b + count i its ≡ 0 → (count i its ≡ 0 → StayIn i its c → StayIn j its c) → StayIn j (x ∷ its) c
    by_case true same none ih = absurd (omega arith)
    by_case false differs none ih = ((λ apart. all.0 differs), ih (omega (arith, none)) all.1)

stay-gone : (i j : ℕ) (jobs : List JobDef) (c : Chronicle) → count i (all_instances c) ≡ 0 → Stay i jobs c → Stay j jobs c
stay-gone i j [] c none stay = tt
stay-gone i j (job ∷ jobs) c none stay =
    (stayin-gone i j (instances_of job.name c) c (omega (arith, none, instances-exist i job.name c)) stay.0, stay-gone i j jobs c none stay.1)

pub moves-gone : (i : ℕ) (jobs : List JobDef) (e : ℕ) (left : List Asked) (c : Chronicle) → IsAt i jobs e left c → count i (all_instances c) ≡ 0 → IsHandling jobs e left c
moves-gone i jobs e left c h gone = record { open_left = h.open_left; handles = h.handles; still = λ j. stay-gone i j jobs c gone h.stay }

-- when none is left, the step is done but for an answer
pub handled-all : (config : Configuration) (e : ℕ) (c : Chronicle) → IsHandling config.jobs e [] c → answering_last c ≡ [] → (due config c ≡ []) × (rested config c ≡ c)
handled-all config e c h quiet =
    let parts : or_else (move_first config.jobs c) (or_else (offer_next config (offering c) c) (answering_last c)) ≡ [] =
    rw (still-stay config.jobs c (h.still (length c)), h.handles, Rattle.up_cascade.proofs.Offering.first-offer config config.jobs e c, h.open_left) quiet in
    let none : due config c ≡ [] = due-by config c ∙ parts in
    (none, settle_still (work config c) config c none)
