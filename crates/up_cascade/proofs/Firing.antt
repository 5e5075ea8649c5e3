-- After an offer, a firing or a move: what is still to be offered, and who may move.
use Rattle.std.proofs.Common.{◌≡◌, ℕ, ◌<◌, ◌==◌, Bool, true, false, List, [], ◌∷◌, ◌++◌, length, Some, bytes_eq, if◌then◌else◌, refl, sym, ◌∙◌, ap, arith, eq-eqb, ne_eqb}
use Rattle.std.proofs.lemmas.Bool.{eqb-false}
use Rattle.std.specs.List.{AllByRecursion}
use Rattle.up_conf.specs.declared.job.JobDef.{JobDef}
use Rattle.up_stanza.specs.declared.process.Process.{Process}
use Rattle.up_stanza.specs.declared.process.Process.TheVariants as process
use Rattle.up_model.specs.declared.state.State.TheVariants as state
use Rattle.up_model.specs.Chronicle.{Chronicle, Entry, Given, Queued, Finished, Made, Aimed, Restarted, Entered, Ordered, Entering}
use Rattle.up_model.specs.Instances as instances
use Rattle.up_model.specs.Instances.{Instance, is_before, instances_of}
use Rattle.up_model.specs.Life.{Wait, ForStart, ForEvent, ForAnswer, ForProcess, ForChange, ForMain, wait_in}
use Rattle.up_model.specs.Moves.{is_over, may_leave, move_of, move_in}
use Rattle.up_model.specs.Offers.{is_open, offering}
use Rattle.up_model.specs.Readings.{goal, state_of, was_restarted, blocker, is_awaited, pid_of}
use Rattle.up_model.specs.Values.{Bytes}
use Rattle.up_model.proofs.Places.{older-other, all-without}
use Rattle.up_cascade.specs.Offering.{Asked, open_all}
use Rattle.up_cascade.proofs.JobMoves.{move_first}
use Rattle.up_cascade.proofs.Moving.{StayIn, Stay}
use Rattle.up_book.proofs.One.{IsKnown, known-all}
use Rattle.up_cascade.proofs.Passing.{stays, or-nil-first, or-nil-rest}
use Rattle.up_cascade.proofs.Opening.{About, open-entry, closed-entry, offering-same}

-- such an entry leaves what is read of another instance
other_way : (i q : ℕ) → (q == i) ≡ false → (i == q) ≡ false
other_way i q apart = ne_eqb i q (λ e. eqb-false q i apart (sym e))

goal-same : (q i : ℕ) (e : Entry) (c : Chronicle) → About i e → (q == i) ≡ false → goal q (e ∷ c) ≡ goal q c
goal-same q i (Aimed j aim environment its) c is apart = rw is (rw (other_way i q apart) refl)
goal-same q i e c is apart = refl

state-same : (q i : ℕ) (e : Entry) (c : Chronicle) → About i e → (q == i) ≡ false → state_of q (e ∷ c) ≡ state_of q c
state-same q i (Entered j entered) c is apart = rw is (rw (other_way i q apart) refl)
state-same q i e c is apart = refl

restarted-same : (q i : ℕ) (e : Entry) (c : Chronicle) → About i e → (q == i) ≡ false → was_restarted q (e ∷ c) ≡ was_restarted q c
restarted-same q i (Entered j entered) c is apart = rw is (rw (other_way i q apart) refl)
restarted-same q i (Restarted j its) c is apart = rw is (rw (other_way i q apart) refl)
restarted-same q i e c is apart = refl

blocker-same : (q i : ℕ) (e : Entry) (c : Chronicle) → About i e → (q == i) ≡ false → blocker q (e ∷ c) ≡ blocker q c
blocker-same q i (Queued (Entering j entered) event) c is apart = rw is (rw (other_way i q apart) refl)
blocker-same q i (Finished event) c is apart = absurd is
blocker-same q i e c is apart = refl

awaited-same : (q i : ℕ) (its : Process) (e : Entry) (c : Chronicle) → About i e → (q == i) ≡ false → is_awaited q its (e ∷ c) ≡ is_awaited q its c
awaited-same q i its (Ordered j other) c is apart = rw is (rw (other_way i q apart) refl)
awaited-same q i its (Given input) c is apart = absurd is
awaited-same q i its (Made file name) c is apart = absurd is
awaited-same q i its e c is apart = refl

pid-same : (q i : ℕ) (its : Process) (e : Entry) (c : Chronicle) → About i e → pid_of q its (e ∷ c) ≡ pid_of q its c
pid-same q i its (Given input) c is = absurd is
pid-same q i its (Made file name) c is = absurd is
pid-same q i its e c is = refl

over-same : (job : JobDef) (q i : ℕ) (wait : Wait) (e : Entry) (c : Chronicle) → About i e → (q == i) ≡ false → is_over job q wait (e ∷ c) ≡ is_over job q wait c
over-same job q i ForStart e c is apart = rw (goal-same q i e c is apart) refl
over-same job q i ForEvent e c is apart = rw (blocker-same q i e c is apart) refl
over-same job q i (ForAnswer its) e c is apart = rw (awaited-same q i its e c is apart) refl
over-same job q i (ForProcess its) e c is apart = rw (awaited-same q i its e c is apart, pid-same q i its e c is) refl
over-same job q i ForChange e c is apart = rw (goal-same q i e c is apart, restarted-same q i e c is apart, pid-same q i process.Main e c is) refl
over-same job q i ForMain e c is apart = rw (pid-same q i process.Main e c is) refl

pub leave-same : (job : JobDef) (q i : ℕ) (e : Entry) (c : Chronicle) → About i e → (q == i) ≡ false → may_leave job q (e ∷ c) ≡ may_leave job q c
leave-same job q i e c is apart = ap (λ s. is_over job q (wait_in s) (e ∷ c)) (state-same q i e c is apart) ∙ over-same job q i (wait_in (state_of q c)) e c is apart

-- so it leaves the others where they are
stayin-same : (i : ℕ) (its : List Instance) (e : Entry) (c : Chronicle) → About i e → StayIn i its c → StayIn i its (e ∷ c)
stayin-same i [] e c is all = tt
stayin-same i (x ∷ its) e c is all = ((λ apart. leave-same x.file x.place i e c is apart ∙ all.0 apart), stayin-same i its e c is all.1)

stayin-entry : (i : ℕ) (job : JobDef) (e : Entry) (c : Chronicle) → About i e → StayIn i (instances_of job.name c) c → StayIn i (instances_of job.name (e ∷ c)) (e ∷ c)
stayin-entry i job (Made file name) c is all = absurd is
stayin-entry i job (Entered j state.Waiting) c is all =
    all-without (λ x. (x.place == i) ≡ false → may_leave x.file x.place (Entered j state.Waiting ∷ c) ≡ false) j (instances_of job.name c) (stayin-same i (instances_of job.name c) (Entered j state.Waiting) c is all)
stayin-entry i job e c is all = stayin-same i (instances_of job.name c) e c is all

pub stay-entry : (i : ℕ) (jobs : List JobDef) (e : Entry) (c : Chronicle) → About i e → Stay i jobs c → Stay i jobs (e ∷ c)
stay-entry i [] e c is stay = tt
stay-entry i (job ∷ jobs) e c is stay = (stayin-entry i job e c is stay.0, stay-entry i jobs e c is stay.1)

-- an instance that was just made is the only one that may move
over-made : (job : JobDef) (q : ℕ) (wait : Wait) (file : JobDef) (name : Bytes) (c : Chronicle) → q < length c → is_over job q wait (Made file name ∷ c) ≡ is_over job q wait c
over-made job q ForStart file name c older = refl
over-made job q ForEvent file name c older = refl
over-made job q (ForAnswer its) file name c older = rw (older-other (length c) q older) refl
over-made job q (ForProcess its) file name c older = rw (older-other (length c) q older) refl
over-made job q ForChange file name c older = rw (older-other (length c) q older) refl
over-made job q ForMain file name c older = rw (older-other (length c) q older) refl

stayin-made : (job : Bytes) (its : List Instance) (file : JobDef) (name : Bytes) (c : Chronicle) → AllByRecursion (IsKnown job c) its → StayIn (length c) its c → StayIn (length c) its (Made file name ∷ c)
stayin-made job [] file name c known all = tt
stayin-made job (x ∷ its) file name c known all =
    ((λ apart. over-made x.file x.place (wait_in (state_of x.place c)) file name c known.0.0 ∙ all.0 apart), stayin-made job its file name c known.1 all.1)

stayin-with : (n : ℕ) (x : Instance) (its : List Instance) (d : Chronicle) → x.place ≡ n → StayIn n its d → StayIn n (instances.with_instance x its) d
stayin-with n x [] d new all = ((λ apart. absurd (no apart)), tt)
  where
    no : (x.place == n) ≡ false → ⊥
    no apart =
        let yes : (x.place == n) ≡ true = eq-eqb x.place n new in
        cc
stayin-with n x (y ∷ its) d new all = by_case (is_before y x) (stayin-with n x its d new all.1)
  where
    no : (x.place == n) ≡ false → ⊥
    no apart =
        let yes : (x.place == n) ≡ true = eq-eqb x.place n new in
        cc

    by_case : (b : Bool) → StayIn n (instances.with_instance x its) d → StayIn n (if b then y ∷ instances.with_instance x its else x ∷ y ∷ its) d
    by_case true ih = (all.0, ih)
    by_case false ih = ((λ apart. absurd (no apart)), all)

pub stay-made : (jobs : List JobDef) (file : JobDef) (name : Bytes) (c : Chronicle) → Stay (length c) jobs c → Stay (length c) jobs (Made file name ∷ c)
stay-made [] file name c stay = tt
stay-made (job ∷ jobs) file name c stay = (by_case (bytes_eq file.name job.name), stay-made jobs file name c stay.1)
  where
    d : Chronicle
    d = Made file name ∷ c

    same : StayIn (length c) (instances_of job.name c) d
    same = stayin-made job.name (instances_of job.name c) file name c (known-all job.name c) stay.0

    by_case : (b : Bool) → StayIn (length c) (if b then instances.with_instance (record { place = length c; name = name; file = file }) (instances_of job.name c) else instances_of job.name c) d
    by_case true = stayin-with (length c) (record { place = length c; name = name; file = file }) (instances_of job.name c) d refl same
    by_case false = same

-- nobody may move, and these are still to be offered the event
pub record IsHandling (jobs : List JobDef) (e : ℕ) (left : List Asked) (c : Chronicle) : Type 0 where
  pub open_left : open_all jobs c ≡ left
  pub handles : offering c ≡ Some e
  pub still : (i : ℕ) → Stay i jobs c

-- nobody but this instance may move, which isn't one of these
pub record IsAt (i : ℕ) (jobs : List JobDef) (e : ℕ) (left : List Asked) (c : Chronicle) : Type 0 where
  pub open_left : open_all jobs c ≡ left
  pub handles : offering c ≡ Some e
  pub closed : is_open i c ≡ false
  pub stay : Stay i jobs c

pub at-entries : (i : ℕ) (jobs : List JobDef) (e : ℕ) (left : List Asked) (es c : List Entry) → AllByRecursion (About i) es → IsAt i jobs e left c → IsAt i jobs e left (es ++ c)
at-entries i jobs e left [] c all at = at
at-entries i jobs e left (x ∷ es) c all at =
    let rest = at-entries i jobs e left es c all.1 at in
    record {
      open_left = open-entry i jobs x (es ++ c) all.0 rest.closed ∙ rest.open_left;
      handles = offering-same i x (es ++ c) all.0 ∙ rest.handles;
      closed = closed-entry i x (es ++ c) all.0 rest.closed;
      stay = stay-entry i jobs x (es ++ c) all.0 rest.stay;
    }

-- nobody may move if nothing is to be done for any
stayin-still : (i : ℕ) (its : List Instance) (c : Chronicle) → move_in its c ≡ [] → StayIn i its c
stayin-still i [] c none = tt
stayin-still i (x ∷ its) c none =
    ((λ apart. stays x.file x c (or-nil-first (move_of x.file x c) (move_in its c) none)), stayin-still i its c (or-nil-rest (move_of x.file x c) (move_in its c) none))

pub stay-still : (i : ℕ) (jobs : List JobDef) (c : Chronicle) → move_first jobs c ≡ [] → Stay i jobs c
stay-still i [] c none = tt
stay-still i (job ∷ jobs) c none =
    (stayin-still i (instances_of job.name c) c (or-nil-first (move_in (instances_of job.name c) c) (move_first jobs c) none), stay-still i jobs c (or-nil-rest (move_in (instances_of job.name c) c) (move_first jobs c) none))

none-in : (job : Bytes) (its : List Instance) (c : Chronicle) → AllByRecursion (IsKnown job c) its → StayIn (length c) its c → move_in its c ≡ []
none-in job [] c known all = refl
none-in job (x ∷ its) c known all =
    let apart : (x.place == length c) ≡ false = ne_eqb x.place (length c) (λ same. omega (arith, known.0.0)) in
    rw (all.0 apart) (none-in job its c known.1 all.1)

-- and the other way
pub still-stay : (jobs : List JobDef) (c : Chronicle) → Stay (length c) jobs c → move_first jobs c ≡ []
still-stay [] c stay = refl
still-stay (job ∷ jobs) c stay = rw (none-in job.name (instances_of job.name c) c (known-all job.name c) stay.0) (still-stay jobs c stay.1)
