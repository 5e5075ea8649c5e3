-- Instances settle one after another: those before rest, and what comes of the chronicle stays.
use Rattle.up_cascade.proofs.Names.{◌≡◌, ℕ, zero, suc, ◌+◌, ◌≤◌, ◌==◌, Bool, true, false, List, [], ◌∷◌, ◌++◌, Some}
use Rattle.up_cascade.proofs.Names.{is_some, bytes_eq, if◌then◌else◌, refl, sym, ◌∙◌, ap, subst, arith, append_assoc}
use Rattle.up_cascade.proofs.Names.{eq-eqb, append-nil, AllByRecursion, JobDef, State, Waiting, Starting, PreStart}
use Rattle.up_cascade.proofs.Names.{Spawned, PostStart, Running, PreStop, Stopping, Killed, PostStop, Chronicle}
use Rattle.up_cascade.proofs.Names.{Entry, Made, Entered, Configuration, due, Instance, without_instance}
use Rattle.up_cascade.proofs.Names.{instances_of, entering, may_leave, next_of, move, who_of, offering, entries_if}
use Rattle.up_cascade.proofs.Names.{or_else, goal, state_of, blocker, made_at, answering_last, Bytes, moves_at}
use Rattle.up_cascade.proofs.Names.{offer_next, moves-few, count, one_if, instances-exist, same-append, AreDistinct}
use Rattle.up_cascade.proofs.Names.{IsKnown, known-all, called, none-of-others, apart-back, settle_one, settle_each}
use Rattle.up_cascade.proofs.Names.{settle_all, ListsAfter}
use Rattle.up_model.specs.Moves.{move_of, move_in}
use Rattle.up_model.proofs.Places.{all_instances-once}
use Rattle.up_cascade.proofs.JobMoves.{move_first, due-by}
use Rattle.up_cascade.proofs.Entries.{or_else-some}
use Rattle.up_cascade.proofs.MoveLemmas.{filled_move}
use Rattle.up_cascade.proofs.Offering.{rested, rested-next}
use Rattle.up_cascade.proofs.Opening.{About}
use Rattle.up_cascade.proofs.Firing.{leave-same}
use Rattle.up_cascade.proofs.Shapes.{enter-about}
use Rattle.up_cascade.proofs.Measure.{move-fewer, move-gone, count-gone}
use Rattle.up_cascade.proofs.Settled.{StandsStill, still-instances, enter-still, gone-stays, one-stays}

-- lists of instances without one
pub without-none : (p : ℕ) (xs : List Instance) → count p xs ≡ 0 → without_instance p xs ≡ xs
without-none p [] none = refl
without-none p (x ∷ xs) none = by_case (x.place == p) none (without-none p xs)
  where
    by_case : (b : Bool) → one_if b + count p xs ≡ 0 → (count p xs ≡ 0 → without_instance p xs ≡ xs) → (if b then without_instance p xs else x ∷ without_instance p xs) ≡ x ∷ xs
    by_case true none ih = absurd (omega (arith, none))
    by_case false none ih = ap (λ ys. x ∷ ys) (ih (omega (arith, none)))

without-append : (p : ℕ) (xs ys : List Instance) → without_instance p (xs ++ ys) ≡ without_instance p xs ++ without_instance p ys
without-append p [] ys = refl
without-append p (x ∷ xs) ys = by_case (x.place == p) (without-append p xs ys)
  where
    by_case : (b : Bool) → without_instance p (xs ++ ys) ≡ without_instance p xs ++ without_instance p ys
        → (if b then without_instance p (xs ++ ys) else x ∷ without_instance p (xs ++ ys)) ≡ (if b then without_instance p xs else x ∷ without_instance p xs) ++ without_instance p ys
    by_case true ih = ih
    by_case false ih = ap (λ zs. x ∷ zs) ih

count-append : (p : ℕ) (xs ys : List Instance) → count p (xs ++ ys) ≡ count p xs + count p ys
count-append p [] ys = omega arith
count-append p (x ∷ xs) ys =
    let rest = count-append p xs ys in
    omega (arith, rest)

pub count-here : (x : Instance) (xs : List Instance) → count x.place (x ∷ xs) ≡ 1 + count x.place xs
count-here x xs = ap (λ b. one_if b + count x.place xs) (eq-eqb x.place x.place refl)

-- one that stands once in a list stands neither before nor after
pub record Once (x : Instance) (xs ys : List Instance) : Type 0 where
  pub before : count x.place xs ≡ 0
  pub after : count x.place ys ≡ 0

pub once : (job : Bytes) (c : Chronicle) (xs ys : List Instance) (x : Instance) → instances_of job c ≡ xs ++ x ∷ ys → Once x xs ys
once job c xs ys x list =
    let few : count x.place (instances_of job c) ≤ 1 = omega (arith, instances-exist x.place job c, all_instances-once x.place c) in
    let sum : count x.place (instances_of job c) ≡ count x.place xs + (1 + count x.place ys) = ap (count x.place) list ∙ count-append x.place xs (x ∷ ys) ∙ ap (λ n. count x.place xs + n) (count-here x ys) in
    record { before = omega (arith, few, sum); after = omega (arith, few, sum) }

pub without-one : (job : Bytes) (c : Chronicle) (xs ys : List Instance) (x : Instance) → instances_of job c ≡ xs ++ x ∷ ys → without_instance x.place (instances_of job c) ≡ xs ++ ys
without-one job c xs ys x list =
    let one = once job c xs ys x list in
    ap (without_instance x.place) list ∙ without-append x.place xs (x ∷ ys)
    ∙ ap (λ zs. zs ++ without_instance x.place (x ∷ ys)) (without-none x.place xs one.before)
    ∙ ap (λ (b : Bool). xs ++ (if b then without_instance x.place ys else x ∷ without_instance x.place ys)) (eq-eqb x.place x.place refl)
    ∙ ap (λ zs. xs ++ zs) (without-none x.place ys one.after)

-- what an instance's own entries make of the lists
lists-entry : (job : Bytes) (i : ℕ) (e : Entry) (c : Chronicle) → About i e → without_instance i (instances_of job (e ∷ c)) ≡ without_instance i (instances_of job c)
lists-entry job i (Made file name) c is = absurd is
lists-entry job i (Entered j Waiting) c is =
    ap (λ k. without_instance i (without_instance k (instances_of job c))) is
    ∙ without-none i (without_instance i (instances_of job c)) (count-gone i (instances_of job c))
lists-entry job i e c is = refl

lists-entries : (job : Bytes) (i : ℕ) (es c : List Entry) → AllByRecursion (About i) es → without_instance i (instances_of job (es ++ c)) ≡ without_instance i (instances_of job c)
lists-entries job i [] c all = refl
lists-entries job i (e ∷ es) c all = lists-entry job i e (es ++ c) all.0 ∙ lists-entries job i es c all.1

pub move-about : (job : JobDef) (x : Instance) (c : Chronicle) → AllByRecursion (About x.place) (move job x c)
move-about job x c = enter-about job (who_of job x) x.place (next_of job x.place c) (entering (next_of job x.place c) (state_of x.place c) job.task) c

pub move-leaves : (job : JobDef) (x : Instance) (c : Chronicle) → next_of job x.place c ≡ Waiting → ListsAfter false x c (move job x c ++ c)
move-leaves job x c goes name =
    let none : count x.place (instances_of name (move job x c ++ c)) ≡ 0 = omega (arith, move-gone job x c goes, instances-exist x.place name (move job x c ++ c)) in
    sym (without-none x.place (instances_of name (move job x c ++ c)) none) ∙ lists-entries name x.place (move job x c) c (move-about job x c)

pub move-keeps : (job : JobDef) (x : Instance) (c : Chronicle) → StandsStill (Entered x.place (next_of job x.place c)) → ListsAfter true x c (move job x c ++ c)
move-keeps job x c still name =
    same-append (instances_of name) StandsStill (still-instances name) (move job x c) c
    (enter-still job (who_of job x) x.place (next_of job x.place c) (entering (next_of job x.place c) (state_of x.place c) job.task) c still)

-- whether an instance goes with its move
pub goes-or-stays : (P : Type 0) (p : ℕ) (to : State) → (to ≡ Waiting → P) → (StandsStill (Entered p to) → P) → P
goes-or-stays P p Waiting goes stays = goes refl
goes-or-stays P p Starting goes stays = stays tt
goes-or-stays P p PreStart goes stays = stays tt
goes-or-stays P p Spawned goes stays = stays tt
goes-or-stays P p PostStart goes stays = stays tt
goes-or-stays P p Running goes stays = stays tt
goes-or-stays P p PreStop goes stays = stays tt
goes-or-stays P p Stopping goes stays = stays tt
goes-or-stays P p Killed goes stays = stays tt
goes-or-stays P p PostStop goes stays = stays tt

-- instances that may not move
abbrev pub Rest : List Instance → Chronicle → Type 0
Rest its c = AllByRecursion (λ x. may_leave x.file x.place c ≡ false) its

abbrev pub RestAll : List JobDef → Chronicle → Type 0
RestAll [] c = Unit {0}
RestAll (job ∷ jobs) c = Rest (instances_of job.name c) c × RestAll jobs c

in-past : (xs ys : List Instance) (c : Chronicle) → Rest xs c → move_in (xs ++ ys) c ≡ move_in ys c
in-past [] ys c rest = refl
in-past (x ∷ xs) ys c rest = ap (λ b. or_else (entries_if b (move x.file x c)) (move_in (xs ++ ys) c)) rest.0 ∙ in-past xs ys c rest.1

in-rest : (xs : List Instance) (c : Chronicle) → Rest xs c → move_in xs c ≡ []
in-rest [] c rest = refl
in-rest (x ∷ xs) c rest = ap (λ b. or_else (entries_if b (move x.file x c)) (move_in xs c)) rest.0 ∙ in-rest xs c rest.1

first-past : (done jobs : List JobDef) (c : Chronicle) → RestAll done c → move_first (done ++ jobs) c ≡ move_first jobs c
first-past [] jobs c rest = refl
first-past (job ∷ done) jobs c rest = ap (λ es. or_else es (move_first (done ++ jobs) c)) (in-rest (instances_of job.name c) c rest.0) ∙ first-past done jobs c rest.1

pub first-none : (jobs : List JobDef) (c : Chronicle) → RestAll jobs c → move_first jobs c ≡ []
first-none [] c rest = refl
first-none (job ∷ jobs) c rest = ap (λ es. or_else es (move_first jobs c)) (in-rest (instances_of job.name c) c rest.0) ∙ first-none jobs c rest.1

-- a place in the order: all before it rest
pub record Reached (config : Configuration) (done : List JobDef) (job : JobDef) (todo : List JobDef) (passed left : List Instance) (c : Chronicle) : Type 0 where
  pub jobs : config.jobs ≡ done ++ job ∷ todo
  pub before : RestAll done c
  pub list : instances_of job.name c ≡ passed ++ left
  pub rest : Rest passed c

reached-first : (config : Configuration) (done : List JobDef) (job : JobDef) (todo : List JobDef) (passed left : List Instance) (x : Instance) (c : Chronicle)
    → Reached config done job todo passed (x ∷ left) c → may_leave x.file x.place c ≡ true → move_first config.jobs c ≡ move x.file x c
reached-first config done job todo passed left x c h may =
    let of : move_of x.file x c ≡ move x.file x c = ap (λ b. entries_if b (move x.file x c)) may in
    let mine : move_in (instances_of job.name c) c ≡ move x.file x c =
    ap (λ its. move_in its c) h.list ∙ in-past passed (x ∷ left) c h.rest ∙ ap (λ es. or_else es (move_in left c)) of ∙ or_else-some (move x.file x c) (move_in left c) (filled_move x.file x c) in
    ap (λ js. move_first js c) h.jobs ∙ first-past done (job ∷ todo) c h.before
    ∙ ap (λ es. or_else es (move_first todo c)) mine ∙ or_else-some (move x.file x c) (move_first todo c) (filled_move x.file x c)

reached-rested : (config : Configuration) (done : List JobDef) (job : JobDef) (todo : List JobDef) (passed left : List Instance) (x : Instance) (c : Chronicle)
    → Reached config done job todo passed (x ∷ left) c → may_leave x.file x.place c ≡ true → rested config (move x.file x c ++ c) ≡ rested config c
reached-rested config done job todo passed left x c h may =
    let first = reached-first config done job todo passed left x c h may in
    let other = or_else (offer_next config (offering c) c) (answering_last c) in
    let one : due config c ≡ move x.file x c = due-by config c ∙ ap (λ es. or_else es other) first ∙ or_else-some (move x.file x c) other (filled_move x.file x c) in
    ap (λ es. rested config (es ++ c)) (sym one) ∙ rested-next config c

-- the entries of one instance leave the others where they are
others-rest : (job : JobDef) (q i : ℕ) (es c : List Entry) → AllByRecursion (About i) es → (q == i) ≡ false → may_leave job q (es ++ c) ≡ may_leave job q c
others-rest job q i [] c all apart = refl
others-rest job q i (e ∷ es) c all apart = leave-same job q i e (es ++ c) all.0 apart ∙ others-rest job q i es c all.1 apart

rest-others : (its : List Instance) (i : ℕ) (es c : List Entry) → AllByRecursion (About i) es → count i its ≡ 0 → Rest its c → Rest its (es ++ c)
rest-others [] i es c all none rest = tt
rest-others (x ∷ its) i es c all none rest = by_case (x.place == i) refl none (λ few. rest-others its i es c all few rest.1)
  where
    by_case : (b : Bool) → (x.place == i) ≡ b → one_if b + count i its ≡ 0 → (count i its ≡ 0 → Rest its (es ++ c)) → Rest (x ∷ its) (es ++ c)
    by_case true same none ih = absurd (omega (arith, none))
    by_case false differs none ih = (others-rest x.file x.place i es c all differs ∙ rest.0, ih (omega (arith, none)))

-- the lists in which the instance doesn't stand stay
abbrev pub KeepsLists : ℕ → Chronicle → Chronicle → Type 0
KeepsLists i c d = (job : Bytes) → count i (instances_of job c) ≡ 0 → instances_of job d ≡ instances_of job c

pub lists-kept : (b : Bool) (x : Instance) (c d : Chronicle) → ListsAfter b x c d → KeepsLists x.place c d
lists-kept true x c d lists job none = lists job
lists-kept false x c d lists job none = lists job ∙ without-none x.place (instances_of job c) none

rest-jobs : (done : List JobDef) (its : JobDef) (x : Instance) (es c : List Entry) → AllByRecursion (λ j. bytes_eq j.name its.name ≡ false) done → made_at x.place c ≡ Some (called its.name x.name)
    → AllByRecursion (About x.place) es → KeepsLists x.place c (es ++ c) → RestAll done c → RestAll done (es ++ c)
rest-jobs [] its x es c apart made all lists rest = tt
rest-jobs (job ∷ done) its x es c apart made all lists rest =
    let none = none-of-others job.name c x.place (called its.name x.name) (instances_of job.name c) (known-all job.name c) made apart.0 in
    (subst (λ (xs : List Instance). Rest xs (es ++ c)) (sym (lists job.name none)) (rest-others (instances_of job.name c) x.place es c all none rest.0), rest-jobs done its x es c apart.1 made all lists rest.1)

pub all-middle : {X : Type 0} (P : X → Type 0) (xs : List X) (y : X) (ys : List X) → AllByRecursion P (xs ++ y ∷ ys) → P y
all-middle P [] y ys all = all.0
all-middle P (x ∷ xs) y ys all = all-middle P xs y ys all.1

distinct-before : (done : List JobDef) (job : JobDef) (todo : List JobDef) → AreDistinct (done ++ job ∷ todo) → AllByRecursion (λ j. bytes_eq j.name job.name ≡ false) done
distinct-before [] job todo distinct = tt
distinct-before (first ∷ done) job todo distinct =
    (apart-back job.name first.name (all-middle (λ other. bytes_eq other.name first.name ≡ false) done job todo distinct.0), distinct-before done job todo distinct.1)

reached-known : (config : Configuration) (done : List JobDef) (job : JobDef) (todo : List JobDef) (passed left : List Instance) (x : Instance) (c : Chronicle)
    → Reached config done job todo passed (x ∷ left) c → made_at x.place c ≡ Some (called job.name x.name)
reached-known config done job todo passed left x c h =
    let known : AllByRecursion (IsKnown job.name c) (passed ++ x ∷ left) = subst (AllByRecursion (IsKnown job.name c)) h.list (known-all job.name c) in
    (all-middle (IsKnown job.name c) passed x left known).1

-- so the place is the same after them, or further if the instance rests or has gone
reached-after : (config : Configuration) (done : List JobDef) (job : JobDef) (todo : List JobDef) (passed left rest : List Instance) (x : Instance) (es c : List Entry) → AreDistinct config.jobs
    → Reached config done job todo passed (x ∷ left) c → AllByRecursion (About x.place) es → KeepsLists x.place c (es ++ c) → instances_of job.name (es ++ c) ≡ passed ++ rest
    → Reached config done job todo passed rest (es ++ c)
reached-after config done job todo passed left rest x es c distinct h all lists list = record {
  jobs = h.jobs;
  before = rest-jobs done job x es c (distinct-before done job todo (subst AreDistinct h.jobs distinct)) (reached-known config done job todo passed left x c h) all lists h.before;
  list = list;
  rest = rest-others passed x.place es c all (once job.name c passed left x h.list).before h.rest;
}

reached-more : (config : Configuration) (done : List JobDef) (job : JobDef) (todo : List JobDef) (passed left : List Instance) (x : Instance) (c : Chronicle)
    → Reached config done job todo passed (x ∷ left) c → may_leave x.file x.place c ≡ false → Reached config done job todo (passed ++ x ∷ []) left c
reached-more config done job todo passed left x c h stays = record {
  jobs = h.jobs;
  before = h.before;
  list = h.list ∙ sym (append_assoc passed (x ∷ []) left);
  rest = more passed h.rest;
}
  where
    more : (xs : List Instance) → Rest xs c → Rest (xs ++ x ∷ []) c
    more [] rest = (stays, tt)
    more (y ∷ ys) rest = (rest.0, more ys rest.1)

-- one instance after another
pub record Further (config : Configuration) (done : List JobDef) (job : JobDef) (todo : List JobDef) (left : List Instance) (c d : Chronicle) : Type 0 where
  pub passed : List Instance
  pub reached : Reached config done job todo passed left d
  pub same : rested config d ≡ rested config c

one-further : (n : ℕ) (config : Configuration) (done : List JobDef) (job : JobDef) (todo : List JobDef) (passed left : List Instance) (x : Instance) (c : Chronicle) → AreDistinct config.jobs
    → Reached config done job todo passed (x ∷ left) c → moves_at x.place c ≤ n → Further config done job todo left c (settle_one n x.file x c)
one-further zero config done job todo passed left x c distinct h few = by_case (may_leave x.file x.place c) refl
  where
    by_case : (b : Bool) → may_leave x.file x.place c ≡ b → Further config done job todo left c c
    by_case true may = absurd (omega (arith, move-fewer x.file x c may, few))
    by_case false stays = record { passed = passed ++ x ∷ []; reached = reached-more config done job todo passed left x c h stays; same = refl }
one-further (suc n) config done job todo passed left x c distinct h few =
    by_case (may_leave x.file x.place c) refl (λ d reached fewer. one-further n config done job todo passed left x d distinct reached fewer)
  where
    d : Chronicle
    d = move x.file x c ++ c

    Again : Type 0
    Again = (f : Chronicle) → Reached config done job todo passed (x ∷ left) f → moves_at x.place f ≤ n → Further config done job todo left f (settle_one n x.file x f)

    gone : may_leave x.file x.place c ≡ true → next_of x.file x.place c ≡ Waiting → Further config done job todo left c (settle_one n x.file x d)
    gone may goes =
        let lists = move-leaves x.file x c goes in
        subst (Further config done job todo left c) (sym (one-stays n x.file x d (gone-stays x.file x c goes)))
        (record {
          passed = passed;
          reached = reached-after config done job todo passed left left x (move x.file x c) c distinct h (move-about x.file x c) (lists-kept false x c d lists) (lists job.name ∙ without-one job.name c passed left x h.list);
          same = reached-rested config done job todo passed left x c h may;
        })

    goes_on : Again → may_leave x.file x.place c ≡ true → StandsStill (Entered x.place (next_of x.file x.place c)) → Further config done job todo left c (settle_one n x.file x d)
    goes_on again may still =
        let lists = move-keeps x.file x c still in
        let reached = reached-after config done job todo passed left (x ∷ left) x (move x.file x c) c distinct h (move-about x.file x c) (lists-kept true x c d lists) (lists job.name ∙ h.list) in
        let end = again d reached (omega (arith, move-fewer x.file x c may, few)) in
        record { passed = end.passed; reached = end.reached; same = end.same ∙ reached-rested config done job todo passed left x c h may }

    by_case : (b : Bool) → may_leave x.file x.place c ≡ b → Again → Further config done job todo left c (if b then settle_one n x.file x d else c)
    by_case true may again = goes-or-stays (Further config done job todo left c (settle_one n x.file x d)) x.place (next_of x.file x.place c) (gone may) (goes_on again may)
    by_case false stays again = record { passed = passed ++ x ∷ []; reached = reached-more config done job todo passed left x c h stays; same = refl }

each-further : (config : Configuration) (done : List JobDef) (job : JobDef) (todo : List JobDef) (passed left : List Instance) (c : Chronicle) → AreDistinct config.jobs
    → Reached config done job todo passed left c → Further config done job todo [] c (settle_each left c)
each-further config done job todo passed [] c distinct h = record { passed = passed; reached = h; same = refl }
each-further config done job todo passed (x ∷ left) c distinct h =
    let few : moves_at x.place c ≤ 5 = omega (arith, moves-few (goal x.place c) (state_of x.place c) (is_some (blocker x.place c))) in
    let one = one-further 5 config done job todo passed left x c distinct h few in
    let rest = each-further config done job todo one.passed left (settle_one 5 x.file x c) distinct one.reached in
    record { passed = rest.passed; reached = rest.reached; same = rest.same ∙ one.same }

rest-append : (xs ys : List JobDef) (c : Chronicle) → RestAll xs c → RestAll ys c → RestAll (xs ++ ys) c
rest-append [] ys c rest others = others
rest-append (x ∷ xs) ys c rest others = (rest.0, rest-append xs ys c rest.1 others)

jobs-further : (config : Configuration) (done jobs : List JobDef) (c : Chronicle) → AreDistinct config.jobs → config.jobs ≡ done ++ jobs → RestAll done c
    → RestAll config.jobs (settle_all jobs c) × (rested config (settle_all jobs c) ≡ rested config c)
jobs-further config done [] c distinct split rest = (subst (λ js. RestAll js c) (sym (split ∙ append-nil done)) rest, refl)
jobs-further config done (job ∷ jobs) c distinct split rest =
    let d = settle_each (instances_of job.name c) c in
    let mine = each-further config done job jobs [] (instances_of job.name c) c distinct (record { jobs = split; before = rest; list = refl; rest = tt }) in
    let list : mine.passed ≡ instances_of job.name d = sym (mine.reached.list ∙ append-nil mine.passed) in
    let here : Rest (instances_of job.name d) d = subst (λ (xs : List Instance). Rest xs d) list mine.reached.rest in
    let others = jobs-further config (done ++ job ∷ []) jobs d distinct (split ∙ sym (append_assoc done (job ∷ []) jobs)) (rest-append done (job ∷ []) d mine.reached.before (here, tt)) in
    (others.0, others.1 ∙ mine.same)

-- when all have settled nobody may move, and what comes of the chronicle is the same
pub all-settled : (config : Configuration) (c : Chronicle) → AreDistinct config.jobs
    → (move_first config.jobs (settle_all config.jobs c) ≡ []) × (rested config (settle_all config.jobs c) ≡ rested config c)
all-settled config c distinct =
    let all = jobs-further config [] config.jobs c distinct refl tt in
    (first-none config.jobs (settle_all config.jobs c) all.0, all.1)
