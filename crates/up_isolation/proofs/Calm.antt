-- In its own chronicle no expression of the job is true at rest: one that comes true fires, and has then seen
-- nothing.
use Rattle.std.proofs.Common.{◌≡◌, ℕ, ◌<◌, ◌≤◌, ◌==◌, ◌⊎◌, inl, inr, Bool, true, false, List, [], ◌∷◌, ◌++◌, Option, None, Some}
use Rattle.std.proofs.Common.{length, if◌then◌else◌, bytes_eq, refl, sym, ◌∙◌, ap, subst, arith, eq-eqb, eqb-true}
use Rattle.std.proofs.Common.{ne_eqb, length-append}
use Rattle.std.specs.List.{AllByRecursion}
use Rattle.up_conf.specs.declared.job.JobDef.{JobDef}
use Rattle.up_expr.specs.Truth.{Sight}
use Rattle.up_model.specs.declared.who.Who.{Who}
use Rattle.up_model.specs.Chronicle.{Chronicle, Entry, Offered, Fired, Made, Aimed, Loaded, Expression, StartOn}
use Rattle.up_model.specs.Chronicle.{StopOn}
use Rattle.up_model.specs.Configuration.{Configuration, job_named}
use Rattle.up_model.specs.Instances.{Instance, instances_of}
use Rattle.up_model.specs.Readings.{event_at, file_in, file_of}
use Rattle.up_model.specs.Seen.{seen, sight_of, env_of}
use Rattle.up_model.specs.Values.{Bytes, Bindings}
use Rattle.up_model.proofs.Places.{bytes_refl, bytes_same}
use Rattle.up_isolation.proofs.Known.{IsKnown, known, one-file}
use Rattle.up_isolation.proofs.Likes.{only, named-only, start_tree}
use Rattle.up_isolation.proofs.Releases.{entry-append}
use Rattle.std.proofs.Common.{append_assoc, not, zero, suc}
use Rattle.up_expr.specs.Trees.{Tree, One, Both, Either}
use Rattle.up_expr.specs.Truth as truth
use Rattle.up_model.specs.Due.{due}
use Rattle.up_model.specs.Events.{events_at, stopped_by, events_env}
use Rattle.up_model.specs.Environments.{env_of_job, instance_name}
use Rattle.up_model.specs.Files.{job_names, names_in_order}
use Rattle.up_model.specs.Held.{start_on_of}
use Rattle.up_model.specs.Moves.{may_leave, move, move_in, move_first, move_of}
use Rattle.up_model.specs.Offers.{is_open, stop_of, stop_by, stop_offer, stop_offer_in, start_of, start_who, start_env}
use Rattle.up_model.specs.Offers.{start_by, who_called, start_offer, start_offer_by, offering}
use Rattle.up_model.specs.Offers.{offer_in, offer_first, offer_next}
use Rattle.up_model.specs.Predicates.{entries_if, or_else, is_start}
use Rattle.up_model.specs.Readings.{goal}
use Rattle.up_model.specs.Replies.{releasing, unanswered, answering_hurried, answering_last}
use Rattle.up_model.specs.Seen.{holds, taken, was_offered}
use Rattle.up_model.specs.Work.{settle}
use Rattle.up_model.proofs.Sparing.{same-append, all-if, all-weaker}
use Rattle.up_model.proofs.ReplyLaws.{releasing-all}
use Rattle.up_model.proofs.FileLaws.{named-name}
use Rattle.up_isolation.proofs.Locals.{IsMoving, move-moving}
use Rattle.up_isolation.proofs.Resting.{IsCalm}
use Rattle.up_isolation.specs.Views.{jobs_called}

holds-nil : (tree : Tree) → truth.holds tree [] ≡ false
holds-nil (One leaf) = refl
holds-nil (Both left right) = rw (holds-nil left) refl
holds-nil (Either left right) = rw (holds-nil left, holds-nil right) refl

pub nothing-holds : (o : Option Tree) → holds o [] ≡ false
nothing-holds None = refl
nothing-holds (Some tree) = holds-nil tree

-- entries by which no expression sees anything else
abbrev pub IsBlind : Entry → Type 0
IsBlind (Offered expression event) = ⊥
IsBlind (Fired expression taken) = ⊥
IsBlind (Loaded jobs) = ⊥
IsBlind e = Unit {0}

pub blind-seen : (config : Configuration) (expression : Expression) (e : Entry) (c : Chronicle) → IsBlind e
    → seen config expression (e ∷ c) ≡ seen config expression c
blind-seen config expression (Offered other event) c is = absurd is
blind-seen config expression (Fired other taken) c is = absurd is
blind-seen config expression (Loaded jobs) c is = absurd is
blind-seen config expression e c is = refl

moving-blind : (e : Entry) → IsMoving e → IsBlind e
moving-blind (Offered other event) is = is
moving-blind (Fired other taken) is = is
moving-blind (Loaded jobs) is = is
moving-blind e is = tt

-- more entries: what is known of the instances that there were is known of all
pub calm-more : (job : Bytes) (config : Configuration) (es d : List Entry)
    → holds (start_tree job config) (seen (only job config) (StartOn job) (es ++ d)) ≡ false
    → ((j : ℕ) (file : JobDef) → file_of j d ≡ Some file
    → holds file.stop_on (seen (only job config) (StopOn j) (es ++ d)) ≡ false)
    → ((j : ℕ) → length d ≤ j → seen (only job config) (StopOn j) (es ++ d) ≡ [])
    → IsCalm job config (es ++ d)
calm-more job config es d start stops blank = record {
  start = start;
  stops = λ j file is. by_sum j file is (grind arith);
  blank = λ j h. blank j (omega (arith, length-append es d, h));
}
  where
    by_sum : (j : ℕ) (file : JobDef) → file_of j (es ++ d) ≡ Some file → (j < length d) ⊎ (length d ≤ j)
        → holds file.stop_on (seen (only job config) (StopOn j) (es ++ d)) ≡ false
    by_sum j file is (inl h) = stops j file (sym (ap file_in (entry-append j es d h).1) ∙ is)
    by_sum j file is (inr h) = ap (holds file.stop_on) (blank j h) ∙ nothing-holds file.stop_on

pub calm-blind : (job : Bytes) (config : Configuration) (es d : List Entry)
    → AllByRecursion IsBlind es → IsCalm job config d → IsCalm job config (es ++ d)
calm-blind job config es d all calm =
    calm-more job config es d
    (ap (holds (start_tree job config)) (same-append (seen A (StartOn job)) IsBlind (blind-seen A (StartOn job)) es d all)
    ∙ calm.start)
    (λ j file is. ap (holds file.stop_on) (same j) ∙ calm.stops j file is)
    (λ j h. same j ∙ calm.blank j h)
  where
    A : Configuration
    A = only job config

    same : (j : ℕ) → seen A (StopOn j) (es ++ d) ≡ seen A (StopOn j) d
    same j = same-append (seen A (StopOn j)) IsBlind (blind-seen A (StopOn j)) es d all

-- an offer to the `stop on` of an instance
calm-stop_offer : (job : Bytes) (config : Configuration) (x : Instance) (p : ℕ) (d : Chronicle) → IsKnown job d x
    → IsCalm job config d → IsCalm job config (stop_offer (only job config) x.file x.place p d ++ d)
calm-stop_offer job config x p d known calm =
    subst (λ (t : Chronicle). IsCalm job config t)
    (sym (append_assoc (entries_if (holds x.file.stop_on ss) (stop_by i ps fired ++ Fired (StopOn i) ps ∷ []))
    (Offered (StopOn i) p ∷ []) d)) (by_case (holds x.file.stop_on ss) refl)
  where
    i : ℕ
    i = x.place

    A : Configuration
    A = only job config

    offered : Chronicle
    offered = Offered (StopOn i) p ∷ d

    ss : List Sight
    ss = seen A (StopOn i) offered

    ps : List ℕ
    ps = taken x.file.stop_on ss

    fired : Chronicle
    fired = Fired (StopOn i) ps ∷ offered

    younger : (j : ℕ) → length d ≤ j → (i == j) ≡ false
    younger j h = let old = known.0 in ne_eqb i j (λ same. omega arith)

    other : (j : ℕ) (file : JobDef) → file_of j d ≡ Some file → (b : Bool)
        → holds file.stop_on (if b then []
        else (if b then seen A (StopOn j) d ++ sight_of p (event_at p d) (env_of A (StopOn j) d)
        else seen A (StopOn j) d)) ≡ false
    other j file is true = nothing-holds file.stop_on
    other j file is false = calm.stops j file is

    unfired : (j : ℕ) (file : JobDef) → file_of j d ≡ Some file → (b : Bool) → (i == j) ≡ b
        → holds x.file.stop_on ss ≡ false
        → holds file.stop_on (if b then seen A (StopOn j) d ++ sight_of p (event_at p d)
        (env_of A (StopOn j) d) else seen A (StopOn j) d) ≡ false
    unfired j file is true same none =
        let here : i ≡ j = eqb-true i j same in
        subst (λ its. holds its.stop_on (seen A (StopOn j) d ++ sight_of p (event_at p d) (env_of A (StopOn j) d)) ≡ false)
        (one-file (file_of j d) x.file file (ap (λ k. file_of k d) (sym here) ∙ known.2) is)
        (subst (λ k. holds x.file.stop_on
        (seen A (StopOn k) d ++ sight_of p (event_at p d) (env_of A (StopOn k) d)) ≡ false) here
        (rw (eq-eqb i i refl) at none))
    unfired j file is false same none = calm.stops j file is

    by_case : (b : Bool) → holds x.file.stop_on ss ≡ b
        → IsCalm job config (entries_if b (stop_by i ps fired ++ Fired (StopOn i) ps ∷ []) ++ offered)
    by_case true is =
        subst (λ (t : Chronicle). IsCalm job config t)
        (sym (append_assoc (stop_by i ps fired) (Fired (StopOn i) ps ∷ []) offered))
        (calm-blind job config (stop_by i ps fired) fired
        (all-if IsBlind (is_start (goal i fired)) (stop_of i (stopped_by (events_at ps fired)) ps fired)
        (tt, releasing-all IsBlind (λ request answer. tt) i false tt fired))
        (calm-more job config (Fired (StopOn i) ps ∷ Offered (StopOn i) p ∷ []) d calm.start
        (λ j file is. other j file is (i == j)) (λ j h. rw (younger j h) (calm.blank j h))))
    by_case false is =
        calm-more job config (Offered (StopOn i) p ∷ []) d calm.start
        (λ j file its. unfired j file its (i == j) refl is) (λ j h. rw (younger j h) (calm.blank j h))

start_who-blind : (job : JobDef) (o : Option ℕ) (who : Who) (environment : Bindings) (ps : List ℕ) (c : Chronicle)
    → AllByRecursion IsBlind (start_of job who environment ps o c)
start_who-blind job None who environment ps c =
    all-if IsBlind _ (Aimed (length c) _ environment ps ∷ Made job who.instance ∷ []) (tt, (tt, tt))
start_who-blind job (Some i) who environment ps c =
    all-if IsBlind (not (is_start (goal i c))) (Aimed i _ environment ps ∷ releasing i false c)
    (tt, releasing-all IsBlind (λ request answer. tt) i false tt c)

start_by-blind : (job : JobDef) (o : Option Who) (environment : Bindings) (ps : List ℕ) (c : Chronicle)
    → AllByRecursion IsBlind (start_who job environment ps o c)
start_by-blind job None environment ps c = tt
start_by-blind job (Some who) environment ps c = start_who-blind job _ who _ ps c

-- an offer to the `start on` of its file in force
calm-start_offer : (config : Configuration) (def : JobDef) (p : ℕ) (d : Chronicle)
    → job_named def.name config.jobs ≡ Some def
    → IsCalm def.name config d → IsCalm def.name config (start_offer (only def.name config) def p d ++ d)
calm-start_offer config def p d in_force calm =
    subst (λ (t : Chronicle). IsCalm job config t)
    (sym (append_assoc (entries_if (holds def.start_on ss) (start_by A def ps fired ++ Fired (StartOn job) ps
    ∷ [])) (Offered (StartOn job) p ∷ []) d)) (by_case (holds def.start_on ss) refl)
  where
    job : Bytes
    job = def.name

    A : Configuration
    A = only job config

    offered : Chronicle
    offered = Offered (StartOn job) p ∷ d

    ss : List Sight
    ss = seen A (StartOn job) offered

    ps : List ℕ
    ps = taken def.start_on ss

    fired : Chronicle
    fired = Fired (StartOn job) ps ∷ offered

    name : Option Bytes
    name = instance_name def (events_env (env_of_job A job) (events_at ps fired))

    environment : Bindings
    environment = start_env A (who_called job name) (events_at ps fired) fired

    by_case : (b : Bool) → holds def.start_on ss ≡ b
        → IsCalm job config (entries_if b (start_by A def ps fired ++ Fired (StartOn job) ps ∷ []) ++ offered)
    by_case true is =
        subst (λ (t : Chronicle). IsCalm job config t)
        (sym (append_assoc (start_by A def ps fired) (Fired (StartOn job) ps ∷ []) offered))
        (calm-blind job config (start_by A def ps fired) fired
        (start_by-blind def (who_called job name) environment ps fired)
        (calm-more job config (Fired (StartOn job) ps ∷ Offered (StartOn job) p ∷ []) d
        (rw (bytes_refl job) (nothing-holds (start_tree job config))) calm.stops calm.blank))
    by_case false is =
        calm-more job config (Offered (StartOn job) p ∷ []) d
        (subst (λ file. holds (start_on_of file) ss ≡ false) (sym in_force) is) calm.stops calm.blank

-- entries after which the job is calm
abbrev Keeps : Bytes → Configuration → Chronicle → List Entry → Type 0
Keeps job config d es = IsCalm job config (es ++ d)

keeps-or : (job : Bytes) (config : Configuration) (d : Chronicle) (es fs : List Entry)
    → Keeps job config d es → Keeps job config d fs → Keeps job config d (or_else es fs)
keeps-or job config d [] fs one other = other
keeps-or job config d (e ∷ es) fs one other = one

keeps-if : (job : Bytes) (config : Configuration) (d : Chronicle) (b : Bool) (es : List Entry)
    → IsCalm job config d → Keeps job config d es → Keeps job config d (entries_if b es)
keeps-if job config d true es calm keeps = keeps
keeps-if job config d false es calm keeps = calm

calm-moves : (job : Bytes) (config : Configuration) (d : Chronicle) (xs : List Instance)
    → IsCalm job config d → Keeps job config d (move_in xs d)
calm-moves job config d [] calm = calm
calm-moves job config d (x ∷ xs) calm =
    keeps-or job config d (move_of x.file x d) (move_in xs d)
    (keeps-if job config d (may_leave x.file x.place d) (move x.file x d) calm
    (calm-blind job config (move x.file x d) d
    (all-weaker IsMoving IsBlind moving-blind (move x.file x d) (move-moving x.file x d)) calm))
    (calm-moves job config d xs calm)

calm-first : (job : Bytes) (config : Configuration) (d : Chronicle) (names : List Bytes)
    → IsCalm job config d → Keeps job config d (move_first names d)
calm-first job config d [] calm = calm
calm-first job config d (name ∷ names) calm =
    keeps-or job config d (move_in (instances_of name d) d) (move_first names d)
    (calm-moves job config d (instances_of name d) calm) (calm-first job config d names calm)

calm-stops : (job : Bytes) (config : Configuration) (p : ℕ) (d : Chronicle)
    (xs : List Instance) → AllByRecursion (IsKnown job d) xs → IsCalm job config d
    → Keeps job config d (stop_offer_in (only job config) xs p d)
calm-stops job config p d [] known calm = calm
calm-stops job config p d (x ∷ xs) known calm =
    keeps-or job config d (entries_if (is_open x.place d) (stop_offer (only job config) x.file x.place p d))
    (stop_offer_in (only job config) xs p d)
    (keeps-if job config d (is_open x.place d) (stop_offer (only job config) x.file x.place p d) calm
    (calm-stop_offer job config x p d known.0 calm)) (calm-stops job config p d xs known.1 calm)

calm-last : (job : Bytes) (config : Configuration) (d : Chronicle) (o : Option ℕ)
    → IsCalm job config d → Keeps job config d (answering_hurried o d)
calm-last job config d None calm = calm
calm-last job config d (Some r) calm = calm-blind job config (answering_hurried (Some r) d) d (tt, tt) calm

-- the offers to its own expressions
calm-own : (job : Bytes) (config : Configuration) (p : ℕ) (d : Chronicle) → IsCalm job config d
    → Keeps job config d (offer_in (only job config) job p d)
calm-own job config p d calm =
    keeps-or job config d (stop_offer_in A (instances_of job d) p d)
    (entries_if (not (was_offered (StartOn job) d)) (start_offer_by A (job_named job A.jobs) p d))
    (calm-stops job config p d (instances_of job d) (known job d) calm)
    (keeps-if job config d (not (was_offered (StartOn job) d)) (start_offer_by A (job_named job A.jobs) p d) calm
    (subst (λ file. Keeps job config d (start_offer_by A file p d)) (named-only job config.jobs)
    (by_file (job_named job config.jobs) refl)))
  where
    A : Configuration
    A = only job config

    by_file : (file : Option JobDef) → job_named job config.jobs ≡ file
        → Keeps job config d (start_offer_by A file p d)
    by_file None none = calm
    by_file (Some def) found =
        subst (λ its. job_named its config.jobs ≡ Some def → IsCalm its config d
        → Keeps its config d (start_offer (only its config) def p d)) (named-name job config.jobs def found)
        (λ named still. calm-start_offer config def p d named still) found calm

calm-offers : (job : Bytes) (config : Configuration) (p : ℕ) (d : Chronicle) (names : List Bytes)
    → AllByRecursion (λ name. name ≡ job) names → IsCalm job config d
    → Keeps job config d (offer_first (only job config) names p d)
calm-offers job config p d [] all calm = calm
calm-offers job config p d (name ∷ names) all calm =
    keeps-or job config d (offer_in (only job config) name p d) (offer_first (only job config) names p d)
    (subst (λ its. Keeps job config d (offer_in (only job config) its p d)) (sym all.0) (calm-own job config p d calm))
    (calm-offers job config p d names all.1 calm)

-- alone there is no other name
own-names : (job : Bytes) (js : List JobDef) → AllByRecursion (λ name. name ≡ job) (job_names (jobs_called job js))
own-names job [] = tt
own-names job (def ∷ js) = by_case (bytes_eq def.name job) refl (own-names job js)
  where
    by_case : (b : Bool) → bytes_eq def.name job ≡ b
        → AllByRecursion (λ name. name ≡ job) (job_names (jobs_called job js))
        → AllByRecursion (λ name. name ≡ job) (job_names (if b then def ∷ jobs_called job js else jobs_called job js))
    by_case true is ih = (bytes_same def.name job is, ih)
    by_case false is ih = ih

-- so it stays calm
pub calm-due : (job : Bytes) (config : Configuration) (d : Chronicle) → IsCalm job config d
    → IsCalm job config (due (only job config) d ++ d)
unfolding due
calm-due job config d calm =
    keeps-or job config d (move_first (names_in_order A d) d)
    (or_else (offer_next A (offering d) d) (answering_last d))
    (calm-first job config d (names_in_order A d) calm)
    (keeps-or job config d (offer_next A (offering d) d) (answering_last d) (by_offer (offering d))
    (calm-last job config d (unanswered d) calm))
  where
    A : Configuration
    A = only job config

    by_offer : (o : Option ℕ) → Keeps job config d (offer_next A o d)
    by_offer None = calm
    by_offer (Some p) = calm-offers job config p d (names_in_order A d) (own-names job config.jobs) calm

pub calm-settle : (n : ℕ) (job : Bytes) (config : Configuration) (d : Chronicle)
    → IsCalm job config d → IsCalm job config (settle n (only job config) d)
unfolding settle
calm-settle zero job config d calm = calm
calm-settle (suc n) job config d calm =
    calm-settle n job config (due (only job config) d ++ d) (calm-due job config d calm)
