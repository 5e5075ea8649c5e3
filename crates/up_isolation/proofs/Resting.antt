-- A step that isn't about the job leaves the job as it was.
use Rattle.std.proofs.Common.{◌≡◌, ℕ, ◌<◌, ◌≤◌, ◌⊎◌, inl, inr, Bool, true, false, List, [], ◌∷◌, ◌++◌, Option}
use Rattle.std.proofs.Common.{None, Some, length, if◌then◌else◌, bytes_eq, refl, sym, ◌∙◌, ap, subst, eq-eqb}
use Rattle.std.specs.List.{AllByRecursion}
use Rattle.up_conf.specs.declared.job.JobDef.{JobDef}
use Rattle.up_expr.specs.Trees.{Tree}
use Rattle.up_expr.specs.Truth.{Sight}
use Rattle.up_model.specs.Chronicle.{Chronicle, Entry, Given, Offered, Fired, StartOn, StopOn}
use Rattle.up_model.specs.Configuration.{Configuration, job_named}
use Rattle.up_model.specs.Instances.{Instance, instances_of}
use Rattle.up_model.specs.Readings.{event_at, file_of}
use Rattle.up_model.specs.Replies.{request_at}
use Rattle.up_model.specs.Seen.{seen, sight_of, env_of}
use Rattle.up_model.specs.Values.{Bytes}
use Rattle.up_model.proofs.FileLaws.{named-name}
use Rattle.up_model.proofs.Places.{bytes_same}
use Rattle.up_isolation.specs.Views.{is_of, was_asked}
use Rattle.up_isolation.specs.Parts.{hears_event}
use Rattle.up_isolation.proofs.Sights.{told}
use Rattle.up_isolation.proofs.Twins.{Twins}
use Rattle.up_isolation.proofs.Known.{IsKnown}
use Rattle.up_isolation.proofs.Likes.{only, Twin, Like, Fair, start_tree, event_stands_in, hears_event-kept}
use Rattle.std.proofs.Common.{not, zero, suc}
use Rattle.up_model.specs.Due.{due}
use Rattle.up_model.specs.Files.{names_in_order}
use Rattle.up_model.specs.Moves.{move_first}
use Rattle.up_model.specs.Held.{start_on_of}
use Rattle.up_model.specs.Offers.{is_open, stop_by, stop_offer, stop_offer_in, start_by, start_offer, start_offer_by}
use Rattle.up_model.specs.Offers.{offer_in, offer_first, offering, offer_next}
use Rattle.up_model.specs.Predicates.{entries_if, or_else}
use Rattle.up_model.specs.Readings.{event_of}
use Rattle.up_model.specs.Replies.{request_in, asked, was_answered, unless_answered, answering_hurried}
use Rattle.up_model.specs.Replies.{answering_last}
use Rattle.up_model.specs.Seen.{holds, taken, was_offered}
use Rattle.up_model.specs.Work.{settle}
use Rattle.up_model.proofs.Sparing.{IsOf, same-append, spared-offerings}
use Rattle.up_model.proofs.WorkLaws.{IsAbout as IsDue, due-about}
use Rattle.up_isolation.proofs.Known.{known}
use Rattle.up_isolation.proofs.Likes.{IsForeign, foreign, absent-seen, unheard-start, unheard-stops, instances-same}
use Rattle.up_isolation.proofs.Releases.{entry-append}
use Rattle.up_isolation.proofs.Offering.{holds-same}
use Rattle.up_isolation.proofs.Foreign.{AreStrange, strange-foreign, strange-stop_offer, strange-start_offer}
use Rattle.up_isolation.proofs.Movers.{Moves, Idle, Away, Two, moves-first, move-some}

-- entries that aren't about the job
abbrev pub AreApart : Bytes → Configuration → List Entry → Chronicle → Type 0
AreApart job config [] c = Unit {0}
AreApart job config (e ∷ es) c = IsForeign job config e (es ++ c) × AreApart job config es c

pub strange-apart : (job : Bytes) (config : Configuration) (es : List Entry) (c : Chronicle)
    → AreStrange job es c → AreApart job config es c
strange-apart job config [] c are = tt
strange-apart job config (e ∷ es) c are =
    (strange-foreign job config e (es ++ c) are.0, strange-apart job config es c are.1)

pub like-apart : (job : Bytes) (config : Configuration) (es : List Entry) (c d : Chronicle)
    → AreApart job config es c → Like job config c d → Like job config (es ++ c) d
like-apart job config [] c d are like = like
like-apart job config (e ∷ es) c d are like =
    foreign job config e (es ++ c) d are.0 (like-apart job config es c d are.1 like)

instances-apart : (job : Bytes) (config : Configuration) (es : List Entry) (c : Chronicle)
    → AreApart job config es c → instances_of job (es ++ c) ≡ instances_of job c
instances-apart job config [] c are = refl
instances-apart job config (e ∷ es) c are =
    instances-same job config e (es ++ c) are.0 ∙ instances-apart job config es c are.1

pub apart-or : (job : Bytes) (config : Configuration) (es fs : List Entry) (c : Chronicle)
    → AreApart job config es c → AreApart job config fs c → AreApart job config (or_else es fs) c
apart-or job config [] fs c are other = other
apart-or job config (e ∷ es) fs c are other = are

-- no expression in force of the job is true, by what was seen in its own chronicle, and what isn't made yet has seen nothing
pub record IsCalm (job : Bytes) (config : Configuration) (d : Chronicle) : Type 0 where
  pub start : holds (start_tree job config) (seen (only job config) (StartOn job) d) ≡ false
  pub stops : (j : ℕ) → (file : JobDef) → file_of j d ≡ Some file
      → holds file.stop_on (seen (only job config) (StopOn j) d) ≡ false
  pub blank : (j : ℕ) → length d ≤ j → seen (only job config) (StopOn j) d ≡ []

-- nothing is due of the job, and this step offers it no event that it hears
pub record Resting (job : Bytes) (config : Configuration) (c d : Chronicle) : Type 0 where
  pub like : Like job config c d
  pub still : move_first (names_in_order (only job config) d) d ≡ []
  pub calm : IsCalm job config d
  pub offers : (p : ℕ) → offering c ≡ Some p
      → (p < length c) × (hears_event job config (event_at p c) c ≡ false)
  pub asks : (r : ℕ) → asked c ≡ Some r → (r < length c) × (was_asked job (request_at r c) ≡ false)

-- an expression that doesn't come true
quiet-offer : (job : Bytes) (config : Configuration) (e : Entry) (es : List Entry) (b : Bool) (c : Chronicle)
    → IsForeign job config e c → b ≡ false
    → AreApart job config (entries_if b es ++ e ∷ []) c
quiet-offer job config e es true c is h = absurd (cc)
quiet-offer job config e es false c is h = (is, tt)

quiet-stop : (job : Bytes) (config : Configuration) (c d : Chronicle) (x y : Instance) (p : ℕ)
    → IsCalm job config d → IsKnown job c x → IsKnown job d y → hears_event job config (event_at p c) c ≡ false
    → event_stands_in (event_at p c) x.file.stop_on ≡ false → Twin job config c d x y
    → AreApart job config (stop_offer config x.file x.place p c) c
quiet-stop job config c d x y p calm known knowns unheard absent twin =
    quiet-offer job config (Offered (StopOn x.place) p)
    (stop_by x.place ps (Fired (StopOn x.place) ps ∷ offered) ++ Fired (StopOn x.place) ps ∷ [])
    (holds own ss) c (known.0, inr unheard) (holds-same own ss rs same
    ∙ calm.stops y.place x.file (knowns.2 ∙ ap Some (sym twin.file)))
  where
    own : Option Tree
    own = x.file.stop_on

    offered : Chronicle
    offered = Offered (StopOn x.place) p ∷ c

    ss : List Sight
    ss = seen config (StopOn x.place) offered

    rs : List Sight
    rs = seen (only job config) (StopOn y.place) d

    ps : List ℕ
    ps = taken own ss

    same : told own ss ≡ told own rs
    same = rw (eq-eqb x.place x.place refl)
        (absent-seen own p (event_at p c) (env_of config (StopOn x.place) c) (seen config (StopOn x.place) c)
        absent ∙ twin.bond.sights)

quiet-start : (job : Bytes) (config : Configuration) (def : JobDef) (c d : Chronicle) (p : ℕ) → def.name ≡ job
    → job_named job config.jobs ≡ Some def → IsCalm job config d
    → hears_event job config (event_at p c) c ≡ false → Like job config c d
    → AreApart job config (start_offer config def p c) c
quiet-start job config def c d p name in_force calm unheard like =
    quiet-offer job config (Offered (StartOn def.name) p)
    (start_by config def ps (Fired (StartOn def.name) ps ∷ offered) ++ Fired (StartOn def.name) ps ∷ [])
    (holds def.start_on ss) c (inr unheard)
    (subst (λ file. holds (start_on_of file) ss ≡ false) in_force (holds-same own ss rs same ∙ calm.start))
  where
    own : Option Tree
    own = start_tree job config

    offered : Chronicle
    offered = Offered (StartOn def.name) p ∷ c

    ss : List Sight
    ss = seen config (StartOn def.name) offered

    rs : List Sight
    rs = seen (only job config) (StartOn job) d

    ps : List ℕ
    ps = taken def.start_on ss

    by_test : (b : Bool)
        → told own (if b then seen config (StartOn job) c ++ sight_of p (event_at p c)
        (env_of config (StartOn job) c) else seen config (StartOn job) c)
        ≡ told own (seen config (StartOn job) c)
    by_test true = absent-seen own p (event_at p c) (env_of config (StartOn job) c)
        (seen config (StartOn job) c) (unheard-start job config (event_at p c) c unheard)
    by_test false = refl

    same : told own ss ≡ told own rs
    same =
        subst (λ its. told own (seen config (StartOn its) (Offered (StartOn its) p ∷ c)) ≡ told own rs)
        (sym name)
        (by_test (bytes_eq job job) ∙ like.starts)

-- the offers to a job
quiet-in : (job : Bytes) (config : Configuration) (c d : Chronicle) (p : ℕ)
    (xs ys : List Instance) → IsCalm job config d
    → AllByRecursion (IsKnown job c) xs → AllByRecursion (IsKnown job d) ys
    → hears_event job config (event_at p c) c ≡ false
    → AllByRecursion (λ x. event_stands_in (event_at p c) x.file.stop_on ≡ false) xs
    → Twins (Twin job config c d) xs ys
    → AreApart job config (stop_offer_in config xs p c) c
quiet-in job config c d p [] [] calm known knowns unheard absent twins = tt
quiet-in job config c d p (x ∷ xs) (y ∷ ys) calm known knowns unheard absent twins =
    apart-or job config (entries_if (is_open x.place c) (stop_offer config x.file x.place p c))
    (stop_offer_in config xs p c) c
    (by_case (is_open x.place c)) (quiet-in job config c d p xs ys calm known.1 knowns.1 unheard absent.1 twins.1)
  where
    by_case : (b : Bool) → AreApart job config (entries_if b (stop_offer config x.file x.place p c)) c
    by_case true = quiet-stop job config c d x y p calm known.0 knowns.0 unheard absent.0 twins.0
    by_case false = tt
quiet-in job config c d p [] (y ∷ ys) calm known knowns unheard absent twins = tt
quiet-in job config c d p (x ∷ xs) [] calm known knowns unheard absent twins = absurd twins

away-stops : (job : Bytes) (config : Configuration) (name : Bytes) (c : Chronicle) (p : ℕ)
    (xs : List Instance) → Fair job c → bytes_eq name job ≡ false
    → AllByRecursion (IsKnown name c) xs → AreApart job config (stop_offer_in config xs p c) c
away-stops job config name c p [] fair other known = tt
away-stops job config name c p (x ∷ xs) fair other known =
    apart-or job config (entries_if (is_open x.place c) (stop_offer config x.file x.place p c))
    (stop_offer_in config xs p c) c
    (by_case (is_open x.place c)) (away-stops job config name c p xs fair other known.1)
  where
    by_case : (b : Bool) → AreApart job config (entries_if b (stop_offer config x.file x.place p c)) c
    by_case true =
        strange-apart job config (stop_offer config x.file x.place p c) c
        (strange-stop_offer job config x.file x.place p c fair (ap (is_of job) known.0.1 ∙ other, known.0.0))
    by_case false = tt

apart-if : (job : Bytes) (config : Configuration) (b : Bool) (es : List Entry) (c : Chronicle)
    → AreApart job config es c → AreApart job config (entries_if b es) c
apart-if job config true es c are = are
apart-if job config false es c are = tt

quiet-own : (job : Bytes) (config : Configuration) (c d : Chronicle) (p : ℕ) → IsCalm job config d
    → hears_event job config (event_at p c) c ≡ false → Like job config c d
    → AreApart job config (offer_in config job p c) c
quiet-own job config c d p calm unheard like =
    apart-or job config (stop_offer_in config (instances_of job c) p c)
    (entries_if (not (was_offered (StartOn job) c)) (start_offer_by config (job_named job config.jobs) p c)) c
    (quiet-in job config c d p (instances_of job c) (instances_of job d) calm (known job c) (known job d) unheard
    (unheard-stops job config (event_at p c) c unheard) like.twins)
    (apart-if job config (not (was_offered (StartOn job) c)) (start_offer_by config (job_named job config.jobs) p c) c
    (by_file (job_named job config.jobs) refl))
  where
    by_file : (file : Option JobDef) → job_named job config.jobs ≡ file
        → AreApart job config (start_offer_by config file p c) c
    by_file None none = tt
    by_file (Some def) found =
        quiet-start job config def c d p (named-name job config.jobs def found) found calm unheard like

away-own : (job : Bytes) (config : Configuration) (name : Bytes) (c : Chronicle) (p : ℕ) → Fair job c
    → bytes_eq name job ≡ false → AreApart job config (offer_in config name p c) c
away-own job config name c p fair other =
    apart-or job config (stop_offer_in config (instances_of name c) p c)
    (entries_if (not (was_offered (StartOn name) c)) (start_offer_by config (job_named name config.jobs) p c)) c
    (away-stops job config name c p (instances_of name c) fair other (known name c))
    (apart-if job config (not (was_offered (StartOn name) c)) (start_offer_by config (job_named name config.jobs) p c) c
    (by_file (job_named name config.jobs) refl))
  where
    by_file : (file : Option JobDef) → job_named name config.jobs ≡ file
        → AreApart job config (start_offer_by config file p c) c
    by_file None none = tt
    by_file (Some def) found = strange-apart job config (start_offer config def p c) c
        (strange-start_offer job config def p c fair
        (ap (λ its. bytes_eq its job) (named-name name config.jobs def found) ∙ other))

quiet-first : (job : Bytes) (config : Configuration) (names : List Bytes) (c d : Chronicle) (p : ℕ)
    → IsCalm job config d → hears_event job config (event_at p c) c ≡ false → Like job config c d
    → AreApart job config (offer_first config names p c) c
quiet-first job config [] c d p calm unheard like = tt
quiet-first job config (name ∷ names) c d p calm unheard like =
    apart-or job config (offer_in config name p c) (offer_first config names p c) c
    (by_case (bytes_eq name job) refl) (quiet-first job config names c d p calm unheard like)
  where
    by_case : (b : Bool) → bytes_eq name job ≡ b → AreApart job config (offer_in config name p c) c
    by_case true is = subst (λ its. AreApart job config (offer_in config its p c) c) (sym (bytes_same name job is))
        (quiet-own job config c d p calm unheard like)
    by_case false is = away-own job config name c p like.fair is

-- what is due then isn't about the job
pub resting-due : (job : Bytes) (config : Configuration) (c d : Chronicle) → Resting job config c d
    → AreApart job config (due config c) c
unfolding due
resting-due job config c d resting =
    apart-or job config (move_first (names_in_order config c) c)
    (or_else (offer_next config (offering c) c) (answering_last c)) c
    (by_moves (moves-first job config config.jobs c d resting.like))
    (apart-or job config (offer_next config (offering c) c) (answering_last c) c (by_offer (offering c) refl)
    (by_asked (asked c) refl))
  where
    by_moves : Moves job c d (move_first (names_in_order config c) c) (move_first (names_in_order (only job config) d) d)
        → AreApart job config (move_first (names_in_order config c) c) c
    by_moves (Idle none void) = subst (λ es. AreApart job config es c) (sym none) tt
    by_moves (Away some strange) = strange-apart job config (move_first (names_in_order config c) c) c strange
    by_moves (Two def x y at left right) = absurd (move-some def y d (sym right ∙ resting.still))

    by_offer : (o : Option ℕ) → offering c ≡ o → AreApart job config (offer_next config o c) c
    by_offer None is = tt
    by_offer (Some p) is =
        quiet-first job config (names_in_order config c) c d p resting.calm (resting.offers p is).1 resting.like

    by_answered : (r : ℕ) (b : Bool) → was_asked job (request_at r c) ≡ false
        → AreApart job config (answering_hurried (if b then None else Some r) c) c
    by_answered r true other = tt
    by_answered r false other = (other, tt)

    by_asked : (o : Option ℕ) → asked c ≡ o
        → AreApart job config (answering_hurried (unless_answered o c) c) c
    by_asked None is = tt
    by_asked (Some r) is = by_answered r (was_answered r c) (resting.asks r is).1

-- and leaves that so
of-asked : (job : Bytes) (p : ℕ) (e : Entry) (c : Chronicle) → IsOf job p e → asked (e ∷ c) ≡ asked c
of-asked job p (Given given) c of = absurd of
of-asked job p e c of = refl

pub due-offering : (config : Configuration) (c : Chronicle)
    → (offering (due config c ++ c) ≡ offering c) × (asked (due config c ++ c) ≡ asked c)
due-offering config c = by_sum (due-about config c)
  where
    by_sum : (due config c ≡ []) ⊎ IsDue (due config c)
        → (offering (due config c ++ c) ≡ offering c) × (asked (due config c ++ c) ≡ asked c)
    by_sum (inl none) =
        (ap (λ (es : List Entry). offering (es ++ c)) none, ap (λ (es : List Entry). asked (es ++ c)) none)
    by_sum (inr about) = (
      spared-offerings about.whose about.place (due config c) c about.of,
      same-append asked (IsOf about.whose about.place) (of-asked about.whose about.place) (due config c) c
          about.of,
    )

pub resting-more : (job : Bytes) (config : Configuration) (c d : Chronicle) → Resting job config c d
    → Resting job config (due config c ++ c) d
resting-more job config c d resting = record {
  like = like-apart job config (due config c) c d (resting-due job config c d resting) resting.like;
  still = resting.still;
  calm = resting.calm;
  offers = λ p is.
      let old = resting.offers p (sym (due-offering config c).0 ∙ is) in
      let more = entry-append p (due config c) c old.0 in (
        more.0,
        hears_event-kept job config (event_at p (due config c ++ c)) c (due config c ++ c)
            (instances-apart job config (due config c) c (resting-due job config c d resting))
            ∙ ap (λ o. hears_event job config (event_of o) c) more.1 ∙ old.1,
      );
  asks = λ r is.
      let old = resting.asks r (sym (due-offering config c).1 ∙ is) in
      let more = entry-append r (due config c) c old.0 in
      (more.0, ap (λ o. was_asked job (request_in o)) more.1 ∙ old.1);
}

pub resting-settle : (n : ℕ) (job : Bytes) (config : Configuration) (c d : Chronicle) → Resting job config c d
    → Like job config (settle n config c) d
unfolding settle
resting-settle zero job config c d resting = resting.like
resting-settle (suc n) job config c d resting =
    resting-settle n job config (due config c ++ c) d (resting-more job config c d resting)
