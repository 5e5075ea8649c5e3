-- A run and the job alone, by what came to its notice: in both the job is alike after each input.
use Rattle.up_isolation.proofs.Names.{◌≡◌, ℕ, ◌⊎◌, inl, inr, Bool, true, false, List, [], ◌∷◌, ◌++◌, Option, None}
use Rattle.up_isolation.proofs.Names.{Some, length, if◌then◌else◌, refl, sym, ◌∙◌, ap, ap₂, subst, subst₂, zero}
use Rattle.up_isolation.proofs.Names.{suc, AllByRecursion, JobDef, Input, next, is_expected, after, after_all}
use Rattle.up_isolation.proofs.Names.{Chronicle, Entry, Given, Queued, Handled, Finished, Loaded, Outside}
use Rattle.up_isolation.proofs.Names.{Configuration, due, effect, names_in_order, instances_of, instance_named}
use Rattle.up_isolation.proofs.Names.{in_force, with_jobs, loading, move_first, or_else, Bytes, work, settle}
use Rattle.up_isolation.proofs.Names.{LoadsNothing, called, IsOf, due-about, Item, Arrived, Unblocked, jobs_called}
use Rattle.up_isolation.proofs.Names.{Notice, Received, asks, Replaced, deeds}
use Rattle.up_model.specs.declared.input.Input.TheVariants as input
use Rattle.up_model.specs.declared.loaded.Loaded.{Loaded as LoadedValue}
use Rattle.up_model.specs.declared.loaded.Loaded.TheVariants as loaded
use Rattle.up_model.proofs.Settling.{settle_rests}
use Rattle.up_model.proofs.WorkLaws.{IsAbout as IsDue}
use Rattle.up_model.proofs.EffectLaws.{AllowsTurns, effect-all}
use Rattle.up_model.proofs.LoadLaws.{effect-no_load, effect-in_force, settle-in_force, after-same}
use Rattle.up_isolation.specs.Parts as parts
use Rattle.up_isolation.specs.Views as views
use Rattle.up_isolation.proofs.Likes.{only, Like, start_tree, blank_nil, filled-same}
use Rattle.up_isolation.proofs.Calm.{IsBlind, nothing-holds, calm-blind, calm-settle}
use Rattle.up_isolation.proofs.Resting.{IsCalm, resting-settle}
use Rattle.up_isolation.proofs.Acting.{plain-settle}
use Rattle.up_isolation.proofs.Hurry.{waits-settle}
use Rattle.up_isolation.proofs.Alone.{freeing, blocker_of, begin, alone, Effected, Unnoticed, Noticed, Hurried}
use Rattle.up_isolation.proofs.Alone.{Base, effect-spawned, effect-refused, effect-ended, effect-emit, begin_by}
use Rattle.up_isolation.proofs.Alone.{IsSteady}
use Rattle.up_isolation.proofs.Killing.{effect-clock}
use Rattle.up_isolation.proofs.Turning.{effect-turn}
use Rattle.up_isolation.proofs.Requesting.{effect-other}
use Rattle.up_isolation.proofs.Asking.{effect-own}
use Rattle.up_isolation.proofs.Steady.{view, part, before, before-append, settle-before, part-split, view-grown}
use Rattle.up_isolation.proofs.Loading.{only-load, load-plain, calm-load, effect-refused_load}

-- in a step nothing but its input and its turn is noticed
of-mute : (k : Bytes) (p : ℕ) (job : Bytes) (config : Configuration) (e : Entry) (c : Chronicle) → IsOf k p e
    → view job config (e ∷ c) ≡ view job config c
unfolding view
of-mute k p job config (Given given) c of = absurd of
of-mute k p job config (Handled event) c of = absurd of
of-mute k p job config (Finished event) c of = absurd of
of-mute k p job config (Loaded jobs) c of = absurd of
of-mute k p job config e c of = refl

ofs-mute : (k : Bytes) (p : ℕ) (job : Bytes) (config : Configuration) (es c : List Entry)
    → AllByRecursion (IsOf k p) es → view job config (es ++ c) ≡ view job config c
ofs-mute k p job config [] c all = refl
ofs-mute k p job config (e ∷ es) c all =
    of-mute k p job config e (es ++ c) all.0 ∙ ofs-mute k p job config es c all.1

due-view : (job : Bytes) (config other : Configuration) (c : Chronicle)
    → view job config (due other c ++ c) ≡ view job config c
due-view job config other c = by_sum (due-about other c)
  where
    by_sum : (due other c ≡ []) ⊎ IsDue (due other c) → view job config (due other c ++ c) ≡ view job config c
    by_sum (inl none) = ap (λ (es : List Entry). view job config (es ++ c)) none
    by_sum (inr about) = ofs-mute about.whose about.place job config (due other c) c about.of

settle-view : (n : ℕ) (job : Bytes) (config other : Configuration) (c : Chronicle)
    → view job config (settle n other c) ≡ view job config c
unfolding settle
settle-view zero job config other c = refl
settle-view (suc n) job config other c =
    settle-view n job config other (due other c ++ c) ∙ due-view job config other c

-- the effect of an input that loads nothing lets no expression see anything
blind-turns : AllowsTurns IsBlind
blind-turns = record {
  ends = record {
    allows = record {
      replied = λ request answer. tt;
      released = λ instance failed. tt;
      aimed = λ instance aim environment its. tt;
      restarted = λ instance its. tt;
      queued = λ given event. tt;
    };
    failed = λ instance its. tt;
    respawned = λ instance moment. tt;
  };
  told = λ spoilt event. tt;
  handled = λ event. tt;
  finished = λ event. tt;
}

refused-blind : (given id : ℕ) (its : LoadedValue) → LoadsNothing (input.Load id its) → AllByRecursion IsBlind (loading given its)
refused-blind given id (loaded.Files jobs) nothing = absurd nothing
refused-blind given id (loaded.Refused number) nothing = (tt, tt)
refused-blind given id loaded.Unread nothing = (tt, tt)

effect-blind : (config : Configuration) (given : Input) (c : Chronicle) → LoadsNothing given
    → AllByRecursion IsBlind (effect config given c)
effect-blind config given c nothing =
    effect-all IsBlind blind-turns (λ file name. tt) (λ place signal by_timer. tt) (λ its. tt) config given c
    (λ id its is. refused-blind (length c) id its (subst LoadsNothing is nothing))

calm-begin : (job : Bytes) (config : Configuration) (notice : Notice) (d : Chronicle) → IsSteady notice
    → IsCalm job config d → IsCalm job config (begin job config notice d)
calm-begin job config (Received given) d steady calm = calm-blind job config
    (effect (only job config) given d) d (effect-blind (only job config) given d steady) calm
calm-begin job config (Arrived event) d steady calm =
    calm-blind job config (Handled (suc (length d)) ∷ Queued (Outside (length d)) event ∷ Given input.Turn
    ∷ []) d (tt, (tt, (tt, tt))) calm
calm-begin job config (Unblocked name) d steady calm =
    by_event (blocker_of (instance_named (called job name) d) d)
  where
    by_event : (o : Option ℕ) → IsCalm job config (freeing o d)
    by_event None = calm
    by_event (Some event) = calm-blind job config (Finished event ∷ Given input.Turn ∷ []) d (tt, (tt, tt)) calm
calm-begin job config (Replaced files) d steady calm = absurd steady

-- a notice of no load leaves what is in force, and what was before the last load
begin-force : (start : Configuration) (job : Bytes) (config : Configuration) (notice : Notice) (d : Chronicle) → IsSteady notice
    → (in_force start (begin_by job config notice d) ≡ in_force start d) × (before (begin_by job config notice d) ≡ before d)
begin-force start job config (Received given) d steady = (
  effect-in_force start config given d steady,
  before-append (effect config given d) d (effect-no_load config given d steady),
)
begin-force start job config (Arrived event) d steady = (refl, refl)
begin-force start job config (Unblocked name) d steady = by_event (blocker_of (instance_named (called job name) d) d)
  where
    by_event : (o : Option ℕ) → (in_force start (freeing o d) ≡ in_force start d) × (before (freeing o d) ≡ before d)
    by_event None = (refl, refl)
    by_event (Some event) = (refl, refl)
begin-force start job config (Replaced files) d steady = absurd steady

-- the job in a chronicle is that in one of its own, in which alone its part of all loads came into force
pub record Follows (job : Bytes) (start : Configuration) (c d : Chronicle) : Type 0 where
  pub force : in_force (only job start) d ≡ only job (in_force start c)
  pub base : Base job (in_force start c) c d
  pub past : parts.part job start (before c) ≡ parts.part job (only job start) (before d)

-- the job in a chronicle is the job alone, by what it noticed
abbrev pub Tracks : Bytes → Configuration → Chronicle → Type 0
Tracks job start c = Follows job start c (alone job start (views.view job start c))

-- so its whole part is the same in both
pub follows-part : (job : Bytes) (start : Configuration) (c d : Chronicle) → Follows job start c d
    → parts.part job start c ≡ parts.part job (only job start) d
follows-part job start c d follows =
    part-split job start c ∙ ap₂ (λ (xs ys : List Item). xs ++ ys) follows.base.like.part follows.past
    ∙ ap (λ config. part job config d ++ parts.part job (only job start) (before d)) (sym follows.force)
    ∙ sym (part-split job (only job start) d)

effected : (job : Bytes) (config : Configuration) (given : Input) (c d : Chronicle) → LoadsNothing given → Base job config c d
    → Effected job config c d (effect config given c ++ c)
effected job config (input.Emit event) c d nothing base = effect-emit job config event c d base
effected job config (input.Request id request) c d nothing base = by_case (asks job request) refl
  where
    by_case : (b : Bool) → asks job request ≡ b
        → Effected job config c d (effect config (input.Request id request) c ++ c)
    by_case true own = effect-own job config id request c d own base
    by_case false other = effect-other job config id request c d other base
effected job config (input.Spawned who its pid) c d nothing base = effect-spawned job config who its pid c d base
effected job config (input.Refused who its) c d nothing base = effect-refused job config who its c d base
effected job config (input.Ended who its how) c d nothing base = effect-ended job config who its how c d base
effected job config (input.Clock reading) c d nothing base = effect-clock job config reading c d base
effected job config input.Turn c d nothing base = effect-turn job config c d base
effected job config (input.Load id its) c d nothing base = effect-refused_load job config id its c d nothing base

-- what an input leaves: all as it was, or one notice more
pub data Left (job : Bytes) (start : Configuration) (c e : Chronicle) : Type 0 where
  Same : views.view job start e ≡ views.view job start c → Tracks job start e → Left job start c e
  More : (notice : Notice) → views.view job start e ≡ notice ∷ views.view job start c → Tracks job start e
      → Left job start c e

-- by an input that loads nothing
steady-after : (job : Bytes) (start : Configuration) (given : Input) (c : Chronicle) → LoadsNothing given
    → Tracks job start c → Left job start c (after start c given)
unfolding alone
steady-after job start given c nothing tracks =
    subst (λ s. Left job start c s) (sym (after-same start c given nothing)) (by_effect (effected job K given c d nothing tracks.base))
  where
    K : Configuration
    K = in_force start c

    S : Configuration
    S = only job start

    A : Configuration
    A = only job K

    d : Chronicle
    d = alone job start (views.view job start c)

    e : Chronicle
    e = effect K given c ++ c

    n : ℕ
    n = work K e

    s : Chronicle
    s = settle n K e

    rest : due K s ≡ []
    rest = settle_rests K e

    force : in_force start s ≡ K
    force = settle-in_force start n K e ∙ effect-in_force start K given c nothing

    past : before s ≡ before c
    past = settle-before n K e ∙ before-append (effect K given c) c (effect-no_load K given c nothing)

    follows : (t : Chronicle) → in_force S t ≡ in_force S d → before t ≡ before d → Base job K s t → Follows job start s t
    follows t here there base = record {
      force = here ∙ tracks.force ∙ ap (only job) (sym force);
      base = subst (λ config. Base job config s t) (sym force) base;
      past = ap (parts.part job start) past ∙ tracks.past ∙ ap (parts.part job S) (sym there);
    }

    more : (notice : Notice) → IsSteady notice → view job K e ≡ notice ∷ view job K c
        → Like job K s (settle (work A (begin job K notice d)) A (begin job K notice d))
        → Left job start c s
    more notice steady seen like =
        let f : Chronicle = begin job K notice d in
        let m : ℕ = work A f in
        let t : Chronicle = settle m A f in
        let begun = begin-force S job A notice d steady in
        let now : views.view job start s ≡ notice ∷ views.view job start c =
        view-grown job start (notice ∷ []) c s force past (settle-view n job K K e ∙ seen) in
        let step : alone job start (notice ∷ views.view job start c) ≡ t =
        ap (λ config. settle (work (in_force S (begin_by job config notice d)) (begin_by job config notice d))
        (in_force S (begin_by job config notice d)) (begin_by job config notice d)) tracks.force
        ∙ ap (λ config. settle (work config f) config f) (begun.0 ∙ tracks.force) in
        More notice now (subst (λ ns. Follows job start s (alone job start ns)) (sym now)
        (subst (λ u. Follows job start s u) (sym step)
        (follows t (settle-in_force S m A f ∙ begun.0) (settle-before m A f ∙ begun.1)
        (record {
          like = like;
          rest = settle_rests A f;
          calm = calm-settle m job K f (calm-begin job K notice d steady tracks.base.calm);
        }))))

    by_effect : Effected job K c d e → Left job start c s
    by_effect (Unnoticed resting seen) =
        let now : views.view job start s ≡ views.view job start c =
        view-grown job start [] c s force past (settle-view n job K K e ∙ seen) in
        Same now (subst (λ ns. Follows job start s (alone job start ns)) (sym now)
        (follows d refl refl (record {
          like = resting-settle n job K e d resting;
          rest = tracks.base.rest;
          calm = tracks.base.calm;
        })))
    by_effect (Noticed notice steady seen plain) =
        more notice steady seen (plain-settle n job K e (begin job K notice d) plain rest)
    by_effect (Hurried notice steady seen r q x y waits) = more notice steady seen
        (waits-settle n job K e (begin job K notice d) r q x y waits rest)

-- by a load
load-after : (job : Bytes) (start : Configuration) (id : ℕ) (jobs : List JobDef) (c : Chronicle)
    → Tracks job start c → Left job start c (after start c (input.Load id (loaded.Files jobs)))
unfolding after alone effect views.view parts.part
load-after job start id jobs c tracks = More (Replaced files) now
    (subst (λ ns. Follows job start s (alone job start ns)) (sym now) follows)
  where
    g : Input
    g = input.Load id (loaded.Files jobs)

    files : List JobDef
    files = jobs_called job jobs

    K : Configuration
    K = in_force start c

    S : Configuration
    S = only job start

    d : Chronicle
    d = alone job start (views.view job start c)

    e : Chronicle
    e = effect K g c ++ c

    L : Configuration
    L = in_force start e

    n : ℕ
    n = work L e

    s : Chronicle
    s = settle n L e

    f : Chronicle
    f = Loaded files ∷ Given input.Turn ∷ d

    B : Configuration
    B = in_force S f

    t : Chronicle
    t = settle (work B f) B f

    same : B ≡ only job L
    same = ap (λ config. with_jobs files config (Given input.Turn ∷ d)) tracks.force
        ∙ only-load job jobs K (Given g ∷ c) (Given input.Turn ∷ d)
        (filled-same job K c d (instances_of job c) (instances_of job d) tracks.base.like.twins)

    there : settle (work (only job L) f) (only job L) f ≡ t
    there = ap (λ config. settle (work config f) config f) (sym same)

    force : in_force start s ≡ L
    force = settle-in_force start n L e

    base : Base job L s (settle (work (only job L) f) (only job L) f)
    base = record {
      like = plain-settle n job L e f (load-plain job K L id jobs c d tracks.base.like) (settle_rests L e);
      rest = settle_rests (only job L) f;
      calm = calm-settle (work (only job L) f) job L f (calm-load job K L files d tracks.base.calm);
    }

    past : parts.part job start (before s) ≡ parts.part job S (before t)
    past = ap (parts.part job start) (settle-before n L e) ∙ follows-part job start c d tracks
        ∙ ap (parts.part job S) (sym (settle-before (work B f) B f))

    follows : Follows job start s t
    follows = record {
      force = settle-in_force S (work B f) B f ∙ same ∙ ap (only job) (sym force);
      base = subst₂ (λ config u. Base job config s u) (sym force) there base;
      past = past;
    }

    now : views.view job start s ≡ Replaced files ∷ views.view job start c
    now = view-grown job start [] e s force (settle-before n L e) (settle-view n job L L e)

pub tracks-after : (job : Bytes) (start : Configuration) (given : Input) (c : Chronicle)
    → Tracks job start c → Left job start c (after start c given)
tracks-after job start (input.Load id (loaded.Files jobs)) c tracks = load-after job start id jobs c tracks
tracks-after job start given c tracks = steady-after job start given c tt tracks

left-tracks : (job : Bytes) (start : Configuration) (c e : Chronicle) → Left job start c e
    → Tracks job start e
left-tracks job start c e (Same seen tracks) = tracks
left-tracks job start c e (More notice seen tracks) = tracks

pub tracks-next : (job : Bytes) (start : Configuration) (given : Input) (c : Chronicle)
    → Tracks job start c → Tracks job start (next start c given)
tracks-next job start given c tracks = by_case (is_expected given c)
  where
    by_case : (b : Bool) → Tracks job start (if b then after start c given else c)
    by_case true =
        left-tracks job start c (after start c given) (tracks-after job start given c tracks)
    by_case false = tracks

pub tracks-all : (job : Bytes) (start : Configuration) (inputs : List Input) (c : Chronicle)
    → Tracks job start c → Tracks job start (after_all start c inputs)
unfolding after_all
tracks-all job start [] c tracks = tracks
tracks-all job start (given ∷ inputs) c tracks =
    tracks-all job start inputs (next start c given) (tracks-next job start given c tracks)

-- at the start
calm-nil : (job : Bytes) (config : Configuration) → IsCalm job config []
calm-nil job config = record {
  start = nothing-holds (start_tree job config);
  stops = λ j file is. nothing-holds file.stop_on;
  blank = λ j h. refl;
}

first-none : (names : List Bytes) → move_first names [] ≡ []
first-none [] = refl
first-none (name ∷ names) = first-none names

pub tracks-nil : (job : Bytes) (config : Configuration) → Tracks job config []
unfolding view views.view alone part deeds due parts.part
tracks-nil job config = record {
  force = refl;
  base = record {
    like = record {
      twins = tt;
      starts = refl;
      today = refl;
      blank = blank_nil config;
      empty = blank_nil (only job config);
      fair = record { holders = λ i other. tt; outer = λ p. tt };
      singles = λ k. tt;
      part = refl;
      deeds = refl;
    };
    rest = ap (λ (es : List Entry). or_else es []) (first-none (names_in_order (only job config) []));
    calm = calm-nil job config;
  };
  past = refl;
}

-- so each run
pub tracked : (job : Bytes) (config : Configuration) (inputs : List Input)
    → Tracks job config (after_all config [] inputs)
tracked job config inputs = tracks-all job config inputs [] (tracks-nil job config)
