-- Loads: which configuration is in force along a run, which jobs a load leaves in force, and that nothing is due after one.
use Rattle.up_model.proofs.Names.{◌≡◌, ℕ, zero, suc, ◌⊎◌, inl, inr, Bool, true, false, not, List, [], ◌∷◌, ◌++◌}
use Rattle.up_model.proofs.Names.{length, Option, None, Some, is_some, if◌then◌else◌, refl, sym, ◌∙◌, ap, subst}
use Rattle.up_model.proofs.Names.{◌&&◌, bytes_eq, filter, AllByRecursion, JobDef, is_filled, Main, Input, State}
use Rattle.up_model.proofs.Names.{after, Chronicle, Entry, Given, Entered, Signalled, Replied, Loaded, Offered}
use Rattle.up_model.proofs.Names.{Fired, StopOn, Configuration, job_named, due, effect, job_names, Instance}
use Rattle.up_model.proofs.Names.{instances_of, entering, wait_in, in_force, loading, move_first, emitting}
use Rattle.up_model.proofs.Names.{ordering, enter, enter_whole, may_leave, next_of, who_of, move, move_of, move_in}
use Rattle.up_model.proofs.Names.{is_over, offering, offer_next, entries_if, or_else, state_of, lives, releasing}
use Rattle.up_model.proofs.Names.{answering_last, seen, Bytes, work, settle}
use Rattle.std.proofs.Common.{map}
use Rattle.std.specs.Ordering.{is_lt, nat_cmp}
use Rattle.std.specs.declared.cmp.Ordering.{Ordering}
use Rattle.std.specs.declared.cmp.Ordering.TheVariants.{Less, Equal, Greater}
use Rattle.std.specs.Cmp.Lexicographic.{slice_cmp}
use Rattle.std.proofs.lemmas.Cmp.{nat_list_cmp_total}
use Rattle.up_conf.specs.Order.{is_below, put_by, sort_by_order}
use Rattle.up_model.specs.declared.input.Input.TheVariants as input
use Rattle.up_model.specs.declared.loaded.Loaded.{Loaded as LoadedValue}
use Rattle.up_model.specs.declared.loaded.Loaded.TheVariants as loaded
use Rattle.up_model.specs.declared.life.EntryActions as table
pub use Rattle.up_model.specs.Configuration.{AreDistinct}
use Rattle.up_model.specs.Life.{Wait, ForStart}
use Rattle.up_model.specs.Loads.{goes_on, going_on, with_jobs, without_start}
use Rattle.up_model.specs.Readings.{event_at, env}
use Rattle.up_model.specs.Seen.{same_expression, sight_of}
use Rattle.up_model.proofs.EffectLaws.{effect-all, AllowsTurns}
use Rattle.up_model.proofs.JobOffers.{or-parts}
use Rattle.up_model.proofs.Places.{bytes_same, bytes_refl}
use Rattle.up_model.proofs.Sparing.{same-append, all-weaker, IsOf}
use Rattle.up_model.proofs.WorkLaws.{IsAbout, due-about}
use Rattle.up_image.proofs.PlaceOrder.{below_not_same, above}

-- The configuration in force.

-- an entry that is no load leaves it
abbrev pub IsNoLoad : Entry → Type 0
IsNoLoad (Loaded jobs) = ⊥
IsNoLoad entry = Unit {0}

pub in_force-later : (start : Configuration) (e : Entry) (c : Chronicle) → IsNoLoad e → in_force start (e ∷ c) ≡ in_force start c
in_force-later start (Loaded jobs) c none = absurd none
in_force-later start e c none = refl

pub in_force-append : (start : Configuration) (es c : Chronicle) → AllByRecursion IsNoLoad es → in_force start (es ++ c) ≡ in_force start c
in_force-append start es c none = same-append (in_force start) IsNoLoad (in_force-later start) es c none

-- what is due is none
of-no_load : (job : Bytes) (p : ℕ) (e : Entry) → IsOf job p e → IsNoLoad e
of-no_load job p (Loaded jobs) of = of
of-no_load job p e of = tt

pub due-no_load : (config : Configuration) (c : Chronicle) → AllByRecursion IsNoLoad (due config c)
due-no_load config c = by_case (due config c) (due-about config c)
  where
    by_case : (es : List Entry) → (es ≡ []) ⊎ IsAbout es → AllByRecursion IsNoLoad es
    by_case es (inl none) = subst (AllByRecursion IsNoLoad) (sym none) tt
    by_case es (inr about) = all-weaker (IsOf about.whose about.place) IsNoLoad (of-no_load about.whose about.place) es about.of

pub due-in_force : (start config : Configuration) (c : Chronicle) → in_force start (due config c ++ c) ≡ in_force start c
due-in_force start config c = in_force-append start (due config c) c (due-no_load config c)

pub settle-in_force : (start : Configuration) (n : ℕ) (config : Configuration) (c : Chronicle) → in_force start (settle n config c) ≡ in_force start c
unfolding settle
settle-in_force start zero config c = refl
settle-in_force start (suc n) config c = settle-in_force start n config (due config c ++ c) ∙ due-in_force start config c

-- nor is the effect of an input that loads nothing
abbrev pub LoadsNothing : Input → Type 0
LoadsNothing (input.Load id (loaded.Files jobs)) = ⊥
LoadsNothing given = Unit {0}

refused-no_load : (given : ℕ) (id : ℕ) (its : LoadedValue) → LoadsNothing (input.Load id its) → AllByRecursion IsNoLoad (loading given its)
refused-no_load given id (loaded.Files jobs) nothing = absurd nothing
refused-no_load given id (loaded.Refused number) nothing = (tt, tt)
refused-no_load given id loaded.Unread nothing = (tt, tt)

no_load-turns : AllowsTurns IsNoLoad
no_load-turns = record {
  ends = record {
    allows = record {
      replied = λ request answer. tt;
      released = λ instance failed. tt;
      aimed = λ instance aim environment its. tt;
      restarted = λ instance its. tt;
      queued = λ given event. tt;
    };
    failed = λ instance its. tt;
    respawned = λ instance moment. tt;
  };
  told = λ spoilt event. tt;
  handled = λ event. tt;
  finished = λ event. tt;
}

pub effect-no_load : (config : Configuration) (given : Input) (c : Chronicle) → LoadsNothing given → AllByRecursion IsNoLoad (effect config given c)
effect-no_load config given c nothing =
    effect-all IsNoLoad no_load-turns (λ file name. tt) (λ place signal by_timer. tt) (λ its. tt) config given c
    (λ id its is. refused-no_load (length c) id its (subst LoadsNothing is nothing))

pub effect-in_force : (start config : Configuration) (given : Input) (c : Chronicle) → LoadsNothing given → in_force start (effect config given c ++ c) ≡ in_force start c
effect-in_force start config given c nothing = in_force-append start (effect config given c) c (effect-no_load config given c nothing)

-- after an input that is in force which its effect leaves in force
pub after-in_force : (start : Configuration) (c : Chronicle) (given : Input) → in_force start (after start c given) ≡ in_force start (effect (in_force start c) given c ++ c)
unfolding after
after-in_force start c given =
    let d : Chronicle = effect (in_force start c) given c ++ c in
    settle-in_force start (work (in_force start d) d) (in_force start d) d

-- so an input that loads nothing has its effect, and what is due is done, by the configuration in force before
pub after-same : (start : Configuration) (c : Chronicle) (given : Input) → LoadsNothing given
    → after start c given ≡ settle (work (in_force start c) (effect (in_force start c) given c ++ c)) (in_force start c) (effect (in_force start c) given c ++ c)
unfolding after
after-same start c given nothing =
    let d : Chronicle = effect (in_force start c) given c ++ c in
    ap (λ config. settle (work config d) config d) (effect-in_force start (in_force start c) given c nothing)

pub after-unloaded : (start : Configuration) (c : Chronicle) (given : Input) → LoadsNothing given → in_force start (after start c given) ≡ in_force start c
after-unloaded start c given nothing = after-in_force start c given ∙ effect-in_force start (in_force start c) given c nothing

-- The jobs in force after a load.

-- what holds of one more job, and of those of a list with it
all-put : (P : JobDef → Type 0) (less : JobDef → JobDef → Bool) (x : JobDef) (xs : List JobDef) → P x → AllByRecursion P xs → AllByRecursion P (put_by less x xs)
all-put P less x [] one all = (one, tt)
all-put P less x (y ∷ ys) one all = by_case (less y x) (all-put P less x ys one all.1)
  where
    by_case : (b : Bool) → AllByRecursion P (put_by less x ys) → AllByRecursion P (if b then y ∷ put_by less x ys else x ∷ y ∷ ys)
    by_case true rest = (all.0, rest)
    by_case false rest = (one, all)

put-all : (P : JobDef → Type 0) (less : JobDef → JobDef → Bool) (x : JobDef) (xs : List JobDef) → AllByRecursion P (put_by less x xs) → P x × AllByRecursion P xs
put-all P less x [] all = all
put-all P less x (y ∷ ys) all = by_case (less y x) all (put-all P less x ys)
  where
    by_case : (b : Bool) → AllByRecursion P (if b then y ∷ put_by less x ys else x ∷ y ∷ ys) → (AllByRecursion P (put_by less x ys) → P x × AllByRecursion P ys) → P x × AllByRecursion P (y ∷ ys)
    by_case true all ih = let rest = ih all.1 in (rest.0, (all.0, rest.1))
    by_case false all ih = all

pub all-order : (P : JobDef → Type 0) (less : JobDef → JobDef → Bool) (xs : List JobDef) → AllByRecursion P xs → AllByRecursion P (sort_by_order less xs)
all-order P less [] all = tt
all-order P less (x ∷ xs) all = all-put P less x (sort_by_order less xs) all.0 (all-order P less xs all.1)

order-all : (P : JobDef → Type 0) (less : JobDef → JobDef → Bool) (xs : List JobDef) → AllByRecursion P (sort_by_order less xs) → AllByRecursion P xs
order-all P less [] all = tt
order-all P less (x ∷ xs) all = let parts = put-all P less x (sort_by_order less xs) all in (parts.0, order-all P less xs parts.1)

all-both : (P : JobDef → Type 0) (xs ys : List JobDef) → AllByRecursion P xs → AllByRecursion P ys → AllByRecursion P (xs ++ ys)
all-both P [] ys all others = others
all-both P (x ∷ xs) ys all others = (all.0, all-both P xs ys all.1 others)

both-all : (P : JobDef → Type 0) (xs ys : List JobDef) → AllByRecursion P (xs ++ ys) → AllByRecursion P xs × AllByRecursion P ys
both-all P [] ys all = (tt, all)
both-all P (x ∷ xs) ys all = let rest = both-all P xs ys all.1 in ((all.0, rest.0), rest.1)

all-filter : (P : JobDef → Type 0) (f : JobDef → Bool) (xs : List JobDef) → AllByRecursion P xs → AllByRecursion P (filter f xs)
all-filter P f [] all = tt
all-filter P f (x ∷ xs) all = by_case (f x) (all-filter P f xs all.1)
  where
    by_case : (b : Bool) → AllByRecursion P (filter f xs) → AllByRecursion P (if b then x ∷ filter f xs else filter f xs)
    by_case true rest = (all.0, rest)
    by_case false rest = rest

filter-all : (P : JobDef → Type 0) (f : JobDef → Bool) → ((x : JobDef) → f x ≡ true → P x) → (xs : List JobDef) → AllByRecursion P (filter f xs)
filter-all P f holds [] = tt
filter-all P f holds (x ∷ xs) = by_case (f x) refl (filter-all P f holds xs)
  where
    by_case : (b : Bool) → f x ≡ b → AllByRecursion P (filter f xs) → AllByRecursion P (if b then x ∷ filter f xs else filter f xs)
    by_case true is rest = (holds x is, rest)
    by_case false is rest = rest

-- none of the jobs has a name
abbrev pub NoneNamed : Bytes → List JobDef → Type 0
NoneNamed name jobs = AllByRecursion (λ other. bytes_eq other.name name ≡ false) jobs

pub none-found : (name : Bytes) (jobs : List JobDef) → NoneNamed name jobs → job_named name jobs ≡ None
none-found name [] none = refl
none-found name (job ∷ jobs) none = rw none.0 (none-found name jobs none.1)

pub found-none : (name : Bytes) (jobs : List JobDef) → job_named name jobs ≡ None → NoneNamed name jobs
found-none name [] none = tt
found-none name (job ∷ jobs) none = by_case (bytes_eq job.name name) refl none (found-none name jobs)
  where
    by_case : (b : Bool) → bytes_eq job.name name ≡ b → (if b then Some job else job_named name jobs) ≡ None → (job_named name jobs ≡ None → NoneNamed name jobs)
        → (bytes_eq job.name name ≡ false) × NoneNamed name jobs
    by_case true same none ih = absurd cc
    by_case false differs none ih = (differs, ih none)

-- a job of a name goes on that none of the new ones has, if it has an instance
going-kept : (name : Bytes) (new old : List JobDef) (c : Chronicle) → job_named name new ≡ None → NoneNamed name (going_on new old c) → NoneNamed name old ⊎ (instances_of name c ≡ [])
going-kept name new [] c none gone = inl tt
going-kept name new (job ∷ jobs) c none gone = by_name (bytes_eq job.name name) refl (goes_on new c job) refl gone (going-kept name new jobs c none)
  where
    empty : (xs : List Instance) → is_filled xs ≡ false → xs ≡ []
    empty [] void = refl
    empty (x ∷ xs) void = absurd cc

    idle : bytes_eq job.name name ≡ true → goes_on new c job ≡ false → instances_of name c ≡ []
    idle same stays =
        let those : not (is_some (job_named name new)) && is_filled (instances_of name c) ≡ false =
        subst (λ its. not (is_some (job_named its new)) && is_filled (instances_of its c) ≡ false) (bytes_same job.name name same) stays in
        empty (instances_of name c) (subst (λ o. not (is_some o) && is_filled (instances_of name c) ≡ false) none those)

    with_rest : bytes_eq job.name name ≡ false → NoneNamed name jobs ⊎ (instances_of name c ≡ []) → ((bytes_eq job.name name ≡ false) × NoneNamed name jobs) ⊎ (instances_of name c ≡ [])
    with_rest differs (inl rest) = inl (differs, rest)
    with_rest differs (inr none_there) = inr none_there

    by_name : (b : Bool) → bytes_eq job.name name ≡ b → (goes : Bool) → goes_on new c job ≡ goes → NoneNamed name (map without_start (if goes then job ∷ filter (goes_on new c) jobs else filter (goes_on new c) jobs))
        → (NoneNamed name (going_on new jobs c) → NoneNamed name jobs ⊎ (instances_of name c ≡ []))
        → ((bytes_eq job.name name ≡ false) × NoneNamed name jobs) ⊎ (instances_of name c ≡ [])
    by_name true same true goes gone ih =
        let differs : bytes_eq job.name name ≡ false = gone.0 in
        absurd cc
    by_name true same false goes gone ih = inr (idle same goes)
    by_name false differs true goes gone ih = with_rest differs (ih gone.1)
    by_name false differs false goes gone ih = with_rest differs (ih gone)

-- a name that no job has after a load none of the new ones has, and a job before it that had it had no instance
pub kept-jobs : (new : List JobDef) (config : Configuration) (c : Chronicle) (name : Bytes) → job_named name (with_jobs new config c).jobs ≡ None
    → (job_named name new ≡ None) × ((job_named name config.jobs ≡ None) ⊎ (instances_of name c ≡ []))
kept-jobs new config c name none = (fresh, by_case (going-kept name new config.jobs c fresh parts.1))
  where
    all : NoneNamed name (new ++ going_on new config.jobs c)
    all = order-all (λ other. bytes_eq other.name name ≡ false) (λ x y. is_below x.name y.name) (new ++ going_on new config.jobs c) (found-none name (with_jobs new config c).jobs none)

    parts : NoneNamed name new × NoneNamed name (going_on new config.jobs c)
    parts = both-all (λ other. bytes_eq other.name name ≡ false) new (going_on new config.jobs c) all

    fresh : job_named name new ≡ None
    fresh = none-found name new parts.0

    by_case : NoneNamed name config.jobs ⊎ (instances_of name c ≡ []) → (job_named name config.jobs ≡ None) ⊎ (instances_of name c ≡ [])
    by_case (inl gone) = inl (none-found name config.jobs gone)
    by_case (inr idle) = inr idle

-- each job with an instance is named
abbrev pub HaveJobs : List JobDef → Chronicle → Type 0
HaveJobs jobs c = (name : Bytes) → job_named name jobs ≡ None → instances_of name c ≡ []

-- and is so after a load
pub have-kept : (new : List JobDef) (config : Configuration) (c : Chronicle) → HaveJobs config.jobs c → HaveJobs (with_jobs new config c).jobs c
have-kept new config c have = λ name none. by_case name (kept-jobs new config c name none).1
  where
    by_case : (name : Bytes) → (job_named name config.jobs ≡ None) ⊎ (instances_of name c ≡ []) → instances_of name c ≡ []
    by_case name (inl gone) = have name gone
    by_case name (inr idle) = idle

-- a text differs from another that differs from it
differ-back : (a b : Bytes) → bytes_eq a b ≡ false → bytes_eq b a ≡ false
differ-back a b differs = by_case (bytes_eq b a) refl
  where
    by_case : (same : Bool) → bytes_eq b a ≡ same → same ≡ false
    by_case true same =
        let again : bytes_eq a b ≡ true = ap (bytes_eq a) (bytes_same b a same) ∙ bytes_refl a in
        absurd cc
    by_case false differs = refl

distinct-put : (less : JobDef → JobDef → Bool) (x : JobDef) (xs : List JobDef) → NoneNamed x.name xs → AreDistinct xs → AreDistinct (put_by less x xs)
distinct-put less x [] none distinct = (tt, tt)
distinct-put less x (y ∷ ys) none distinct = by_case (less y x) (distinct-put less x ys none.1 distinct.1)
  where
    by_case : (b : Bool) → AreDistinct (put_by less x ys) → AreDistinct (if b then y ∷ put_by less x ys else x ∷ y ∷ ys)
    by_case true rest = (all-put (λ other. bytes_eq other.name y.name ≡ false) less x ys (differ-back y.name x.name none.0) distinct.0, rest)
    by_case false rest = (none, distinct)

distinct-order : (less : JobDef → JobDef → Bool) (xs : List JobDef) → AreDistinct xs → AreDistinct (sort_by_order less xs)
distinct-order less [] distinct = tt
distinct-order less (x ∷ xs) distinct =
    distinct-put less x (sort_by_order less xs) (all-order (λ other. bytes_eq other.name x.name ≡ false) less xs distinct.0) (distinct-order less xs distinct.1)

pub distinct-both : (xs ys : List JobDef) → AreDistinct xs → AreDistinct ys → AllByRecursion (λ y. NoneNamed y.name xs) ys → AreDistinct (xs ++ ys)
distinct-both [] ys one other apart = other
distinct-both (x ∷ xs) ys one other apart = (
  all-both (λ y. bytes_eq y.name x.name ≡ false) xs ys one.0 (heads ys apart),
  distinct-both xs ys one.1 other (tails ys apart),
)
  where
    heads : (zs : List JobDef) → AllByRecursion (λ y. NoneNamed y.name (x ∷ xs)) zs → AllByRecursion (λ y. bytes_eq y.name x.name ≡ false) zs
    heads [] apart = tt
    heads (z ∷ zs) apart = (differ-back x.name z.name apart.0.0, heads zs apart.1)

    tails : (zs : List JobDef) → AllByRecursion (λ y. NoneNamed y.name (x ∷ xs)) zs → AllByRecursion (λ y. NoneNamed y.name xs) zs
    tails [] apart = tt
    tails (z ∷ zs) apart = (apart.0.1, tails zs apart.1)

distinct-filter : (f : JobDef → Bool) (xs : List JobDef) → AreDistinct xs → AreDistinct (filter f xs)
distinct-filter f [] distinct = tt
distinct-filter f (x ∷ xs) distinct = by_case (f x) (distinct-filter f xs distinct.1)
  where
    by_case : (b : Bool) → AreDistinct (filter f xs) → AreDistinct (if b then x ∷ filter f xs else filter f xs)
    by_case true rest = (all-filter (λ other. bytes_eq other.name x.name ≡ false) f xs distinct.0, rest)
    by_case false rest = rest

-- a job without its `start on` keeps its name
named-startless : (Q : Bytes → Type 0) (xs : List JobDef) → AllByRecursion (λ y. Q y.name) xs → AllByRecursion (λ y. Q y.name) (map without_start xs)
named-startless Q [] all = tt
named-startless Q (x ∷ xs) all = (all.0, named-startless Q xs all.1)

distinct-startless : (xs : List JobDef) → AreDistinct xs → AreDistinct (map without_start xs)
distinct-startless [] distinct = tt
distinct-startless (x ∷ xs) distinct = (named-startless (λ name. bytes_eq name x.name ≡ false) xs distinct.0, distinct-startless xs distinct.1)

-- those that go on have names that the new ones don't have
pub going-others : (new old : List JobDef) (c : Chronicle) → AllByRecursion (λ y. NoneNamed y.name new) (going_on new old c)
going-others new old c = named-startless (λ name. NoneNamed name new) (filter (goes_on new c) old) (filter-all (λ y. NoneNamed y.name new) (goes_on new c) fresh old)
  where
    by_case : (o : Option JobDef) (filled : Bool) → not (is_some o) && filled ≡ true → o ≡ None
    by_case None filled is = refl
    by_case (Some job) filled is = absurd cc

    fresh : (job : JobDef) → goes_on new c job ≡ true → NoneNamed job.name new
    fresh job goes = found-none job.name new (by_case (job_named job.name new) (is_filled (instances_of job.name c)) goes)

together-distinct : (new : List JobDef) (config : Configuration) (c : Chronicle) → AreDistinct new → AreDistinct config.jobs → AreDistinct (new ++ going_on new config.jobs c)
together-distinct new config c one other =
    distinct-both new (going_on new config.jobs c) one (distinct-startless (filter (goes_on new c) config.jobs) (distinct-filter (goes_on new c) config.jobs other))
    (going-others new config.jobs c)

-- so no two have one after a load
pub loaded-distinct : (new : List JobDef) (config : Configuration) (c : Chronicle) → AreDistinct new → AreDistinct config.jobs → AreDistinct (with_jobs new config c).jobs
loaded-distinct new config c one other =
    distinct-order (λ x y. is_below x.name y.name) (new ++ going_on new config.jobs c) (together-distinct new config c one other)

-- a name is below all of theirs
abbrev pub IsBelowAll : {X : Type 0} → (X → Bytes) → Bytes → List X → Type 0
IsBelowAll key name [] = Unit {0}
IsBelowAll key name (x ∷ xs) = (is_below name (key x) ≡ true) × IsBelowAll key name xs

-- each name is below those after it
abbrev pub AreInOrder : {X : Type 0} → (X → Bytes) → List X → Type 0
AreInOrder key [] = Unit {0}
AreInOrder key (x ∷ xs) = IsBelowAll key (key x) xs × AreInOrder key xs

abbrev name_of : JobDef → Bytes
name_of job = job.name

less_of : (o : Ordering) → is_lt o ≡ true → o ≡ Less
less_of Less h = refl
less_of Equal h = absurd cc
less_of Greater h = absurd cc

below_trans : (a b c : Bytes) → is_below a b ≡ true → is_below b c ≡ true → is_below a c ≡ true
below_trans a b c h g =
    ap is_lt (nat_list_cmp_total.trans a b c (less_of (slice_cmp nat_cmp a b) h) (less_of (slice_cmp nat_cmp b c) g))

below-lower : (a b : Bytes) (xs : List JobDef) → is_below a b ≡ true → IsBelowAll name_of b xs → IsBelowAll name_of a xs
below-lower a b [] h below = tt
below-lower a b (x ∷ xs) h below = (below_trans a b x.name h below.0, below-lower a b xs h below.1)

below-put : (name : Bytes) (x : JobDef) (xs : List JobDef) → is_below name x.name ≡ true → IsBelowAll name_of name xs
    → IsBelowAll name_of name (put_by (λ y z. is_below y.name z.name) x xs)
below-put name x [] h below = (h, tt)
below-put name x (y ∷ ys) h below = by_case (is_below y.name x.name) (below-put name x ys h below.1)
  where
    by_case : (b : Bool) → IsBelowAll name_of name (put_by (λ y z. is_below y.name z.name) x ys)
        → IsBelowAll name_of name (if b then y ∷ put_by (λ y z. is_below y.name z.name) x ys else x ∷ y ∷ ys)
    by_case true rest = (below.0, rest)
    by_case false rest = (h, below)

order-put : (x : JobDef) (xs : List JobDef) → NoneNamed x.name xs → AreInOrder name_of xs → AreInOrder name_of (put_by (λ y z. is_below y.name z.name) x xs)
order-put x [] none order = (tt, tt)
order-put x (y ∷ ys) none order = by_case (is_below y.name x.name) refl (order-put x ys none.1 order.1)
  where
    by_case : (b : Bool) → is_below y.name x.name ≡ b → AreInOrder name_of (put_by (λ y z. is_below y.name z.name) x ys)
        → AreInOrder name_of (if b then y ∷ put_by (λ y z. is_below y.name z.name) x ys else x ∷ y ∷ ys)
    by_case true below rest = (below-put y.name x ys below order.0, rest)
    by_case false over rest =
        let here : is_below x.name y.name ≡ true = above y.name x.name over none.0 in
        ((here, below-lower x.name y.name ys here order.0), order)

pub sorted-order : (xs : List JobDef) → AreDistinct xs → AreInOrder name_of (sort_by_order (λ y z. is_below y.name z.name) xs)
sorted-order [] distinct = tt
sorted-order (x ∷ xs) distinct =
    order-put x (sort_by_order (λ y z. is_below y.name z.name) xs)
    (all-order (λ other. bytes_eq other.name x.name ≡ false) (λ y z. is_below y.name z.name) xs distinct.0) (sorted-order xs distinct.1)

-- jobs in order of names are distinct
pub order-distinct : (xs : List JobDef) → AreInOrder (λ job. job.name) xs → AreDistinct xs
order-distinct [] order = tt
order-distinct (x ∷ xs) order = (others xs order.0, order-distinct xs order.1)
  where
    others : (ys : List JobDef) → IsBelowAll (λ (job : JobDef). job.name) x.name ys → NoneNamed x.name ys
    others [] below = tt
    others (y ∷ ys) below = (differ-back x.name y.name (below_not_same x.name y.name below.0), others ys below.1)

-- so after a load they are in order
pub loaded-order : (new : List JobDef) (config : Configuration) (c : Chronicle) → AreDistinct new → AreDistinct config.jobs
    → AreInOrder (λ job. job.name) (with_jobs new config c).jobs
loaded-order new config c one other = sorted-order (new ++ going_on new config.jobs c) (together-distinct new config c one other)

-- What an expression has seen.

-- a `stop on` has seen the same by any configuration
pub seen-stop : (one other : Configuration) (i : ℕ) (c : Chronicle) → seen one (StopOn i) c ≡ seen other (StopOn i) c
seen-stop one other i [] = refl
seen-stop one other i (Offered its place ∷ c) =
    ap (λ rest. if same_expression its (StopOn i) then rest ++ sight_of place (event_at place c) (env i c) else rest) (seen-stop one other i c)
seen-stop one other i (Fired its taken ∷ c) = ap (λ rest. if same_expression its (StopOn i) then [] else rest) (seen-stop one other i c)
seen-stop one other i (e ∷ c) = seen-stop one other i c

-- What is due after a load.

-- an entry of a load
abbrev pub IsLoad : Entry → Type 0
IsLoad (Given (input.Load id its)) = Unit {0}
IsLoad (Loaded jobs) = Unit {0}
IsLoad (Replied request answer) = Unit {0}
IsLoad entry = ⊥

load-state : (p : ℕ) (e : Entry) (c : Chronicle) → IsLoad e → state_of p (e ∷ c) ≡ state_of p c
load-state p (Given (input.Load id its)) c is = refl
load-state p (Loaded jobs) c is = refl
load-state p (Replied request answer) c is = refl
load-state p e c is = absurd is

load-over : (job : JobDef) (p : ℕ) (wait : Wait) (e : Entry) (c : Chronicle) → IsLoad e → is_over job p wait (e ∷ c) ≡ is_over job p wait c
load-over job p ForStart (Given (input.Load id its)) c is = refl
load-over job p wait (Given (input.Load id its)) c is = refl
load-over job p wait (Loaded jobs) c is = refl
load-over job p wait (Replied request answer) c is = refl
load-over job p wait e c is = absurd is

load-leave : (job : JobDef) (p : ℕ) (e : Entry) (c : Chronicle) → IsLoad e → may_leave job p (e ∷ c) ≡ may_leave job p c
load-leave job p e c is = ap (λ s. is_over job p (wait_in s) (e ∷ c)) (load-state p e c is) ∙ load-over job p (wait_in (state_of p c)) e c is

load-instances : (name : Bytes) (e : Entry) (c : Chronicle) → IsLoad e → instances_of name (e ∷ c) ≡ instances_of name c
load-instances name (Given (input.Load id its)) c is = refl
load-instances name (Loaded jobs) c is = refl
load-instances name (Replied request answer) c is = refl
load-instances name e c is = absurd is

-- the instances of a job stay in their states
abbrev AllStay : List Instance → Chronicle → Type 0
AllStay xs c = AllByRecursion (λ x. may_leave x.file x.place c ≡ false) xs

abbrev pub Stays : Bytes → Chronicle → Type 0
Stays name c = AllStay (instances_of name c) c

all-stay : (xs : List Instance) (e : Entry) (c : Chronicle) → IsLoad e → AllStay xs c → AllStay xs (e ∷ c)
all-stay [] e c is stay = tt
all-stay (x ∷ xs) e c is stay = (load-leave x.file x.place e c is ∙ stay.0, all-stay xs e c is stay.1)

stays-later : (name : Bytes) (e : Entry) (c : Chronicle) → IsLoad e → Stays name c → Stays name (e ∷ c)
stays-later name e c is stay = subst (λ xs. AllStay xs (e ∷ c)) (sym (load-instances name e c is)) (all-stay (instances_of name c) e c is stay)

-- a move is something
append-none : (es others : List Entry) → es ++ others ≡ [] → others ≡ []
append-none [] others none = none
append-none (e ∷ es) others none = absurd cc

moves-some : (job : JobDef) (x : Instance) (c : Chronicle) → move job x c ≡ [] → ⊥
moves-some job x c none = by_state (next_of job x.place c) none
  where
    by_entry : (to : State) (entry : table.EntryActions) → enter_whole job (who_of job x) x.place to entry c ≡ [] → ⊥
    by_entry to entry none =
        let entered : List Entry = enter job (who_of job x) x.place to entry c in
        let ordered : List Entry = ordering job x.place entry.orders ++ Entered x.place to ∷ [] in
        let without = append-none (entries_if entry.releases (releasing x.place false (entered ++ c))) entered none in
        let unsignalled = append-none (entries_if (entry.kills && lives x.place Main c) (Signalled x.place job.kill_signal false ∷ [])) (emitting job (who_of job x) x.place to entry.emits (ordered ++ c) ++ ordered) without in
        let unemitted = append-none (emitting job (who_of job x) x.place to entry.emits (ordered ++ c)) ordered unsignalled in
        some (append-none (ordering job x.place entry.orders) (Entered x.place to ∷ []) unemitted)
      where
        some : Entered x.place to ∷ [] ≡ [] → ⊥
        some none = cc

    by_state : (to : State) → enter_whole job (who_of job x) x.place to (entering to (state_of x.place c) job.task) c ≡ [] → ⊥
    by_state to none = by_entry to (entering to (state_of x.place c) job.task) none

if-moves : (b : Bool) (job : JobDef) (x : Instance) (c : Chronicle) → entries_if b (move job x c) ≡ [] → b ≡ false
if-moves true job x c none = absurd (moves-some job x c none)
if-moves false job x c none = refl

-- so where nothing moves, all stay, and the other way round
still-stay : (xs : List Instance) (c : Chronicle) → move_in xs c ≡ [] → AllStay xs c
still-stay [] c none = tt
still-stay (x ∷ xs) c none =
    let parts = or-parts (move_of x.file x c) (move_in xs c) none in
    (if-moves (may_leave x.file x.place c) x.file x c parts.0, still-stay xs c parts.1)

stay-still : (xs : List Instance) (c : Chronicle) → AllStay xs c → move_in xs c ≡ []
stay-still [] c stay = refl
stay-still (x ∷ xs) c stay = rw stay.0 (stay-still xs c stay.1)

named-stays : (name : Bytes) (jobs : List JobDef) (job : JobDef) (c : Chronicle) → job_named name jobs ≡ Some job → move_first (job_names jobs) c ≡ [] → Stays name c
named-stays name [] job c found none = absurd cc
named-stays name (first ∷ jobs) job c found none = by_case (bytes_eq first.name name) refl found (named-stays name jobs job c)
  where
    parts : (move_in (instances_of first.name c) c ≡ []) × (move_first (job_names jobs) c ≡ [])
    parts = or-parts (move_in (instances_of first.name c) c) (move_first (job_names jobs) c) none

    by_case : (b : Bool) → bytes_eq first.name name ≡ b → (if b then Some first else job_named name jobs) ≡ Some job
        → (job_named name jobs ≡ Some job → move_first (job_names jobs) c ≡ [] → Stays name c) → Stays name c
    by_case true same found ih = subst (λ its. Stays its c) (bytes_same first.name name same) (still-stay (instances_of first.name c) c parts.0)
    by_case false differs found ih = ih found parts.1

each-stays : (jobs : List JobDef) (c : Chronicle) → HaveJobs jobs c → move_first (job_names jobs) c ≡ [] → (name : Bytes) → Stays name c
each-stays jobs c have none name = by_case (job_named name jobs) refl
  where
    by_case : (o : Option JobDef) → job_named name jobs ≡ o → Stays name c
    by_case None gone = subst (λ xs. AllStay xs c) (sym (have name gone)) tt
    by_case (Some job) found = named-stays name jobs job c found none

first-still : (names : List Bytes) (c : Chronicle) → ((name : Bytes) → Stays name c) → move_first names c ≡ []
first-still [] c stays = refl
first-still (name ∷ names) c stays = rw (stay-still (instances_of name c) c (stays name)) (first-still names c stays)

-- nothing is due after a load, by whatever configuration, if nothing was before
pub loaded-rests : (config other : Configuration) (id : ℕ) (its : LoadedValue) (c : Chronicle) → HaveJobs config.jobs c → due config c ≡ []
    → due other (effect config (input.Load id its) c ++ c) ≡ []
unfolding due effect
loaded-rests config other id its c have none = by_kind its
  where
    still : move_first (job_names config.jobs) c ≡ []
    still = (or-parts (move_first (job_names config.jobs) c) (or_else (offer_next config (offering c) c) (answering_last c)) none).0

    given-stays : (given : LoadedValue) (name : Bytes) → Stays name (Given (input.Load id given) ∷ c)
    given-stays given name = stays-later name (Given (input.Load id given)) c tt (each-stays config.jobs c have still name)

    replied-stays : (e : Entry) (d : Chronicle) → IsLoad e → ((name : Bytes) → Stays name d) → (name : Bytes) → Stays name (e ∷ d)
    replied-stays e d is stays name = stays-later name e d is (stays name)

    -- with these entries a load is answered, and nothing moves after them
    at-rest : (given : LoadedValue) (es : List Entry) → AllByRecursion IsLoad es → move_first (job_names other.jobs) (es ++ Given (input.Load id given) ∷ c) ≡ []
    at-rest given es are = first-still (job_names other.jobs) (es ++ Given (input.Load id given) ∷ c) (stays es are)
      where
        stays : (fs : List Entry) → AllByRecursion IsLoad fs → (name : Bytes) → Stays name (fs ++ Given (input.Load id given) ∷ c)
        stays [] are name = given-stays given name
        stays (f ∷ fs) are name = stays-later name f (fs ++ Given (input.Load id given) ∷ c) are.0 (stays fs are.1 name)

    by_kind : (given : LoadedValue) → due other ((loading (length c) given ++ Given (input.Load id given) ∷ []) ++ c) ≡ []
    by_kind (loaded.Files jobs) = ap (λ es. or_else es []) (at-rest (loaded.Files jobs) (loading (length c) (loaded.Files jobs)) (tt, (tt, tt)))
    by_kind (loaded.Refused number) = ap (λ es. or_else es []) (at-rest (loaded.Refused number) (loading (length c) (loaded.Refused number)) (tt, tt))
    by_kind loaded.Unread = ap (λ es. or_else es []) (at-rest loaded.Unread (loading (length c) loaded.Unread) (tt, tt))

-- so by the configuration that is then in force
pub load-rests : (start : Configuration) (id : ℕ) (its : LoadedValue) (c : Chronicle) → HaveJobs (in_force start c).jobs c → due (in_force start c) c ≡ []
    → due (in_force start (effect (in_force start c) (input.Load id its) c ++ c)) (effect (in_force start c) (input.Load id its) c ++ c) ≡ []
load-rests start id its c have none = loaded-rests (in_force start c) (in_force start (effect (in_force start c) (input.Load id its) c ++ c)) id its c have none
