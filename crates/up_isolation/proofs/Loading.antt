-- A load: alone the job's part of it comes into force, and the job stays alike.
use Rattle.std.proofs.Common.{◌≡◌, ℕ, Bool, true, false, not, ◌&&◌, List, [], ◌∷◌, ◌++◌, Option, is_some, filter, map, length, if◌then◌else◌}
use Rattle.std.proofs.Common.{bytes_eq, refl, sym, ◌∙◌, ap, ap₂, subst, arith, eq-eqb}
use Rattle.std.specs.List.{AllByRecursion}
use Rattle.std.specs.Ordering.{is_lt, is_eq, nat_cmp}
use Rattle.std.specs.declared.cmp.Ordering.{Ordering}
use Rattle.std.specs.declared.cmp.Ordering.TheVariants.{Less, Equal, Greater}
use Rattle.std.specs.Cmp.Lexicographic.{slice_cmp}
use Rattle.std.proofs.lemmas.Map.Text.{is_eq-slice_cmp}
use Rattle.up_conf.specs.declared.job.JobDef.{JobDef}
use Rattle.up_conf.specs.Order.{is_below, put_by, sort_by_order}
use Rattle.up_text.specs.Scripts.{is_filled}
use Rattle.up_model.specs.declared.input.Input.{Input}
use Rattle.up_model.specs.declared.input.Input.TheVariants as input
use Rattle.up_model.specs.declared.loaded.Loaded.{Loaded as LoadedValue}
use Rattle.up_model.specs.declared.loaded.Loaded.TheVariants as loaded
use Rattle.up_model.specs.declared.output.Output.{Output}
use Rattle.up_model.specs.Chronicle.{Chronicle, Entry, Given, Loaded, Replied}
use Rattle.up_model.specs.Configuration.{Configuration, job_named}
use Rattle.up_model.specs.Due.{effect}
use Rattle.up_model.specs.Files.{job_names}
use Rattle.up_model.specs.Instances.{instances_of}
use Rattle.up_model.specs.Loads.{goes_on, without_start, going_on, with_jobs, loading}
use Rattle.up_model.specs.Replies.{request_at}
use Rattle.up_model.specs.Seen.{holds}
use Rattle.up_model.specs.Values.{Bytes}
use Rattle.up_model.proofs.LoadLaws.{LoadsNothing, all-order, seen-stop}
use Rattle.up_model.proofs.Places.{bytes_same, bytes_refl, older-other}
use Rattle.up_isolation.specs.Views.{Replaced, jobs_called, was_asked, deeds}
use Rattle.up_isolation.specs.Parts as parts
use Rattle.up_isolation.specs.Isolation.{names_called}
use Rattle.up_isolation.proofs.Acting.{Plain, None'}
use Rattle.up_isolation.proofs.Alone.{Base, Effected, unnoticed, no-asks}
use Rattle.up_isolation.proofs.Calm.{calm-more, nothing-holds}
use Rattle.up_isolation.proofs.Likes.{only, named-only, Bond, Twin, Blank, Like, blank_more, fair_more, start_tree, foreign}
use Rattle.up_isolation.proofs.Others.{twins-left}
use Rattle.up_isolation.proofs.Resting.{IsCalm}
use Rattle.up_isolation.proofs.Sights.{told}
use Rattle.up_isolation.proofs.Steady.{part}
use Rattle.up_isolation.proofs.Steps.{like_turn}
use Rattle.up_isolation.proofs.Twins.{twins_map}

abbrev less : JobDef → JobDef → Bool
less x y = is_below x.name y.name

-- the jobs of one name stand in the order in which they were before jobs were sorted
called-append : (job : Bytes) (xs ys : List JobDef) → jobs_called job (xs ++ ys) ≡ jobs_called job xs ++ jobs_called job ys
called-append job [] ys = refl
called-append job (x ∷ xs) ys = by_case (bytes_eq x.name job) (called-append job xs ys)
  where
    by_case : (b : Bool) → jobs_called job (xs ++ ys) ≡ jobs_called job xs ++ jobs_called job ys
        → (if b then x ∷ jobs_called job (xs ++ ys) else jobs_called job (xs ++ ys))
        ≡ (if b then x ∷ jobs_called job xs else jobs_called job xs) ++ jobs_called job ys
    by_case true ih = ap (λ rest. x ∷ rest) ih
    by_case false ih = ih

-- what is less isn't equal
not-both : (o : Ordering) → is_lt o ≡ true → is_eq o ≡ true → ⊥
not-both Less below same = cc
not-both Equal below same = cc
not-both Greater below same = cc

called-put : (job : Bytes) (x : JobDef) (xs : List JobDef) → jobs_called job (put_by less x xs) ≡ jobs_called job (x ∷ xs)
called-put job x [] = refl
called-put job x (y ∷ ys) = by_less (is_below y.name x.name) refl (called-put job x ys)
  where
    alike : bytes_eq y.name job ≡ true → bytes_eq x.name job ≡ true → is_below y.name x.name ≡ true → ⊥
    alike is are below =
        let same : y.name ≡ x.name = bytes_same y.name job is ∙ sym (bytes_same x.name job are) in
        let equal : bytes_eq y.name x.name ≡ true = ap (λ name. bytes_eq name x.name) same ∙ bytes_refl x.name in
        not-both (slice_cmp nat_cmp y.name x.name) below (is_eq-slice_cmp y.name x.name ∙ equal)

    after : (a b : Bool) → bytes_eq y.name job ≡ a → bytes_eq x.name job ≡ b → is_below y.name x.name ≡ true
        → jobs_called job (put_by less x ys) ≡ (if b then x ∷ jobs_called job ys else jobs_called job ys)
        → (if a then y ∷ jobs_called job (put_by less x ys) else jobs_called job (put_by less x ys))
        ≡ (if b then x ∷ (if a then y ∷ jobs_called job ys else jobs_called job ys)
        else (if a then y ∷ jobs_called job ys else jobs_called job ys))
    after true true is are below ih = absurd (alike is are below)
    after true false is are below ih = ap (λ rest. y ∷ rest) ih
    after false b is are below ih = ih

    by_less : (c : Bool) → is_below y.name x.name ≡ c
        → jobs_called job (put_by less x ys) ≡ jobs_called job (x ∷ ys)
        → jobs_called job (if c then y ∷ put_by less x ys else x ∷ y ∷ ys) ≡ jobs_called job (x ∷ y ∷ ys)
    by_less true below ih = after (bytes_eq y.name job) (bytes_eq x.name job) refl refl below ih
    by_less false over ih = refl

called-order : (job : Bytes) (xs : List JobDef) → jobs_called job (sort_by_order less xs) ≡ jobs_called job xs
called-order job [] = refl
called-order job (x ∷ xs) =
    called-put job x (sort_by_order less xs) ∙ ap (λ rest. if bytes_eq x.name job then x ∷ rest else rest) (called-order job xs)

-- and are all that there is of themselves
abbrev AreCalled : Bytes → List JobDef → Type 0
AreCalled job xs = AllByRecursion (λ (x : JobDef). bytes_eq x.name job ≡ true) xs

called-all : (job : Bytes) (xs : List JobDef) → AreCalled job (jobs_called job xs)
called-all job [] = tt
called-all job (x ∷ xs) = by_case (bytes_eq x.name job) refl (called-all job xs)
  where
    by_case : (b : Bool) → bytes_eq x.name job ≡ b → AreCalled job (jobs_called job xs)
        → AreCalled job (if b then x ∷ jobs_called job xs else jobs_called job xs)
    by_case true is rest = (is, rest)
    by_case false is rest = rest

called-self : (job : Bytes) (xs : List JobDef) → AreCalled job xs → jobs_called job xs ≡ xs
called-self job [] all = refl
called-self job (x ∷ xs) all = rw all.0 (ap (λ rest. x ∷ rest) (called-self job xs all.1))

called-sorted : (job : Bytes) (xs : List JobDef) → sort_by_order less (jobs_called job xs) ≡ jobs_called job xs
called-sorted job xs =
    let zs : List JobDef = jobs_called job xs in
    let all : AreCalled job zs = called-all job xs in
    sym (called-self job (sort_by_order less zs) (all-order (λ x. bytes_eq x.name job ≡ true) less zs all)) ∙ called-order job zs ∙ called-self job zs all

-- those that go on alone are those of the job that go on
going-called : (job : Bytes) (new old : List JobDef) (c d : Chronicle) → is_filled (instances_of job c) ≡ is_filled (instances_of job d)
    → jobs_called job (going_on new old c) ≡ going_on (jobs_called job new) (jobs_called job old) d
going-called job new [] c d filled = refl
going-called job new (x ∷ xs) c d filled = by_case (bytes_eq x.name job) refl (going-called job new xs c d filled)
  where
    own : not (is_some (job_named job new)) && is_filled (instances_of job c)
        ≡ not (is_some (job_named job (jobs_called job new))) && is_filled (instances_of job d)
    own = ap₂ (λ (o : Option JobDef) (b : Bool). not (is_some o) && b) (named-only job new) filled

    same : bytes_eq x.name job ≡ true → goes_on new c x ≡ goes_on (jobs_called job new) d x
    same is = subst (λ name. not (is_some (job_named name new)) && is_filled (instances_of name c)
        ≡ not (is_some (job_named name (jobs_called job new))) && is_filled (instances_of name d)) (sym (bytes_same x.name job is)) own

    rest : List JobDef
    rest = filter (goes_on new c) xs

    others : List JobDef
    others = filter (goes_on (jobs_called job new) d) (jobs_called job xs)

    by_goes : (g : Bool) → bytes_eq x.name job ≡ true → jobs_called job (map without_start rest) ≡ map without_start others
        → jobs_called job (map without_start (if g then x ∷ rest else rest)) ≡ map without_start (if g then x ∷ others else others)
    by_goes true is ih = rw is (ap (λ js. without_start x ∷ js) ih)
    by_goes false is ih = ih

    by_other : (g : Bool) → bytes_eq x.name job ≡ false → jobs_called job (map without_start rest) ≡ map without_start others
        → jobs_called job (map without_start (if g then x ∷ rest else rest)) ≡ map without_start others
    by_other true is ih = rw is ih
    by_other false is ih = ih

    by_case : (b : Bool) → bytes_eq x.name job ≡ b → jobs_called job (map without_start rest) ≡ map without_start others
        → jobs_called job (map without_start (if goes_on new c x then x ∷ rest else rest))
        ≡ map without_start (filter (goes_on (jobs_called job new) d) (if b then x ∷ jobs_called job xs else jobs_called job xs))
    by_case true is ih =
        subst (λ g. jobs_called job (map without_start (if g then x ∷ rest else rest))
        ≡ map without_start (if goes_on (jobs_called job new) d x then x ∷ others else others))
        (sym (same is)) (by_goes (goes_on (jobs_called job new) d x) is ih)
    by_case false is ih = by_other (goes_on new c x) is ih

names-called : (job : Bytes) (xs : List JobDef) → names_called job (job_names xs) ≡ job_names (jobs_called job xs)
names-called job [] = refl
names-called job (x ∷ xs) = by_case (bytes_eq x.name job) (names-called job xs)
  where
    by_case : (b : Bool) → names_called job (job_names xs) ≡ job_names (jobs_called job xs)
        → (if b then x.name ∷ names_called job (job_names xs) else names_called job (job_names xs))
        ≡ job_names (if b then x ∷ jobs_called job xs else jobs_called job xs)
    by_case true ih = ap (λ rest. x.name ∷ rest) ih
    by_case false ih = ih

-- so a load of the job's files alone brings the job's part of what the whole load brings
pub only-load : (job : Bytes) (new : List JobDef) (config : Configuration) (c d : Chronicle)
    → is_filled (instances_of job c) ≡ is_filled (instances_of job d)
    → with_jobs (jobs_called job new) (only job config) d ≡ only job (with_jobs new config c)
only-load job new config c d filled = ap₂ (λ js removed. record { base = config.base; jobs = js; removed = removed }) files removed
  where
    going : jobs_called job (going_on new config.jobs c) ≡ going_on (jobs_called job new) (jobs_called job config.jobs) d
    going = going-called job new config.jobs c d filled

    together : jobs_called job (new ++ going_on new config.jobs c)
        ≡ jobs_called job new ++ going_on (jobs_called job new) (jobs_called job config.jobs) d
    together = called-append job new (going_on new config.jobs c) ∙ ap (λ js. jobs_called job new ++ js) going

    files : sort_by_order less (jobs_called job new ++ going_on (jobs_called job new) (jobs_called job config.jobs) d)
        ≡ jobs_called job (sort_by_order less (new ++ going_on new config.jobs c))
    files = ap (sort_by_order less) (sym together) ∙ called-sorted job (new ++ going_on new config.jobs c)
        ∙ sym (called-order job (new ++ going_on new config.jobs c))

    removed : job_names (going_on (jobs_called job new) (jobs_called job config.jobs) d) ≡ names_called job (job_names (going_on new config.jobs c))
    removed = ap job_names (sym going) ∙ sym (names-called job (going_on new config.jobs c))

-- a configuration changes nothing of instances that are alike
bond-config : (job : Bytes) (config other : Configuration) (c d : Chronicle) (file : JobDef) (i j : ℕ)
    → Bond job config c d file i j → Bond job other c d file i j
bond-config job config other c d file i j bond = record {
  alike = bond.alike;
  held = bond.held;
  older = bond.older;
  older_there = bond.older_there;
  sights = ap (told file.stop_on) (seen-stop other config i c) ∙ bond.sights
      ∙ ap (told file.stop_on) (seen-stop (only job config) (only job other) j d);
}

blank-config : (config other : Configuration) (c : Chronicle) → Blank config c → Blank other c
blank-config config other c blank = λ p h. record {
  alike = (blank p h).alike;
  holders = (blank p h).holders;
  seen = seen-stop other config p c ∙ (blank p h).seen;
}

-- jobs come into force, and alone those of the job's name
like_loaded : (job : Bytes) (config other : Configuration) (jobs : List JobDef) (c d : Chronicle) → Like job config c d
    → Like job other (Loaded jobs ∷ c) (Loaded (jobs_called job jobs) ∷ d)
unfolding part deeds
like_loaded job config other jobs c d like = record {
  twins = twins-left job other e f c d (instances_of job c) (instances_of job d)
      (λ p. record { aside = tt; holders = refl; seen = refl })
      (λ p. record { aside = tt; holders = refl; seen = refl })
      (twins_map (Twin job config c d) (Twin job other c d) (λ x y twin. record {
        name = twin.name;
        file = twin.file;
        bond = bond-config job config other c d x.file x.place y.place twin.bond;
      }) (instances_of job c) (instances_of job d) like.twins);
  starts = refl;
  today = like.today;
  blank = blank_more other e c (blank-config config other c like.blank) tt;
  empty = blank_more (only job other) f d (blank-config (only job config) (only job other) d like.empty) tt;
  fair = fair_more job e c like.fair tt;
  singles = like.singles;
  part = ap (λ files. parts.Noticed (Replaced files) ∷ []) (sym (called-self job (jobs_called job jobs) (called-all job jobs)));
  deeds = ap (λ (xs : List Output). xs ++ []) like.deeds;
}
  where
    e : Entry
    e = Loaded jobs

    f : Entry
    f = Loaded (jobs_called job jobs)

-- the client of a load is none of the job's
not-asked : (job : Bytes) (id : ℕ) (its : LoadedValue) (es c : Chronicle) → (es ≡ [])
    → was_asked job (request_at (length c) (es ++ Given (input.Load id its) ∷ c)) ≡ false
not-asked job id its es c none = rw (none, eq-eqb (length c) (length c) refl) refl

-- so a load is noticed as one of the job's files, and nothing is then offered or to be answered
pub load-plain : (job : Bytes) (config other : Configuration) (id : ℕ) (jobs : List JobDef) (c d : Chronicle) → Like job config c d
    → Plain job other (effect config (input.Load id (loaded.Files jobs)) c ++ c) (Loaded (jobs_called job jobs) ∷ Given input.Turn ∷ d)
unfolding effect
load-plain job config other id jobs c d like = record {
  like = foreign job other (Replied (length c) _) (Loaded jobs ∷ Given g ∷ c) (Loaded (jobs_called job jobs) ∷ Given input.Turn ∷ d) reply
      (like_loaded job config other jobs (Given g ∷ c) (Given input.Turn ∷ d)
      (like_turn job config (Given g ∷ c) d (foreign job config (Given g) c d refl like)));
  offers = None' refl refl;
  silent = refl;
  silent_there = refl;
}
  where
    g : Input
    g = input.Load id (loaded.Files jobs)

    reply : was_asked job (request_at (length c) (Loaded jobs ∷ Given g ∷ c)) ≡ false
    reply = rw (older-other (length (Given g ∷ c)) (length c) (omega arith), eq-eqb (length c) (length c) refl) refl

-- no expression of the job holds anything that it didn't hold before
pub calm-load : (job : Bytes) (config other : Configuration) (files : List JobDef) (d : Chronicle) → IsCalm job config d
    → IsCalm job other (Loaded files ∷ Given input.Turn ∷ d)
calm-load job config other files d calm =
    calm-more job other (Loaded files ∷ Given input.Turn ∷ []) d (nothing-holds (start_tree job other))
    (λ j file is. ap (holds file.stop_on) (seen-stop (only job other) (only job config) j d) ∙ calm.stops j file is)
    (λ j h. seen-stop (only job other) (only job config) j d ∙ calm.blank j h)

-- a load that isn't carried out isn't noticed
pub effect-refused_load : (job : Bytes) (config : Configuration) (id : ℕ) (its : LoadedValue) (c d : Chronicle) → LoadsNothing (input.Load id its)
    → Base job config c d → Effected job config c d (effect config (input.Load id its) c ++ c)
unfolding effect
effect-refused_load job config id (loaded.Files jobs) c d nothing base = absurd nothing
effect-refused_load job config id (loaded.Refused number) c d nothing base =
    unnoticed job config (input.Load id (loaded.Refused number)) (loading (length c) (loaded.Refused number)) c d base refl (tt, tt)
    (not-asked job id (loaded.Refused number) [] c refl, tt)
    (no-asks job (Given (input.Load id (loaded.Refused number)) ∷ c)
    (loading (length c) (loaded.Refused number) ++ Given (input.Load id (loaded.Refused number)) ∷ c) refl)
effect-refused_load job config id loaded.Unread c d nothing base =
    unnoticed job config (input.Load id loaded.Unread) (loading (length c) loaded.Unread) c d base refl (tt, tt)
    (not-asked job id loaded.Unread [] c refl, tt)
    (no-asks job (Given (input.Load id loaded.Unread) ∷ c)
    (loading (length c) loaded.Unread ++ Given (input.Load id loaded.Unread) ∷ c) refl)
