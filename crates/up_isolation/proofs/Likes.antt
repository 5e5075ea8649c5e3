-- A chronicle and one of the job alone, in which the job is alike; an entry that isn't about the job leaves
-- that so.
use Rattle.up_isolation.proofs.Names.{◌≡◌, ℕ, ◌<◌, ◌≤◌, ◌==◌, ◌||◌, ◌⊎◌, inl, inr, Bool, true, false, List, []}
use Rattle.up_isolation.proofs.Names.{◌∷◌, ◌++◌, Option, None, Some, is_some, length, if◌then◌else◌, bytes_eq}
use Rattle.up_isolation.proofs.Names.{refl, sym, ◌∙◌, ap, ap₂, subst, arith, ne_eqb, append-nil, not, ◌&&◌}
use Rattle.up_isolation.proofs.Names.{AllByRecursion, list_any, JobDef, is_filled, Process, Tree, Sight, Event}
use Rattle.up_isolation.proofs.Names.{Who, Chronicle, Entry, Given, Queued, Handled, Offered, Fired, Finished}
use Rattle.up_isolation.proofs.Names.{Made, Aimed, Restarted, Released, Failed, Respawned, Entered, Ordered}
use Rattle.up_isolation.proofs.Names.{Signalled, Replied, Loaded, Entering, Outside, Spoilt, StartOn, StopOn, now}
use Rattle.up_isolation.proofs.Names.{Configuration, job_named, file_in_force, known_file, start_on_of, Instance}
use Rattle.up_isolation.proofs.Names.{without_instance, instances_of, instance_named, entry_at, made_at, event_at}
use Rattle.up_isolation.proofs.Names.{blocker, without, holders, speaks_of, request_at, seen, sight_of, env_of}
use Rattle.up_isolation.proofs.Names.{Bytes, Bindings, called, Singles, entered-singles, made-singles, bytes_refl}
use Rattle.up_isolation.proofs.Names.{older-other, names_called, contents, content, items, items_if, hears_event}
use Rattle.up_isolation.proofs.Names.{Arrived, Unblocked, stands_in, hears, concerns, is_blocked_by, unblocked}
use Rattle.up_isolation.proofs.Names.{arrivals, is_of, owns, was_asked, jobs_called, deeds}
use Rattle.up_model.specs.declared.input.Input.TheVariants as input
use Rattle.up_model.specs.declared.state.State.TheVariants as state
use Rattle.up_model.proofs.FileLaws.{all-weaker}
use Rattle.up_isolation.specs.Views.{stands_in_stops}
use Rattle.up_isolation.specs.Parts as parts
use Rattle.up_isolation.proofs.Lives.{life, IsAside, aside, IsOld}
use Rattle.up_isolation.proofs.Lives as lives
use Rattle.up_isolation.proofs.Sights.{told}
use Rattle.up_isolation.proofs.Twins.{Twins}
use Rattle.up_isolation.proofs.Known.{IsKnown, known, AreOlder, contents-later, older-later}
use Rattle.up_isolation.proofs.Steady.{part}

-- the configuration of the job alone
abbrev pub only : Bytes → Configuration → Configuration
only job config = record {
  base = config.base;
  jobs = jobs_called job config.jobs;
  removed = names_called job config.removed;
}

-- two instances of this file, by their places, that are alike
pub record Bond (job : Bytes) (config : Configuration) (c d : Chronicle) (file : JobDef) (i j : ℕ) : Type 0 where
  pub alike : life i c ≡ life j d
  pub held : contents (holders i c) c ≡ contents (holders j d) d
  pub older : AreOlder (length c) (holders i c)
  pub older_there : AreOlder (length d) (holders j d)
  pub sights : told file.stop_on (seen config (StopOn i) c) ≡ told file.stop_on (seen (only job config) (StopOn j) d)

-- and have one name and one file
pub record Twin (job : Bytes) (config : Configuration) (c d : Chronicle) (x y : Instance) : Type 0 where
  pub name : x.name ≡ y.name
  pub file : x.file ≡ y.file
  pub bond : Bond job config c d x.file x.place y.place

-- nothing is read of what isn't made yet
pub record BlankAt (config : Configuration) (p : ℕ) (c : Chronicle) : Type 0 where
  pub alike : life p c ≡ life 0 []
  pub holders : holders p c ≡ []
  pub seen : seen config (StopOn p) c ≡ []

abbrev pub Blank : Configuration → Chronicle → Type 0
Blank config c = (p : ℕ) → length c ≤ p → BlankAt config p c

-- places of which none is that of a request that names the job
abbrev pub AreForeign : Bytes → Chronicle → List ℕ → Type 0
AreForeign job c ps = AllByRecursion (λ p. (p < length c) × (was_asked job (request_at p c) ≡ false)) ps

-- an event from outside doesn't come with a request that names the job
abbrev pub IsOuter : Bytes → Option Entry → Chronicle → Type 0
IsOuter job (Some (Queued (Outside given) event)) c =
    (given < length c) × (was_asked job (request_at given c) ≡ false)
IsOuter job other c = Unit {0}

-- the instances of other jobs hold no request that names the job
pub record Fair (job : Bytes) (c : Chronicle) : Type 0 where
  pub holders : (i : ℕ) → owns job i c ≡ false → AreForeign job c (holders i c)
  pub outer : (p : ℕ) → IsOuter job (entry_at p c) c

-- the `start on` of the job's file in force
abbrev pub start_tree : Bytes → Configuration → Option Tree
start_tree job config = start_on_of (job_named job config.jobs)

pub record Like (job : Bytes) (config : Configuration) (c d : Chronicle) : Type 0 where
  pub twins : Twins (Twin job config c d) (instances_of job c) (instances_of job d)
  pub starts : told (start_tree job config) (seen config (StartOn job) c)
      ≡ told (start_tree job config) (seen (only job config) (StartOn job) d)
  pub today : now c ≡ now d
  pub blank : Blank config c
  pub empty : Blank (only job config) d
  pub fair : Fair job c
  pub singles : Singles c
  pub part : part job config c ≡ part job (only job config) d
  pub deeds : deeds job c ≡ deeds job d

-- the job has the same file alone
pub named-only : (job : Bytes) (jobs : List JobDef)
    → job_named job jobs ≡ job_named job (jobs_called job jobs)
named-only job [] = refl
named-only job (its ∷ jobs) = by_case (bytes_eq its.name job) refl (named-only job jobs)
  where
    by_case : (b : Bool) → bytes_eq its.name job ≡ b
        → job_named job jobs ≡ job_named job (jobs_called job jobs)
        → (if b then Some its else job_named job jobs)
        ≡ job_named job (if b then its ∷ jobs_called job jobs else jobs_called job jobs)
    by_case true is ih = rw is refl
    by_case false is ih = ih

-- and is removed alone if it is
removed-only : (job : Bytes) (names : List Bytes)
    → list_any (λ other. bytes_eq other job) names ≡ list_any (λ other. bytes_eq other job) (names_called job names)
removed-only job [] = refl
removed-only job (name ∷ names) = by_case (bytes_eq name job) refl (removed-only job names)
  where
    by_case : (b : Bool) → bytes_eq name job ≡ b
        → list_any (λ other. bytes_eq other job) names ≡ list_any (λ other. bytes_eq other job) (names_called job names)
        → (b || list_any (λ other. bytes_eq other job) names)
        ≡ list_any (λ other. bytes_eq other job) (if b then name ∷ names_called job names else names_called job names)
    by_case true is ih = rw is refl
    by_case false is ih = ih

-- so it has the same file in force
pub file-only : (job : Bytes) (config : Configuration) (c d : Chronicle)
    → file_in_force config job c ≡ file_in_force (only job config) job d
file-only job config c d =
    ap₂ (λ (removed : Bool) file. if removed then None else file) (removed-only job config.removed) (named-only job config.jobs)

-- so it hears the same in both
stops-same : (job : Bytes) (config : Configuration) (s t : Chronicle) (event : Bytes) (xs ys : List Instance)
    → Twins (Twin job config s t) xs ys → stands_in_stops event xs ≡ stands_in_stops event ys
stops-same job config s t event [] [] twins = refl
stops-same job config s t event (x ∷ xs) (y ∷ ys) twins =
    ap₂ (λ (file : JobDef) b. stands_in event file.stop_on || b) twins.0.file
    (stops-same job config s t event xs ys twins.1)
stops-same job config s t event [] (y ∷ ys) twins = absurd twins
stops-same job config s t event (x ∷ xs) [] twins = absurd twins

hears-same : (job : Bytes) (config : Configuration) (c d : Chronicle) (event : Bytes) → Like job config c d
    → hears job config event c ≡ hears job (only job config) event d
hears-same job config c d event like =
    ap₂ (λ file b. stands_in event (start_on_of file) || b) (named-only job config.jobs)
    (stops-same job config c d event (instances_of job c) (instances_of job d) like.twins)

-- and the same by which requests know it
pub filled-same : (job : Bytes) (config : Configuration) (s t : Chronicle) (xs ys : List Instance)
    → Twins (Twin job config s t) xs ys → is_filled xs ≡ is_filled ys
filled-same job config s t [] [] twins = refl
filled-same job config s t (x ∷ xs) (y ∷ ys) twins = refl
filled-same job config s t [] (y ∷ ys) twins = absurd twins
filled-same job config s t (x ∷ xs) [] twins = absurd twins

pub known-only : (job : Bytes) (config : Configuration) (c d : Chronicle) → Like job config c d
    → known_file config job c ≡ known_file (only job config) job d
known-only job config c d like =
    ap₂ (λ (removed : Bool) file. if removed then None else file)
    (ap₂ (λ removed filled. removed && not filled) (removed-only job config.removed)
    (filled-same job config c d (instances_of job c) (instances_of job d) like.twins))
    (named-only job config.jobs)

pub hears_event-same : (job : Bytes) (config : Configuration) (c d : Chronicle) (o u : Option Event) → o ≡ u
    → Like job config c d → hears_event job config o c ≡ hears_event job (only job config) u d
hears_event-same job config c d o u same like = by_event o ∙ ap (λ its. hears_event job (only job config) its d) same
  where
    by_event : (its : Option Event) → hears_event job config its c ≡ hears_event job (only job config) its d
    by_event None = refl
    by_event (Some event) = hears-same job config c d event.name like

pub arrivals-same : (job : Bytes) (config : Configuration) (c d : Chronicle) (o u : Option Event) → o ≡ u
    → Like job config c d → arrivals job config o c ≡ arrivals job (only job config) u d
arrivals-same job config c d o u same like = by_event o ∙ ap (λ its. arrivals job (only job config) its d) same
  where
    by_event : (its : Option Event) → arrivals job config its c ≡ arrivals job (only job config) its d
    by_event None = refl
    by_event (Some event) = ap (λ b. if b then Arrived event ∷ [] else []) (hears-same job config c d event.name like)

-- what it hears depends on its instances
pub hears_event-kept : (job : Bytes) (config : Configuration) (o : Option Event) (c e : Chronicle)
    → instances_of job e ≡ instances_of job c → hears_event job config o e ≡ hears_event job config o c
hears_event-kept job config None c e same = refl
hears_event-kept job config (Some event) c e same =
    ap (λ xs. stands_in event.name (start_tree job config) || stands_in_stops event.name xs) same

-- an instance that isn't the job's
abbrev pub IsOther : Bytes → ℕ → Chronicle → Type 0
IsOther job i c = (owns job i c ≡ false) × (i < length c)

-- entries that aren't about the job
abbrev pub IsForeign : Bytes → Configuration → Entry → Chronicle → Type 0
IsForeign job config (Given given) c = concerns job given ≡ false
IsForeign job config (Queued (Entering i to) event) c = IsOther job i c
IsForeign job config (Queued (Outside given) event) c =
    (given < length c) × (was_asked job (request_at given c) ≡ false)
IsForeign job config (Queued (Spoilt spoilt) event) c = Unit {0}
IsForeign job config (Handled event) c = arrivals job config (event_at event c) c ≡ []
IsForeign job config (Finished event) c = unblocked event (instances_of job c) c ≡ []
IsForeign job config (Offered (StartOn other) event) c =
    (bytes_eq other job ≡ false) ⊎ (hears_event job config (event_at event c) c ≡ false)
IsForeign job config (Offered (StopOn i) event) c = (i < length c)
    × ((owns job i c ≡ false) ⊎ (hears_event job config (event_at event c) c ≡ false))
IsForeign job config (Fired (StartOn other) taken) c = bytes_eq other job ≡ false
IsForeign job config (Fired (StopOn i) taken) c = owns job i c ≡ false
IsForeign job config (Made file name) c =
    (bytes_eq file.name job ≡ false) × (instance_named (called file.name name) c ≡ None)
IsForeign job config (Aimed i aim environment its) c = IsOther job i c × AreForeign job c its
IsForeign job config (Restarted i its) c = IsOther job i c × AreForeign job c its
IsForeign job config (Released i failed) c = owns job i c ≡ false
IsForeign job config (Failed i its) c = IsOther job i c
IsForeign job config (Respawned i moment) c = IsOther job i c
IsForeign job config (Entered i to) c = IsOther job i c
IsForeign job config (Ordered i its) c = IsOther job i c
IsForeign job config (Signalled i signal by_timer) c = IsOther job i c
IsForeign job config (Replied request answer) c = was_asked job (request_at request c) ≡ false
IsForeign job config (Loaded jobs) c = ⊥

-- an instance of the job is another
pub apart : (job : Bytes) (i : ℕ) (c : Chronicle) (x : Instance) → IsKnown job c x → owns job i c ≡ false
    → (i == x.place) ≡ false
apart job i c x known other = ne_eqb i x.place (λ same.
    let own : owns job i c ≡ true = ap (λ p. owns job p c) same ∙ ap (is_of job) known.1 ∙ bytes_refl job in
    absurd (cc))

-- an entry spares an instance
pub record Spares (job : Bytes) (config : Configuration) (e : Entry) (c : Chronicle) (x : Instance) : Type 0
  where
    pub aside : IsAside x.place e c
    pub holders : holders x.place (e ∷ c) ≡ holders x.place c
    pub seen : told x.file.stop_on (seen config (StopOn x.place) (e ∷ c))
        ≡ told x.file.stop_on (seen config (StopOn x.place) c)

-- whether the name of an event stands in an expression
abbrev pub event_stands_in : Option Event → Option Tree → Bool
event_stands_in None tree = false
event_stands_in (Some event) tree = stands_in event.name tree

-- an entry doesn't unblock an instance, and offers its `stop on` no event whose name stands there
abbrev pub PassesBy : Bytes → Entry → Chronicle → Instance → Type 0
PassesBy job (Finished event) c x = is_blocked_by event (blocker x.place c) ≡ false
PassesBy job (Offered (StopOn i) event) c x =
    (owns job i c ≡ false) ⊎ (event_stands_in (event_at event c) x.file.stop_on ≡ false)
PassesBy job e c x = Unit {0}

or-left : (a b : Bool) → (a || b) ≡ false → a ≡ false
or-left true b none = absurd (cc)
or-left false b none = refl

or-right : (a b : Bool) → (a || b) ≡ false → b ≡ false
or-right true b none = absurd (cc)
or-right false b none = none

-- what a job doesn't hear stands in no expression of it
pub unheard-start : (job : Bytes) (config : Configuration) (o : Option Event) (c : Chronicle)
    → hears_event job config o c ≡ false → event_stands_in o (start_tree job config) ≡ false
unheard-start job config None c unheard = refl
unheard-start job config (Some event) c unheard = or-left (stands_in event.name (start_tree job config)) _ unheard

unheard-in : (event : Bytes) (xs : List Instance) → stands_in_stops event xs ≡ false
    → AllByRecursion (λ x. stands_in event x.file.stop_on ≡ false) xs
unheard-in event [] unheard = tt
unheard-in event (x ∷ xs) unheard = (
  or-left (stands_in event x.file.stop_on) _ unheard,
  unheard-in event xs (or-right (stands_in event x.file.stop_on) _ unheard),
)

unheard-nothing : (xs : List Instance) → AllByRecursion (λ x. event_stands_in None x.file.stop_on ≡ false) xs
unheard-nothing [] = tt
unheard-nothing (x ∷ xs) = (refl, unheard-nothing xs)

pub unheard-stops : (job : Bytes) (config : Configuration) (o : Option Event) (c : Chronicle)
    → hears_event job config o c ≡ false
    → AllByRecursion (λ x. event_stands_in o x.file.stop_on ≡ false) (instances_of job c)
unheard-stops job config None c unheard = unheard-nothing (instances_of job c)
unheard-stops job config (Some event) c unheard = unheard-in event.name (instances_of job c)
    (or-right (stands_in event.name (start_tree job config)) _ unheard)

same-blocked : (event : ℕ) (o : Option ℕ) → is_blocked_by event o ≡ false
    → is_some (without event o) ≡ is_some o
same-blocked event None h = refl
same-blocked event (Some other) h = rw h refl

pub told-append : (tree : Option Tree) (xs ys : List Sight) → told tree (xs ++ ys) ≡ told tree xs ++ told tree ys
told-append tree [] ys = refl
told-append tree (x ∷ xs) ys = by_case (stands_in x.name tree) (told-append tree xs ys)
  where
    blind : Sight
    blind = record { event = 0; name = x.name; vars = x.vars; env = x.env }

    by_case : (b : Bool) → told tree (xs ++ ys) ≡ told tree xs ++ told tree ys
        → (if b then blind ∷ told tree (xs ++ ys) else told tree (xs ++ ys))
        ≡ (if b then blind ∷ told tree xs else told tree xs) ++ told tree ys
    by_case true ih = ap (λ rest. blind ∷ rest) ih
    by_case false ih = ih

-- an event whose name doesn't stand there isn't told
absent-told : (tree : Option Tree) (place : ℕ) (o : Option Event) (environment : Bindings)
    → event_stands_in o tree ≡ false → told tree (sight_of place o environment) ≡ []
absent-told tree place None environment absent = refl
absent-told tree place (Some event) environment absent = rw absent refl

pub absent-seen : (tree : Option Tree) (place : ℕ) (o : Option Event) (environment : Bindings)
    (ss : List Sight) → event_stands_in o tree ≡ false
    → told tree (ss ++ sight_of place o environment) ≡ told tree ss
absent-seen tree place o environment ss absent =
    told-append tree ss (sight_of place o environment) ∙ ap (λ rest. told tree ss ++ rest)
    (absent-told tree place o environment absent) ∙ append-nil (told tree ss)

speaks-not : (job : Bytes) (c : Chronicle) (x : Instance) (who : Who) (named : Process) → IsKnown job c x
    → bytes_eq who.job job ≡ false
    → (process : Process) → speaks_of (made_at x.place c) process who named ≡ false
speaks-not job c x who named known other process = rw known.1 (rw other refl)

pub spares : (job : Bytes) (config : Configuration) (e : Entry) (c : Chronicle) (x : Instance)
    → IsKnown job c x → IsForeign job config e c → PassesBy job e c x
    → Spares job config e c x
spares job config (Given (input.Spawned who its pid)) c x known is passes =
    record { aside = speaks-not job c x who its known is; holders = refl; seen = refl }
spares job config (Given (input.Refused who its)) c x known is passes =
    record { aside = speaks-not job c x who its known is; holders = refl; seen = refl }
spares job config (Given (input.Ended who its how)) c x known is passes =
    record { aside = speaks-not job c x who its known is; holders = refl; seen = refl }
spares job config (Given given) c x known is passes = record { aside = tt; holders = refl; seen = refl }
spares job config (Queued (Entering i to) event) c x known is passes =
    record { aside = apart job i c x known is.0; holders = refl; seen = refl }
spares job config (Queued origin event) c x known is passes =
    record { aside = tt; holders = refl; seen = refl }
spares job config (Handled event) c x known is passes = record { aside = tt; holders = refl; seen = refl }
spares job config (Finished event) c x known is passes =
    record { aside = same-blocked event (blocker x.place c) passes; holders = refl; seen = refl }
spares job config (Offered (StartOn other) event) c x known is passes =
    record { aside = tt; holders = refl; seen = refl }
spares job config (Offered (StopOn i) event) c x known is passes =
    record { aside = tt; holders = refl; seen = by_sum passes }
  where
    own : Option Tree
    own = x.file.stop_on

    by_case : (b : Bool) → event_stands_in (event_at event c) own ≡ false
        → told own (if b then seen config (StopOn x.place) c ++ sight_of event (event_at event c)
        (env_of config (StopOn x.place) c) else seen config (StopOn x.place) c)
        ≡ told own (seen config (StopOn x.place) c)
    by_case true h = absent-seen own event (event_at event c) (env_of config (StopOn x.place) c)
        (seen config (StopOn x.place) c) h
    by_case false h = refl

    by_sum : (owns job i c ≡ false) ⊎ (event_stands_in (event_at event c) own ≡ false)
        → told own (seen config (StopOn x.place) (Offered (StopOn i) event ∷ c))
        ≡ told own (seen config (StopOn x.place) c)
    by_sum (inl other) = rw (apart job i c x known other) refl
    by_sum (inr absent) = by_case (i == x.place) absent
spares job config (Fired (StartOn other) taken) c x known is passes =
    record { aside = tt; holders = refl; seen = refl }
spares job config (Fired (StopOn i) taken) c x known is passes =
    record { aside = tt; holders = refl; seen = rw (apart job i c x known is) refl }
spares job config (Made file name) c x known is passes =
    record { aside = older-other (length c) x.place known.0; holders = refl; seen = refl }
spares job config (Aimed i aim environment its) c x known is passes =
    record {
      aside = apart job i c x known is.0.0;
      holders = rw (apart job i c x known is.0.0) refl;
      seen =
          refl;
    }
spares job config (Restarted i its) c x known is passes =
    record {
      aside = apart job i c x known is.0.0;
      holders = rw (apart job i c x known is.0.0) refl;
      seen =
          refl;
    }
spares job config (Released i failed) c x known is passes =
    record { aside = tt; holders = rw (apart job i c x known is) refl; seen = refl }
spares job config (Failed i its) c x known is passes =
    record { aside = apart job i c x known is.0; holders = refl; seen = refl }
spares job config (Respawned i moment) c x known is passes =
    record { aside = apart job i c x known is.0; holders = refl; seen = refl }
spares job config (Entered i to) c x known is passes =
    record { aside = apart job i c x known is.0; holders = refl; seen = refl }
spares job config (Ordered i its) c x known is passes =
    record { aside = apart job i c x known is.0; holders = refl; seen = refl }
spares job config (Signalled i signal by_timer) c x known is passes =
    record { aside = apart job i c x known is.0; holders = refl; seen = refl }
spares job config (Replied request answer) c x known is passes =
    record { aside = tt; holders = refl; seen = refl }
spares job config (Loaded jobs) c x known is passes = absurd is

-- all of them are spared
all-spared : (job : Bytes) (config : Configuration) (e : Entry) (c : Chronicle) (xs : List Instance)
    → AllByRecursion (IsKnown job c) xs → IsForeign job config e c
    → AllByRecursion (PassesBy job e c) xs → AllByRecursion (Spares job config e c) xs
all-spared job config e c [] known is passes = tt
all-spared job config e c (x ∷ xs) known is passes =
    (spares job config e c x known.0 is passes.0, all-spared job config e c xs known.1 is passes.1)

none-freed : (job : Bytes) (event : ℕ) (c : Chronicle) (xs : List Instance) → unblocked event xs c ≡ []
    → AllByRecursion (PassesBy job (Finished event) c) xs
none-freed job event c [] none = tt
none-freed job event c (x ∷ xs) none =
    by_case (is_blocked_by event (blocker x.place c)) refl none (none-freed job event c xs)
  where
    by_case : (b : Bool) → is_blocked_by event (blocker x.place c) ≡ b
        → (if b then Unblocked x.name ∷ unblocked event xs c else unblocked event xs c) ≡ []
        → (unblocked event xs c ≡ [] → AllByRecursion (PassesBy job (Finished event) c) xs)
        → AllByRecursion (PassesBy job (Finished event) c) (x ∷ xs)
    by_case true is none ih = absurd (cc)
    by_case false is none ih = (is, ih none)

passes-each : (job : Bytes) (e : Entry) (c : Chronicle) (xs : List Instance) → ((x : Instance) → PassesBy job e c x)
    → AllByRecursion (PassesBy job e c) xs
passes-each job e c [] h = tt
passes-each job e c (x ∷ xs) h = (h x, passes-each job e c xs h)

passes-all : (job : Bytes) (config : Configuration) (e : Entry) (c : Chronicle) → IsForeign job config e c
    → AllByRecursion (PassesBy job e c) (instances_of job c)
passes-all job config (Finished event) c is = none-freed job event c (instances_of job c) is
passes-all job config (Offered (StopOn i) event) c is = by_sum is.1
  where
    by_sum : (owns job i c ≡ false) ⊎ (hears_event job config (event_at event c) c ≡ false)
        → AllByRecursion (PassesBy job (Offered (StopOn i) event) c) (instances_of job c)
    by_sum (inl other) = passes-each job (Offered (StopOn i) event) c (instances_of job c) (λ x. inl other)
    by_sum (inr unheard) = all-weaker (λ x. event_stands_in (event_at event c) x.file.stop_on ≡ false)
        (PassesBy job (Offered (StopOn i) event) c) (λ x absent. inr absent) (instances_of job c)
        (unheard-stops job config (event_at event c) c unheard)
passes-all job config e c is = passes-each job e c (instances_of job c) (λ x. tt)

-- twins stay twins
pub twin-spared : (job : Bytes) (config : Configuration) (e : Entry) (c d : Chronicle) (x y : Instance)
    → Spares job config e c x → Twin job config c d x y
    → Twin job config (e ∷ c) d x y
twin-spared job config e c d x y spares twin = record {
  name = twin.name;
  file = twin.file;
  bond = record {
    alike = aside x.place e c spares.aside ∙ twin.bond.alike;
    held = ap (λ ps. contents ps (e ∷ c)) spares.holders ∙ contents-later (holders x.place c) e c
        twin.bond.older ∙ twin.bond.held;
    older = subst (λ ps. AreOlder (length (e ∷ c)) ps) (sym spares.holders)
        (older-later (length c) (length (e ∷ c)) (holders x.place c) (omega arith) twin.bond.older);
    older_there = twin.bond.older_there;
    sights = spares.seen ∙ twin.bond.sights;
  };
}

twins-spared : (job : Bytes) (config : Configuration) (e : Entry) (c d : Chronicle) (xs ys : List Instance)
    → AllByRecursion (Spares job config e c) xs
    → Twins (Twin job config c d) xs ys → Twins (Twin job config (e ∷ c) d) xs ys
twins-spared job config e c d [] [] spares twins = tt
twins-spared job config e c d (x ∷ xs) (y ∷ ys) spares twins =
    (twin-spared job config e c d x y spares.0 twins.0, twins-spared job config e c d xs ys spares.1 twins.1)
twins-spared job config e c d [] (y ∷ ys) spares twins = twins
twins-spared job config e c d (x ∷ xs) [] spares twins = twins

-- another instance isn't among the job's
without-other : (i : ℕ) (xs : List Instance) → AllByRecursion (λ x. (x.place == i) ≡ false) xs
    → without_instance i xs ≡ xs
without-other i [] all = refl
without-other i (x ∷ xs) all = rw all.0 (ap (λ rest. x ∷ rest) (without-other i xs all.1))

all-apart : (job : Bytes) (i : ℕ) (c : Chronicle) (xs : List Instance) → owns job i c ≡ false
    → AllByRecursion (IsKnown job c) xs → AllByRecursion (λ x. (x.place == i) ≡ false) xs
all-apart job i c [] other known = tt
all-apart job i c (x ∷ xs) other known = (
  ne_eqb x.place i (λ same.
      let own : owns job i c ≡ true =
      ap (λ p. owns job p c) (sym same) ∙ ap (is_of job) known.0.1 ∙ bytes_refl job in
      absurd (cc)),
  all-apart job i c xs other known.1,
)

pub instances-same : (job : Bytes) (config : Configuration) (e : Entry) (c : Chronicle)
    → IsForeign job config e c → instances_of job (e ∷ c) ≡ instances_of job c
instances-same job config (Made file name) c is = rw is.0 refl
instances-same job config (Entered i state.Waiting) c is =
    without-other i (instances_of job c) (all-apart job i c (instances_of job c) is.0 (known job c))
instances-same job config e c is = refl

starts-same : (job : Bytes) (config : Configuration) (e : Entry) (c : Chronicle) → IsForeign job config e c
    → told (start_tree job config) (seen config (StartOn job) (e ∷ c))
    ≡ told (start_tree job config) (seen config (StartOn job) c)
starts-same job config (Offered (StartOn other) event) c is = by_sum is
  where
    own : Option Tree
    own = start_tree job config

    by_case : (b : Bool) → event_stands_in (event_at event c) own ≡ false
        → told own (if b then seen config (StartOn job) c ++ sight_of event (event_at event c)
        (env_of config (StartOn job) c) else seen config (StartOn job) c)
        ≡ told own (seen config (StartOn job) c)
    by_case true h = absent-seen own event (event_at event c) (env_of config (StartOn job) c)
        (seen config (StartOn job) c) h
    by_case false h = refl

    by_sum : (bytes_eq other job ≡ false) ⊎ (hears_event job config (event_at event c) c ≡ false)
        → told own (seen config (StartOn job) (Offered (StartOn other) event ∷ c))
        ≡ told own (seen config (StartOn job) c)
    by_sum (inl differs) = rw differs refl
    by_sum (inr unheard) = by_case (bytes_eq other job) (unheard-start job config (event_at event c) c unheard)
starts-same job config (Offered (StopOn i) event) c is = refl
starts-same job config (Fired (StartOn other) taken) c is = rw is refl
starts-same job config (Fired (StopOn i) taken) c is = refl
starts-same job config (Loaded jobs) c is = absurd is
starts-same job config e c is = refl

today-same : (job : Bytes) (config : Configuration) (e : Entry) (c : Chronicle) → IsForeign job config e c
    → now (e ∷ c) ≡ now c
today-same job config (Given (input.Clock reading)) c is = absurd (cc)
today-same job config (Given given) c is = refl
today-same job config e c is = refl

-- nothing of it is in the part
part-same : (job : Bytes) (config : Configuration) (e : Entry) (c : Chronicle) → IsForeign job config e c
    → part job config (e ∷ c) ≡ part job config c
unfolding part
part-same job config (Given given) c is = rw is refl
part-same job config (Queued (Entering i to) event) c is = rw is.0 refl
part-same job config (Queued origin event) c is = refl
part-same job config (Handled event) c is = rw is refl
part-same job config (Finished event) c is = rw is refl
part-same job config (Offered (StartOn other) event) c is = by_sum is
  where
    e : Entry
    e = Offered (StartOn other) event

    by_sum : (bytes_eq other job ≡ false) ⊎ (hears_event job config (event_at event c) c ≡ false)
        → items job config e c ++ part job config c ≡ part job config c
    by_sum (inl differs) = rw differs refl
    by_sum (inr unheard) = by_case (bytes_eq other job) unheard
      where
        by_case : (b : Bool) → hears_event job config (event_at event c) c ≡ false
            → (if b then items_if (hears_event job config (event_at event c) c)
            (parts.Offered (parts.StartOn) (content event c)) else []) ++ part job config c
            ≡ part job config c
        by_case true h = rw h refl
        by_case false h = refl
part-same job config (Offered (StopOn i) event) c is = by_sum is.1
  where
    e : Entry
    e = Offered (StopOn i) event

    by_sum : (owns job i c ≡ false) ⊎ (hears_event job config (event_at event c) c ≡ false)
        → items job config e c ++ part job config c ≡ part job config c
    by_sum (inl other) = rw other refl
    by_sum (inr unheard) = by_case (owns job i c) unheard
      where
        by_case : (b : Bool) → hears_event job config (event_at event c) c ≡ false
            → (if b then items_if (hears_event job config (event_at event c) c)
            (parts.Offered (parts.StopOn (parts.name_at i c)) (content event c)) else []) ++ part job config c
            ≡ part job config c
        by_case true h = rw h refl
        by_case false h = refl
part-same job config (Fired (StartOn other) taken) c is = rw is refl
part-same job config (Fired (StopOn i) taken) c is = rw is refl
part-same job config (Made file name) c is = rw is.0 refl
part-same job config (Aimed i aim environment its) c is = rw is.0.0 refl
part-same job config (Restarted i its) c is = rw is.0.0 refl
part-same job config (Released i failed) c is = rw is refl
part-same job config (Failed i its) c is = rw is.0 refl
part-same job config (Respawned i moment) c is = rw is.0 refl
part-same job config (Entered i to) c is = rw is.0 refl
part-same job config (Ordered i its) c is = rw is.0 refl
part-same job config (Signalled i signal by_timer) c is = rw is.0 refl
part-same job config (Replied request answer) c is = rw is refl
part-same job config (Loaded jobs) c is = absurd is

-- nor is it a deed
deeds-same : (job : Bytes) (config : Configuration) (e : Entry) (c : Chronicle) → IsForeign job config e c
    → deeds job (e ∷ c) ≡ deeds job c
unfolding deeds
deeds-same job config (Queued (Entering i to) event) c is = rw is.0 (append-nil (deeds job c))
deeds-same job config (Ordered i its) c is = rw is.0 (append-nil (deeds job c))
deeds-same job config (Signalled i signal by_timer) c is = rw is.0 (append-nil (deeds job c))
deeds-same job config (Replied request answer) c is = rw is (append-nil (deeds job c))
deeds-same job config e c is = append-nil (deeds job c)

-- entries about instances that were made
abbrev pub IsPast : Entry → Chronicle → Type 0
IsPast (Offered (StopOn i) event) c = i < length c
IsPast e c = IsOld e c

past-old : (e : Entry) (c : Chronicle) → IsPast e c → IsOld e c
past-old (Offered (StopOn i) event) c past = tt
past-old e c past = past

pub foreign-past : (job : Bytes) (config : Configuration) (e : Entry) (c : Chronicle)
    → IsForeign job config e c → IsPast e c
foreign-past job config (Queued (Entering i to) event) c is = is.1
foreign-past job config (Offered (StartOn other) event) c is = tt
foreign-past job config (Offered (StopOn i) event) c is = is.0
foreign-past job config (Aimed i aim environment its) c is = is.0.1
foreign-past job config (Restarted i its) c is = is.0.1
foreign-past job config (Failed i its) c is = is.1
foreign-past job config (Respawned i moment) c is = is.1
foreign-past job config (Entered i to) c is = is.1
foreign-past job config (Ordered i its) c is = is.1
foreign-past job config (Signalled i signal by_timer) c is = is.1
foreign-past job config e c is = tt

younger : (i p n : ℕ) → i < n → n < p → (i == p) ≡ false
younger i p n h k = ne_eqb i p (λ same. omega arith)

holders-blank : (p : ℕ) (e : Entry) (c : Chronicle) → IsPast e c → length c < p → holders p c ≡ []
    → holders p (e ∷ c) ≡ []
holders-blank p (Aimed i aim environment its) c past h none = rw (younger i p (length c) past h) none
holders-blank p (Restarted i its) c past h none = rw (younger i p (length c) past h) none
holders-blank p (Released i failed) c past h none = by_case (i == p)
  where
    by_case : (b : Bool) → (if b then [] else holders p c) ≡ []
    by_case true = refl
    by_case false = none
holders-blank p e c past h none = none

seen-blank : (config : Configuration) (p : ℕ) (e : Entry) (c : Chronicle) → IsPast e c → length c < p
    → seen config (StopOn p) c ≡ [] → seen config (StopOn p) (e ∷ c) ≡ []
seen-blank config p (Offered (StartOn other) event) c past h none = none
seen-blank config p (Offered (StopOn i) event) c past h none = rw (younger i p (length c) past h) none
seen-blank config p (Fired (StartOn other) taken) c past h none = none
seen-blank config p (Fired (StopOn i) taken) c past h none = by_case (i == p)
  where
    by_case : (b : Bool) → (if b then [] else seen config (StopOn p) c) ≡ []
    by_case true = refl
    by_case false = none
seen-blank config p e c past h none = none

pub blank_more : (config : Configuration) (e : Entry) (c : Chronicle) → Blank config c → IsPast e c
    → Blank config (e ∷ c)
blank_more config e c blank past = λ p h. record {
  alike = lives.blank_more e c (λ q k. (blank q k).alike) (past-old e c past) p h;
  holders = holders-blank p e c past (omega arith) (blank p (omega arith)).holders;
  seen = seen-blank config p e c past (omega arith) (blank p (omega arith)).seen;
}

pub blank_nil : (config : Configuration) → Blank config []
blank_nil config = λ p h. record { alike = refl; holders = refl; seen = refl }

-- what an instance of another job gets to hold
abbrev pub HoldsFair : Bytes → Entry → Chronicle → Type 0
HoldsFair job (Aimed i aim environment its) c = (owns job i c ≡ true) ⊎ AreForeign job c its
HoldsFair job (Restarted i its) c = (owns job i c ≡ true) ⊎ AreForeign job c its
HoldsFair job (Queued (Outside given) event) c =
    (given < length c) × (was_asked job (request_at given c) ≡ false)
HoldsFair job e c = Unit {0}

pub foreign-fair : (job : Bytes) (config : Configuration) (e : Entry) (c : Chronicle)
    → IsForeign job config e c → HoldsFair job e c
foreign-fair job config (Aimed i aim environment its) c is = inr is.1
foreign-fair job config (Restarted i its) c is = inr is.1
foreign-fair job config (Queued (Outside given) event) c is = is
foreign-fair job config e c is = tt

request-later : (p : ℕ) (e : Entry) (c : Chronicle) → p < length c → request_at p (e ∷ c) ≡ request_at p c
request-later p e c h = rw (older-other (length c) p h) refl

pub foreign-later : (job : Bytes) (e : Entry) (c : Chronicle) (ps : List ℕ) → AreForeign job c ps
    → AreForeign job (e ∷ c) ps
foreign-later job e c [] all = tt
foreign-later job e c (p ∷ ps) all = (
  (omega (arith, all.0.0), ap (was_asked job) (request-later p e c all.0.0) ∙ all.0.1),
  foreign-later job e
      c ps all.1,
)

pub owns-later : (job : Bytes) (i : ℕ) (e : Entry) (c : Chronicle) → i < length c
    → owns job i (e ∷ c) ≡ owns job i c
owns-later job i e c h = rw (older-other (length c) i h) refl

owns-before : (job : Bytes) (i : ℕ) (e : Entry) (c : Chronicle) → owns job i (e ∷ c) ≡ false
    → owns job i c ≡ false
owns-before job i e c other = by_sum (grind arith)
  where
    by_sum : (i < length c) ⊎ (length c ≤ i) → owns job i c ≡ false
    by_sum (inl h) = sym (owns-later job i e c h) ∙ other
    by_sum (inr h) = ap (is_of job) (lives.made-none i c h)

own-apart : (job : Bytes) (i p : ℕ) (c : Chronicle) → owns job i c ≡ true → owns job p c ≡ false
    → (i == p) ≡ false
own-apart job i p c own other = ne_eqb i p (λ same.
    let there : owns job p c ≡ true = ap (λ q. owns job q c) (sym same) ∙ own in
    absurd (cc))

pub fair_more : (job : Bytes) (e : Entry) (c : Chronicle) → Fair job c → HoldsFair job e c → Fair job (e ∷ c)
fair_more job e c fair holds = record {
  holders = λ p other. step p e (owns-before job p e c other) holds;
  outer = λ p. by_place p e (length c == p) refl holds;
}
  where
    later : (given : ℕ) (x : Entry) → (given < length c) × (was_asked job (request_at given c) ≡ false)
        → (given < length (x ∷ c)) × (was_asked job (request_at given (x ∷ c)) ≡ false)
    later given x h = (omega (arith, h.0), ap (was_asked job) (request-later given x c h.0) ∙ h.1)

    outer-later : (o : Option Entry) (x : Entry) → IsOuter job o c → IsOuter job o (x ∷ c)
    outer-later (Some (Queued (Outside given) event)) x h = later given x h
    outer-later o x h = tt

    outer-new : (x : Entry) → HoldsFair job x c → IsOuter job (Some x) (x ∷ c)
    outer-new (Queued (Outside given) event) h = later given (Queued (Outside given) event) h
    outer-new x h = tt

    by_place : (p : ℕ) (x : Entry) (b : Bool) → (length c == p) ≡ b → HoldsFair job x c
        → IsOuter job (if b then Some x else entry_at p c) (x ∷ c)
    by_place p x true here h = outer-new x h
    by_place p x false there h = outer-later (entry_at p c) x (fair.outer p)

    same : (p : ℕ) (x : Entry) → owns job p c ≡ false → holders p (x ∷ c) ≡ holders p c
        → AreForeign job (x ∷ c) (holders p (x ∷ c))
    same p x other keeps = subst (λ ps. AreForeign job (x ∷ c) ps) (sym keeps)
        (foreign-later job x c (holders p c) (fair.holders p other))

    by_test : (p : ℕ) (x : Entry) (b : Bool) (its : List ℕ) → owns job p c ≡ false → AreForeign job c its
        → AreForeign job (x ∷ c) (if b then its else holders p c)
    by_test p x true its other all = foreign-later job x c its all
    by_test p x false its other all = foreign-later job x c (holders p c) (fair.holders p other)

    by_sum : (p i : ℕ) (x : Entry) (its : List ℕ) → owns job p c ≡ false
        → (owns job i c ≡ true) ⊎ AreForeign job c its
        → AreForeign job (x ∷ c) (if i == p then its else holders p c)
    by_sum p i x its other (inl own) =
        rw (own-apart job i p c own other) (foreign-later job x c (holders p c) (fair.holders p other))
    by_sum p i x its other (inr all) = by_test p x (i == p) its other all

    step : (p : ℕ) (x : Entry) → owns job p c ≡ false → HoldsFair job x c
        → AreForeign job (x ∷ c) (holders p (x ∷ c))
    step p (Aimed i aim environment its) other holds =
        by_sum p i (Aimed i aim environment its) its other holds
    step p (Restarted i its) other holds = by_sum p i (Restarted i its) its other holds
    step p (Released i failed) other holds = by_test p (Released i failed) (i == p) [] other tt
    step p x other holds = same p x other refl

foreign-singles : (job : Bytes) (config : Configuration) (e : Entry) (c : Chronicle)
    → IsForeign job config e c → Singles c → Singles (e ∷ c)
foreign-singles job config (Made file name) c is singles = made-singles file name c is.1 singles
foreign-singles job config (Entered i to) c is singles = entered-singles i to c singles
foreign-singles job config e c is singles = singles

-- an entry that isn't about the job leaves it as it was
pub foreign : (job : Bytes) (config : Configuration) (e : Entry) (c d : Chronicle) → IsForeign job config e c
    → Like job config c d → Like job config (e ∷ c) d
foreign job config e c d is like = record {
  twins = subst (λ xs. Twins (Twin job config (e ∷ c) d) xs (instances_of job d))
      (sym (instances-same job config e c is))
      (twins-spared job config e c d (instances_of job c) (instances_of job d)
      (all-spared job config e c (instances_of job c) (known job c) is (passes-all job config e c is))
      like.twins);
  starts = starts-same job config e c is ∙ like.starts;
  today = today-same job config e c is ∙ like.today;
  blank = blank_more config e c like.blank (foreign-past job config e c is);
  empty = like.empty;
  fair = fair_more job e c like.fair (foreign-fair job config e c is);
  singles = foreign-singles job config e c is like.singles;
  part = part-same job config e c is ∙ like.part;
  deeds = deeds-same job config e c is ∙ like.deeds;
}
