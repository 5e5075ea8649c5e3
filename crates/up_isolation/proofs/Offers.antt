-- The first offer of this step's event: to an expression of another job, or to those of the job that stand
-- side by side.
use Rattle.std.proofs.Common.{◌≡◌, ℕ, ◌⊎◌, inl, inr, Bool, true, false, List, [], ◌∷◌, Option, None, Some, if◌then◌else◌}
use Rattle.std.proofs.Common.{bytes_eq, refl, sym, ◌∙◌, ap, subst, subst₂}
use Rattle.std.specs.List.{AllByRecursion}
use Rattle.up_conf.specs.declared.job.JobDef.{JobDef}
use Rattle.up_model.specs.Chronicle.{Chronicle, Entry, Offered, StartOn, StopOn}
use Rattle.up_model.specs.Configuration.{Configuration, job_named}
use Rattle.up_model.specs.Instances.{Instance, instances_of}
use Rattle.up_model.specs.Values.{Bytes}
use Rattle.up_model.proofs.FileLaws.{named-name}
use Rattle.up_model.proofs.Places.{bytes_same}
use Rattle.up_isolation.specs.Views.{is_of}
use Rattle.up_isolation.proofs.Twins.{Twins}
use Rattle.up_isolation.proofs.Known.{IsKnown}
use Rattle.up_isolation.proofs.Likes.{only, named-only, Twin, Like, Fair}
use Rattle.std.proofs.Common.{not}
use Rattle.up_model.specs.Files.{job_names}
use Rattle.up_model.specs.Offers.{is_open, stop_offer, stop_offer_in, start_offer, start_offer_by, offer_in, offer_first}
use Rattle.up_model.specs.Predicates.{entries_if, or_else}
use Rattle.up_model.specs.Seen.{was_offered}
use Rattle.up_isolation.proofs.Twins.{At}
use Rattle.up_isolation.proofs.Known.{known}
use Rattle.up_isolation.proofs.Foreign.{AreStrange, strange-stop_offer, strange-start_offer}
use Rattle.up_isolation.proofs.Movers.{snoc-some, or_else-first, or_else-second}
use Rattle.up_isolation.proofs.Locals.{IsShut}
use Rattle.up_isolation.specs.Views.{jobs_called}

pub data Offers (job : Bytes) (config : Configuration) (p q : ℕ) (c d : Chronicle) (es fs : List Entry) : Type 0
  where
    Idle : es ≡ [] → fs ≡ [] → Offers job config p q c d es fs
    Away : (es ≡ [] → ⊥) → AreStrange job es c → Offers job config p q c d es fs
    Stop : (x y : Instance) → At x y (instances_of job c) (instances_of job d)
        → es ≡ stop_offer config x.file x.place p c → fs ≡ stop_offer (only job config) x.file y.place q d
        → Offers job config p q c d es fs
    Start : (def : JobDef) → job_named job config.jobs ≡ Some def
        → AllByRecursion (λ x. is_open x.place c ≡ false) (instances_of job c)
        → AllByRecursion (λ y. is_open y.place d ≡ false) (instances_of job d) → es ≡ start_offer config def p c
        → fs ≡ start_offer (only job config) def q d
        → Offers job config p q c d es fs

pub stop-some : (config : Configuration) (def : JobDef) (i p : ℕ) (c : Chronicle)
    → stop_offer config def i p c ≡ [] → ⊥
stop-some config def i p c none = snoc-some _ (Offered (StopOn i) p) none

pub start-some : (config : Configuration) (def : JobDef) (p : ℕ) (c : Chronicle)
    → start_offer config def p c ≡ [] → ⊥
start-some config def p c none = snoc-some _ (Offered (StartOn def.name) p) none

-- the offers to instances of the job
pub data Stops (job : Bytes) (config : Configuration) (p q : ℕ) (c d : Chronicle)
    (xs ys : List Instance) (es fs : List Entry) : Type 0 where
  NoStop : es ≡ [] → fs ≡ [] → AllByRecursion (λ x. is_open x.place c ≡ false) xs
      → AllByRecursion (λ y. is_open y.place d ≡ false) ys → Stops job config p q c d xs ys es fs
  OneStop : (x y : Instance) → At x y xs ys → es ≡ stop_offer config x.file x.place p c
      → fs ≡ stop_offer (only job config) x.file y.place q d → Stops job config p q c d xs ys es fs

stops-in : (job : Bytes) (config : Configuration) (p q : ℕ) (c d s t : Chronicle)
    (xs ys : List Instance) → Twins (Twin job config s t) xs ys
    → Twins (λ x y. is_open x.place c ≡ is_open y.place d) xs ys
    → Stops job config p q c d xs ys (stop_offer_in config xs p c)
    (stop_offer_in (only job config) ys q d)
stops-in job config p q c d s t [] [] twins opens = NoStop refl refl tt tt
stops-in job config p q c d s t (x ∷ xs) (y ∷ ys) twins opens =
    subst (λ file. Stops job config p q c d (x ∷ xs) (y ∷ ys)
    (or_else (entries_if (is_open x.place c) (stop_offer config x.file x.place p c)) (stop_offer_in config xs p c))
    (or_else (entries_if (is_open y.place d) (stop_offer (only job config) file y.place q d))
    (stop_offer_in (only job config) ys q d))) twins.0.file
    (by_case (is_open x.place c) (is_open y.place d) refl refl opens.0
    (stops-in job config p q c d s t xs ys twins.1 opens.1))
  where
    def : JobDef
    def = x.file

    further : Stops job config p q c d xs ys (stop_offer_in config xs p c)
        (stop_offer_in (only job config) ys q d) → is_open x.place c ≡ false → is_open y.place d ≡ false
        → Stops job config p q c d (x ∷ xs) (y ∷ ys) (stop_offer_in config xs p c)
        (stop_offer_in (only job config) ys q d)
    further (NoStop none void shut closed) is are = NoStop none void (is, shut) (are, closed)
    further (OneStop u v at left right) is are = OneStop u v (inr at) left right

    by_case : (b a : Bool) → is_open x.place c ≡ b → is_open y.place d ≡ a
        → is_open x.place c ≡ is_open y.place d
        → Stops job config p q c d xs ys (stop_offer_in config xs p c)
        (stop_offer_in (only job config) ys q d)
        → Stops job config p q c d (x ∷ xs) (y ∷ ys)
        (or_else (entries_if b (stop_offer config def x.place p c)) (stop_offer_in config xs p c))
        (or_else (entries_if a (stop_offer (only job config) def y.place q d))
        (stop_offer_in (only job config) ys q d))
    by_case true true is are same ih =
        OneStop x y (inl (refl, refl))
        (or_else-first (stop_offer config def x.place p c) (stop_offer_in config xs p c)
        (stop-some config def x.place p c))
        (or_else-first (stop_offer (only job config) def y.place q d)
        (stop_offer_in (only job config) ys q d) (stop-some (only job config) def y.place q d))
    by_case false false is are same ih = further ih is are
    by_case true false is are same ih = absurd (cc)
    by_case false true is are same ih = absurd (cc)
stops-in job config p q c d s t [] (y ∷ ys) twins opens = absurd opens
stops-in job config p q c d s t (x ∷ xs) [] twins opens = absurd opens

-- an offer to an instance of another job
strange-or : (job : Bytes) (es fs : List Entry) (c : Chronicle) → AreStrange job es c → AreStrange job fs c
    → AreStrange job (or_else es fs) c
strange-or job [] fs c are other = other
strange-or job (e ∷ es) fs c are other = are

away-stops : (job : Bytes) (config : Configuration) (name : Bytes) (c : Chronicle) (p : ℕ)
    (xs : List Instance) → Fair job c → bytes_eq name job ≡ false
    → AllByRecursion (IsKnown name c) xs → AreStrange job (stop_offer_in config xs p c) c
away-stops job config name c p [] fair other known = tt
away-stops job config name c p (x ∷ xs) fair other known =
    strange-or job (entries_if (is_open x.place c) (stop_offer config x.file x.place p c))
    (stop_offer_in config xs p c) c (by_case (is_open x.place c))
    (away-stops job config name c p xs fair other known.1)
  where
    by_case : (b : Bool) → AreStrange job (entries_if b (stop_offer config x.file x.place p c)) c
    by_case true =
        strange-stop_offer job config x.file x.place p c fair (ap (is_of job) known.0.1 ∙ other, known.0.0)
    by_case false = tt

away-offer : (job : Bytes) (config : Configuration) (name : Bytes) (c : Chronicle) (p : ℕ) → Fair job c
    → bytes_eq name job ≡ false → AreStrange job (offer_in config name p c) c
away-offer job config name c p fair other =
    strange-or job (stop_offer_in config (instances_of name c) p c)
    (entries_if (not (was_offered (StartOn name) c)) (start_offer_by config (job_named name config.jobs) p c)) c
    (away-stops job config name c p (instances_of name c) fair other (known name c))
    (by_case (not (was_offered (StartOn name) c)))
  where
    by_file : (file : Option JobDef) → job_named name config.jobs ≡ file
        → AreStrange job (start_offer_by config file p c) c
    by_file None none = tt
    by_file (Some def) found = strange-start_offer job config def p c fair
        (ap (λ its. bytes_eq its job) (named-name name config.jobs def found) ∙ other)

    by_case : (b : Bool) → AreStrange job (entries_if b (start_offer_by config (job_named name config.jobs) p c)) c
    by_case true = by_file (job_named name config.jobs) refl
    by_case false = tt

empty-or : (es : List Entry) → (es ≡ []) ⊎ (es ≡ [] → ⊥)
empty-or [] = inl refl
empty-or (e ∷ es) = inr (λ none. cc)

further-job : (job : Bytes) (config : Configuration) (p q : ℕ) (c d : Chronicle) (es others fs : List Entry)
    → AreStrange job es c → Offers job config p q c d others fs
    → Offers job config p q c d (or_else es others) fs
further-job job config p q c d es others fs strange other = by_sum (empty-or es)
  where
    by_sum : (es ≡ []) ⊎ (es ≡ [] → ⊥) → Offers job config p q c d (or_else es others) fs
    by_sum (inl none) = subst (λ a. Offers job config p q c d a fs) (sym (or_else-second es others none)) other
    by_sum (inr some) =
        Away (λ none. some (sym (or_else-first es others some) ∙ none))
        (subst (λ a. AreStrange job a c) (sym (or_else-first es others some)) strange)

-- the first offer to the job's own, where it is still open, or what is offered further on
offers-own : (job : Bytes) (config : Configuration) (p q : ℕ) (c d : Chronicle) (others rest : List Entry)
    → was_offered (StartOn job) c ≡ false → was_offered (StartOn job) d ≡ false
    → Stops job config p q c d (instances_of job c) (instances_of job d)
    (stop_offer_in config (instances_of job c) p c) (stop_offer_in (only job config) (instances_of job d) q d)
    → Offers job config p q c d others rest
    → Offers job config p q c d (or_else (offer_in config job p c) others)
    (or_else (offer_in (only job config) job q d) rest)
offers-own job config p q c d others rest left right stops further = by_stops stops
  where
    starts : List Entry
    starts = entries_if (not (was_offered (StartOn job) c)) (start_offer_by config (job_named job config.jobs) p c)

    starts_there : List Entry
    starts_there = entries_if (not (was_offered (StartOn job) d))
        (start_offer_by (only job config) (job_named job (jobs_called job config.jobs)) q d)

    here : List Entry
    here = or_else (stop_offer_in config (instances_of job c) p c) starts

    there : List Entry
    there = or_else (stop_offer_in (only job config) (instances_of job d) q d) starts_there

    by_file : stop_offer_in config (instances_of job c) p c ≡ []
        → stop_offer_in (only job config) (instances_of job d) q d ≡ []
        → AllByRecursion (λ x. is_open x.place c ≡ false) (instances_of job c)
        → AllByRecursion (λ y. is_open y.place d ≡ false) (instances_of job d)
        → (file : Option JobDef) → job_named job config.jobs ≡ file → starts ≡ start_offer_by config file p c
        → starts_there ≡ start_offer_by (only job config) file q d
        → Offers job config p q c d (or_else here others) (or_else there rest)
    by_file none void shut closed None is one other =
        subst₂ (λ a b. Offers job config p q c d a b)
        (sym (or_else-second here others (or_else-second (stop_offer_in config (instances_of job c) p c) starts none ∙ one)))
        (sym (or_else-second there rest
        (or_else-second (stop_offer_in (only job config) (instances_of job d) q d) starts_there void ∙ other))) further
    by_file none void shut closed (Some def) is one other =
        let left : here ≡ start_offer config def p c =
        or_else-second (stop_offer_in config (instances_of job c) p c) starts none ∙ one in
        let right : there ≡ start_offer (only job config) def q d =
        or_else-second (stop_offer_in (only job config) (instances_of job d) q d) starts_there void ∙ other in
        Start def is shut closed
        (or_else-first here others (λ nil. start-some config def p c (sym left ∙ nil)) ∙ left)
        (or_else-first there rest (λ nil. start-some (only job config) def q d (sym right ∙ nil)) ∙ right)

    by_stops : Stops job config p q c d (instances_of job c) (instances_of job d)
        (stop_offer_in config (instances_of job c) p c) (stop_offer_in (only job config) (instances_of job d) q d)
        → Offers job config p q c d (or_else here others) (or_else there rest)
    by_stops (OneStop x y at one other) =
        let left : here ≡ stop_offer config x.file x.place p c =
        or_else-first (stop_offer_in config (instances_of job c) p c) starts
        (λ none. stop-some config x.file x.place p c (sym one ∙ none)) ∙ one in
        let right : there ≡ stop_offer (only job config) x.file y.place q d =
        or_else-first (stop_offer_in (only job config) (instances_of job d) q d) starts_there
        (λ none. stop-some (only job config) x.file y.place q d (sym other ∙ none)) ∙ other in
        Stop x y at
        (or_else-first here others (λ none. stop-some config x.file x.place p c (sym left ∙ none)) ∙ left)
        (or_else-first there rest (λ none. stop-some (only job config) x.file y.place q d (sym right ∙ none))
        ∙ right)
    by_stops (NoStop none void shut closed) =
        by_file none void shut closed (job_named job config.jobs) refl
        (ap (λ b. entries_if (not b) (start_offer_by config (job_named job config.jobs) p c)) left)
        (ap (λ b. entries_if (not b) (start_offer_by (only job config) (job_named job (jobs_called job config.jobs)) q d))
        right ∙ ap (λ file. start_offer_by (only job config) file q d) (sym (named-only job config.jobs)))

-- the first offer of all
pub offers-first : (job : Bytes) (config : Configuration) (p q : ℕ) (js : List JobDef) (c d : Chronicle)
    → Like job config c d
    → Twins (λ x y. is_open x.place c ≡ is_open y.place d) (instances_of job c) (instances_of job d)
    → was_offered (StartOn job) c ≡ false → was_offered (StartOn job) d ≡ false
    → Offers job config p q c d (offer_first config (job_names js) p c)
    (offer_first (only job config) (job_names (jobs_called job js)) q d)
offers-first job config p q [] c d like opens left right = Idle refl refl
offers-first job config p q (def ∷ js) c d like opens left right =
    by_case (bytes_eq def.name job) refl (offers-first job config p q js c d like opens left right)
  where
    by_case : (b : Bool) → bytes_eq def.name job ≡ b
        → Offers job config p q c d (offer_first config (job_names js) p c)
        (offer_first (only job config) (job_names (jobs_called job js)) q d)
        → Offers job config p q c d
        (or_else (offer_in config def.name p c) (offer_first config (job_names js) p c))
        (offer_first (only job config) (job_names (if b then def ∷ jobs_called job js else jobs_called job js)) q d)
    by_case true is ih =
        subst (λ name. Offers job config p q c d
        (or_else (offer_in config name p c) (offer_first config (job_names js) p c))
        (or_else (offer_in (only job config) name q d)
        (offer_first (only job config) (job_names (jobs_called job js)) q d))) (sym (bytes_same def.name job is))
        (offers-own job config p q c d (offer_first config (job_names js) p c)
        (offer_first (only job config) (job_names (jobs_called job js)) q d) left right
        (stops-in job config p q c d c d (instances_of job c) (instances_of job d) like.twins opens) ih)
    by_case false is ih =
        further-job job config p q c d (offer_in config def.name p c) (offer_first config (job_names js) p c)
        (offer_first (only job config) (job_names (jobs_called job js)) q d)
        (away-offer job config def.name c p like.fair is) ih

-- and where they are shut
shut-in : (config : Configuration) (p : ℕ) (c : Chronicle) (xs : List Instance)
    → AllByRecursion (λ x. is_open x.place c ≡ false) xs → stop_offer_in config xs p c ≡ []
shut-in config p c [] shut = refl
shut-in config p c (x ∷ xs) shut = rw shut.0 (shut-in config p c xs shut.1)

pub shut-offer : (job : Bytes) (config : Configuration) (name : Bytes) (p : ℕ) (c : Chronicle)
    → name ≡ job → IsShut job c → offer_in config name p c ≡ []
shut-offer job config name p c same shut =
    ap (λ its. or_else (stop_offer_in config (instances_of its c) p c)
    (entries_if (not (was_offered (StartOn its) c)) (start_offer_by config (job_named its config.jobs) p c))) same
    ∙ or_else-second (stop_offer_in config (instances_of job c) p c) _
    (shut-in config p c (instances_of job c) shut.shut)
    ∙ ap (λ b. entries_if (not b) (start_offer_by config (job_named job config.jobs) p c)) shut.started

-- nothing in both, or something of another job
pub data Spent (job : Bytes) (c : Chronicle) (es fs : List Entry) : Type 0 where
  Nothing : es ≡ [] → fs ≡ [] → Spent job c es fs
  Something : (es ≡ [] → ⊥) → AreStrange job es c → Spent job c es fs

pub offers-shut : (job : Bytes) (config : Configuration) (p q : ℕ) (js : List JobDef) (c d : Chronicle)
    → Fair job c → IsShut job c → IsShut job d
    → Spent job c (offer_first config (job_names js) p c) (offer_first (only job config) (job_names (jobs_called job js)) q d)
offers-shut job config p q [] c d fair shut closed = Nothing refl refl
offers-shut job config p q (def ∷ js) c d fair shut closed =
    by_case (bytes_eq def.name job) refl (offers-shut job config p q js c d fair shut closed)
  where
    other : bytes_eq def.name job ≡ false
        → (offer_in config def.name p c ≡ []) ⊎ (offer_in config def.name p c ≡ [] → ⊥)
        → Spent job c (offer_first config (job_names js) p c) (offer_first (only job config) (job_names (jobs_called job js)) q d)
        → Spent job c (or_else (offer_in config def.name p c) (offer_first config (job_names js) p c))
        (offer_first (only job config) (job_names (jobs_called job js)) q d)
    other is (inl none) ih =
        subst (λ a. Spent job c a (offer_first (only job config) (job_names (jobs_called job js)) q d))
        (sym (or_else-second (offer_in config def.name p c) (offer_first config (job_names js) p c) none)) ih
    other is (inr some) ih =
        Something (λ none. some
        (sym (or_else-first (offer_in config def.name p c) (offer_first config (job_names js) p c) some) ∙ none))
        (subst (λ a. AreStrange job a c)
        (sym (or_else-first (offer_in config def.name p c) (offer_first config (job_names js) p c) some))
        (away-offer job config def.name c p fair is))

    by_case : (b : Bool) → bytes_eq def.name job ≡ b
        → Spent job c (offer_first config (job_names js) p c) (offer_first (only job config) (job_names (jobs_called job js)) q d)
        → Spent job c (or_else (offer_in config def.name p c) (offer_first config (job_names js) p c))
        (offer_first (only job config) (job_names (if b then def ∷ jobs_called job js else jobs_called job js)) q d)
    by_case true is ih =
        subst₂ (λ a b. Spent job c a b)
        (sym (or_else-second (offer_in config def.name p c) (offer_first config (job_names js) p c)
        (shut-offer job config def.name p c (bytes_same def.name job is) shut)))
        (sym (or_else-second (offer_in (only job config) def.name q d)
        (offer_first (only job config) (job_names (jobs_called job js)) q d)
        (shut-offer job (only job config) def.name q d (bytes_same def.name job is) closed)))
        ih
    by_case false is ih = other is (empty-or (offer_in config def.name p c)) ih
