-- Offers job by job: of two jobs with one name the first alone is offered anything, so they are those by name.
use Rattle.std.proofs.Common.{◌≡◌, ◌⊎◌, inl, inr, ℕ, Bool, true, false, not, List, [], ◌∷◌, ◌++◌, Option, None, Some, bytes_eq, if◌then◌else◌, refl, sym, ◌∙◌, ap, ap₂, subst, append_assoc}
use Rattle.std.specs.List.{AllByRecursion}
use Rattle.up_conf.specs.declared.job.JobDef.{JobDef}
use Rattle.up_model.specs.Chronicle.{Chronicle, Entry, Offered, StartOn, StopOn}
use Rattle.up_model.specs.Configuration.{Configuration, job_named}
use Rattle.up_model.specs.Files.{job_names, names_in_order}
use Rattle.up_model.specs.Instances.{Instance, instances_of}
use Rattle.up_model.specs.Offers.{is_open, stop_offer, stop_offer_in, start_offer, start_offer_by}
use Rattle.up_model.specs.Offers as model
use Rattle.up_model.specs.Predicates.{entries_if, or_else}
use Rattle.up_model.specs.Seen.{was_offered}
use Rattle.up_model.specs.Values.{Bytes}
use Rattle.up_model.proofs.Places.{bytes_same, bytes_refl}

-- the event is offered to the first expression of a job
abbrev pub offer_in : Configuration → JobDef → (event : ℕ) → Chronicle → List Entry
offer_in config job event c =
    or_else (stop_offer_in config (instances_of job.name c) event c) (entries_if (not (was_offered (StartOn job.name) c)) (start_offer config job event c))

-- and to the first of these jobs
abbrev pub offer_first : Configuration → List JobDef → (event : ℕ) → Chronicle → List Entry
offer_first config [] event c = []
offer_first config (job ∷ jobs) event c = or_else (offer_in config job event c) (offer_first config jobs event c)

abbrev pub offer_next : Configuration → Option ℕ → Chronicle → List Entry
offer_next config None c = []
offer_next config (Some event) c = offer_first config config.jobs event c

-- nothing is left to be offered to a job
abbrev AreShut : List Instance → Chronicle → Type 0
AreShut its c = AllByRecursion (λ x. is_open x.place c ≡ false) its

abbrev IsShut : Bytes → Chronicle → Type 0
IsShut name c = AreShut (instances_of name c) c × (was_offered (StartOn name) c ≡ true)

-- an offer is something
ends-some : (es : List Entry) (e : Entry) → es ++ e ∷ [] ≡ [] → ⊥
ends-some [] e none = cc
ends-some (x ∷ es) e none = cc

pub or-parts : (es others : List Entry) → or_else es others ≡ [] → (es ≡ []) × (others ≡ [])
or-parts [] others none = (refl, none)
or-parts (e ∷ es) others none = absurd cc

if-not : (b : Bool) (es : List Entry) (e : Entry) → entries_if b (es ++ e ∷ []) ≡ [] → b ≡ false
if-not true es e none = absurd (ends-some es e none)
if-not false es e none = refl

not-not : (b : Bool) → not b ≡ false → b ≡ true
not-not true is = refl
not-not false is = absurd cc

-- so what is offered nothing is shut
shut-stops : (config : Configuration) (its : List Instance) (event : ℕ) (c : Chronicle) → stop_offer_in config its event c ≡ [] → AreShut its c
shut-stops config [] event c none = tt
shut-stops config (x ∷ its) event c none =
    let parts = or-parts (entries_if (is_open x.place c) (stop_offer config x.file x.place event c)) (stop_offer_in config its event c) none in
    (if-not (is_open x.place c) _ (Offered (StopOn x.place) event) parts.0, shut-stops config its event c parts.1)

shut-job : (config : Configuration) (job : JobDef) (event : ℕ) (c : Chronicle) → offer_in config job event c ≡ [] → IsShut job.name c
shut-job config job event c none =
    let parts = or-parts (stop_offer_in config (instances_of job.name c) event c) (entries_if (not (was_offered (StartOn job.name) c)) (start_offer config job event c)) none in (
      shut-stops config (instances_of job.name c) event c parts.0,
      not-not (was_offered (StartOn job.name) c) (if-not (not (was_offered (StartOn job.name) c)) _ (Offered (StartOn job.name) event) parts.1),
    )

-- and what is shut is offered nothing
stops-none : (config : Configuration) (its : List Instance) (event : ℕ) (c : Chronicle) → AreShut its c → stop_offer_in config its event c ≡ []
stops-none config [] event c shut = refl
stops-none config (x ∷ its) event c shut = rw shut.0 (stops-none config its event c shut.1)

job-none : (config : Configuration) (job : JobDef) (event : ℕ) (c : Chronicle) → IsShut job.name c → offer_in config job event c ≡ []
job-none config job event c shut = rw (stops-none config (instances_of job.name c) event c shut.0, shut.1) refl

named-none : (config : Configuration) (name : Bytes) (event : ℕ) (c : Chronicle) → IsShut name c → model.offer_in config name event c ≡ []
named-none config name event c shut = rw (stops-none config (instances_of name c) event c shut.0, shut.1) refl

-- the first job of a name is offered what the name is
job-same : (config : Configuration) (job : JobDef) (event : ℕ) (c : Chronicle) → job_named job.name config.jobs ≡ Some job
    → model.offer_in config job.name event c ≡ offer_in config job event c
job-same config job event c found =
    ap (λ file. or_else (stop_offer_in config (instances_of job.name c) event c) (entries_if (not (was_offered (StartOn job.name) c)) (start_offer_by config file event c))) found

-- a job is the first of its name, or that is shut
abbrev AllShut : List JobDef → Chronicle → Type 0
AllShut jobs c = AllByRecursion (λ job. IsShut job.name c) jobs

first-or-shut : (done : List JobDef) (job : JobDef) (jobs : List JobDef) (c : Chronicle) → AllShut done c → (job_named job.name (done ++ job ∷ jobs) ≡ Some job) ⊎ IsShut job.name c
first-or-shut [] job jobs c shut = inl (rw (bytes_refl job.name) refl)
first-or-shut (first ∷ done) job jobs c shut = by_case (bytes_eq first.name job.name) refl (first-or-shut done job jobs c shut.1)
  where
    by_case : (b : Bool) → bytes_eq first.name job.name ≡ b → (job_named job.name (done ++ job ∷ jobs) ≡ Some job) ⊎ IsShut job.name c
        → ((if b then Some first else job_named job.name (done ++ job ∷ jobs)) ≡ Some job) ⊎ IsShut job.name c
    by_case true same ih = inr (subst (λ name. IsShut name c) (bytes_same first.name job.name same) shut.0)
    by_case false differs ih = ih

shut-append : (done : List JobDef) (job : JobDef) (c : Chronicle) → AllShut done c → IsShut job.name c → AllShut (done ++ job ∷ []) c
shut-append [] job c shut one = (one, tt)
shut-append (first ∷ done) job c shut one = (shut.0, shut-append done job c shut.1 one)

goes-on : (config : Configuration) (done jobs : List JobDef) (event : ℕ) (c : Chronicle) → config.jobs ≡ done ++ jobs → AllShut done c
    → model.offer_first config (job_names jobs) event c ≡ offer_first config jobs event c
goes-on config done [] event c split shut = refl
goes-on config done (job ∷ jobs) event c split shut =
    by_kind (first-or-shut done job jobs c shut)
    (λ one. goes-on config (done ++ job ∷ []) jobs event c (split ∙ sym (append_assoc done (job ∷ []) jobs)) (shut-append done job c shut one))
  where
    named : List Entry
    named = model.offer_in config job.name event c

    others : List Entry
    others = model.offer_first config (job_names jobs) event c

    rest : List Entry
    rest = offer_first config jobs event c

    by_result : (es : List Entry) → offer_in config job event c ≡ es → named ≡ es → (IsShut job.name c → others ≡ rest) → or_else named others ≡ or_else (offer_in config job event c) rest
    by_result [] none same next = ap₂ or_else same (next (shut-job config job event c none)) ∙ ap (λ es. or_else es rest) (sym none)
    by_result (e ∷ es) some same next = ap (λ xs. or_else xs others) same ∙ sym (ap (λ xs. or_else xs rest) some)

    by_kind : (job_named job.name (done ++ job ∷ jobs) ≡ Some job) ⊎ IsShut job.name c → (IsShut job.name c → others ≡ rest) → or_else named others ≡ or_else (offer_in config job event c) rest
    by_kind (inl found) next =
        by_result (offer_in config job event c) refl (job-same config job event c (ap (job_named job.name) split ∙ found)) next
    by_kind (inr one) next =
        ap₂ or_else (named-none config job.name event c one ∙ sym (job-none config job event c one)) (next one)

-- so the next offer is the same
pub first-by-jobs : (config : Configuration) (event : ℕ) (c : Chronicle) → model.offer_first config (names_in_order config c) event c ≡ offer_first config config.jobs event c
first-by-jobs config event c = goes-on config [] config.jobs event c refl tt

pub next-by-jobs : (config : Configuration) (event : Option ℕ) (c : Chronicle) → model.offer_next config event c ≡ offer_next config event c
next-by-jobs config None c = refl
next-by-jobs config (Some event) c = first-by-jobs config event c
