-- The environments of jobs.
use Rattle.std.proofs.Common.{◌≡◌, ℕ, ◌+◌, ◌<◌, ◌≤◌, true, false, List, [], ◌∷◌, length, map, drop, get_or, slice_get, unwrap_or, None, Some, option_map, if◌then◌else◌, bytes_eq, inl, inr, Ok, Err, refl, sym, ◌∙◌, ap, add-one, drop-cons}
use Rattle.std.proofs.lemmas.Option.{slice_get-map, slice_get-get_or}
use Rattle.std.proofs.lemmas.Slice.Eq.{bytes_eq-Decides}
use Rattle.up_conf.specs.declared.job.JobDef.{JobDef}
use Rattle.up_stanza.specs.declared.setting.Setting.{Setting}
use Rattle.up_model.specs.Configuration.{job_named}
use Rattle.up_model.specs.Environments.{text_of, with_value, setting_value, with_settings, job_env, env_by_job}
use Rattle.up_model.specs.Values.{Bytes, Bindings}
use Rattle.up_text.specs.declared.expansion.Expanded.TheVariants as expanded
use Rattle.up_value.specs.declared.fault.TextFault.TheVariants.{BadExpansion}
use Rattle.up_text.specs.Expanding.{Gives}
use Rattle.up_text.specs.Expansion.{Expansion, Expands, Lacks, Malformed}
use Rattle.up_book.specs.Keeps.{AreDistinct}
use Rattle.up_book.proofs.Keyed.{nth-get}
use Rattle.up_book.proofs.One.{apart-back}
use Rattle.up_book.proofs.Tables.{named-there}
use Rattle.up_cascade.specs.Naming.{name_of}
use Rattle.up_job.specs.Named.{named, position, AreInOrder, IsBelowAll}
use Rattle.up_job.proofs.NamedLemmas.{below_not_same, present_here, absent_here, absent_beyond, named_here}
use Rattle.std.specs.List.{AllByRecursion}

-- the settings from one on
pub settings_left : (base : Bindings) (settings : List Setting) (i : ℕ) (d : Setting) (environment : Bindings) → i < length settings
    → with_settings base (drop i settings) environment
    ≡ with_settings base (drop (i + 1) settings) (with_value (get_or settings i d).key (setting_value base (get_or settings i d).key (get_or settings i d).value) environment)
settings_left base settings i d environment within =
    let one : drop i settings ≡ get_or settings i d ∷ drop (i + 1) settings = rw add-one (drop-cons settings i d within) in
    ap (λ left. with_settings base left environment) one

-- a name finds the same among jobs in order
named-job : (name : Bytes) (jobs : List JobDef) → named name_of name jobs ≡ job_named name jobs
named-job name [] = refl
named-job name (job ∷ jobs) = ap (λ o. if bytes_eq job.name name then Some job else o) (named-job name jobs)

-- the job that was found where the name belongs
pub found-there : (jobs : List JobDef) (name : Bytes) (n : ℕ) (job : JobDef) → AreInOrder name_of jobs → n ≡ position name_of name jobs → n < length jobs → job ≡ get_or jobs n job
    → bytes_eq job.name name ≡ true → (job_named name jobs ≡ Some job) × ((slice_get jobs n ≡ Some job) × (job.name ≡ name))
found-there jobs name n job order at within here called =
    let there = present_here name_of name jobs n job at within (ap (λ (j : JobDef). bytes_eq j.name name) (sym here) ∙ called) in
    let found : job_named name jobs ≡ Some job = sym (named-job name jobs) ∙ named_here name_of name jobs n job at order there ∙ ap Some (sym here) in
    (found, (slice_get-get_or jobs n job within ∙ ap Some (sym here), (bytes_eq-Decides job.name name).0 called))

-- none has the name, if the one there hasn't
pub none-there : (jobs : List JobDef) (name : Bytes) (n : ℕ) (job : JobDef) → AreInOrder name_of jobs → n ≡ position name_of name jobs → n < length jobs → job ≡ get_or jobs n job
    → bytes_eq job.name name ≡ false → job_named name jobs ≡ None
none-there jobs name n job order at within here differs =
    sym (named-job name jobs) ∙ absent_here name_of name jobs n job at order within (ap (λ (j : JobDef). bytes_eq j.name name) (sym here) ∙ differs)

pub none-beyond : (jobs : List JobDef) (name : Bytes) (n : ℕ) → n ≡ position name_of name jobs → length jobs ≤ n → job_named name jobs ≡ None
none-beyond jobs name n at past = sym (named-job name jobs) ∙ absent_beyond name_of name jobs n at past

-- no two of jobs in order have one name
apart-all : (name : Bytes) (jobs : List JobDef) → IsBelowAll name_of name jobs → AllByRecursion (λ other. bytes_eq other.name name ≡ false) jobs
apart-all name [] below = tt
apart-all name (job ∷ jobs) below = (apart-back name job.name (below_not_same name job.name below.0), apart-all name jobs below.1)

pub order-distinct : (jobs : List JobDef) → AreInOrder name_of jobs → AreDistinct jobs
order-distinct [] order = tt
order-distinct (job ∷ jobs) order = (apart-all job.name jobs order.0, order-distinct jobs order.1)

-- the environment of the job at an index
pub environment_by_index : (base : Bindings) (environments : List Bindings) (jobs : List JobDef) (i : ℕ) (job : JobDef) → environments ≡ map (job_env base) jobs → AreDistinct jobs → slice_get jobs i ≡ Some job
    → unwrap_or (slice_get environments i) base ≡ env_by_job base (job_named job.name jobs)
environment_by_index base environments jobs i job are distinct there =
    let found : slice_get environments i ≡ Some (job_env base job) = ap (λ xs. slice_get xs i) are ∙ slice_get-map (job_env base) jobs i ∙ ap (option_map (job_env base)) there in
    ap (λ x. unwrap_or x base) found ∙ sym (ap (env_by_job base) (named-there i jobs job (nth-get i jobs ∙ there) distinct))

-- what a call that expands a text says of its expansion
pub gives_text : (e : Expansion) (name : Bytes) → Gives e (Ok (expanded.Text name)) → Some name ≡ text_of e
gives_text (Expands text) name (inl is) = cc
gives_text (Expands text) name (inr is) = absurd cc
gives_text (Lacks key) name (inl is) = absurd cc
gives_text (Lacks key) name (inr is) = absurd cc
gives_text Malformed name is = absurd cc

pub gives_unset : (e : Expansion) (key : Bytes) → Gives e (Ok (expanded.Unset key)) → None ≡ text_of e
gives_unset (Expands text) key (inl is) = absurd cc
gives_unset (Expands text) key (inr is) = absurd cc
gives_unset (Lacks other) key is = refl
gives_unset Malformed key is = refl

pub gives_malformed : (e : Expansion) → Gives e (Err BadExpansion) → None ≡ text_of e
gives_malformed (Expands text) (inl is) = absurd cc
gives_malformed (Expands text) (inr is) = absurd cc
gives_malformed (Lacks other) is = refl
gives_malformed Malformed is = refl
