-- What a ledger stands for after a load.
use Rattle.std.proofs.Common.{◌≡◌, ◌⊎◌, inl, inr, ℕ, suc, true, List, [], ◌∷◌, map, Option, None, Some, refl, sym, ◌∙◌, ap, subst}
use Rattle.std.specs.List.{AllByRecursion}
use Rattle.up_conf.specs.declared.job.JobDef.{JobDef}
use Rattle.up_image.specs.Index.{named}
use Rattle.up_image.specs.declared.index.Place.{Place}
use Rattle.up_job.specs.JobLists.{stop_places}
use Rattle.up_job.specs.Lists.{nth}
use Rattle.up_job.specs.declared.instance.Instance.{Instance as Kept}
use Rattle.up_job.specs.declared.instances.JobInstances.{JobInstances}
use Rattle.up_marks.specs.Naming.{naming_in}
use Rattle.up_model.specs.declared.output.Output.{Output}
use Rattle.up_model.specs.Chronicle.{Chronicle, Loaded}
use Rattle.up_model.specs.Configuration.{Configuration}
use Rattle.up_model.specs.Instances.{Instance, instances_of}
use Rattle.up_model.specs.Replies.{request_instance}
use Rattle.up_model.specs.Values.{Bytes}
use Rattle.up_ledger.specs.declared.step.ActedOn.{ActedOn}
use Rattle.up_ledger.specs.declared.step.ActedOn.TheVariants.{Exists, Gone}
use Rattle.up_ledger.specs.declared.step.Asked.{Asked}
use Rattle.up_book.specs.Hearers.{AreFound, IsCovered, IsFound, has_place}
use Rattle.up_book.specs.Keeps.{KeepsJobs}
use Rattle.up_book.specs.Keys.{job_at}
use Rattle.up_ledger.specs.Requesting.{OnMeans}
use Rattle.up_ledger.specs.Steps.{Asks}
use Rattle.up_book.specs.Summaries.{Summary, JobSummary, summary, job_summary}
use Rattle.up_book.specs.Views.{Places, view, job_view}
use Rattle.up_book.proofs.Keyed.{job-there}
use Rattle.up_book.proofs.Lists.{map-nth, nth-map}
use Rattle.up_ledger.proofs.Outgoing.{silent-out}
use Rattle.up_ledger.proofs.StepFrames.{asked-later, unheld-later}
use Rattle.up_job.proofs.StopLemmas.{any-stop_place}

all-nth : (P : Kept → Type 0) (ks : List Kept) → ((at : ℕ) (k : Kept) → nth at ks ≡ Some k → P k) → AllByRecursion P ks
all-nth P [] each = tt
all-nth P (k ∷ ks) each = (each 0 k refl, all-nth P ks (λ at x there. each (suc at) x there))

-- what holds of the files that are kept holds of those of the instances
covered-found : (places : Places) (c : Chronicle) (others : List Place) (n : ℕ) (job : JobDef) (ks : List Kept) (xs : List Instance) → map (view places) ks ≡ map (summary c) xs
    → AllByRecursion (λ k. IsCovered others n k.file.stop_on) ks → AllByRecursion (IsFound others n job) xs
covered-found places c others n job [] [] same all = tt
covered-found places c others n job [] (x ∷ xs) same all = absurd cc
covered-found places c others n job (k ∷ ks) [] same all = absurd cc
covered-found places c others n job (k ∷ ks) (x ∷ xs) same all =
    let first : view places k ≡ summary c x = cc in
    let rest : map (view places) ks ≡ map (summary c) xs = cc in
    (inr (subst (λ (s : Summary). IsCovered others n s.file.stop_on) first all.0), covered-found places c others n job ks xs rest all.1)

pub loaded-found : (others : List Place) (places : Places) (its : List JobInstances) (config : Configuration) (c : Chronicle) → KeepsJobs places its config c → ((name : Bytes) → named name others ≡ named name (stop_places 0 its)) → AreFound others config c
loaded-found others places its config c keeps same = record { each = each }
  where
    covered : (n : ℕ) (j : JobInstances) → nth n its ≡ Some j → (at : ℕ) (k : Kept) → nth at j.instances ≡ Some k → IsCovered others n k.file.stop_on
    covered n j listed at k found name = by_naming (naming_in k.file.stop_on name) refl
      where
        by_naming : (nodes : List ℕ) → naming_in k.file.stop_on name ≡ nodes → (naming_in k.file.stop_on name ≡ []) ⊎ (has_place n (named name others) ≡ true)
        by_naming [] is = inl is
        by_naming (node ∷ nodes) is = inr (ap (has_place n) (same name) ∙ any-stop_place n name its j at k listed found some)
          where
            some : naming_in k.file.stop_on name ≡ [] → ⊥
            some none =
                let both : node ∷ nodes ≡ [] = sym is ∙ none in
                absurd cc

    each : (n : ℕ) (job : JobDef) → job_at config n ≡ Some job → AllByRecursion (IsFound others n job) (instances_of job.name c)
    each n job there =
        let summed = map-nth (job_summary c) n config.jobs job (job-there config n job there) in
        let viewed : nth n (map (job_view places) its) ≡ Some (job_summary c job) = ap (nth n) keeps ∙ summed in
        let mine = nth-map (job_view places) n its (job_summary c job) viewed in
        covered-found places c others n job mine.0.instances (instances_of job.name c) (ap (λ (s : JobSummary). s.instances) mine.2)
        (all-nth (λ k. IsCovered others n k.file.stop_on) mine.0.instances (λ at k found. covered n mine.0 mine.1 at k found))

-- a load asks for nothing, and concerns no instance
pub step-loaded : (outputs : List Output) (asked : Option Asked) (on : Option ActedOn) (config new : Configuration) (c : Chronicle) (jobs : List JobDef) → request_instance c ≡ None → Asks outputs asked on config c
    → Asks outputs asked on new (Loaded jobs ∷ c)
step-loaded outputs asked on config new c jobs unacted s = record {
  outputs = s.outputs ∙ sym (silent-out config c (Loaded jobs) tt);
  asked = s.asked ∙ sym (asked-later (Loaded jobs) c tt);
  on = by_on on s.on;
  unheld = unheld-later (Loaded jobs) c tt (λ i. refl) s.unheld;
}
  where
    apart : (i : ℕ) → request_instance c ≡ Some i → ⊥
    apart i some =
        let both : None ≡ Some i = sym unacted ∙ some in
        absurd cc

    by_on : (on : Option ActedOn) → OnMeans config c on → OnMeans new (Loaded jobs ∷ c) on
    by_on None means = unacted
    by_on (Some (Exists key)) means = absurd (apart means.0 means.1)
    by_on (Some (Gone text)) means = absurd (apart means.0 means.1)
