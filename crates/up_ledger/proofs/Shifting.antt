-- Where keys stand after an instance of a job came or went.
use Rattle.std.proofs.Common.{◌≡◌, ℕ, zero, suc, ◌≤◌, ◌==◌, Bool, true, false, List, [], ◌∷◌, length, map, Option, None, Some, option_map, bytes_eq, if◌then◌else◌, refl, sym, ◌∙◌, ap, subst, arith, eqb-true}
use Rattle.up_job.specs.JobLists.{with_made, removed_in}
use Rattle.up_job.specs.Lists.{nth, with_at, position_in}
use Rattle.std.proofs.lemmas.Bool.{eqb-false}
use Rattle.std.specs.List.{AllByRecursion}
use Rattle.up_conf.specs.declared.job.JobDef.{JobDef}
use Rattle.up_model.specs.declared.state.State.TheVariants as state
use Rattle.up_model.specs.Chronicle.{Chronicle, Made, Entered}
use Rattle.up_model.specs.Configuration.{Configuration}
use Rattle.up_model.specs.Instances.{Instance, with_instance, without_instance, instances_of}
use Rattle.up_model.specs.Values.{Bytes}
use Rattle.up_model.proofs.Places.{bytes_same, bytes_refl, count, all_instances-once, instances-exist}
use Rattle.up_job.specs.declared.instance_key.InstanceKey.{InstanceKey}
use Rattle.up_job.specs.declared.instances.JobInstances.{JobInstances}
use Rattle.up_job.specs.declared.instance.Instance.{Instance as Kept}
use Rattle.up_book.specs.Keeps.{AreDistinct, KeepsJobs, instance_in, place_at}
use Rattle.up_book.specs.Summaries.{JobSummary, job_summary}
use Rattle.up_book.specs.Views.{Places, job_view}
use Rattle.up_ledger.proofs.Lifecycle.{without-nth, without-absent}
use Rattle.up_book.proofs.Lists.{nth-map, map-nth}
use Rattle.up_book.proofs.One.{IsKnown, known-all, called, none-of-others, nth-all}
use Rattle.up_ledger.specs.Requesting.{after_insert, after_remove, after_made, after_left}
use Rattle.up_ledger.proofs.Requested.{nth-inserted, nth-removed}

back : (x y : Bytes) → bytes_eq x y ≡ false → bytes_eq y x ≡ false
back x y apart = by_case (bytes_eq y x) refl
  where
    by_case : (b : Bool) → bytes_eq y x ≡ b → b ≡ false
    by_case true same =
        let yes : bytes_eq x y ≡ true = ap (λ z. bytes_eq x z) (bytes_same y x same) ∙ bytes_refl x in
        absurd cc
    by_case false differs = refl

nth-apart : (n : ℕ) (jobs : List JobDef) (job first : JobDef) → nth n jobs ≡ Some job → AllByRecursion (λ other. bytes_eq other.name first.name ≡ false) jobs → bytes_eq job.name first.name ≡ false
nth-apart n [] job first there all = absurd cc
nth-apart zero (other ∷ jobs) job first there all =
    let same : other ≡ job = cc in
    ap (λ (j : JobDef). bytes_eq j.name first.name) (sym same) ∙ all.0
nth-apart (suc n) (other ∷ jobs) job first there all = nth-apart n jobs job first there all.1

-- jobs of two places have two names
pub distinct-at : (m n : ℕ) (jobs : List JobDef) (a b : JobDef) → nth m jobs ≡ Some a → nth n jobs ≡ Some b → (m ≡ n → ⊥) → AreDistinct jobs → bytes_eq a.name b.name ≡ false
distinct-at m n [] a b here there apart distinct = absurd cc
distinct-at zero zero (job ∷ jobs) a b here there apart distinct = absurd (apart refl)
distinct-at zero (suc n) (job ∷ jobs) a b here there apart distinct =
    let same : job ≡ a = cc in
    back b.name a.name (nth-apart n jobs b a there (subst (λ (j : JobDef). AllByRecursion (λ other. bytes_eq other.name j.name ≡ false) jobs) same distinct.0))
distinct-at (suc m) zero (job ∷ jobs) a b here there apart distinct =
    let same : job ≡ b = cc in
    nth-apart m jobs a b here (subst (λ (j : JobDef). AllByRecursion (λ other. bytes_eq other.name j.name ≡ false) jobs) same distinct.0)
distinct-at (suc m) (suc n) (job ∷ jobs) a b here there apart distinct = distinct-at m n jobs a b here there (λ same. apart (ap suc same)) distinct.1

nth-here : {X : Type 0} (f : X → X) (n : ℕ) (xs : List X) → nth n (with_at n f xs) ≡ option_map f (nth n xs)
nth-here f n [] = refl
nth-here f zero (x ∷ xs) = refl
nth-here f (suc n) (x ∷ xs) = nth-here f n xs

nth-other : {X : Type 0} (f : X → X) (m n : ℕ) (xs : List X) → (m ≡ n → ⊥) → nth m (with_at n f xs) ≡ nth m xs
nth-other f m n [] apart = refl
nth-other f zero zero (x ∷ xs) apart = absurd (apart refl)
nth-other f zero (suc n) (x ∷ xs) apart = refl
nth-other f (suc m) zero (x ∷ xs) apart = refl
nth-other f (suc m) (suc n) (x ∷ xs) apart = nth-other f m n xs (λ same. apart (ap suc same))

-- the job that is kept at a place is the table's
pub kept-name : (places : Places) (jobs : List JobInstances) (config : Configuration) (c : Chronicle) (n : ℕ) (kept : JobInstances) → KeepsJobs places jobs config c → nth n jobs ≡ Some kept
    → (job : JobDef) × (nth n config.jobs ≡ Some job) × (kept.name ≡ job.name)
kept-name places jobs config c n kept keeps there =
    let viewed : nth n (map (job_summary c) config.jobs) ≡ Some (job_view places kept) = ap (nth n) (sym keeps) ∙ map-nth (job_view places) n jobs kept there in
    let its = nth-map (job_summary c) n config.jobs (job_view places kept) viewed in
    (its.0, its.1, sym (ap (λ (s : JobSummary). s.name) its.2))

abbrev place_of_one : Option Instance → Option ℕ
place_of_one o = option_map {T = Instance} (λ x. x.place) o

-- an instance came
pub key-made : (places : Places) (old : List JobInstances) (config : Configuration) (c : Chronicle) (place : ℕ) (job : JobDef) (kept : Kept) (name : Bytes) (key : InstanceKey) (i : ℕ)
    → KeepsJobs places old config c → AreDistinct config.jobs → nth place config.jobs ≡ Some job → place_at old c key ≡ Some i
    → place_at (with_at place (with_made kept) old) (Made job name ∷ c) (after_made place (position_in name (map (λ (x : Instance). x.name) (instances_of job.name c))) key) ≡ Some i
key-made places old config c place job kept name key i keeps distinct there stands = by_job (nth key.job old) refl stands
  where
    d : Chronicle
    d = Made job name ∷ c

    made : Instance
    made = record { place = length c; name = name; file = job }

    position : ℕ
    position = position_in name (map (λ (x : Instance). x.name) (instances_of job.name c))

    new : List JobInstances
    new = with_at place (with_made kept) old

    by_job : (o : Option JobInstances) → nth key.job old ≡ o → place_of_one (instance_in key.at o c) ≡ Some i → place_at new d (after_made place position key) ≡ Some i
    by_job None is found = absurd cc
    by_job (Some its) is found = by_place (key.job == place) refl
      where
        table : (j : JobDef) × (nth key.job config.jobs ≡ Some j) × (its.name ≡ j.name)
        table = kept-name places old config c key.job its keeps is

        by_place : (b : Bool) → (key.job == place) ≡ b → place_at new d (if b then record { job = key.job; at = after_insert position key.at } else key) ≡ Some i
        by_place true same =
            let at_place : key.job ≡ place = eqb-true key.job place same in
            let both : Some table.0 ≡ Some job = sym table.1 ∙ ap (λ n. nth n config.jobs) at_place ∙ there in
            let mine : table.0 ≡ job = cc in
            let name_so : its.name ≡ job.name = table.2 ∙ ap (λ (j : JobDef). j.name) mine in
            let list : nth key.job new ≡ Some (with_made kept its) = ap (λ n. nth n new) at_place ∙ nth-here (with_made kept) place old ∙ ap (λ (o : Option JobInstances). option_map (with_made kept) o) (ap (λ n. nth n old) (sym at_place) ∙ is) in
            ap (λ (o : Option JobInstances). place_of_one (instance_in (after_insert position key.at) o d)) list
            ∙ ap (λ n. place_of_one (nth (after_insert position key.at) (instances_of n d))) name_so
            ∙ ap (λ b. place_of_one (nth (after_insert position key.at) (if b then with_instance made (instances_of job.name c) else instances_of job.name c))) (bytes_refl job.name)
            ∙ ap place_of_one (nth-inserted (λ (x : Instance). x.name) made (instances_of job.name c) key.at)
            ∙ ap (λ n. place_of_one (nth key.at (instances_of n c))) (sym name_so) ∙ found
        by_place false differs =
            let elsewhere : key.job ≡ place → ⊥ = λ same. eqb-false key.job place differs same in
            let apart : bytes_eq job.name its.name ≡ false = ap (λ n. bytes_eq job.name n) table.2 ∙ distinct-at place key.job config.jobs job table.0 there table.1 (λ same. elsewhere (sym same)) distinct in
            let list : nth key.job new ≡ Some its = nth-other (with_made kept) key.job place old elsewhere ∙ is in
            ap (λ (o : Option JobInstances). place_of_one (instance_in key.at o d)) list
            ∙ ap (λ b. place_of_one (nth key.at (if b then with_instance made (instances_of its.name c) else instances_of its.name c))) apart ∙ found

-- an instance went
pub key-left : (places : Places) (old : List JobInstances) (config : Configuration) (c : Chronicle) (place at : ℕ) (job : JobDef) (x : Instance) (key : InstanceKey) (i : ℕ)
    → KeepsJobs places old config c → AreDistinct config.jobs → nth place config.jobs ≡ Some job → nth at (instances_of job.name c) ≡ Some x → (key.job ≡ place → key.at ≡ at → ⊥) → place_at old c key ≡ Some i
    → place_at (with_at place (removed_in at) old) (Entered x.place state.Waiting ∷ c) (after_left place at key) ≡ Some i
key-left places old config c place at job x key i keeps distinct there here other stands = by_job (nth key.job old) refl stands
  where
    d : Chronicle
    d = Entered x.place state.Waiting ∷ c

    new : List JobInstances
    new = with_at place (removed_in at) old

    once : count x.place (instances_of job.name c) ≤ 1
    once = omega (arith, instances-exist x.place job.name c, all_instances-once x.place c)

    by_job : (o : Option JobInstances) → nth key.job old ≡ o → place_of_one (instance_in key.at o c) ≡ Some i → place_at new d (after_left place at key) ≡ Some i
    by_job None is found = absurd cc
    by_job (Some its) is found = by_place (key.job == place) refl
      where
        table : (j : JobDef) × (nth key.job config.jobs ≡ Some j) × (its.name ≡ j.name)
        table = kept-name places old config c key.job its keeps is

        by_place : (b : Bool) → (key.job == place) ≡ b → place_at new d (if b then record { job = key.job; at = after_remove at key.at } else key) ≡ Some i
        by_place true same =
            let at_place : key.job ≡ place = eqb-true key.job place same in
            let both : Some table.0 ≡ Some job = sym table.1 ∙ ap (λ n. nth n config.jobs) at_place ∙ there in
            let mine : table.0 ≡ job = cc in
            let name_so : its.name ≡ job.name = table.2 ∙ ap (λ (j : JobDef). j.name) mine in
            let list : nth key.job new ≡ Some (removed_in at its) = ap (λ n. nth n new) at_place ∙ nth-here (removed_in at) place old ∙ ap (λ (o : Option JobInstances). option_map (removed_in at) o) (ap (λ n. nth n old) (sym at_place) ∙ is) in
            let old_one : place_of_one (nth key.at (instances_of job.name c)) ≡ Some i = ap (λ n. place_of_one (nth key.at (instances_of n c))) (sym name_so) ∙ found in
            let apart : key.at ≡ at → ⊥ = other at_place in
            ap (λ (o : Option JobInstances). place_of_one (instance_in (after_remove at key.at) o d)) list
            ∙ ap (λ n. place_of_one (nth (after_remove at key.at) (without_instance x.place (instances_of n c)))) name_so
            ∙ ap (λ xs. place_of_one (nth (after_remove at key.at) xs)) (without-nth at (instances_of job.name c) x here once)
            ∙ ap place_of_one (nth-removed at key.at (instances_of job.name c) apart) ∙ old_one
        by_place false differs =
            let elsewhere : key.job ≡ place → ⊥ = λ same. eqb-false key.job place differs same in
            let apart : bytes_eq its.name job.name ≡ false = ap (λ n. bytes_eq n job.name) table.2 ∙ distinct-at key.job place config.jobs table.0 job table.1 there elsewhere distinct in
            let known = nth-all (IsKnown job.name c) at (instances_of job.name c) x here (known-all job.name c) in
            let none = none-of-others its.name c x.place (called job.name x.name) (instances_of its.name c) (known-all its.name c) known.1 apart in
            let list : nth key.job new ≡ Some its = nth-other (removed_in at) key.job place old elsewhere ∙ is in
            ap (λ (o : Option JobInstances). place_of_one (instance_in key.at o d)) list
            ∙ ap (λ xs. place_of_one (nth key.at xs)) (without-absent x.place (instances_of its.name c) none) ∙ found
