-- A job gets an instance.
use Rattle.std.proofs.Common.{◌≡◌, ℕ, zero, suc, ◌+◌, Bool, true, false, List, [], ◌∷◌, length, map, Option, None, Some, is_some, option_map, if◌then◌else◌, bytes_eq, refl, sym, ◌∙◌, ap, arith, ne_eqb}
use Rattle.up_job.specs.JobLists.{with_made, position_at}
use Rattle.up_job.specs.Lists.{with_at, nth, with_named, position_in}
use Rattle.up_conf.specs.declared.job.JobDef.{JobDef}
use Rattle.up_conf.specs.Order.{is_below}
use Rattle.up_model.specs.declared.event_id.EventId.{EventId}
use Rattle.up_model.specs.Chronicle.{Chronicle, Made}
use Rattle.up_model.specs.Configuration.{Configuration}
use Rattle.up_model.specs.Instances.{Instance, with_instance, instances_of, instance_named}
use Rattle.up_ledger.specs.Regular.{MayFollow}
use Rattle.up_book.specs.Keys.{called}
use Rattle.up_model.specs.Queue.{queue}
use Rattle.up_model.specs.Values.{Bytes}
use Rattle.up_model.proofs.Places.{bytes_refl}
use Rattle.up_ledger.specs.declared.past.Past.{Past}
use Rattle.up_job.specs.declared.instance_key.InstanceKey.{InstanceKey}
use Rattle.up_job.specs.declared.instances.JobInstances.{JobInstances}
use Rattle.up_job.specs.declared.instance.Instance.{Instance as Kept}
use Rattle.up_job.specs.InstanceLists.{name_of, new_instance}
use Rattle.up_job.specs.Named.{named}
use Rattle.up_job.specs.Named.{place_of as place_of_name}
use Rattle.up_job.specs.JobLists.{list_of}
use Rattle.up_marks.specs.declared.mark.Mark.{Mark}
use Rattle.up_marks.specs.Triggers.{Remembers, uses_by}
use Rattle.up_ledger.specs.Remembering.{Remembered}
use Rattle.up_ledger.proofs.MadeTriggers.{names-same, remembered-made}
use Rattle.up_ledger.specs.Counting.{holder_uses, kept_uses, uses}
use Rattle.up_ledger.specs.Eventing.{place_of}
use Rattle.up_book.specs.Keeps.{Keeps, instance_in, place_at}
use Rattle.up_ledger.specs.Standing.{Forgets}
use Rattle.up_book.specs.Summaries.{JobSummary, job_summary}
use Rattle.up_book.specs.Views.{Places, job_view}
use Rattle.up_ledger.proofs.Beginning.{new-blank}
use Rattle.up_ledger.proofs.Entering.{older-after}
use Rattle.up_ledger.proofs.Lifecycle.{keeps-made, spared-made}
use Rattle.up_book.proofs.Lists.{map-nth, nth-map, nth-with}
use Rattle.up_ledger.proofs.Named.{nth-with_named}
use Rattle.up_book.proofs.Tables.{named-there}
use Rattle.up_ledger.proofs.Whole.{forgets-lives}

-- what uses nothing adds nothing
kept-more : (id : EventId) (kept : Kept) (its : List Kept) → uses_by id kept.stop_on + holder_uses id kept.holders ≡ 0 → kept_uses id (with_named (λ k. k.name) kept its) ≡ kept_uses id its
kept-more id kept [] none = omega (arith, none)
kept-more id kept (k ∷ its) none = by_case (is_below k.name kept.name) (kept-more id kept its none)
  where
    by_case : (b : Bool) → kept_uses id (with_named (λ x. x.name) kept its) ≡ kept_uses id its → kept_uses id (if b then k ∷ with_named (λ x. x.name) kept its else kept ∷ k ∷ its) ≡ kept_uses id (k ∷ its)
    by_case true ih = omega (arith, ih)
    by_case false ih = omega (arith, none)

uses-more : (id : EventId) (kept : Kept) (place : ℕ) (jobs : List JobInstances) → uses_by id kept.stop_on + holder_uses id kept.holders ≡ 0 → uses id (with_at place (with_made kept) jobs) ≡ uses id jobs
uses-more id kept place [] none = refl
uses-more id kept zero (j ∷ jobs) none = omega (arith, kept-more id kept j.instances none)
uses-more id kept (suc place) (j ∷ jobs) none = omega (arith, uses-more id kept place jobs none)

pub forgets-made : (book after : Past) (config : Configuration) (c : Chronicle) (place : ℕ) (job : JobDef) (name : Bytes) (trigger : Option (List Mark)) → Forgets book config c → nth place config.jobs ≡ Some job
    → instance_named (called job.name name) c ≡ None → ((places : Places) → Remembers places trigger job.stop_on []) → ((id : EventId) → uses_by id trigger ≡ 0)
    → after.instances ≡ with_at place (with_made (new_instance name job trigger)) book.instances → after.starts ≡ book.starts → after.events ≡ book.events → after.reading ≡ book.reading → Forgets after config (Made job name ∷ c)
forgets-made book after config c place job name trigger f there none blank unused does starts events reading =
    let follow : MayFollow config c (Made job name) = (none, named-there place config.jobs job there f.lives.distinct) in
    let kept = new_instance name job trigger in
    let places = place_of book.events (queue c) in
    let lives : Keeps places after.instances config (Made job name ∷ c) = record {
      jobs = rw does (keeps-made places kept book.instances config c place job name f.lives.jobs f.lives.distinct there f.lives.older
          (f.lives.later (record { place = length c; name = name; file = job }) (omega arith)) (new-blank places job name trigger));
      older = older-after (Made job name) c tt f.lives.older;
      later = λ x past. spared-made job name c x (ne_eqb (length c) x.place (λ e. omega (arith, past))) (f.lives.older x.place) ∙ f.lives.later x (omega (arith, past));
      distinct = f.lives.distinct;
    } in
    let remembered : Remembered places after.instances book.starts.items config (Made job name ∷ c) =
    rw does (remembered-made places kept book.instances book.starts.items config c place job name f.lives.jobs f.lives.distinct there refl (blank places) f.remembered) in
    forgets-lives book after config c (Made job name) f lives remembered refl follow (λ p. refl) refl
    (λ id. ap (uses id) does ∙ uses-more id kept place book.instances (omega (arith, unused id))) starts events reading

-- where its name belongs
pub position-so : (book : Past) (config : Configuration) (c : Chronicle) (place : ℕ) (job : JobDef) (name : Bytes) → Forgets book config c → nth place config.jobs ≡ Some job
    → position_at name place book.instances ≡ position_in name (map (λ (x : Instance). x.name) (instances_of job.name c))
position-so book config c place job name f there =
    let places = place_of book.events (queue c) in
    let summed = map-nth (job_summary c) place config.jobs job there in
    let viewed : nth place (map (job_view places) book.instances) ≡ Some (job_summary c job) = ap (nth place) f.lives.jobs ∙ summed in
    let its = nth-map (job_view places) place book.instances (job_summary c job) viewed in
    let names : map (λ (k : Kept). k.name) its.0.instances ≡ map (λ (x : Instance). x.name) (instances_of job.name c) =
    names-same places c its.0.instances (instances_of job.name c) (ap (λ (s : JobSummary). s.instances) its.2) in
    ap (λ o. position_in name (map (λ (k : Kept). k.name) (list_of o))) its.1 ∙ ap (position_in name) names

-- the key of the new one
pub made-key : (book : Past) (after : List JobInstances) (config : Configuration) (c : Chronicle) (place position : ℕ) (job : JobDef) (kept : Kept) (name : Bytes) → Forgets book config c → nth place config.jobs ≡ Some job
    → after ≡ with_at place (with_made kept) book.instances → position ≡ position_at kept.name place book.instances → kept.name ≡ name
    → place_at after (Made job name ∷ c) (record { job = place; at = position }) ≡ Some (length c)
made-key book after config c place position job kept name f there does stands named =
    let places = place_of book.events (queue c) in
    let d : Chronicle = Made job name ∷ c in
    let summed = map-nth (job_summary c) place config.jobs job there in
    let viewed : nth place (map (job_view places) book.instances) ≡ Some (job_summary c job) = ap (nth place) f.lives.jobs ∙ summed in
    let its = nth-map (job_view places) place book.instances (job_summary c job) viewed in
    let same_job : its.0.name ≡ job.name = ap (λ (s : JobSummary). s.name) its.2 in
    let names : map (λ (k : Kept). k.name) its.0.instances ≡ map (λ (x : Instance). x.name) (instances_of job.name c) =
    names-same places c its.0.instances (instances_of job.name c) (ap (λ (s : JobSummary). s.instances) its.2) in
    let made : Instance = record { place = length c; name = name; file = job } in
    let at : position ≡ position_in name (map (λ (x : Instance). x.name) (instances_of job.name c)) = stands ∙ ap (λ o. position_in kept.name (map (λ (k : Kept). k.name) (list_of o))) its.1 ∙ ap (position_in kept.name) names ∙ ap (λ n. position_in n (map (λ (x : Instance). x.name) (instances_of job.name c))) named in
    let here : nth place after ≡ Some (with_made kept its.0) = ap (nth place) does ∙ nth-with (with_made kept) place book.instances its.0 its.1 in
    let found : nth (position_in name (map (λ (x : Instance). x.name) (instances_of job.name c))) (with_instance made (instances_of job.name c)) ≡ Some made = nth-with_named (λ (x : Instance). x.name) made (instances_of job.name c) in
    ap (λ (o : Option JobInstances). option_map {T = Instance} (λ x. x.place) (instance_in position o d)) here
    ∙ ap (λ n. option_map {T = Instance} (λ x. x.place) (nth position (instances_of n d))) same_job
    ∙ ap (λ b. option_map {T = Instance} (λ x. x.place) (nth position (if b then with_instance made (instances_of job.name c) else instances_of job.name c))) (bytes_refl job.name)
    ∙ ap (λ p. option_map {T = Instance} (λ x. x.place) (nth p (with_instance made (instances_of job.name c)))) at
    ∙ ap (λ (o : Option Instance). option_map {T = Instance} (λ x. x.place) o) found

-- a name without a key isn't there
pub unplaced : (name : Bytes) (its : List Kept) (f : ℕ → InstanceKey) → is_some (option_map f (place_of_name name_of name its)) ≡ false → named name_of name its ≡ None
unplaced name [] f none = refl
unplaced name (k ∷ its) f none = by_case (bytes_eq k.name name) none (unplaced name its (λ at. f (at + 1)))
  where
    later : (o : Option ℕ) → is_some (option_map f (option_map (λ at. at + 1) o)) ≡ is_some (option_map (λ at. f (at + 1)) o)
    later None = refl
    later (Some at) = refl

    by_case : (b : Bool) → is_some (option_map f (if b then Some 0 else option_map (λ at. at + 1) (place_of_name name_of name its))) ≡ false
        → (is_some (option_map (λ at. f (at + 1)) (place_of_name name_of name its)) ≡ false → named name_of name its ≡ None) → (if b then Some k else named name_of name its) ≡ None
    by_case true none ih = absurd cc
    by_case false none ih = ih (sym (later (place_of_name name_of name its)) ∙ none)
