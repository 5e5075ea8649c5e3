-- How often an event is held is the same by what is kept and by the chronicle.
use Rattle.std.proofs.Common.{◌≡◌, ℕ, zero, suc, ◌+◌, ◌==◌, ◌||◌, Bool, true, false, not, List, [], ◌∷◌, ◌++◌, map, Option, None, Some, option_map, if◌then◌else◌, refl, sym, ◌∙◌, ap, arith, eqb-true, eq-eqb, ne_eqb}
use Rattle.up_job.specs.Unblocking.{is_event}
use Rattle.std.proofs.lemmas.Bool.{eqb-false}
use Rattle.up_job.specs.Lists.{nth, with_at}
use Rattle.up_conf.specs.declared.job.JobDef.{JobDef}
use Rattle.up_expr.specs.Trees.{Tree}
use Rattle.up_expr.specs.Truth.{Sight, first}
use Rattle.up_expr.specs.Truth as truth
use Rattle.up_model.specs.declared.event.Event.{Event}
use Rattle.up_model.specs.declared.event_id.EventId.{EventId}
use Rattle.up_model.specs.declared.input.Input.TheVariants as input
use Rattle.up_model.specs.Chronicle.{Chronicle, Entry, Origin, Given, Queued, StartOn, StopOn}
use Rattle.up_model.specs.Configuration.{Configuration, job_named}
use Rattle.up_model.specs.Files.{job_names, names_in_order}
use Rattle.up_model.specs.Held.{held_by, held_by_instances, held_by_job, held_by_jobs, has, is_held, start_on_of}
use Rattle.up_model.specs.Instances.{Instance, instances_of}
use Rattle.up_model.specs.Readings.{entry_at, holders}
use Rattle.up_model.specs.Seen.{seen, kept}
use Rattle.up_job.specs.declared.holder.Holder.{Holder}
use Rattle.up_job.specs.declared.holder.Holder.TheVariants as holder
use Rattle.up_job.specs.declared.instances.JobInstances.{JobInstances}
use Rattle.up_job.specs.declared.instance.Instance.{Instance as Kept}
use Rattle.up_ledger.specs.Counting.{one_if, event_of, holder_uses, kept_uses, uses, start_uses, is_holding, holder_count, count_in}
use Rattle.up_ledger.specs.Remembering.{InstancesRemember, StopsRemember, StartsRemember, Remembered}
use Rattle.up_marks.specs.declared.mark.Mark.{Mark}
use Rattle.up_marks.specs.Agreeing.{Agrees}
use Rattle.up_marks.specs.Marking.{kept_in, kept_of, occurs}
use Rattle.up_marks.specs.Marking.{uses as mark_uses}
use Rattle.up_marks.specs.Triggers.{Remembers, uses_by}
use Rattle.up_marks.proofs.Firsts.{kept_first}
use Rattle.up_marks.proofs.Markings.{kept_in_tree}
use Rattle.up_book.specs.Keeps.{KeepsJobs, AreDistinct}
use Rattle.up_book.specs.Summaries.{ByEvent, holding_in, holding_at, Summary, summary, JobSummary, job_summary}
use Rattle.up_book.specs.Views.{Places, view, job_view, holding_of}
use Rattle.up_book.proofs.Tables.{found-all}
use Rattle.std.specs.List.{AllByRecursion}

count-append : (p : ℕ) (xs ys : List ℕ) → count_in p (xs ++ ys) ≡ count_in p xs + count_in p ys
count-append p [] ys = omega arith
count-append p (x ∷ xs) ys = omega (arith, count-append p xs ys)

-- what holds an instance: a place that is an event's
one-holder : (p q : ℕ) (c : Chronicle) (origin : Origin) (event : Event) → entry_at p c ≡ Some (Queued origin event) → (q == p) ≡ is_holding p (holding_at c q)
one-holder p q c origin event queued = by_case (q == p) refl
  where
    others : (e : Option Entry) → (q == p) ≡ false → false ≡ is_holding p (holding_in q e)
    others None apart = refl
    others (Some (Queued its what)) apart = sym apart
    others (Some (Given (input.Request id request))) apart = refl
    others (Some e) apart = refl

    by_case : (b : Bool) → (q == p) ≡ b → b ≡ is_holding p (holding_at c q)
    by_case true same =
        let here : entry_at q c ≡ Some (Queued origin event) = ap (λ n. entry_at n c) (eqb-true q p same) ∙ queued in
        rw (here, same) refl
    by_case false apart = others (entry_at q c) apart

pub holders-count : (p : ℕ) (c : Chronicle) (origin : Origin) (event : Event) (hs : List ℕ) → entry_at p c ≡ Some (Queued origin event)
    → count_in p hs ≡ holder_count p (map (holding_at c) hs)
holders-count p c origin event [] queued = refl
holders-count p c origin event (q ∷ hs) queued = omega (arith, ap one_if (one-holder p q c origin event queued), holders-count p c origin event hs queued)

-- by ids: this one alone stands for the place
pub record Names (places : Places) (id : EventId) (p : ℕ) : Type 0 where
  pub is : places id ≡ Some p
  pub alone : (other : EventId) → places other ≡ Some p → other.key ≡ id.key

same-id : (id other : EventId) → other.key ≡ id.key → other ≡ id
same-id id other same =
    let with_key : ℕ → EventId = λ key. record { key = key } in
    ap with_key same

-- whether a place is this one
abbrev is_place : ℕ → Option ℕ → Bool
is_place p None = false
is_place p (Some q) = q == p

one-event : (places : Places) (id other : EventId) (p : ℕ) → Names places id p → (other.key == id.key) ≡ is_place p (places other)
one-event places id other p names = by_case (other.key == id.key) refl
  where
    others : (found : Option ℕ) → places other ≡ found → (other.key == id.key) ≡ false → false ≡ is_place p found
    others None is apart = refl
    others (Some q) is apart = by_place (q == p) refl
      where
        by_place : (b : Bool) → (q == p) ≡ b → false ≡ b
        by_place true same = absurd (eqb-false other.key id.key apart (names.alone other (is ∙ ap Some (eqb-true q p same))))
        by_place false differs = refl

    by_case : (b : Bool) → (other.key == id.key) ≡ b → b ≡ is_place p (places other)
    by_case true same =
        let here : places other ≡ Some p = ap places (same-id id other (eqb-true other.key id.key same)) ∙ names.is in
        rw (here, eq-eqb p p refl) refl
    by_case false apart = others (places other) refl apart

as-mark : (p : ℕ) (found : Option ℕ) → is_place p found ≡ is_holding p (option_map ByEvent found)
as-mark p None = refl
as-mark p (Some q) = refl

one-held : (places : Places) (id : EventId) (its : Holder) (p : ℕ) → Names places id p → is_event id (event_of its) ≡ is_holding p (holding_of places its)
one-held places id (holder.Event other) p names = one-event places id other p names ∙ as-mark p (places other)
one-held places id (holder.Client number command) p names = refl

pub holders-used : (places : Places) (id : EventId) (its : List Holder) (p : ℕ) → Names places id p → holder_uses id its ≡ holder_count p (map (holding_of places) its)
holders-used places id [] p names = refl
holders-used places id (h ∷ its) p names = omega (arith, ap one_if (one-held places id h p names), holders-used places id its p names)

-- what an expression keeps is used as often
listed-used : (places : Places) (id : EventId) (ids : List EventId) (ps : List ℕ) (p : ℕ) → Names places id p → map places ids ≡ map Some ps → occurs id ids ≡ count_in p ps
listed-used places id [] [] p names same = refl
listed-used places id [] (q ∷ ps) p names same = absurd cc
listed-used places id (other ∷ ids) [] p names same = absurd cc
listed-used places id (other ∷ ids) (q ∷ ps) p names same =
    let first : places other ≡ Some q = cc in
    let rest : map places ids ≡ map Some ps = cc in
    by_case (other.key == id.key) (q == p) (one-event places id other p names ∙ ap (is_place p) first) (listed-used places id ids ps p names rest)
  where
    by_case : (b d : Bool) → b ≡ d → occurs id ids ≡ count_in p ps → (if b then occurs id ids + 1 else occurs id ids) ≡ one_if d + count_in p ps
    by_case true true same ih = omega (arith, ih)
    by_case true false same ih = absurd cc
    by_case false true same ih = absurd cc
    by_case false false same ih = omega (arith, ih)

pub marks-used : (places : Places) (id : EventId) (marks : List Mark) (tree : Tree) (sights : List Sight) (p : ℕ) → Names places id p → Agrees places marks tree sights → count_in p (truth.kept tree sights) ≡ mark_uses id marks
marks-used places id marks tree sights p names agrees =
    let ids : kept_in marks ≡ kept_of 0 tree agrees.kept = ap kept_in agrees.laid ∙ kept_in_tree 0 tree agrees.kept in
    sym (listed-used places id (kept_in marks) (truth.kept tree sights) p names (ap (map places) ids ∙ kept_first places 0 tree agrees.kept sights agrees.firsts))

pub trigger-used : (places : Places) (id : EventId) (trigger : Option (List Mark)) (tree : Option Tree) (sights : List Sight) (p : ℕ) → Names places id p → Remembers places trigger tree sights
    → count_in p (kept tree sights) ≡ uses_by id trigger
trigger-used places id None None sights p names agrees = refl
trigger-used places id (Some marks) (Some tree) sights p names agrees = marks-used places id marks tree sights p names agrees
trigger-used places id None (Some tree) sights p names agrees = absurd agrees
trigger-used places id (Some marks) None sights p names agrees = absurd agrees

-- what instances hold
instances-used : (places : Places) (config : Configuration) (c : Chronicle) (id : EventId) (p : ℕ) (origin : Origin) (event : Event) (its : List Kept) (xs : List Instance) → Names places id p
    → entry_at p c ≡ Some (Queued origin event) → map (view places) its ≡ map (summary c) xs → InstancesRemember places config c its xs → count_in p (held_by_instances config xs c) ≡ kept_uses id its
instances-used places config c id p origin event [] [] names queued same remember = refl
instances-used places config c id p origin event [] (x ∷ xs) names queued same remember = absurd remember
instances-used places config c id p origin event (k ∷ its) [] names queued same remember = absurd remember
instances-used places config c id p origin event (k ∷ its) (x ∷ xs) names queued same remember =
    let first : view places k ≡ summary c x = cc in
    let rest : map (view places) its ≡ map (summary c) xs = cc in
    let hold : map (holding_of places) k.holders ≡ map (holding_at c) (holders x.place c) = ap (λ (s : Summary). s.holders) first in
    let stops = kept x.file.stop_on (seen config (StopOn x.place) c) in
    omega (
      arith,
      count-append p (held_by config x c) (held_by_instances config xs c),
      count-append p stops (holders x.place c),
      trigger-used places id k.stop_on x.file.stop_on (seen config (StopOn x.place) c) p names remember.0,
      holders-count p c origin event (holders x.place c) queued,
      ap (holder_count p) hold,
      holders-used places id k.holders p names,
      instances-used places config c id p origin event its xs names queued rest remember.1,
    )

-- and what jobs hold
jobs-used : (places : Places) (config : Configuration) (c : Chronicle) (id : EventId) (p : ℕ) (origin : Origin) (event : Event) (its : List JobInstances) (triggers : List (Option (List Mark))) (jobs : List JobDef) → Names places id p
    → entry_at p c ≡ Some (Queued origin event) → map (job_view places) its ≡ map (job_summary c) jobs → StopsRemember places config c its jobs → StartsRemember places config c triggers jobs
    → AllByRecursion (λ job. job_named job.name config.jobs ≡ Some job) jobs → count_in p (held_by_jobs config (job_names jobs) c) ≡ uses id its + start_uses id triggers
jobs-used places config c id p origin event [] [] [] names queued same stops starts found = refl
jobs-used places config c id p origin event [] [] (job ∷ jobs) names queued same stops starts found = absurd stops
jobs-used places config c id p origin event [] (t ∷ ts) [] names queued same stops starts found = absurd starts
jobs-used places config c id p origin event [] (t ∷ ts) (job ∷ jobs) names queued same stops starts found = absurd stops
jobs-used places config c id p origin event (j ∷ its) ts [] names queued same stops starts found = absurd stops
jobs-used places config c id p origin event (j ∷ its) [] (job ∷ jobs) names queued same stops starts found = absurd starts
jobs-used places config c id p origin event (j ∷ its) (t ∷ ts) (job ∷ jobs) names queued same stops starts found =
    let first : job_view places j ≡ job_summary c job = cc in
    let rest : map (job_view places) its ≡ map (job_summary c) jobs = cc in
    let keeps = kept (start_on_of (job_named job.name config.jobs)) (seen config (StartOn job.name) c) in
    omega (
      arith,
      count-append p (held_by_job config job.name c) (held_by_jobs config (job_names jobs) c),
      count-append p keeps (held_by_instances config (instances_of job.name c) c),
      ap (λ file. count_in p (kept (start_on_of file) (seen config (StartOn job.name) c))) found.0,
      trigger-used places id t job.start_on (seen config (StartOn job.name) c) p names starts.0,
      instances-used places config c id p origin event j.instances (instances_of job.name c) names queued (ap (λ (s : JobSummary). s.instances) first) stops.0,
      jobs-used places config c id p origin event its ts jobs names queued rest stops.1 starts.1 found.1,
    )

-- whether it is among these
pub has-count : (p : ℕ) (xs : List ℕ) → has p xs ≡ not (count_in p xs == 0)
has-count p [] = refl
has-count p (x ∷ xs) = by_case (x == p) (has-count p xs)
  where
    by_case : (b : Bool) → has p xs ≡ not (count_in p xs == 0) → (b || has p xs) ≡ not (one_if b + count_in p xs == 0)
    by_case true ih =
        let more : (1 + count_in p xs == 0) ≡ false = ne_eqb (1 + count_in p xs) 0 (λ e. omega arith) in
        rw more refl
    by_case false ih =
        let same : 0 + count_in p xs ≡ count_in p xs = omega arith in
        rw same ih

-- an event is held if what is kept uses it
pub held : (places : Places) (jobs : List JobInstances) (triggers : List (Option (List Mark))) (config : Configuration) (c : Chronicle) (id : EventId) (p : ℕ) (origin : Origin) (event : Event) → KeepsJobs places jobs config c
    → Remembered places jobs triggers config c → AreDistinct config.jobs → Names places id p → entry_at p c ≡ Some (Queued origin event) → is_held config p c ≡ not (uses id jobs + start_uses id triggers == 0)
held places jobs triggers config c id p origin event keeps remembered distinct names queued =
    has-count p (held_by_jobs config (names_in_order config c) c) ∙ ap (λ n. not (n == 0)) (jobs-used places config c id p origin event jobs triggers config.jobs names queued keeps remembered.stops remembered.starts (found-all config.jobs distinct))

-- what one change makes of the uses
pub uses-changed : (id : EventId) (f : Kept → Kept) (at : ℕ) (its : List Kept) (k : Kept) → nth at its ≡ Some k
    → kept_uses id (with_at at f its) + (uses_by id k.stop_on + holder_uses id k.holders)
    ≡ kept_uses id its + (uses_by id (f k).stop_on + holder_uses id (f k).holders)
uses-changed id f at [] k there = absurd cc
uses-changed id f zero (x ∷ its) k there =
    let same : x ≡ k = cc in
    rw same (omega arith)
uses-changed id f (suc at) (x ∷ its) k there = omega (arith, uses-changed id f at its k there)
