-- A load: other jobs come into force, what the `start on` of those before keep is freed, and the instances stay.
use Rattle.std.proofs.Common.{◌≡◌, ℕ, ◌+◌, ◌<◌, ◌≤◌, Bool, true, false, List, [], ◌∷◌, ◌++◌, length, map, drop, Option, None, Some, is_some, get_or, bytes_eq, if◌then◌else◌, refl, sym, ◌∙◌, ap, subst, arith, add-one, drop-cons}
use Rattle.std.specs.List.{AllByRecursion}
use Rattle.up_conf.specs.declared.job.JobDef.{JobDef}
use Rattle.up_event.specs.declared.live.LiveEvent.{LiveEvent}
use Rattle.up_job.specs.JobLists.{job_of, list_of, instances_in}
use Rattle.up_job.specs.Named.{AreInOrder, named}
use Rattle.up_job.specs.declared.holder.Holder.{Holder}
use Rattle.up_job.specs.declared.instance.Instance.{Instance as Kept}
use Rattle.up_job.specs.declared.instances.JobInstances.{JobInstances}
use Rattle.up_marks.specs.Triggers.{Remembers, kept_by}
use Rattle.up_marks.specs.declared.mark.Mark.{Mark}
use Rattle.up_model.specs.Chronicle.{Chronicle, Loaded}
use Rattle.up_model.specs.Configuration.{Configuration, job_named}
use Rattle.up_model.specs.Instances.{Instance, instances_of}
use Rattle.up_model.specs.Loads.{with_jobs}
use Rattle.up_model.specs.Queue.{queue}
use Rattle.up_model.specs.Values.{Bytes}
use Rattle.up_model.specs.declared.event_id.EventId.{EventId}
use Rattle.up_model.proofs.LoadLaws.{have-kept, seen-stop}
use Rattle.up_model.proofs.Places.{bytes_refl, bytes_same}
use Rattle.up_model.proofs.QueueLaws.{queue_by_age}
use Rattle.up_ledger.specs.declared.past.Past.{Past}
use Rattle.up_ledger.specs.Counting.{holder_uses, kept_uses, start_uses, uses}
use Rattle.up_ledger.specs.Eventing.{standing_of, place_of, holds_of}
use Rattle.up_ledger.specs.Holding.{freed, changed_by, all_changed, all_kept, as_holders}
use Rattle.up_ledger.specs.Counting.{event_of}
use Rattle.up_book.specs.Keeps.{AreDistinct, Keeps}
use Rattle.up_book.specs.Keys.{name_of}
use Rattle.up_ledger.specs.Remembering.{InstancesRemember, StopsRemember, StartsRemember, Remembered}
use Rattle.up_ledger.specs.Standing.{Forgets}
use Rattle.up_book.specs.Summaries.{Summary, JobSummary, summary, job_summary}
use Rattle.up_book.specs.Views.{Places, view, job_view}
use Rattle.up_ledger.proofs.Frames.{spared}
use Rattle.up_ledger.proofs.Holds.{frees-all, all-standings, all-places, mild-free}
use Rattle.up_ledger.proofs.Leaving.{trigger-listed}
use Rattle.up_book.proofs.Lists.{cons_same}
use Rattle.up_book.proofs.One.{apart-back}
use Rattle.up_ledger.proofs.Standing.{age-all, standings-later}
use Rattle.up_book.proofs.Tables.{order-distinct}
use Rattle.up_ledger.proofs.NewTables.{starts-unused}
use Rattle.up_ledger.proofs.Triggers.{remembered-agrees}
use Rattle.up_ledger.proofs.Whole.{keeps-spared, keeps-agree}

-- what several expressions keep is freed one by one
holders-append : (xs ys : List EventId) → as_holders (xs ++ ys) ≡ as_holders xs ++ as_holders ys
holders-append [] ys = refl
holders-append (id ∷ xs) ys = rw (holders-append xs ys) refl

all-append : (change : LiveEvent → LiveEvent) (xs ys : List Holder) (events : List LiveEvent) → all_changed change (xs ++ ys) events ≡ all_changed change ys (all_changed change xs events)
all-append change [] ys events = refl
all-append change (x ∷ xs) ys events = all-append change xs ys (changed_by change (event_of x) events)

pub starts-left : (change : LiveEvent → LiveEvent) (ts : List (Option (List Mark))) (i : ℕ) (d : Option (List Mark)) (events : List LiveEvent) → i < length ts
    → all_changed change (as_holders (all_kept (drop i ts))) events ≡ all_changed change (as_holders (all_kept (drop (i + 1) ts))) (all_changed change (as_holders (kept_by (get_or ts i d))) events)
starts-left change ts i d events within =
    let one : drop i ts ≡ get_or ts i d ∷ drop (i + 1) ts = rw add-one (drop-cons ts i d within) in
    ap (λ us. all_changed change (as_holders (all_kept us)) events) one
    ∙ ap (λ hs. all_changed change hs events) (holders-append (kept_by (get_or ts i d)) (all_kept (drop (i + 1) ts)))
    ∙ all-append change (as_holders (kept_by (get_or ts i d))) (as_holders (all_kept (drop (i + 1) ts))) events

-- as often as it was used
uses-append : (id : EventId) (xs ys : List Holder) → holder_uses id (xs ++ ys) ≡ holder_uses id xs + holder_uses id ys
uses-append id [] ys = omega arith
uses-append id (x ∷ xs) ys = omega (arith, uses-append id xs ys)

all-used : (id : EventId) (ts : List (Option (List Mark))) → holder_uses id (as_holders (all_kept ts)) ≡ start_uses id ts
all-used id [] = refl
all-used id (t ∷ ts) =
    ap (holder_uses id) (holders-append (kept_by t) (all_kept ts))
    ∙ omega (arith, uses-append id (as_holders (kept_by t)) (as_holders (all_kept ts)), trigger-listed id t, all-used id ts)

-- a job with the instances that it had
abbrev pub stayed : List JobInstances → JobDef → JobInstances
stayed olds job = record { name = job.name; instances = instances_in job.name olds }

-- what is kept of the instances of a name
views-in : (places : Places) (c : Chronicle) (name : Bytes) (olds : List JobInstances) (jobs : List JobDef) → map (job_view places) olds ≡ map (job_summary c) jobs → (job_named name jobs ≡ None → instances_of name c ≡ [])
    → map (view places) (instances_in name olds) ≡ map (summary c) (instances_of name c)
views-in places c name [] [] same known = sym (ap (map (summary c)) (known refl))
views-in places c name [] (d ∷ jobs) same known = absurd cc
views-in places c name (j ∷ olds) [] same known = absurd cc
views-in places c name (j ∷ olds) (d ∷ jobs) same known =
    let first : job_view places j ≡ job_summary c d = cc in
    let rest : map (job_view places) olds ≡ map (job_summary c) jobs = cc in
    ap (λ n. map (view places) (list_of (if bytes_eq n name then Some j else named job_of name olds))) (ap (λ (s : JobSummary). s.name) first)
    ∙ by_case (bytes_eq d.name name) refl first known (views-in places c name olds jobs rest)
  where
    by_case : (b : Bool) → bytes_eq d.name name ≡ b → job_view places j ≡ job_summary c d → ((if b then Some d else job_named name jobs) ≡ None → instances_of name c ≡ [])
        → ((job_named name jobs ≡ None → instances_of name c ≡ []) → map (view places) (instances_in name olds) ≡ map (summary c) (instances_of name c))
        → map (view places) (list_of (if b then Some j else named job_of name olds)) ≡ map (summary c) (instances_of name c)
    by_case true here first known ih = ap (λ (s : JobSummary). s.instances) first ∙ ap (λ n. map (summary c) (instances_of n c)) (bytes_same d.name name here)
    by_case false differs first known ih = ih known

-- and what their `stop on` remember
stops-in : (places : Places) (config : Configuration) (c : Chronicle) (name : Bytes) (olds : List JobInstances) (jobs : List JobDef) → map (job_view places) olds ≡ map (job_summary c) jobs → (job_named name jobs ≡ None → instances_of name c ≡ [])
    → StopsRemember places config c olds jobs → InstancesRemember places config c (instances_in name olds) (instances_of name c)
stops-in places config c name [] [] same known r = subst (InstancesRemember places config c []) (sym (known refl)) tt
stops-in places config c name [] (d ∷ jobs) same known r = absurd r
stops-in places config c name (j ∷ olds) [] same known r = absurd r
stops-in places config c name (j ∷ olds) (d ∷ jobs) same known r =
    let first : job_view places j ≡ job_summary c d = cc in
    let rest : map (job_view places) olds ≡ map (job_summary c) jobs = cc in
    subst (λ n. InstancesRemember places config c (list_of (if bytes_eq n name then Some j else named job_of name olds)) (instances_of name c)) (sym (ap (λ (s : JobSummary). s.name) first))
    (by_case (bytes_eq d.name name) refl known (λ none. stops-in places config c name olds jobs rest none r.1))
  where
    by_case : (b : Bool) → bytes_eq d.name name ≡ b → ((if b then Some d else job_named name jobs) ≡ None → instances_of name c ≡ [])
        → ((job_named name jobs ≡ None → instances_of name c ≡ []) → InstancesRemember places config c (instances_in name olds) (instances_of name c))
        → InstancesRemember places config c (list_of (if b then Some j else named job_of name olds)) (instances_of name c)
    by_case true here known ih = subst (λ n. InstancesRemember places config c j.instances (instances_of n c)) (bytes_same d.name name here) r.0
    by_case false differs known ih = ih known

-- the configuration doesn't matter to a `stop on`, nor does the load
stops-seen : (places : Places) (config other : Configuration) (jobs : List JobDef) (c : Chronicle) (its : List Kept) (xs : List Instance) → InstancesRemember places config c its xs → InstancesRemember places other (Loaded jobs ∷ c) its xs
stops-seen places config other jobs c [] [] r = tt
stops-seen places config other jobs c [] (x ∷ xs) r = absurd r
stops-seen places config other jobs c (k ∷ its) [] r = absurd r
stops-seen places config other jobs c (k ∷ its) (x ∷ xs) r =
    (subst (Remembers places k.stop_on x.file.stop_on) (seen-stop config other x.place c) r.0, stops-seen places config other jobs c its xs r.1)

stops-stay : (places : Places) (config other : Configuration) (jobs : List JobDef) (c : Chronicle) (olds : List JobInstances) (defs : List JobDef) → map (job_view places) olds ≡ map (job_summary c) config.jobs
    → ((name : Bytes) → job_named name config.jobs ≡ None → instances_of name c ≡ []) → StopsRemember places config c olds config.jobs → StopsRemember places other (Loaded jobs ∷ c) (map (stayed olds) defs) defs
stops-stay places config other jobs c olds [] same known r = tt
stops-stay places config other jobs c olds (d ∷ defs) same known r = (
  stops-seen places config other jobs c (instances_in d.name olds) (instances_of d.name c) (stops-in places config c d.name olds config.jobs same (known d.name) r),
  stops-stay places config other jobs c olds defs same known r,
)

-- new triggers have seen nothing
starts-new : (places : Places) (any other : Configuration) (jobs : List JobDef) (c : Chronicle) (ts : List (Option (List Mark))) (defs : List JobDef) → StartsRemember places any [] ts defs → StartsRemember places other (Loaded jobs ∷ c) ts defs
starts-new places any other jobs c [] [] r = tt
starts-new places any other jobs c [] (d ∷ defs) r = absurd r
starts-new places any other jobs c (t ∷ ts) [] r = absurd r
starts-new places any other jobs c (t ∷ ts) (d ∷ defs) r = (r.0, starts-new places any other jobs c ts defs r.1)

keeps-stay : (places : Places) (c : Chronicle) (olds : List JobInstances) (jobs defs : List JobDef) → map (job_view places) olds ≡ map (job_summary c) jobs → ((name : Bytes) → job_named name jobs ≡ None → instances_of name c ≡ [])
    → map (job_view places) (map (stayed olds) defs) ≡ map (job_summary c) defs
keeps-stay places c olds jobs [] same known = refl
keeps-stay places c olds jobs (d ∷ defs) same known =
    cons_same (ap (λ (its : List Summary). record { name = d.name; instances = its }) (views-in places c d.name olds jobs same (known d.name))) (keeps-stay places c olds jobs defs same known)

-- what is used stays, in whatever order the jobs come
abbrev sum_named : (Bytes → ℕ) → List JobDef → ℕ
sum_named f [] = 0
sum_named f (d ∷ defs) = f d.name + sum_named f defs

uses-stayed : (id : EventId) (olds : List JobInstances) (defs : List JobDef) → uses id (map (stayed olds) defs) ≡ sum_named (λ name. kept_uses id (instances_in name olds)) defs
uses-stayed id olds [] = refl
uses-stayed id olds (d ∷ defs) = rw (uses-stayed id olds defs) refl

sum-none : (defs : List JobDef) → sum_named (λ name. 0) defs ≡ 0
sum-none [] = refl
sum-none (d ∷ defs) = omega (arith, sum-none defs)

sum-apart : (f g : Bytes → ℕ) (name : Bytes) (defs : List JobDef) → AllByRecursion (λ other. bytes_eq other.name name ≡ false) defs → ((other : Bytes) → bytes_eq name other ≡ false → f other ≡ g other) → sum_named f defs ≡ sum_named g defs
sum-apart f g name [] apart same = refl
sum-apart f g name (d ∷ defs) apart same = omega (arith, same d.name (apart-back d.name name apart.0), sum-apart f g name defs apart.1 same)

sum-one : (f g : Bytes → ℕ) (name : Bytes) (x : ℕ) (defs : List JobDef) → AreDistinct defs → ((other : Bytes) → bytes_eq name other ≡ false → f other ≡ g other) → f name ≡ x → g name ≡ 0
    → sum_named f defs ≡ (if is_some (job_named name defs) then x else 0) + sum_named g defs
sum-one f g name x [] distinct same here none = refl
sum-one f g name x (d ∷ defs) distinct same here none = by_case (bytes_eq d.name name) refl (sum-one f g name x defs distinct.1 same here none)
  where
    by_case : (b : Bool) → bytes_eq d.name name ≡ b → sum_named f defs ≡ (if is_some (job_named name defs) then x else 0) + sum_named g defs
        → f d.name + sum_named f defs ≡ (if is_some (if b then Some d else job_named name defs) then x else 0) + (g d.name + sum_named g defs)
    by_case true mine ih =
        let names : d.name ≡ name = bytes_same d.name name mine in
        let rest = sum-apart f g d.name defs distinct.0 (λ other apart. same other (ap (λ n. bytes_eq n other) (sym names) ∙ apart)) in
        omega (arith, ap f names, here, ap g names, none, rest)
    by_case false differs ih = omega (arith, ih, same d.name (apart-back d.name name differs))

-- no two of what is kept have one name
abbrev AreApart : List JobInstances → Type 0
AreApart [] = Unit {0}
AreApart (j ∷ olds) = AllByRecursion (λ o. bytes_eq o.name j.name ≡ false) olds × AreApart olds

names-apart : (places : Places) (c : Chronicle) (name : Bytes) (olds : List JobInstances) (jobs : List JobDef) → map (job_view places) olds ≡ map (job_summary c) jobs → AllByRecursion (λ other. bytes_eq other.name name ≡ false) jobs
    → AllByRecursion (λ o. bytes_eq o.name name ≡ false) olds
names-apart places c name [] [] same apart = tt
names-apart places c name [] (d ∷ jobs) same apart = absurd cc
names-apart places c name (j ∷ olds) [] same apart = absurd cc
names-apart places c name (j ∷ olds) (d ∷ jobs) same apart =
    let first : job_view places j ≡ job_summary c d = cc in
    let rest : map (job_view places) olds ≡ map (job_summary c) jobs = cc in
    (ap (λ (s : JobSummary). bytes_eq s.name name) first ∙ apart.0, names-apart places c name olds jobs rest apart.1)

all-apart : (places : Places) (c : Chronicle) (olds : List JobInstances) (jobs : List JobDef) → map (job_view places) olds ≡ map (job_summary c) jobs → AreDistinct jobs → AreApart olds
all-apart places c [] [] same distinct = tt
all-apart places c [] (d ∷ jobs) same distinct = absurd cc
all-apart places c (j ∷ olds) [] same distinct = absurd cc
all-apart places c (j ∷ olds) (d ∷ jobs) same distinct =
    let first : job_view places j ≡ job_summary c d = cc in
    let rest : map (job_view places) olds ≡ map (job_summary c) jobs = cc in
    (subst (λ n. AllByRecursion (λ o. bytes_eq o.name n ≡ false) olds) (sym (ap (λ (s : JobSummary). s.name) first)) (names-apart places c d.name olds jobs rest distinct.0), all-apart places c olds jobs rest distinct.1)

none-in : (name : Bytes) (olds : List JobInstances) → AllByRecursion (λ o. bytes_eq o.name name ≡ false) olds → instances_in name olds ≡ []
none-in name [] apart = refl
none-in name (j ∷ olds) apart = rw apart.0 (none-in name olds apart.1)

none-so : {X : Type 0} (o : Option X) → is_some o ≡ false → o ≡ None
none-so None none = refl
none-so (Some x) none = absurd cc

map-empty : {X Y : Type 0} (f : X → Y) (xs : List X) → map f xs ≡ [] → xs ≡ []
map-empty f [] none = refl
map-empty f (x ∷ xs) none = absurd cc

-- a job that isn't among the new ones uses nothing
abbrev IsIdle : EventId → List JobDef → JobInstances → Type 0
IsIdle id defs j = is_some (job_named j.name defs) ≡ false → kept_uses id j.instances ≡ 0

all-idle : (places : Places) (c : Chronicle) (id : EventId) (defs : List JobDef) (olds : List JobInstances) (jobs : List JobDef) → map (job_view places) olds ≡ map (job_summary c) jobs
    → ((name : Bytes) → job_named name defs ≡ None → instances_of name c ≡ []) → AllByRecursion (IsIdle id defs) olds
all-idle places c id defs [] [] same known = tt
all-idle places c id defs [] (d ∷ jobs) same known = absurd cc
all-idle places c id defs (j ∷ olds) [] same known = absurd cc
all-idle places c id defs (j ∷ olds) (d ∷ jobs) same known =
    let first : job_view places j ≡ job_summary c d = cc in
    let rest : map (job_view places) olds ≡ map (job_summary c) jobs = cc in
    (idle first, all-idle places c id defs olds jobs rest known)
  where
    idle : job_view places j ≡ job_summary c d → IsIdle id defs j
    idle first none =
        let gone : instances_of d.name c ≡ [] = ap (λ (s : JobSummary). instances_of s.name c) (sym first) ∙ known j.name (none-so (job_named j.name defs) none) in
        ap (kept_uses id) (map-empty (view places) j.instances (ap (λ (s : JobSummary). s.instances) first ∙ ap (map (summary c)) gone))

uses-all : (id : EventId) (olds : List JobInstances) (defs : List JobDef) → AreDistinct defs → AreApart olds → AllByRecursion (IsIdle id defs) olds → sum_named (λ name. kept_uses id (instances_in name olds)) defs ≡ uses id olds
uses-all id [] defs distinct apart idle = sum-none defs
uses-all id (j ∷ olds) defs distinct apart idle =
    let f : Bytes → ℕ = λ name. kept_uses id (instances_in name (j ∷ olds)) in
    let g : Bytes → ℕ = λ name. kept_uses id (instances_in name olds) in
    let one = sum-one f g j.name (kept_uses id j.instances) defs distinct (λ other differs. ap (λ (b : Bool). kept_uses id (list_of (if b then Some j else named job_of other olds))) differs)
    (ap (λ (b : Bool). kept_uses id (list_of (if b then Some j else named job_of j.name olds))) (bytes_refl j.name)) (ap (kept_uses id) (none-in j.name olds apart.0)) in
    one ∙ by_case (is_some (job_named j.name defs)) refl (uses-all id olds defs distinct apart.1 idle.1)
  where
    by_case : (b : Bool) → is_some (job_named j.name defs) ≡ b → sum_named (λ name. kept_uses id (instances_in name olds)) defs ≡ uses id olds
        → (if b then kept_uses id j.instances else 0) + sum_named (λ name. kept_uses id (instances_in name olds)) defs ≡ kept_uses id j.instances + uses id olds
    by_case true is ih = omega (arith, ih)
    by_case false is ih = omega (arith, ih, idle.0 is)

-- all of it
pub forgets-loaded : (book after : Past) (config : Configuration) (c : Chronicle) (jobs files : List JobDef) → Forgets book config c → AreInOrder name_of files → files ≡ (with_jobs jobs config c).jobs
    → after.instances ≡ map (stayed book.instances) files → ((places : Places) (any : Configuration) → StartsRemember places any [] after.starts.items files)
    → after.events ≡ all_changed (freed false) (as_holders (all_kept book.starts.items)) book.events → after.reading ≡ book.reading → Forgets after (with_jobs jobs config c) (Loaded jobs ∷ c)
forgets-loaded book after config c jobs files f order same does starts events reading = record {
  lives = keeps-agree old moved after.instances new d keeps agree;
  remembered = remembered-agrees old moved after.instances after.starts.items new d (λ id used. agree id) remembered;
  standings = ap (map standing_of) events ∙ all-standings (freed false) freeing book.events mild-free ∙ f.standings
      ∙ sym (standings-later (Loaded jobs) c (queue c) f.regular.origins (age-all (queue c) (length c) (queue_by_age c)) (λ p. refl));
  counted = counted;
  regular = record {
    origins = f.regular.origins;
    unspoilt = λ event past. f.regular.unspoilt event (omega (arith, past));
    singles = f.regular.singles;
    known = known;
    falling = f.regular.falling;
  };
  reading = reading ∙ f.reading;
}
  where
    new : Configuration
    new = with_jobs jobs config c

    d : Chronicle
    d = Loaded jobs ∷ c

    old : Places
    old = place_of book.events (queue c)

    moved : Places
    moved = place_of after.events (queue c)

    freeing : List Holder
    freeing = as_holders (all_kept book.starts.items)

    agree : (id : EventId) → moved id ≡ old id
    agree id = ap (λ es. place_of es (queue c) id) events ∙ all-places (freed false) freeing book.events (queue c) id mild-free

    distinct : AreDistinct new.jobs
    distinct = subst AreDistinct same (order-distinct files order)

    stays : after.instances ≡ map (stayed book.instances) new.jobs
    stays = does ∙ ap (map (stayed book.instances)) same

    known : (name : Bytes) → job_named name new.jobs ≡ None → instances_of name c ≡ []
    known = have-kept jobs config c f.regular.known

    passed : Keeps old book.instances config d
    passed = keeps-spared old book.instances config c (Loaded jobs) f.lives (record { spares = λ x older. spared (Loaded jobs) c x refl older; instances = λ job. refl }) tt

    keeps : Keeps old after.instances new d
    keeps = record {
      jobs = ap (map (job_view old)) stays ∙ keeps-stay old d book.instances config.jobs new.jobs passed.jobs f.regular.known;
      older = passed.older;
      later = passed.later;
      distinct = distinct;
    }

    remembered : Remembered old after.instances after.starts.items new d
    remembered = record {
      stops = subst (λ its. StopsRemember old new d its new.jobs) (sym stays) (stops-stay old config new jobs c book.instances new.jobs f.lives.jobs f.regular.known f.remembered.stops);
      starts = subst (StartsRemember old new d after.starts.items) same (starts-new old new new jobs c after.starts.items files (starts old new));
      unborn = λ i past. seen-stop new config i c ∙ f.remembered.unborn i (omega (arith, past));
    }

    counted : (id : EventId) → holds_of id after.events ≡ uses id after.instances + start_uses id after.starts.items
    counted id =
        let enough : (one : EventId) → holder_uses one freeing ≤ holds_of one book.events = λ one. omega (arith, all-used one book.starts.items, f.counted one) in
        let stayed_uses : uses id after.instances ≡ uses id book.instances = ap (uses id) stays ∙ uses-stayed id book.instances new.jobs
        ∙ uses-all id book.instances new.jobs distinct (all-apart old c book.instances config.jobs f.lives.jobs f.lives.distinct) (all-idle old c id new.jobs book.instances config.jobs f.lives.jobs known) in
        omega (
          arith,
          ap (holds_of id) events,
          frees-all false freeing book.events id enough,
          all-used id book.starts.items,
          f.counted id,
          stayed_uses,
          starts-unused new after.starts.items files id (λ places. starts places new),
        )
