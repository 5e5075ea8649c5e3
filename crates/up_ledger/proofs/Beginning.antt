-- The relation holds of a new book, and of an instance that was just made.
use Rattle.std.proofs.Common.{◌≡◌, ℕ, zero, suc, List, [], ◌∷◌, map, take, Option, None, Some, refl, ◌∙◌, ap, arith}
use Rattle.up_job.specs.JobLists.{new_job}
use Rattle.up_conf.specs.declared.job.JobDef.{JobDef}
use Rattle.up_expr.specs.Trees.{Tree, One, Both, Either}
use Rattle.up_expr.specs.Truth as truth
use Rattle.up_marks.specs.declared.mark.Mark.{Mark}
use Rattle.up_marks.specs.Agreeing.{Agrees}
use Rattle.up_marks.specs.Marking.{kept_in, kept_of, occurs}
use Rattle.up_marks.specs.Triggers.{Remembers, uses_by}
use Rattle.up_marks.proofs.Firsts.{kept_first}
use Rattle.up_marks.proofs.Markings.{kept_in_tree}
use Rattle.up_model.specs.declared.event_id.EventId.{EventId}
use Rattle.up_model.specs.Configuration.{Configuration}
use Rattle.up_model.specs.Queue.{queue}
use Rattle.up_model.specs.Values.{Bytes}
use Rattle.up_ledger.specs.Eventing.{place_of}
use Rattle.up_ledger.specs.declared.past.Past.{Past}
use Rattle.up_job.specs.InstanceLists.{new_instance}
use Rattle.up_job.specs.Moments.{room}
use Rattle.up_ledger.specs.Counting.{uses, start_uses}
use Rattle.up_ledger.specs.Remembering.{StopsRemember, StartsRemember}
use Rattle.up_book.specs.Keeps.{AreDistinct}
use Rattle.up_ledger.specs.Standing.{Forgets}
use Rattle.up_book.specs.Summaries.{blank, job_summary}
use Rattle.up_book.specs.Views.{Places, view, job_view}
use Rattle.up_book.proofs.Lists.{cons_same}

new-jobs : (places : Places) (config : Configuration) (jobs : List JobDef) → map (job_view places) (map new_job jobs) ≡ map (job_summary []) jobs
new-jobs places config [] = refl
new-jobs places config (job ∷ jobs) = cons_same refl (new-jobs places config jobs)

new-uses : (id : EventId) (jobs : List JobDef) → uses id (map new_job jobs) ≡ 0
new-uses id [] = refl
new-uses id (job ∷ jobs) = omega (arith, new-uses id jobs)

new-stops : (places : Places) (config : Configuration) (jobs : List JobDef) → StopsRemember places config [] (map new_job jobs) jobs
new-stops places config [] = tt
new-stops places config (job ∷ jobs) = (tt, new-stops places config jobs)

take-none : (n : ℕ) → (let none : List ℕ = [] in take n none) ≡ []
take-none zero = refl
take-none (suc n) = refl

-- a new book stands for the empty chronicle
pub forgets-nothing : (book : Past) (config : Configuration) → AreDistinct config.jobs → book.instances ≡ map new_job config.jobs
    → ((places : Places) → StartsRemember places config [] book.starts.items config.jobs) → ((id : EventId) → start_uses id book.starts.items ≡ 0) → book.events ≡ [] → book.reading ≡ 0 → Forgets book config []
forgets-nothing book config distinct jobs starts unused events reading = record {
  lives = rw events (record {
    jobs = rw jobs (new-jobs (place_of [] (queue [])) config config.jobs);
    older = λ i. tt;
    later = λ its past. rw (take-none (room its.file.limit)) refl;
    distinct = distinct;
  });
  remembered = record {
    stops = rw jobs (new-stops (place_of book.events (queue [])) config config.jobs);
    starts = starts (place_of book.events (queue []));
    unborn = λ i past. refl;
  };
  standings = rw events refl;
  counted = λ id. rw (events, jobs) (omega (arith, new-uses id config.jobs, unused id));
  regular = record {
    origins = tt;
    unspoilt = λ event past. refl;
    singles = λ job. tt;
    known = λ job none. refl;
    falling = λ instance. tt;
  };
  reading = reading;
}

-- and what is kept of a new instance is blank
pub new-blank : (places : Places) (job : JobDef) (name : Bytes) (trigger : Option (List Mark)) → view places (new_instance name job trigger) ≡ blank job name
new-blank places job name trigger = refl

-- a trigger that agrees with nothing seen, whatever ids stand for, keeps nothing
kept-none : (tree : Tree) → truth.kept tree [] ≡ []
kept-none (One leaf) = refl
kept-none (Both left right) = rw (kept-none left, kept-none right) refl
kept-none (Either left right) = rw (kept-none left, kept-none right) refl

map-none : (ids : List EventId) → (let f : EventId → Option ℕ = λ id. Some 0 in map f ids) ≡ [] → ids ≡ []
map-none [] same = refl
map-none (id ∷ ids) same = absurd cc

pub blank-unused : (trigger : Option (List Mark)) (tree : Option Tree) → ((places : Places) → Remembers places trigger tree []) → (id : EventId) → uses_by id trigger ≡ 0
blank-unused None tree blank id = refl
blank-unused (Some marks) None blank id = absurd (blank (λ one. Some 0))
blank-unused (Some marks) (Some tree) blank id =
    let all : EventId → Option ℕ = λ one. Some 0 in
    let agrees : Agrees all marks tree [] = blank all in
    let ids : kept_in marks ≡ kept_of 0 tree agrees.kept = ap kept_in agrees.laid ∙ kept_in_tree 0 tree agrees.kept in
    let none : kept_in marks ≡ [] = map-none (kept_in marks) (ap (map all) ids ∙ kept_first all 0 tree agrees.kept [] agrees.firsts ∙ ap (map Some) (kept-none tree)) in
    ap (occurs id) none
