-- An instance comes to rest and is gone.
use Rattle.std.proofs.Common.{◌≡◌, ℕ, zero, suc, ◌+◌, ◌<◌, ◌==◌, Bool, true, false, List, [], ◌∷◌, ◌++◌, length, map, Option, None, Some, if◌then◌else◌, refl, sym, ◌∙◌, ap, subst, arith, ne_eqb, append_assoc}
use Rattle.up_job.specs.JobLists.{removed_in}
use Rattle.up_job.specs.Lists.{with_at, nth, without_at}
use Rattle.up_conf.specs.declared.job.JobDef.{JobDef}
use Rattle.up_event.specs.declared.live.LiveEvent.{LiveEvent}
use Rattle.up_marks.specs.Marking.{occurs}
use Rattle.up_marks.specs.Triggers.{kept_by, uses_by}
use Rattle.up_marks.specs.declared.mark.Mark.{Mark}
use Rattle.up_model.specs.declared.event_id.EventId.{EventId}
use Rattle.up_model.specs.declared.request.Answer.{Answer}
use Rattle.up_model.specs.declared.request.Command.TheVariants.{Emit}
use Rattle.up_model.specs.declared.state.State.TheVariants as state
use Rattle.up_model.specs.Chronicle.{Chronicle, Entered, Released, Replied}
use Rattle.up_model.specs.Configuration.{Configuration}
use Rattle.up_model.specs.Instances.{instances_of, all_instances}
use Rattle.up_model.specs.Queue.{queue}
use Rattle.up_model.specs.Replies.{answering, answering_one, answering_waiter, answer_to, request_at}
use Rattle.up_model.specs.Requests.{RequestValue}
use Rattle.up_model.specs.Values.{Bytes}
use Rattle.up_model.proofs.Places.{count, instances-exist}
use Rattle.up_model.proofs.QueueLaws.{queue_by_age}
use Rattle.up_job.specs.declared.instance_key.InstanceKey.{InstanceKey}
use Rattle.up_job.specs.declared.instances.JobInstances.{JobInstances}
use Rattle.up_job.specs.declared.instance.Instance.{Instance as Kept}
use Rattle.up_ledger.specs.declared.past.Past.{Past}
use Rattle.up_ledger.specs.Counting.{one_if, holder_uses, kept_uses, uses, start_uses}
use Rattle.up_ledger.specs.Eventing.{place_of, holds_of}
use Rattle.up_ledger.specs.Holding.{freed, all_changed, as_holders}
use Rattle.up_book.specs.Keeps.{Keeps, HoldsOlder}
use Rattle.up_ledger.specs.Remembering.{Remembered}
use Rattle.up_ledger.specs.Requesting.{IsGone}
use Rattle.up_ledger.specs.Standing.{Forgets, instance_place}
use Rattle.up_book.specs.Summaries.{Summary, summary, job_summary}
use Rattle.up_book.specs.Views.{Places, kept_in, kept_at}
use Rattle.up_ledger.proofs.Entering.{older-after, place-older}
use Rattle.up_ledger.proofs.Frames.{spared}
use Rattle.up_ledger.proofs.Holds.{frees-all, all-standings, all-places, mild-free}
use Rattle.up_ledger.proofs.Lifecycle.{keeps-left, map-all, all-apart}
use Rattle.up_book.proofs.Lists.{cons_same}
use Rattle.up_ledger.proofs.MadeTriggers.{remembered-left}
use Rattle.up_book.proofs.One.{There, there}
use Rattle.up_ledger.proofs.Regulars.{regular-next}
use Rattle.up_ledger.proofs.Standing.{age-all, standings-later}
use Rattle.up_ledger.proofs.Triggers.{remembered-agrees, remembered-later}
use Rattle.up_ledger.proofs.Whole.{keeps-agree, forgets-lives, forgets-passing, passing}

listed : (id : EventId) (ids : List EventId) → holder_uses id (as_holders ids) ≡ occurs id ids
listed id [] = refl
listed id (other ∷ ids) = by_case (other.key == id.key) (listed id ids)
  where
    by_case : (b : Bool) → holder_uses id (as_holders ids) ≡ occurs id ids → one_if b + holder_uses id (as_holders ids) ≡ (if b then occurs id ids + 1 else occurs id ids)
    by_case true ih = omega (arith, ih)
    by_case false ih = omega (arith, ih)

pub trigger-listed : (id : EventId) (trigger : Option (List Mark)) → holder_uses id (as_holders (kept_by trigger)) ≡ uses_by id trigger
trigger-listed id None = refl
trigger-listed id (Some marks) = listed id (Rattle.up_marks.specs.Marking.kept_in marks)

-- what is used without an instance
kept-less : (id : EventId) (at : ℕ) (its : List Kept) (k : Kept) → nth at its ≡ Some k → kept_uses id (without_at at its) + (uses_by id k.stop_on + holder_uses id k.holders) ≡ kept_uses id its
kept-less id at [] k there = absurd cc
kept-less id zero (x ∷ its) k there =
    let same : x ≡ k = cc in
    rw same (omega arith)
kept-less id (suc at) (x ∷ its) k there = omega (arith, kept-less id at its k there)

uses-less : (id : EventId) (place at : ℕ) (jobs : List JobInstances) (k : Kept) → kept_in at (nth place jobs) ≡ Some k
    → uses id (with_at place (removed_in at) jobs) + (uses_by id k.stop_on + holder_uses id k.holders) ≡ uses id jobs
uses-less id place at [] k there = absurd cc
uses-less id zero at (j ∷ jobs) k there = omega (arith, kept-less id at j.instances k there)
uses-less id (suc place) at (j ∷ jobs) k there = omega (arith, uses-less id place at jobs k there)

-- it enters waiting, and what it held is held no more
pub forgets-left : (book after : Past) (config : Configuration) (c : Chronicle) (key : InstanceKey) (i : ℕ) (k : Kept) → Forgets book config c → instance_place book c key ≡ Some i → kept_at key book.instances ≡ Some k
    → after.instances ≡ with_at key.job (removed_in key.at) book.instances → after.starts ≡ book.starts
    → after.events ≡ all_changed (freed false) (as_holders (kept_by k.stop_on)) (all_changed (freed false) k.holders book.events) → after.reading ≡ book.reading → Forgets after config (Entered i state.Waiting ∷ c)
forgets-left book after config c key i k f found kept does starts events reading =
    let t = there (place_of book.events (queue c)) book.instances config c key i f.lives.jobs found in
    subst (λ p. Forgets after config (Entered p state.Waiting ∷ c)) t.place (at t)
  where
    places : Places
    places = place_of book.events (queue c)

    middle : List LiveEvent
    middle = all_changed (freed false) k.holders book.events

    moved : Places
    moved = place_of (all_changed (freed false) (as_holders (kept_by k.stop_on)) middle) (queue c)

    agree : (id : EventId) → moved id ≡ places id
    agree id = all-places (freed false) (as_holders (kept_by k.stop_on)) middle (queue c) id mild-free ∙ all-places (freed false) k.holders book.events (queue c) id mild-free

    counted : (id : EventId) → holds_of id (all_changed (freed false) (as_holders (kept_by k.stop_on)) middle) ≡ uses id (with_at key.job (removed_in key.at) book.instances) + start_uses id book.starts.items
    counted id =
        let first = frees-all false k.holders book.events id (λ one. omega (arith, f.counted one, uses-less one key.job key.at book.instances k kept)) in
        let second = frees-all false (as_holders (kept_by k.stop_on)) middle id (λ one. omega (
          arith,
          trigger-listed one k.stop_on,
          f.counted one,
          uses-less one key.job key.at book.instances k kept,
          frees-all false k.holders book.events one (λ two. omega (arith, f.counted two, uses-less two key.job key.at book.instances k kept)),
        )) in
        omega (arith, first, second, trigger-listed id k.stop_on, f.counted id, uses-less id key.job key.at book.instances k kept)

    at : (t : There places book.instances config c key i) → Forgets after config (Entered t.its.place state.Waiting ∷ c)
    at t =
        let e = Entered t.its.place state.Waiting in
        let d : Chronicle = e ∷ c in
        let older = age-all (queue c) (length c) (queue_by_age c) in
        let within : t.its.place < length c = omega (arith, t.place, place-older places book.instances config c key i f.lives found) in
        let lives : Keeps places after.instances config d = record {
          jobs = rw does (keeps-left places book.instances config c key.job key.at t.job t.its f.lives.jobs f.lives.distinct t.in_jobs f.lives.older t.in_instances);
          older = older-after e c tt f.lives.older;
          later = λ x past. spared e c x (ne_eqb t.its.place x.place (λ same. omega (arith, past, within))) (f.lives.older x.place) ∙ f.lives.later x (omega (arith, past));
          distinct = f.lives.distinct;
        } in
        let remembered : Remembered places after.instances book.starts.items config d =
        rw does (remembered-left places book.instances book.starts.items config c key.job key.at t.job t.its f.lives.distinct t.in_jobs t.in_instances f.remembered) in
        record {
          lives = rw events (keeps-agree places moved after.instances config d lives agree);
          remembered = rw (events, starts) (remembered-agrees places moved after.instances book.starts.items config d (λ id used. agree id) remembered);
          standings = rw events (all-standings (freed false) (as_holders (kept_by k.stop_on)) middle mild-free ∙ all-standings (freed false) k.holders book.events mild-free ∙ f.standings
              ∙ sym (standings-later e c (queue c) f.regular.origins older (λ p. refl)));
          counted = λ id. rw (events, does, starts) (counted id);
          regular = regular-next config c e f.regular tt;
          reading = reading ∙ f.reading;
        }

-- one that is gone lets its holders go: nobody notices
gone-summaries : (config : Configuration) (job : JobDef) (i : ℕ) (failed : Bool) (c : Chronicle) → ((p : ℕ) → HoldsOlder p c) → count i (instances_of job.name c) ≡ 0
    → map (summary (Released i failed ∷ c)) (instances_of job.name c) ≡ map (summary c) (instances_of job.name c)
gone-summaries config job i failed c older none =
    map-all (λ x. (i == x.place) ≡ false) (summary (Released i failed ∷ c)) (summary c) (instances_of job.name c)
    (λ x apart. spared (Released i failed) c x apart (older x.place)) (all-apart i (instances_of job.name c) none)

gone-jobs : (config : Configuration) (i : ℕ) (failed : Bool) (c : Chronicle) (jobs : List JobDef) → ((p : ℕ) → HoldsOlder p c) → count i (all_instances c) ≡ 0
    → map (job_summary (Released i failed ∷ c)) jobs ≡ map (job_summary c) jobs
gone-jobs config i failed c [] older none = refl
gone-jobs config i failed c (job ∷ jobs) older none =
    cons_same (ap (λ (its : List Summary). record { name = job.name; instances = its }) (gone-summaries config job i failed c older (omega (arith, instances-exist i job.name c, none)))) (gone-jobs config i failed c jobs older none)

pub forgets-gone : (book : Past) (config : Configuration) (c : Chronicle) (i : ℕ) → Forgets book config c → IsGone i c → Forgets book config (Released i false ∷ c)
forgets-gone book config c i f gone =
    let places = place_of book.events (queue c) in
    let e = Released i false in
    let lives : Keeps places book.instances config (e ∷ c) = record {
      jobs = f.lives.jobs ∙ sym (gone-jobs config i false c config.jobs f.lives.older gone.1);
      older = older-after e c tt f.lives.older;
      later = λ x past. spared e c x (ne_eqb i x.place (λ same. omega (arith, past, gone.0))) (f.lives.older x.place) ∙ f.lives.later x (omega (arith, past));
      distinct = f.lives.distinct;
    } in
    forgets-lives book book config c e f lives (remembered-later places book.instances book.starts.items config c e (record { instances = λ job. refl; seen = λ x. refl }) f.remembered) refl tt (λ p. refl) refl
    (λ id. refl) refl refl refl

-- an answer changes nothing that is kept
pub forgets-replied : (book : Past) (config : Configuration) (c : Chronicle) (request : ℕ) (answer : Answer) → Forgets book config c → Forgets book config (Replied request answer ∷ c)
forgets-replied book config c request answer f =
    forgets-passing book config c (Replied request answer) f (passing config c (Replied request answer) (λ i. refl) (λ job. refl) (λ x. refl)) tt refl tt (λ p. refl) refl

-- nor do answers to all that held an instance
pub forgets-answered : (book : Past) (config : Configuration) (hs : List ℕ) (failed : Bool) (told : Bytes) (before c : Chronicle) → Forgets book config c → Forgets book config (answering hs failed told before ++ c)
forgets-answered book config [] failed told before c f = f
forgets-answered book config (p ∷ hs) failed told before c f =
    subst (Forgets book config) (sym (append_assoc (answering hs failed told before) (answering_one p (request_at p before) failed told) c))
    (forgets-answered book config hs failed told before (answering_one p (request_at p before) failed told ++ c) (one (request_at p before)))
  where
    one : (request : Option RequestValue) → Forgets book config (answering_one p request failed told ++ c)
    one None = f
    one (Some request) = forgets-replied book config c p (answer_to request.command failed told) f

-- nor does the answer to the client that waits for an event
pub forgets-waiter : (book : Past) (config : Configuration) (c : Chronicle) (o : Option ℕ) (spoilt : Bool) → Forgets book config c → Forgets book config (answering_waiter o spoilt ++ c)
forgets-waiter book config c None spoilt f = f
forgets-waiter book config c (Some request) spoilt f = forgets-replied book config c request (answer_to Emit spoilt []) f
