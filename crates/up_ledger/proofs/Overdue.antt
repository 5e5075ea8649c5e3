-- Whom the timer is to kill, and until when nobody.
use Rattle.std.proofs.Common.{◌≡◌, ℕ, ◌<◌, Bool, false, ◌&&◌, true, List, [], ◌∷◌, ◌++◌, map, Some, refl, sym, ◌∙◌, ap}
use Rattle.up_conf.specs.declared.job.JobDef.{JobDef}
use Rattle.up_stanza.specs.declared.process.Process.TheVariants.{Main}
use Rattle.up_job.specs.Alarms.{AreFrom, AllFrom}
use Rattle.up_job.specs.Changes.{child_of}
use Rattle.up_job.specs.Timers.{IsKept}
use Rattle.up_job.specs.declared.instance.Instance.{Instance as Kept}
use Rattle.up_job.specs.declared.instance_key.InstanceKey.{InstanceKey}
use Rattle.up_job.specs.declared.instances.JobInstances.{JobInstances}
use Rattle.up_job.proofs.TimerLemmas.{before-alarm, moment-past}
use Rattle.up_model.specs.Chronicle.{Chronicle}
use Rattle.up_model.specs.Clock.{has_passed, is_dying, kill_due, kill_moment, milliseconds, now, overdue, all_overdue}
use Rattle.up_model.specs.Configuration.{Configuration}
use Rattle.up_model.specs.Files.{job_names, names_in_order}
use Rattle.up_model.specs.Instances.{Instance, instances_of}
use Rattle.up_model.specs.Predicates.{entries_if}
use Rattle.up_model.specs.Queue.{queue}
use Rattle.up_model.specs.Readings.{file_of}
use Rattle.up_ledger.specs.declared.past.Past.{Past}
use Rattle.up_ledger.specs.Eventing.{place_of}
use Rattle.up_ledger.specs.Standing.{Forgets, instance_place}
use Rattle.up_book.specs.Summaries.{Summary, JobSummary, summary, job_summary}
use Rattle.up_book.specs.Views.{Places, view, job_view, kept_at}
use Rattle.up_ledger.proofs.Knowing.{knows}
use Rattle.up_book.proofs.One.{there, there-file}

some_same : {X : Type 0} {a b : X} → Some a ≡ Some b → a ≡ b
some_same same = cc

-- the timer reads of an instance what is kept of it
pub timer-known : (book : Past) (config : Configuration) (c : Chronicle) (key : InstanceKey) (i : ℕ) (k : Kept) → Forgets book config c → instance_place book c key ≡ Some i
    → kept_at key book.instances ≡ Some k → IsKept i c k
timer-known book config c key i k f found kept =
    let places = place_of book.events (queue c) in
    let known = knows places book.instances config c key i k f.lives found kept in
    record {
      state = known.state;
      main = ap (λ children. (child_of Main children).pid) known.children;
      moment = known.kill_moment;
    }

-- its file is the one that is kept of it
pub file-known : (book : Past) (config : Configuration) (c : Chronicle) (key : InstanceKey) (i : ℕ) (k : Kept) → Forgets book config c → instance_place book c key ≡ Some i
    → kept_at key book.instances ≡ Some k → file_of i c ≡ Some k.file
file-known book config c key i k f found kept =
    let places = place_of book.events (queue c) in
    let t = there places book.instances config c key i f.lives.jobs found in
    let mine : t.kept ≡ k = some_same (sym t.found ∙ kept) in
    there-file places book.instances config c key i t ∙ ap Some (sym (ap (λ (s : Summary). s.file) t.same) ∙ ap (λ (x : Kept). x.file) mine)

pub kept-file : (book : Past) (config : Configuration) (c : Chronicle) (key : InstanceKey) (i : ℕ) (k : Kept) (job : JobDef) → Forgets book config c → instance_place book c key ≡ Some i
    → kept_at key book.instances ≡ Some k → file_of i c ≡ Some job → k.file ≡ job
kept-file book config c key i k job f found kept file = some_same (sym (file-known book config c key i k f found kept) ∙ file)

-- nobody of a job is overdue before the alarm
not-both : (b d : Bool) → d ≡ false → (b && d) ≡ false
not-both true d not = not
not-both false d not = refl

none-of-job : (places : Places) (c : Chronicle) (alarm : ℕ) → now c < alarm → (its : List Kept) (xs : List Instance)
    → map (view places) its ≡ map (summary c) xs → AreFrom alarm its → overdue xs c ≡ []
none-of-job places c alarm before its [] same from = refl
none-of-job places c alarm before [] (x ∷ xs) same from = absurd cc
none-of-job places c alarm before (k ∷ its) (x ∷ xs) same from =
    let one : view places k ≡ summary c x = cc in
    let rest : map (view places) its ≡ map (summary c) xs = cc in
    let moment : k.kill_moment ≡ kill_moment x.place c = ap (λ (s : Summary). s.kill_moment) one in
    let file : k.file ≡ x.file = ap (λ (s : Summary). s.file) one in
    let not : has_passed k.kill_moment (now c) (milliseconds k.file.kill_timeout) ≡ false = before-alarm alarm (now c) k before (λ m is. moment-past x.place c m (sym moment ∙ is)) from.0 in
    let so : has_passed (kill_moment x.place c) (now c) (milliseconds x.file.kill_timeout) ≡ false =
    sym (ap (λ o. has_passed o (now c) (milliseconds x.file.kill_timeout)) moment) ∙ sym (ap (λ (j : JobDef). has_passed k.kill_moment (now c) (milliseconds j.kill_timeout)) file) ∙ not in
    let due : kill_due x.file x.place c ≡ false = not-both (is_dying x.place c) (has_passed (kill_moment x.place c) (now c) (milliseconds x.file.kill_timeout)) so in
    ap (λ b. entries_if b (x.place ∷ []) ++ overdue xs c) due ∙ none-of-job places c alarm before its xs rest from.1

none-of-jobs : (places : Places) (c : Chronicle) (alarm : ℕ) → now c < alarm → (jobs : List JobInstances) (defs : List JobDef)
    → map (job_view places) jobs ≡ map (job_summary c) defs → AllFrom alarm jobs → all_overdue (job_names defs) c ≡ []
none-of-jobs places c alarm before jobs [] same from = refl
none-of-jobs places c alarm before [] (def ∷ defs) same from = absurd cc
none-of-jobs places c alarm before (j ∷ jobs) (def ∷ defs) same from =
    let one : job_view places j ≡ job_summary c def = cc in
    let rest : map (job_view places) jobs ≡ map (job_summary c) defs = cc in
    let its : map (view places) j.instances ≡ map (summary c) (instances_of def.name c) = ap (λ (s : JobSummary). s.instances) one in
    let none = none-of-job places c alarm before j.instances (instances_of def.name c) its from.0 in
    ap (λ xs. xs ++ all_overdue (job_names defs) c) none ∙ none-of-jobs places c alarm before jobs defs rest from.1

pub none-overdue : (past : Past) (config : Configuration) (c : Chronicle) (alarm : ℕ) → Forgets past config c → AllFrom alarm past.instances → now c < alarm
    → all_overdue (names_in_order config c) c ≡ []
none-overdue past config c alarm f from before =
    none-of-jobs (place_of past.events (queue c)) c alarm before past.instances config.jobs f.lives.jobs from
