-- An offer to an expression that doesn't name the event changes nothing.
use Rattle.std.proofs.Common.{◌≡◌, ℕ, zero, suc, true, false, List, [], ◌∷◌, ◌++◌, Option, None, Some, refl, sym, ◌∙◌, ap, subst, eq-eqb, append-nil}
use Rattle.up_conf.specs.declared.job.JobDef.{JobDef}
use Rattle.up_expr.specs.Trees.{Tree}
use Rattle.up_expr.specs.Truth.{Sight}
use Rattle.up_job.specs.JobLists.{changed_in, changed_at, list_of}
use Rattle.up_job.specs.Lending.{with_stop_on}
use Rattle.up_job.specs.Lists.{nth, with_at}
use Rattle.up_job.specs.declared.instance.Instance.{Instance as Kept}
use Rattle.up_job.specs.declared.instance_key.InstanceKey.{InstanceKey}
use Rattle.up_job.specs.declared.instances.JobInstances.{JobInstances}
use Rattle.up_marks.specs.Ruling.{may_hear}
use Rattle.up_marks.specs.Triggers.{Remembers}
use Rattle.up_marks.specs.declared.mark.Mark.{Mark}
use Rattle.up_marks.proofs.Ruled.{agrees-ruled}
use Rattle.up_marks.proofs.SkipLemmas.{seen_own}
use Rattle.up_model.specs.Chronicle.{Chronicle, Expression, Offered, StartOn, StopOn}
use Rattle.up_model.specs.Configuration.{Configuration}
use Rattle.up_model.specs.Queue.{queue}
use Rattle.up_model.specs.Readings.{event_at, file_of}
use Rattle.up_model.specs.Seen.{seen, sight_of, same_expression, env_of}
use Rattle.up_model.specs.Values.{Bindings}
use Rattle.up_model.specs.declared.event.Event.{Event}
use Rattle.up_model.proofs.Places.{bytes_refl}
use Rattle.up_ledger.specs.Eventing.{place_of}
use Rattle.up_ledger.specs.Hearing.{trigger_in}
use Rattle.up_book.specs.Keeps.{Keeps}
use Rattle.up_book.specs.Keys.{Stepping, job_at, instance_place}
use Rattle.up_ledger.specs.Ledgers.{Stands}
use Rattle.up_ledger.specs.Remembering.{Remembered}
use Rattle.up_ledger.specs.Standing.{Forgets}
use Rattle.up_ledger.specs.Standing as standing
use Rattle.up_book.specs.Views.{Places}
use Rattle.up_ledger.specs.declared.ledger.Ledger.{Ledger}
use Rattle.up_ledger.specs.declared.past.Past.{Past}
use Rattle.up_book.proofs.Keyed.{job-there}
use Rattle.up_ledger.proofs.Ledgers.{keyed, silent, calm}
use Rattle.up_book.proofs.Lists.{cons_same}
use Rattle.up_book.proofs.One.{there, its-file, nth-all, IsKnown, known-all}
use Rattle.up_ledger.proofs.Seeing.{forgets-seen, offered-spares, offered-seen, stop-known, start-of}
use Rattle.up_ledger.proofs.Sights.{remembered-stop, remembered-start}
use Rattle.up_ledger.proofs.Whole.{keeps-spared}

-- a list with the item at a place as it is
with-same : {X : Type 0} (at : ℕ) (f : X → X) (xs : List X) (x : X) → nth at xs ≡ Some x → f x ≡ x → with_at at f xs ≡ xs
with-same at f [] x there same = refl
with-same zero f (y ∷ xs) x there same =
    let is : y ≡ x = cc in
    cons_same (ap f is ∙ same ∙ sym is) refl
with-same (suc at) f (y ∷ xs) x there same = cons_same refl (with-same at f xs x there same)

in-job : (o : Option JobInstances) (at : ℕ) (kept : Kept) (j : JobInstances) → o ≡ Some j → nth at (list_of o) ≡ Some kept → nth at j.instances ≡ Some kept
in-job o at kept j is found = subst (λ (p : Option JobInstances). nth at (list_of p) ≡ Some kept) is found

keyed-same : (key : InstanceKey) (jobs : List JobInstances) (kept : Kept) → nth key.at (list_of (nth key.job jobs)) ≡ Some kept → changed_at key (with_stop_on kept.stop_on) jobs ≡ jobs
keyed-same key jobs kept found = by_job (nth key.job jobs) refl found
  where
    by_job : (o : Option JobInstances) → nth key.job jobs ≡ o → nth key.at (list_of o) ≡ Some kept → changed_at key (with_stop_on kept.stop_on) jobs ≡ jobs
    by_job None is found = absurd cc
    by_job (Some j) is found =
        with-same key.job (changed_in key.at (with_stop_on kept.stop_on)) jobs j is
        (ap (λ its. record j { instances = its }) (with-same key.at (with_stop_on kept.stop_on) j.instances kept found refl))

-- a trigger agrees with that and an event that each leaf rules out
deaf-sees : (places : Places) (trigger : Option (List Mark)) (condition : Option Tree) (sights : List Sight) (e : ℕ) (event : Option Event) (environment : Bindings) → may_hear condition event ≡ false
    → Remembers places trigger condition sights → Remembers places trigger condition (sights ++ sight_of e event environment)
deaf-sees places trigger condition sights e None environment deaf r = subst (Remembers places trigger condition) (sym (append-nil sights)) r
deaf-sees places None None sights e (Some event) environment deaf r = tt
deaf-sees places (Some marks) (Some tree) sights e (Some event) environment deaf r =
    agrees-ruled places marks tree sights (record { event = e; name = event.name; vars = event.vars; env = environment }) deaf r
deaf-sees places None (Some tree) sights e (Some event) environment deaf r = absurd r
deaf-sees places (Some marks) None sights e (Some event) environment deaf r = absurd r

deaf-seen : (places : Places) (trigger : Option (List Mark)) (condition : Option Tree) (config : Configuration) (x : Expression) (e : ℕ) (c : Chronicle) → same_expression x x ≡ true → may_hear condition (event_at e c) ≡ false
    → Remembers places trigger condition (seen config x c) → Remembers places trigger condition (seen config x (Offered x e ∷ c))
deaf-seen places trigger condition config x e c own deaf r =
    subst (Remembers places trigger condition) (sym (seen_own config x x e c own)) (deaf-sees places trigger condition (seen config x c) e (event_at e c) (env_of config x c) deaf r)

-- what is kept stands for the offer too, if what is remembered does
forgets-deaf : (past : Past) (config : Configuration) (c : Chronicle) (x : Expression) (e : ℕ) → Forgets past config c
    → Remembered (place_of past.events (queue c)) past.instances past.starts.items config (Offered x e ∷ c) → Forgets past config (Offered x e ∷ c)
forgets-deaf past config c x e f remembered =
    let places = place_of past.events (queue c) in
    let keeps : Keeps places past.instances config (Offered x e ∷ c) = keeps-spared places past.instances config c (Offered x e) f.lives (offered-spares config c x e) tt in
    forgets-seen past past config c (Offered x e) f (offered-spares config c x e) tt refl tt (λ p. refl) refl remembered keeps refl (λ id. refl) f.counted refl

forgets-deaf-start : (past : Past) (config : Configuration) (c : Chronicle) (place e : ℕ) (job : JobDef) → Forgets past config c → nth place config.jobs ≡ Some job → may_hear job.start_on (event_at e c) ≡ false
    → Forgets past config (Offered (StartOn job.name) e ∷ c)
forgets-deaf-start past config c place e job f in_jobs deaf =
    let places = place_of past.events (queue c) in
    let triggers = past.starts.items in
    let before = start-of places config c place triggers config.jobs job in_jobs f.remembered.starts in
    let trigger = trigger_in place triggers in
    let new = deaf-seen places trigger job.start_on config (StartOn job.name) e c (bytes_refl job.name) deaf before.0 in
    let remembered = remembered-start places past.instances triggers config c (Offered (StartOn job.name) e) trigger place job (offered-seen config c (StartOn job.name) e) f.lives.distinct in_jobs new f.remembered in
    let same : with_at place (λ t. trigger) triggers ≡ triggers = with-same place (λ t. trigger) triggers trigger before.1 refl in
    forgets-deaf past config c (StartOn job.name) e f (subst (λ ts. Remembered places past.instances ts config (Offered (StartOn job.name) e ∷ c)) same remembered)

forgets-deaf-stop : (past : Past) (config : Configuration) (c : Chronicle) (key : InstanceKey) (job : JobDef) (i e : ℕ) → Forgets past config c → standing.instance_place past c key ≡ Some i → file_of i c ≡ Some job
    → may_hear job.stop_on (event_at e c) ≡ false → Forgets past config (Offered (StopOn i) e ∷ c)
forgets-deaf-stop past config c key job i e f found file deaf =
    let places = place_of past.events (queue c) in
    let t = there places past.instances config c key i f.lives.jobs found in
    let x : Expression = StopOn t.its.place in
    let own : job ≡ t.its.file = sym (its-file places past.instances config c key i job t file) in
    let unnamed : may_hear t.its.file.stop_on (event_at e c) ≡ false = subst (λ (j : JobDef). may_hear j.stop_on (event_at e c) ≡ false) own deaf in
    let new = deaf-seen places t.kept.stop_on t.its.file.stop_on config x e c (eq-eqb t.its.place t.its.place refl) unnamed (stop-known past config c key i t f) in
    let known = nth-all (IsKnown t.job.name c) key.at (Rattle.up_model.specs.Instances.instances_of t.job.name c) t.its t.in_instances (known-all t.job.name c) in
    let remembered = remembered-stop places past.instances past.starts.items config c (Offered x e) t.kept.stop_on key t.job t.its (offered-seen config c x e) f.lives.distinct t.in_jobs t.in_instances known.0 new f.remembered in
    let same : changed_at key (with_stop_on t.kept.stop_on) past.instances ≡ past.instances = keyed-same key past.instances t.kept t.found in
    subst (λ p. Forgets past config (Offered (StopOn p) e ∷ c)) t.place
    (forgets-deaf past config c x e f (subst (λ its. Remembered places its past.starts.items config (Offered x e ∷ c)) same remembered))

-- so a ledger stands for it
pub stands-deaf-start : (ledger : Ledger) (config : Configuration) (c : Chronicle) (n : ℕ) (job : JobDef) (e : ℕ) → Stands ledger Stepping config c → job_at config n ≡ Some job → may_hear job.start_on (event_at e c) ≡ false
    → Stands ledger Stepping config (Offered (StartOn job.name) e ∷ c)
stands-deaf-start ledger config c n job e s there deaf =
    let x = Offered (StartOn job.name) e in
    silent ledger ledger.past config c x s (forgets-deaf-start ledger.past config c n e job s.past (job-there config n job there) deaf) tt tt (calm config c x (λ its. refl) (λ j. refl) (λ j. refl))

pub stands-deaf-stop : (ledger : Ledger) (config : Configuration) (c : Chronicle) (key : InstanceKey) (job : JobDef) (i e : ℕ) → Stands ledger Stepping config c → instance_place config c key ≡ Some i → file_of i c ≡ Some job
    → may_hear job.stop_on (event_at e c) ≡ false → Stands ledger Stepping config (Offered (StopOn i) e ∷ c)
stands-deaf-stop ledger config c key job i e s found file deaf =
    let x = Offered (StopOn i) e in
    silent ledger ledger.past config c x s (forgets-deaf-stop ledger.past config c key job i e s.past (keyed ledger.past config c key i s.past found) file deaf) tt tt
    (calm config c x (λ its. refl) (λ j. refl) (λ j. refl))
