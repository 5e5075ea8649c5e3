-- One instance alone waits for an event, so no other wait ends with it.
use Rattle.std.proofs.Common.{◌≡◌, ℕ, zero, suc, ◌≤◌, ◌==◌, Bool, true, false, List, [], ◌∷◌, map, Option, None, Some, bytes_eq, if◌then◌else◌, refl, sym, ◌∙◌, ap, arith, eqb-true, eq-eqb}
use Rattle.std.proofs.lemmas.Bool.{eqb-false}
use Rattle.up_job.specs.JobLists.{changed_in, list_of}
use Rattle.up_job.specs.Lists.{nth, with_at}
use Rattle.up_job.specs.Unblocking.{is_event, without_id, unblocked, unblocked_in, unblocked_at, is_blocked, IsBlocked}
use Rattle.up_job.specs.declared.instance.Instance.{Instance as Kept}
use Rattle.up_job.specs.declared.instance_key.InstanceKey.{InstanceKey}
use Rattle.up_job.specs.declared.instances.JobInstances.{JobInstances}
use Rattle.up_model.specs.declared.event_id.EventId.{EventId}
use Rattle.up_model.specs.declared.who.Who.{Who}
use Rattle.up_model.specs.Chronicle.{Chronicle}
use Rattle.up_model.specs.Configuration.{Configuration}
use Rattle.up_model.specs.Instances.{Instance, instances_of}
use Rattle.up_model.specs.Queue.{queue}
use Rattle.up_model.specs.Readings.{made_at}
use Rattle.up_model.proofs.Places.{bytes_refl, count, one_if, all_instances-once, instances-exist}
use Rattle.up_model.proofs.Waiting.{waits-once}
use Rattle.up_book.specs.Keeps.{AreDistinct}
use Rattle.up_book.specs.Views.{Places}
use Rattle.up_book.proofs.Keyed.{place-keyed}
use Rattle.up_book.proofs.Lists.{cons_same}
use Rattle.up_book.proofs.One.{IsKnown, There, called, known-all, nth-all, nth-counted, there}
use Rattle.up_ledger.specs.Eventing.{place_of}
use Rattle.up_ledger.specs.Standing.{Forgets, event_place}
use Rattle.up_ledger.specs.declared.past.Past.{Past}
use Rattle.up_ledger.proofs.Blocking.{blocked-by}
use Rattle.up_ledger.proofs.Shifting.{distinct-at}

-- what doesn't wait for an event is the same without it
kept-as : (id : EventId) (its : Kept) → is_event id its.blocker ≡ false → unblocked id its ≡ its
kept-as id its free = ap (λ (blocker : Option EventId). record its { blocker = blocker }) (by_blocker its.blocker free)
  where
    by_blocker : (o : Option EventId) → is_event id o ≡ false → without_id id o ≡ o
    by_blocker None free = refl
    by_blocker (Some other) free = ap (λ (b : Bool). if b then None else Some other) free

list-kept : (id : EventId) (its : List Kept) → ((n : ℕ) → is_blocked id (nth n its) ≡ false) → map (unblocked id) its ≡ its
list-kept id [] free = refl
list-kept id (one ∷ its) free = cons_same (kept-as id one (free zero)) (list-kept id its (λ n. free (suc n)))

job-kept : (id : EventId) (job : JobInstances) → ((n : ℕ) → is_blocked id (nth n job.instances) ≡ false) → unblocked_in id job ≡ job
job-kept id job free = ap (λ (its : List Kept). record job { instances = its }) (list-kept id job.instances free)

jobs-kept : (id : EventId) (jobs : List JobInstances) → ((m n : ℕ) → is_blocked id (nth n (list_of (nth m jobs))) ≡ false) → map (unblocked_in id) jobs ≡ jobs
jobs-kept id [] free = refl
jobs-kept id (job ∷ jobs) free = cons_same (job-kept id job (free zero)) (jobs-kept id jobs (λ m. free (suc m)))

-- nor is what waits for it alone
list-one : (id : EventId) (at : ℕ) (its : List Kept) → ((n : ℕ) → (n ≡ at → ⊥) → is_blocked id (nth n its) ≡ false) → with_at at (unblocked id) its ≡ map (unblocked id) its
list-one id at [] others = refl
list-one id zero (one ∷ its) others = cons_same refl (sym (list-kept id its (λ n. others (suc n) (λ same. absurd (omega (arith, same))))))
list-one id (suc at) (one ∷ its) others =
    cons_same (sym (kept-as id one (others zero (λ same. absurd (omega (arith, same)))))) (list-one id at its (λ n apart. others (suc n) (λ same. apart (omega (arith, same)))))

jobs-one : (id : EventId) (place at : ℕ) (jobs : List JobInstances) → ((m n : ℕ) → (m ≡ place → n ≡ at → ⊥) → is_blocked id (nth n (list_of (nth m jobs))) ≡ false)
    → with_at place (changed_in at (unblocked id)) jobs ≡ map (unblocked_in id) jobs
jobs-one id place at [] others = refl
jobs-one id zero at (job ∷ jobs) others =
    cons_same (ap (λ (its : List Kept). record job { instances = its }) (list-one id at job.instances (λ n apart. others zero n (λ same. apart))))
    (sym (jobs-kept id jobs (λ m n. others (suc m) n (λ same. absurd (omega (arith, same))))))
jobs-one id (suc place) at (job ∷ jobs) others =
    cons_same (sym (job-kept id job (λ n. others zero n (λ same. absurd (omega (arith, same))))))
    (jobs-one id place at jobs (λ m n apart. others (suc m) n (λ same. apart (omega (arith, same)))))

-- an instance has one index among its job's
same-at : (a b : ℕ) (xs : List Instance) (x y : Instance) → nth a xs ≡ Some x → nth b xs ≡ Some y → y.place ≡ x.place → count x.place xs ≤ 1 → a ≡ b
same-at a b [] x y here there same once = absurd cc
same-at zero zero (z ∷ xs) x y here there same once = refl
same-at zero (suc b) (z ∷ xs) x y here there same once =
    let first : z ≡ x = cc in
    let one : one_if (z.place == x.place) ≡ 1 = ap one_if (eq-eqb z.place x.place (ap (λ (i : Instance). i.place) first)) in
    absurd (omega (arith, one, once, rw same at (nth-counted b xs y there)))
same-at (suc a) zero (z ∷ xs) x y here there same once =
    let first : z ≡ y = cc in
    let one : one_if (z.place == x.place) ≡ 1 = ap one_if (eq-eqb z.place x.place (ap (λ (i : Instance). i.place) first ∙ same)) in
    absurd (omega (arith, one, once, nth-counted a xs x here))
same-at (suc a) (suc b) (z ∷ xs) x y here there same once = ap suc (same-at a b xs x y here there same (omega (arith, once)))

module _ (places : Places) (jobs : List JobInstances) (config : Configuration) (c : Chronicle) (key other : InstanceKey) (i : ℕ) (t : There places jobs config c key i) (u : There places jobs config c other i) where
  same-name : t.job.name ≡ u.job.name
  same-name =
      let mine = nth-all (IsKnown t.job.name c) key.at (instances_of t.job.name c) t.its t.in_instances (known-all t.job.name c) in
      let its = nth-all (IsKnown u.job.name c) other.at (instances_of u.job.name c) u.its u.in_instances (known-all u.job.name c) in
      let both : Some (called t.job.name t.its.name) ≡ Some (called u.job.name u.its.name) = sym mine.1 ∙ ap (λ p. made_at p c) (t.place ∙ sym u.place) ∙ its.1 in
      let who : called t.job.name t.its.name ≡ called u.job.name u.its.name = cc in
      ap (λ (w : Who). w.job) who

  same-job : AreDistinct config.jobs → key.job ≡ other.job
  same-job distinct = by_case (key.job == other.job) refl
    where
      by_case : (b : Bool) → (key.job == other.job) ≡ b → key.job ≡ other.job
      by_case true same = eqb-true key.job other.job same
      by_case false differs =
          let apart = distinct-at key.job other.job config.jobs t.job u.job t.in_jobs u.in_jobs (λ same. eqb-false key.job other.job differs same) distinct in
          let same : bytes_eq t.job.name u.job.name ≡ true = ap (bytes_eq t.job.name) (sym same-name) ∙ bytes_refl t.job.name in
          absurd cc

  same-index : key.at ≡ other.at
  same-index =
      let once : count t.its.place (instances_of t.job.name c) ≤ 1 = omega (arith, instances-exist t.its.place t.job.name c, all_instances-once t.its.place c) in
      let its : nth other.at (instances_of t.job.name c) ≡ Some u.its = ap (λ name. nth other.at (instances_of name c)) same-name ∙ u.in_instances in
      same-at key.at other.at (instances_of t.job.name c) t.its u.its t.in_instances its (u.place ∙ sym t.place) once

-- so the end of one wait is that of all
pub unblocked-alone : (past : Past) (config : Configuration) (c : Chronicle) (id : EventId) (e : ℕ) (on : Option InstanceKey) → Forgets past config c → event_place past c id ≡ Some e → IsBlocked id past.instances on
    → unblocked_at id on past.instances ≡ map (unblocked_in id) past.instances
unblocked-alone past config c id e None f found none = sym (jobs-kept id past.instances (λ m n. none (record { job = m; at = n })))
unblocked-alone past config c id e (Some key) f found is = jobs-one id key.job key.at past.instances others
  where
    places : Places
    places = place_of past.events (queue c)

    others : (m n : ℕ) → (m ≡ key.job → n ≡ key.at → ⊥) → is_blocked id (nth n (list_of (nth m past.instances))) ≡ false
    others m n apart = by_case (is_blocked id (nth n (list_of (nth m past.instances)))) refl
      where
        other : InstanceKey
        other = record { job = m; at = n }

        by_case : (b : Bool) → is_blocked id (nth n (list_of (nth m past.instances))) ≡ b → b ≡ false
        by_case false free = refl
        by_case true waits =
            let mine = blocked-by past config c id e (Some key) f found is in
            let its = blocked-by past config c id e (Some other) f found waits in
            let one : its.0 ≡ mine.0 = waits-once its.0 mine.0 c e its.2 mine.2 in
            let u = there places past.instances config c other its.0 f.lives.jobs (place-keyed places past.instances config c other f.lives.jobs ∙ its.1) in
            let t = there places past.instances config c key its.0 f.lives.jobs (place-keyed places past.instances config c key f.lives.jobs ∙ mine.1 ∙ ap Some (sym one)) in
            absurd (apart (same-job places past.instances config c other key its.0 u t f.lives.distinct) (same-index places past.instances config c other key its.0 u t))
