-- Readings of the clock: KILL by the timer.
use Rattle.up_isolation.proofs.Names.{◌≡◌, ℕ, ◌<◌, inl, inr, Bool, true, false, List, [], ◌∷◌, ◌++◌, is_some}
use Rattle.up_isolation.proofs.Names.{length, if◌then◌else◌, bytes_eq, refl, sym, ◌∙◌, ap, ap₂, subst, arith}
use Rattle.up_isolation.proofs.Names.{append-nil, ◌&&◌, subst₂, append_assoc, AllByRecursion, JobDef, Main, Input}
use Rattle.up_isolation.proofs.Names.{Chronicle, Entry, Given, Signalled, now, all_overdue, kill, killing}
use Rattle.up_isolation.proofs.Names.{milliseconds, Configuration, effect, names_in_order, job_names, Instance}
use Rattle.up_isolation.proofs.Names.{instances_of, entries_if, made_at, made_of, Bytes, bytes_same, same-append}
use Rattle.up_isolation.proofs.Names.{all-append, all-weaker, is_of, jobs_called, Received}
use Rattle.up_model.specs.declared.input.Input.TheVariants as input
use Rattle.up_model.specs.Clock.{kill_due, overdue, has_passed, is_killed}
use Rattle.up_isolation.proofs.Lives.{Life, life}
use Rattle.up_isolation.proofs.Twins.{Twins, At}
use Rattle.up_isolation.proofs.Known.{IsKnown, known}
use Rattle.up_isolation.proofs.Likes.{Twin, Like, only, IsOther, foreign, owns-later}
use Rattle.up_isolation.proofs.Locals.{NotGiven, silent-more}
use Rattle.up_isolation.proofs.Steps.{like_given}
use Rattle.up_isolation.proofs.Offering.{pair-at}
use Rattle.up_isolation.proofs.Ends.{IsMute}
use Rattle.up_isolation.proofs.Acting.{Plain, None'}
use Rattle.up_isolation.proofs.Releases.{entry-append}
use Rattle.up_isolation.proofs.Entries.{pair_signalled}
use Rattle.up_isolation.proofs.Alone.{Effected, Noticed, Base, mutes-view, given-view, mutes-offering, mute-given}

due-same : (def : JobDef) (i j : ℕ) (c d : Chronicle) → life i c ≡ life j d → now c ≡ now d
    → kill_due def i c ≡ kill_due def j d
due-same def i j c d same today =
    ap₂ (λ (l : Life) n. (is_killed l.state && is_some (l.pid Main)) && has_passed l.kill n
    (milliseconds def.kill_timeout)) same today

killing-append : (is js : List ℕ) → killing (is ++ js) ≡ killing js ++ killing is
killing-append [] js = sym (append-nil (killing js))
killing-append (i ∷ is) js = ap (λ (es : List Entry). es ++ Signalled i kill true ∷ []) (killing-append is js)
    ∙ append_assoc (killing js) (killing is) (Signalled i kill true ∷ [])

kill-one : (i : ℕ) (is : List ℕ) (b : Bool) (c : Chronicle)
    → killing (entries_if b (i ∷ []) ++ is) ++ c
    ≡ killing is ++ (entries_if b (Signalled i kill true ∷ []) ++ c)
kill-one i is true c = append_assoc (killing is) (Signalled i kill true ∷ []) c
kill-one i is false c = refl

-- of the job's instances, after what was done to those before
kill-own : (job : Bytes) (config : Configuration) (c d later after : Chronicle)
    (xs ys : List Instance) → now c ≡ now d → Twins (Twin job config c d) xs ys
    → ((x y : Instance) → At x y xs ys → At x y (instances_of job later) (instances_of job after))
    → Like job config later after
    → Like job config (killing (overdue xs c) ++ later) (killing (overdue ys d) ++ after)
kill-own job config c d later after [] [] today twins at like = like
kill-own job config c d later after (x ∷ xs) (y ∷ ys) today twins at like =
    subst₂ (λ (s t : Chronicle). Like job config s t)
    (sym (kill-one x.place (overdue xs c) (kill_due x.file x.place c) later))
    (sym (kill-one y.place (overdue ys d) (kill_due y.file y.place d) after))
    (by_case (kill_due x.file x.place c) (kill_due y.file y.place d)
    (due-same x.file x.place y.place c d twins.0.bond.alike today ∙ ap (λ file. kill_due file y.place d) twins.0.file)
    (λ s t more grown. kill-own job config c d s t xs ys today twins.1
    (λ u v there. more u v (at u v (inr there))) grown))
  where
    by_case : (b a : Bool) → b ≡ a
        → ((s t : Chronicle) → ((u v : Instance) → At u v (instances_of job later) (instances_of job after)
        → At u v (instances_of job s) (instances_of job t)) → Like job config s t
        → Like job config (killing (overdue xs c) ++ s) (killing (overdue ys d) ++ t))
        → Like job config (killing (overdue xs c)
        ++ (entries_if b (Signalled x.place kill true ∷ []) ++ later))
        (killing (overdue ys d) ++ (entries_if a (Signalled y.place kill true ∷ []) ++ after))
    by_case true true same next =
        next (Signalled x.place kill true ∷ later) (Signalled y.place kill true ∷ after) (λ u v there. there)
        (pair_signalled job config later after x y kill true
        (pair-at job config later after x y (at x y (inl (refl, refl))) like)).pair.like
    by_case false false same next = next later after (λ u v there. there) like
    by_case true false same next = absurd (cc)
    by_case false true same next = absurd (cc)
kill-own job config c d later after [] (y ∷ ys) today twins at like = absurd twins
kill-own job config c d later after (x ∷ xs) [] today twins at like = absurd twins

-- of another job's
kill-other : (job : Bytes) (config : Configuration) (c later d : Chronicle)
    (xs : List Instance) → AllByRecursion (λ x. IsOther job x.place later) xs → Like job config later d
    → Like job config (killing (overdue xs c) ++ later) d
kill-other job config c later d [] other like = like
kill-other job config c later d (x ∷ xs) other like =
    subst (λ (s : Chronicle). Like job config s d)
    (sym (kill-one x.place (overdue xs c) (kill_due x.file x.place c) later))
    (by_case (kill_due x.file x.place c) (λ s all grown. kill-other job config c s d xs all grown))
  where
    more : (ys : List Instance) → AllByRecursion (λ y. IsOther job y.place later) ys
        → AllByRecursion (λ y. IsOther job y.place (Signalled x.place kill true ∷ later)) ys
    more [] all = tt
    more (y ∷ ys) all = (
      (
        owns-later job y.place (Signalled x.place kill true) later all.0.1
            ∙ all.0.0,
        omega (arith, all.0.1),
      ),
      more ys all.1,
    )

    by_case : (b : Bool)
        → ((s : Chronicle) → AllByRecursion (λ y. IsOther job y.place s) xs → Like job config s d
        → Like job config (killing (overdue xs c) ++ s) d)
        → Like job config (killing (overdue xs c)
        ++ (entries_if b (Signalled x.place kill true ∷ []) ++ later)) d
    by_case true next = next (Signalled x.place kill true ∷ later) (more xs other.1)
        (foreign job config (Signalled x.place kill true) later d other.0 like)
    by_case false next = next later other.1 like

-- signals leave the instances
abbrev IsSignal : Entry → Type 0
IsSignal (Signalled i signal by_timer) = Unit {0}
IsSignal e = ⊥

are-signals : (is : List ℕ) → AllByRecursion IsSignal (killing is)
are-signals [] = tt
are-signals (i ∷ is) = all-append IsSignal (killing is) (Signalled i kill true ∷ []) (are-signals is) (tt, tt)

signal-instances : (k : Bytes) (e : Entry) (c : Chronicle) → IsSignal e
    → instances_of k (e ∷ c) ≡ instances_of k c
signal-instances k (Signalled i signal by_timer) c is = refl
signal-instances k e c is = absurd is

kills-instances : (k : Bytes) (is : List ℕ) (c : Chronicle)
    → instances_of k (killing is ++ c) ≡ instances_of k c
kills-instances k is c =
    same-append (instances_of k) IsSignal (signal-instances k) (killing is) c (are-signals is)

-- a chronicle in which the instances are those of another
record Later (c later : Chronicle) : Type 0 where
  instances : (k : Bytes) → instances_of k later ≡ instances_of k c
  made : (i : ℕ) → i < length c → (i < length later) × (made_at i later ≡ made_at i c)

later-kills : (is : List ℕ) (c later : Chronicle) → Later c later → Later c (killing is ++ later)
later-kills is c later l = record {
  instances = λ k. kills-instances k is later ∙ l.instances k;
  made = λ i h.
      let one = l.made i h in
      let more = entry-append i (killing is) later one.0 in
      (more.0, ap made_of more.1 ∙ one.1);
}

others-later : (job : Bytes) (name : Bytes) (c later : Chronicle) (xs : List Instance)
    → bytes_eq name job ≡ false → Later c later → AllByRecursion (IsKnown name c) xs
    → AllByRecursion (λ x. IsOther job x.place later) xs
others-later job name c later [] other l known = tt
others-later job name c later (x ∷ xs) other l known =
    let one = l.made x.place known.0.0 in
    ((ap (is_of job) (one.1 ∙ known.0.1) ∙ other, one.0), others-later job name c later xs other l known.1)

-- job by job
kill-all : (job : Bytes) (config : Configuration) (js : List JobDef) (c d later after : Chronicle)
    → Like job config c d → Later c later → Later d after
    → Like job config later after
    → Like job config (killing (all_overdue (job_names js) c) ++ later)
    (killing (all_overdue (job_names (jobs_called job js)) d) ++ after)
kill-all job config [] c d later after base l m like = like
kill-all job config (def ∷ js) c d later after base l m like =
    by_case (bytes_eq def.name job) refl (λ s t grown more like. kill-all job config js c d s t base grown
    more like)
  where
    here : List ℕ
    here = overdue (instances_of def.name c) c

    there : List ℕ
    there = overdue (instances_of def.name d) d

    own : def.name ≡ job → Like job config (killing here ++ later) (killing there ++ after)
    own name =
        subst (λ k. Like job config (killing (overdue (instances_of k c) c) ++ later)
        (killing (overdue (instances_of k d) d) ++ after)) (sym name)
        (kill-own job config c d later after (instances_of job c) (instances_of job d) base.today base.twins
        (λ x y at. subst₂ (λ (xs ys : List Instance). At x y xs ys) (sym (l.instances job))
        (sym (m.instances job)) at) like)

    joined : (is js : List ℕ) (t : Chronicle) → killing (is ++ js) ++ t ≡ killing js ++ (killing is ++ t)
    joined is js t =
        ap (λ (es : List Entry). es ++ t) (killing-append is js) ∙ append_assoc (killing js) (killing is) t

    by_case : (b : Bool) → bytes_eq def.name job ≡ b
        → ((s t : Chronicle) → Later c s → Later d t → Like job config s t
        → Like job config (killing (all_overdue (job_names js) c) ++ s)
        (killing (all_overdue (job_names (jobs_called job js)) d) ++ t))
        → Like job config (killing (here ++ all_overdue (job_names js) c) ++ later)
        (killing (all_overdue (job_names (if b then def ∷ jobs_called job js
        else jobs_called job js)) d) ++ after)
    by_case true is next =
        subst₂ (λ (s t : Chronicle). Like job config s t) (sym (joined here (all_overdue (job_names js) c) later))
        (sym (joined there (all_overdue (job_names (jobs_called job js)) d) after))
        (next (killing here ++ later) (killing there ++ after) (later-kills here c later l)
        (later-kills there d after m) (own (bytes_same def.name job is)))
    by_case false is next =
        subst (λ (s : Chronicle). Like job config s
        (killing (all_overdue (job_names (jobs_called job js)) d) ++ after))
        (sym (joined here (all_overdue (job_names js) c) later))
        (next (killing here ++ later) after (later-kills here c later l) m
        (kill-other job config c later after (instances_of def.name c)
        (others-later job def.name c later (instances_of def.name c) is l (known def.name c)) like))

pub effect-clock : (job : Bytes) (config : Configuration) (reading : ℕ) (c d : Chronicle)
    → Base job config c d → Effected job config c d (effect config (input.Clock reading) c ++ c)
unfolding effect
effect-clock job config reading c d base = rw append_assoc
    (Noticed (Received g) tt (mutes-view job config es (Given g ∷ c) mute ∙ given-view job config g c refl)
    (subst (λ (t : Chronicle). Plain job config (es ++ Given g ∷ c) t)
    (sym (append_assoc fs (Given g ∷ []) d))
    (record {
      like = kill-all job config config.jobs (Given g ∷ c) (Given g ∷ d) (Given g ∷ c) (Given g ∷ d) next
          (record { instances = λ k. refl; made = λ i h. (h, refl) })
          (record { instances = λ k. refl; made = λ i h. (h, refl) }) next;
      offers = None' (mutes-offering es (Given g ∷ c) mute) (mutes-offering fs (Given g ∷ d) mute_there);
      silent = silent-more es (Given g ∷ c) (all-weaker IsMute NotGiven mute-given es mute) refl;
      silent_there = silent-more fs (Given g ∷ d) (all-weaker IsMute NotGiven mute-given fs mute_there) refl;
    })))
  where
    g : Input
    g = input.Clock reading

    next : Like job config (Given g ∷ c) (Given g ∷ d)
    next = like_given job config g c d base.like

    killing-mute : (is : List ℕ) → AllByRecursion IsMute (killing is)
    killing-mute [] = tt
    killing-mute (i ∷ is) =
        all-append IsMute (killing is) (Signalled i kill true ∷ []) (killing-mute is) (tt, tt)

    es : List Entry
    es = killing (all_overdue (names_in_order config c) (Given g ∷ c))

    fs : List Entry
    fs = killing (all_overdue (names_in_order (only job config) d) (Given g ∷ d))

    mute : AllByRecursion IsMute es
    mute = killing-mute (all_overdue (names_in_order config c) (Given g ∷ c))

    mute_there : AllByRecursion IsMute fs
    mute_there = killing-mute (all_overdue (names_in_order (only job config) d) (Given g ∷ d))
