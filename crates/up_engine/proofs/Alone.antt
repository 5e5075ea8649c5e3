-- An effect that concerns one instance: no other may move.
use Rattle.std.proofs.Common.{◌≡◌, ℕ, zero, suc, ◌==◌, Bool, true, false, not, List, [], ◌∷◌, ◌++◌, length, Option, None, Some, is_some, slice_get, bytes_eq, option_map, if◌then◌else◌, refl, sym, ◌∙◌, ap, subst, arith, ne_eqb}
use Rattle.std.specs.Prelude.{option_and_then}
use Rattle.std.specs.List.{AllByRecursion}
use Rattle.up_conf.specs.declared.job.JobDef.{JobDef}
use Rattle.up_job.specs.Lists.{nth}
use Rattle.up_job.specs.declared.instance_key.InstanceKey.{InstanceKey}
use Rattle.up_stanza.specs.declared.process.Process.{Process}
use Rattle.up_stanza.specs.declared.process.Process.TheVariants as process
use Rattle.up_model.specs.declared.failure.End.{End}
use Rattle.up_model.specs.declared.failure.Failure.{Failure}
use Rattle.up_model.specs.declared.failure.Verdict.{Verdict}
use Rattle.up_model.specs.declared.failure.Verdict.TheVariants as verdict
use Rattle.up_model.specs.declared.input.Input.{Input}
use Rattle.up_model.specs.declared.input.Input.TheVariants as input
use Rattle.up_model.specs.declared.state.Goal.TheVariants.{Stop}
use Rattle.up_model.specs.declared.who.Who.{Who}
use Rattle.up_model.specs.Chronicle.{Chronicle, Entry, Given, Aimed, Failed}
use Rattle.up_model.specs.Configuration.{Configuration}
use Rattle.up_model.specs.declared.event_id.EventId.{EventId}
use Rattle.up_model.specs.Due.{due, end_of, effect}
use Rattle.up_model.specs.Instances.{Instance, instances_of, instance_named}
use Rattle.up_model.specs.Judgement.{end_itself, keep_failure, fail, carry_out, verdict_on_end}
use Rattle.up_model.specs.Life.{Wait, ForStart, ForEvent, ForAnswer, ForProcess, ForChange, ForMain, wait_in}
use Rattle.up_model.specs.Moves.{is_over, may_leave, move}
use Rattle.up_model.specs.Offers.{offering}
use Rattle.up_model.specs.Predicates.{is_start, entries_if}
use Rattle.up_model.specs.Readings.{goal, state_of, holders, failure, made_at, speaks_of, is_awaited, pid_of}
use Rattle.up_model.specs.Replies.{releasing}
use Rattle.up_model.specs.Values.{Bytes}
use Rattle.up_model.proofs.NameLaws.{AreSingle, Singles}
use Rattle.up_model.proofs.Places.{count}
use Rattle.up_model.proofs.ReplyLaws.{releasing-all}
use Rattle.up_model.proofs.Sparing.{same-append, all-append, all-if}
use Rattle.up_book.specs.Keeps.{AreDistinct}
use Rattle.up_book.specs.Keys.{job_at, instance_at, instance_place}
use Rattle.up_ledger.proofs.Answering.{Names, speaks-not}
use Rattle.up_book.proofs.Keyed.{nth-get, job-there}
use Rattle.up_book.proofs.One.{IsKnown, known-all, called, none-of-others, nth-all, nth-apart, apart-back}
use Rattle.up_engine.specs.Effects.{IsAlone, Concerns, concern_of}
use Rattle.up_cascade.specs.Settling.{settle_one, settle_each, settle_all}
use Rattle.up_cascade.proofs.Effects.{stay-entries}
use Rattle.up_cascade.proofs.Firing.{stay-still}
use Rattle.up_cascade.proofs.Hearing.{none-moves, settle-lists, each-still, each-append, stay-rest, all-front, all-back}
use Rattle.up_cascade.proofs.Moving.{StayIn, Stay}
use Rattle.up_cascade.proofs.Opening.{About, offering-same}
use Rattle.up_cascade.proofs.Positions.{same-instance}
use Rattle.up_cascade.proofs.Settled.{StandsStill, still-instances}
use Rattle.up_cascade.proofs.Resting.{Rest, RestAll, once, move-about, lists-kept, without-one}

-- an instance in a list
record Among (at : ℕ) (its : List Instance) (x : Instance) : Type 0 where
  pub front : List Instance
  pub back : List Instance
  pub list : its ≡ front ++ x ∷ back

among : (at : ℕ) (its : List Instance) (x : Instance) → nth at its ≡ Some x → Among at its x
among at [] x there = absurd cc
among zero (y ∷ its) x there = record { front = []; back = its; list = cc }
among (suc at) (y ∷ its) x there =
    let rest = among at its x there in
    record { front = y ∷ rest.front; back = rest.back; list = ap (λ xs. y ∷ xs) rest.list }

-- the moves of one instance leave the others where they are
stay-one : (n : ℕ) (jobs : List JobDef) (job : JobDef) (x : Instance) (c : Chronicle) → Stay x.place jobs c → Stay x.place jobs (settle_one n job x c)
stay-one zero jobs job x c stay = stay
stay-one (suc n) jobs job x c stay = by_case (may_leave job x.place c) (stay-one n jobs job x (move job x c ++ c) (stay-entries x.place jobs (move job x c) c (move-about job x c) stay))
  where
    by_case : (b : Bool) → Stay x.place jobs (settle_one n job x (move job x c ++ c)) → Stay x.place jobs (if b then settle_one n job x (move job x c ++ c) else c)
    by_case true moved = moved
    by_case false moved = stay

-- so if no other may move, all have settled when it has
rests-all : (jobs : List JobDef) (c : Chronicle) → RestAll jobs c → settle_all jobs c ≡ c
rests-all [] c rest = refl
rests-all (job ∷ jobs) c rest = ap (settle_all jobs) (each-still (instances_of job.name c) c rest.0) ∙ rests-all jobs c rest.1

-- nor does any move if none but a new one might
rest-in : (job : Bytes) (its : List Instance) (c : Chronicle) → AllByRecursion (IsKnown job c) its → StayIn (length c) its c → Rest its c
rest-in job [] c known all = tt
rest-in job (x ∷ its) c known all = (all.0 (ne_eqb x.place (length c) (λ same. omega (arith, known.0.0))), rest-in job its c known.1 all.1)

rest-jobs : (jobs : List JobDef) (c : Chronicle) → Stay (length c) jobs c → RestAll jobs c
rest-jobs [] c stay = tt
rest-jobs (job ∷ jobs) c stay = (rest-in job.name (instances_of job.name c) c (known-all job.name c) stay.0, rest-jobs jobs c stay.1)

pub still-settles : (jobs : List JobDef) (c : Chronicle) → Stay (length c) jobs c → settle_all jobs c ≡ c
still-settles jobs c stay = rests-all jobs c (rest-jobs jobs c stay)

others-rest : (jobs : List JobDef) (its : JobDef) (x : Instance) (c d : Chronicle) → AllByRecursion (λ other. bytes_eq other.name its.name ≡ false) jobs → made_at x.place c ≡ Some (called its.name x.name)
    → ((job : JobDef) → bytes_eq job.name its.name ≡ false → instances_of job.name d ≡ instances_of job.name c) → Stay x.place jobs d → RestAll jobs d
others-rest [] its x c d apart made same stay = tt
others-rest (job ∷ jobs) its x c d apart made same stay =
    let none : count x.place (instances_of job.name d) ≡ 0 =
    ap (count x.place) (same job apart.0) ∙ none-of-others job.name c x.place (called its.name x.name) (instances_of job.name c) (known-all job.name c) made apart.0 in
    (stay-rest x.place (instances_of job.name d) d stay.0 none, others-rest jobs its x c d apart.1 made same stay.1)

-- in its own job's list
own-settles : (job : JobDef) (at : ℕ) (x : Instance) (c : Chronicle) → nth at (instances_of job.name c) ≡ Some x → StayIn x.place (instances_of job.name c) c
    → StayIn x.place (instances_of job.name (settle_one 5 x.file x c)) (settle_one 5 x.file x c) → settle_each (instances_of job.name c) c ≡ settle_one 5 x.file x c
own-settles job at x c there stay after =
    let its = among at (instances_of job.name c) x there in
    let front = its.front in
    let back = its.back in
    let f = settle_one 5 x.file x c in
    let apart = once job.name c front back x its.list in
    let stay_front : StayIn x.place front c = all-front (λ y. (y.place == x.place) ≡ false → may_leave y.file y.place c ≡ false) front (x ∷ back) (subst (λ xs. StayIn x.place xs c) its.list stay) in
    let rest_front : Rest front c = stay-rest x.place front c stay_front apart.before in
    let lists = settle-lists 5 x.file x c in
    let stay_back : StayIn x.place back f = by_lists lists.stays front back its.list lists.lists in
    let rest_back : Rest back f = stay-rest x.place back f stay_back apart.after in
    ap (λ xs. settle_each xs c) its.list ∙ each-append front (x ∷ back) c ∙ ap (λ g. settle_each back (settle_one 5 x.file x g)) (each-still front c rest_front) ∙ each-still back f rest_back
  where
    by_lists : (b : Bool) (front back : List Instance) → instances_of job.name c ≡ front ++ x ∷ back → Rattle.up_cascade.specs.Settling.ListsAfter b x c (settle_one 5 x.file x c) → StayIn x.place back (settle_one 5 x.file x c)
    by_lists true front back list lists =
        (all-back (λ y. (y.place == x.place) ≡ false → may_leave y.file y.place (settle_one 5 x.file x c) ≡ false) front (x ∷ back) (subst (λ xs. StayIn x.place xs (settle_one 5 x.file x c)) (lists job.name ∙ list) after)).1
    by_lists false front back list lists =
        all-back (λ y. (y.place == x.place) ≡ false → may_leave y.file y.place (settle_one 5 x.file x c) ≡ false) front back (subst (λ xs. StayIn x.place xs (settle_one 5 x.file x c)) (lists job.name ∙ without-one job.name c front back x list) after)

pub one-settles : (jobs : List JobDef) (n at : ℕ) (job : JobDef) (x : Instance) (c : Chronicle) → nth n jobs ≡ Some job → nth at (instances_of job.name c) ≡ Some x → AreDistinct jobs → Stay x.place jobs c
    → settle_all jobs c ≡ settle_one 5 x.file x c
one-settles [] n at job x c there here distinct stay = absurd cc
one-settles (first ∷ jobs) zero at job x c there here distinct stay =
    let same : first ≡ job = cc in
    let f = settle_one 5 x.file x c in
    let its = nth-all (IsKnown job.name c) at (instances_of job.name c) x here (known-all job.name c) in
    let apart : AllByRecursion (λ other. bytes_eq other.name job.name ≡ false) jobs = subst (λ (j : JobDef). AllByRecursion (λ other. bytes_eq other.name j.name ≡ false) jobs) same distinct.0 in
    let after = stay-one 5 (first ∷ jobs) x.file x c stay in
    let own : settle_each (instances_of job.name c) c ≡ f =
    own-settles job at x c here (subst (λ (j : JobDef). StayIn x.place (instances_of j.name c) c) same stay.0) (subst (λ (j : JobDef). StayIn x.place (instances_of j.name f) f) same after.0) in
    let lists = settle-lists 5 x.file x c in
    let others : (other : JobDef) → bytes_eq other.name job.name ≡ false → instances_of other.name f ≡ instances_of other.name c =
    λ other differs. lists-kept lists.stays x c f lists.lists other.name (none-of-others other.name c x.place (called job.name x.name) (instances_of other.name c) (known-all other.name c) its.1 differs) in
    ap (λ (j : JobDef). settle_all jobs (settle_each (instances_of j.name c) c)) same ∙ ap (settle_all jobs) own ∙ rests-all jobs f (others-rest jobs job x c f apart its.1 others after.1)
one-settles (first ∷ jobs) (suc n) at job x c there here distinct stay =
    let its = nth-all (IsKnown job.name c) at (instances_of job.name c) x here (known-all job.name c) in
    let apart : bytes_eq first.name job.name ≡ false = apart-back job.name first.name (nth-apart n jobs job first there distinct.0) in
    let none = none-of-others first.name c x.place (called job.name x.name) (instances_of first.name c) (known-all first.name c) its.1 apart in
    ap (settle_all jobs) (each-still (instances_of first.name c) c (stay-rest x.place (instances_of first.name c) c stay.0 none)) ∙ one-settles jobs n at job x c there here distinct.1 stay.1

-- the answer for a process, or its end, speaks of one instance
abbrev Unspoken : Who → Chronicle → Instance → Type 0
Unspoken who c y = (its p : Process) → speaks_of (made_at y.place c) p who its ≡ false

awaited-given : (given : Input) (who : Who) (p : Process) (y : Instance) (c : Chronicle) → Names given who → Unspoken who c y → is_awaited y.place p (Given given ∷ c) ≡ is_awaited y.place p c
awaited-given (input.Spawned named its pid) who p y c is none = rw (ap (λ w. speaks_of (made_at y.place c) p w its) is ∙ none its p) refl
awaited-given (input.Refused named its) who p y c is none = rw (ap (λ w. speaks_of (made_at y.place c) p w its) is ∙ none its p) refl
awaited-given (input.Ended named its how) who p y c is none = refl
awaited-given given who p y c is none = absurd is

pid-given : (given : Input) (who : Who) (p : Process) (y : Instance) (c : Chronicle) → Names given who → Unspoken who c y → pid_of y.place p (Given given ∷ c) ≡ pid_of y.place p c
pid-given (input.Spawned named its pid) who p y c is none = rw (ap (λ w. speaks_of (made_at y.place c) p w its) is ∙ none its p) refl
pid-given (input.Refused named its) who p y c is none = refl
pid-given (input.Ended named its how) who p y c is none = rw (ap (λ w. speaks_of (made_at y.place c) p w its) is ∙ none its p) refl
pid-given given who p y c is none = absurd is

over-given : (job : JobDef) (given : Input) (who : Who) (y : Instance) (wait : Wait) (c : Chronicle) → Names given who → Unspoken who c y → is_over job y.place wait (Given given ∷ c) ≡ is_over job y.place wait c
over-given job given who y ForStart c is none = refl
over-given job given who y ForEvent c is none = refl
over-given job given who y (ForAnswer its) c is none = rw (awaited-given given who its y c is none) refl
over-given job given who y (ForProcess its) c is none = rw (awaited-given given who its y c is none, pid-given given who its y c is none) refl
over-given job given who y ForChange c is none = rw (pid-given given who process.Main y c is none) refl
over-given job given who y ForMain c is none = rw (pid-given given who process.Main y c is none) refl

stayin-given : (job : Bytes) (given : Input) (who : Who) (i : ℕ) (its : List Instance) (c : Chronicle) → Names given who → instance_named who c ≡ Some i → AllByRecursion (IsKnown job c) its → AreSingle (instances_of job c) its
    → StayIn i its c → StayIn i its (Given given ∷ c)
stayin-given job given who i [] c is named known single stay = tt
stayin-given job given who i (y ∷ its) c is named known single stay =
    ((λ apart. over-given y.file given who y (wait_in (state_of y.place c)) c is (speaks-not job who i c y named known.0 single.0 apart) ∙ stay.0 apart), stayin-given job given who i its c is named known.1 single.1 stay.1)

stay-given : (jobs : List JobDef) (given : Input) (who : Who) (i : ℕ) (c : Chronicle) → Names given who → instance_named who c ≡ Some i → Singles c → Stay i jobs c → Stay i jobs (Given given ∷ c)
stay-given [] given who i c is named singles stay = tt
stay-given (job ∷ jobs) given who i c is named singles stay =
    (stayin-given job.name given who i (instances_of job.name c) c is named (known-all job.name c) (singles job.name) stay.0, stay-given jobs given who i c is named singles stay.1)

-- and so does what is judged of it, by which no instance comes or goes
abbrev pub Own : ℕ → Entry → Type 0
Own i e = About i e × StandsStill e

ended-own : (i : ℕ) (c : Chronicle) → AllByRecursion (Own i) (end_itself i c)
ended-own i c = all-if (Own i) (is_start (goal i c)) (Aimed i Stop [] (holders i c) ∷ []) ((refl, tt), tt)

fail-own : (i : ℕ) (its : Failure) (c : Chronicle) → AllByRecursion (Own i) (fail i its c)
fail-own i its c =
    all-append (Own i) (entries_if (not (is_some (failure i c))) (keep_failure i its (end_itself i c ++ c))) (end_itself i c)
    (all-if (Own i) (not (is_some (failure i c))) (keep_failure i its (end_itself i c ++ c))
    (all-append (Own i) (releasing i true (Failed i its ∷ end_itself i c ++ c)) (Failed i its ∷ []) (releasing-all (Own i) (λ request answer. (tt, tt)) i true (tt, tt) (Failed i its ∷ end_itself i c ++ c)) ((refl, tt), tt)))
    (ended-own i c)

carry_out-own : (i : ℕ) (its : Verdict) (c : Chronicle) → AllByRecursion (Own i) (carry_out i its c)
carry_out-own i verdict.Note c = tt
carry_out-own i verdict.Respawn c = ((refl, tt), tt)
carry_out-own i verdict.Stop c = ended-own i c
carry_out-own i (verdict.Fail its) c = fail-own i its c

pub end_of-own : (job : Option JobDef) (o : Option ℕ) (i : ℕ) (its : Process) (end : End) (c : Chronicle) → o ≡ Some i → AllByRecursion (Own i) (end_of job o its end c)
end_of-own None o i its end c is = tt
end_of-own (Some job) None i its end c is = tt
end_of-own (Some job) (Some j) i its end c is =
    let same : j ≡ i = cc in
    subst (λ k. AllByRecursion (Own k) (carry_out j (verdict_on_end job j its end c) c)) same (carry_out-own j (verdict_on_end job j its end c) c)

own-about : (i : ℕ) (es : List Entry) → AllByRecursion (Own i) es → AllByRecursion (About i) es
own-about i [] all = tt
own-about i (e ∷ es) all = (all.0.0, own-about i es all.1)

own-still : (i : ℕ) (es : List Entry) → AllByRecursion (Own i) es → AllByRecursion StandsStill es
own-still i [] all = tt
own-still i (e ∷ es) all = (all.0.1, own-still i es all.1)

-- the instance that a key stands for
pub record Here (config : Configuration) (c : Chronicle) (key : InstanceKey) (i : ℕ) : Type 0 where
  pub job : JobDef
  pub its : Instance
  pub in_table : job_at config key.job ≡ Some job
  pub there : instance_at config c key ≡ Some its
  pub listed : nth key.at (instances_of job.name c) ≡ Some its
  pub place : its.place ≡ i

pub here : (config : Configuration) (c : Chronicle) (key : InstanceKey) (i : ℕ) → instance_place config c key ≡ Some i → Here config c key i
here config c key i found = by_job (job_at config key.job) refl found
  where
    by_list : (job : JobDef) → job_at config key.job ≡ Some job → (o : Option Instance) → slice_get (instances_of job.name c) key.at ≡ o → option_map (λ (its : Instance). its.place) o ≡ Some i → Here config c key i
    by_list job in_table None list found = absurd cc
    by_list job in_table (Some its) list found = record {
      job = job;
      its = its;
      in_table = in_table;
      there = ap (λ (o : Option JobDef). option_and_then (λ (name : Bytes). slice_get (instances_of name c) key.at) (option_map (λ (j : JobDef). j.name) o)) in_table ∙ list;
      listed = nth-get key.at (instances_of job.name c) ∙ list;
      place = cc;
    }

    by_job : (o : Option JobDef) → job_at config key.job ≡ o → option_map (λ (its : Instance). its.place) (option_and_then (λ (name : Bytes). slice_get (instances_of name c) key.at) (option_map (λ (j : JobDef). j.name) o)) ≡ Some i
        → Here config c key i
    by_job None is found = absurd cc
    by_job (Some job) is found = by_list job is (slice_get (instances_of job.name c) key.at) refl found

-- an instance alone may move after entries of its own, if it was so before
pub alone-after : (config : Configuration) (c : Chronicle) (key : InstanceKey) (i : ℕ) (es : List Entry) → AreDistinct config.jobs → instance_place config c key ≡ Some i → Stay i config.jobs c → offering c ≡ None → AllByRecursion (Own i) es
    → IsAlone key config (es ++ c)
alone-after config c key i es distinct found stay unasked own =
    let it = here config c key i found in
    let d = es ++ c in
    let still : (name : Bytes) → instances_of name d ≡ instances_of name c = λ name. same-append (instances_of name) StandsStill (still-instances name) es c (own-still i es own) in
    let stays : Stay it.its.place config.jobs d = subst (λ p. Stay p config.jobs d) (sym it.place) (stay-entries i config.jobs es c (own-about i es own) stay) in
    record {
      its = it.its;
      there = same-instance config c d key still ∙ it.there;
      settles = one-settles config.jobs key.job key.at it.job it.its d (job-there config key.job it.job it.in_table) (ap (nth key.at) (still it.job.name) ∙ it.listed) distinct stays;
      unasked = same-append offering (About i) (offering-same i) es c (own-about i es own) ∙ unasked;
    }

-- so after the answer for a process, or its end, the instance alone may move that it speaks of
pub given-alone : (config : Configuration) (given : Input) (who : Who) (c : Chronicle) (key : InstanceKey) (i : ℕ) (es : List Entry) → AreDistinct config.jobs → Singles c → due config c ≡ [] → Names given who → instance_named who c ≡ Some i
    → instance_place config c key ≡ Some i → AllByRecursion (Own i) es → IsAlone key config (es ++ Given given ∷ c)
given-alone config given who c key i es distinct singles none is named found own =
    alone-after config (Given given ∷ c) key i es distinct found (stay-given config.jobs given who i c is named singles (stay-still i config.jobs c (none-moves config c none))) refl own

-- what a key says that was found for a process
spoken : (place o : Option ℕ) → Some place ≡ option_map (λ (i : ℕ). Some i) o → (i : ℕ) × (o ≡ Some i) × (place ≡ Some i)
spoken place None same = absurd cc
spoken place (Some i) same = (i, refl, cc)

pub concerns-alone : (places : Chronicle → EventId → Option ℕ) (config : Configuration) (given : Input) (who : Who) (c : Chronicle) (on : Option InstanceKey) (es : List Entry) → AreDistinct config.jobs → Singles c → Names given who
    → option_map (instance_place config c) on ≡ option_map (λ (i : ℕ). Some i) (instance_named who c) → ((i : ℕ) → instance_named who c ≡ Some i → AllByRecursion (Own i) es) → effect config given c ++ c ≡ es ++ Given given ∷ c
    → offering (effect config given c ++ c) ≡ None → Concerns places (concern_of on) config given c
concerns-alone places config given who c None es distinct singles names found own whole unasked = unasked
concerns-alone places config given who c (Some key) es distinct singles names found own whole unasked =
    let its = spoken (instance_place config c key) (instance_named who c) found in
    λ none. subst (IsAlone key config) (sym whole) (given-alone config given who c key its.0 es distinct singles none names its.1 its.2 (own its.0 its.1))
