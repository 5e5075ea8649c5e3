-- An event that finishes concerns the instance that waited for it alone, or nobody.
use Rattle.std.proofs.Common.{◌≡◌, ℕ, suc, ◌<◌, ◌==◌, ◌&&◌, Bool, true, false, not, List, [], ◌∷◌, ◌++◌, length, Option, None, Some, is_some, slice_get, option_map, if◌then◌else◌, refl, sym, ◌∙◌, ap, subst, arith, append_assoc, eqb-true}
use Rattle.std.specs.Prelude.{option_and_then}
use Rattle.std.specs.List.{AllByRecursion}
use Rattle.std.proofs.lemmas.Bool.{and_parts, eqb-false}
use Rattle.up_conf.specs.declared.job.JobDef.{JobDef}
use Rattle.up_job.specs.Lists.{nth}
use Rattle.up_job.specs.declared.instance_key.InstanceKey.{InstanceKey}
use Rattle.up_model.specs.declared.event.Event.{Event}
use Rattle.up_model.specs.declared.event_id.EventId.{EventId}
use Rattle.up_model.specs.declared.input.Input.TheVariants.{Turn}
use Rattle.up_model.specs.Chronicle.{Chronicle, Entry, Given, Queued, Finished, Entering}
use Rattle.up_model.specs.Configuration.{Configuration}
use Rattle.up_model.specs.Due.{due, telling, failed_event_of, finishing, turn_event, turn_of, effect}
use Rattle.up_model.specs.Held.{is_spoilt}
use Rattle.up_model.specs.Instances.{Instance, instances_of}
use Rattle.up_model.specs.Life.{Wait, ForStart, ForEvent, ForAnswer, ForProcess, ForChange, ForMain, wait_in}
use Rattle.up_model.specs.Moves.{is_over}
use Rattle.up_model.specs.Offers.{offering}
use Rattle.up_model.specs.Queue as queue
use Rattle.up_model.specs.Readings.{state_of, is_blocking, without, blocker}
use Rattle.up_model.specs.Replies.{asked, waiter, answering_waiter}
use Rattle.up_model.specs.Values.{Bytes}
use Rattle.up_model.proofs.ReplyLaws.{answering_waiter-all}
use Rattle.up_model.proofs.Sparing.{same-append, all-append}
use Rattle.up_model.proofs.Waiting.{waits-once}
use Rattle.up_book.specs.Keeps.{AreDistinct}
use Rattle.up_book.specs.Keys.{instance_place}
use Rattle.up_book.specs.Unblocking.{IsBlockedBy}
use Rattle.up_book.proofs.Keyed.{nth-get, job-there}
use Rattle.up_engine.specs.Effects.{IsAlone, Concerns, unblocked_concern}
use Rattle.up_engine.proofs.Alone.{here, one-settles}
use Rattle.up_cascade.proofs.Effects.{none-due, turn-finishes}
use Rattle.up_cascade.proofs.Entries.{finishing_last}
use Rattle.up_cascade.proofs.Firing.{stay-still, still-stay}
use Rattle.up_cascade.proofs.Hearing.{GivesNone, asked-same, none-moves}
use Rattle.up_cascade.proofs.Moving.{StayIn, Stay}
use Rattle.up_cascade.proofs.Positions.{same-instance}
use Rattle.up_engine.proofs.Quiet.{IsQuiet, lists-same, stays-quiet, none-asked}

-- one that doesn't stays where it is
without-other : (e : ℕ) (o : Option ℕ) → (o ≡ Some e → ⊥) → without e o ≡ o
without-other e None free = refl
without-other e (Some other) free = by_case (other == e) refl
  where
    by_case : (b : Bool) → (other == e) ≡ b → (if b then None else Some other) ≡ Some other
    by_case true same = absurd (free (ap Some (eqb-true other e same)))
    by_case false differs = refl

over-finished : (job : JobDef) (q : ℕ) (wait : Wait) (e : ℕ) (c : Chronicle) → (blocker q c ≡ Some e → ⊥) → is_over job q wait (Finished e ∷ c) ≡ is_over job q wait c
over-finished job q ForEvent e c free = ap (λ (o : Option ℕ). not (is_some o)) (without-other e (blocker q c) free)
over-finished job q ForStart e c free = refl
over-finished job q (ForAnswer its) e c free = refl
over-finished job q (ForProcess its) e c free = refl
over-finished job q ForChange e c free = refl
over-finished job q ForMain e c free = refl

stayin-finished : (i e : ℕ) (c : Chronicle) (its : List Instance) → ((at : ℕ) (y : Instance) → nth at its ≡ Some y → (y.place == i) ≡ false → blocker y.place c ≡ Some e → ⊥) → StayIn i its c → StayIn i its (Finished e ∷ c)
stayin-finished i e c [] free stay = tt
stayin-finished i e c (y ∷ its) free stay =
    ((λ apart. over-finished y.file y.place (wait_in (state_of y.place c)) e c (free 0 y refl apart) ∙ stay.0 apart), stayin-finished i e c its (λ at z there. free (suc at) z there) stay.1)

stay-finished : (i e : ℕ) (c : Chronicle) (jobs : List JobDef) → ((n at : ℕ) (job : JobDef) (y : Instance) → nth n jobs ≡ Some job → nth at (instances_of job.name c) ≡ Some y → (y.place == i) ≡ false → blocker y.place c ≡ Some e → ⊥)
    → Stay i jobs c → Stay i jobs (Finished e ∷ c)
stay-finished i e c [] free stay = tt
stay-finished i e c (job ∷ jobs) free stay =
    (stayin-finished i e c (instances_of job.name c) (λ at y there. free 0 at job y refl there) stay.0, stay-finished i e c jobs (λ n at j y listed there. free (suc n) at j y listed there) stay.1)

key-there : (config : Configuration) (c : Chronicle) (n at : ℕ) (job : JobDef) (y : Instance) → nth n config.jobs ≡ Some job → nth at (instances_of job.name c) ≡ Some y
    → instance_place config c (record { job = n; at = at }) ≡ Some y.place
key-there config c n at job y listed there =
    ap (λ (o : Option JobDef). option_map (λ (x : Instance). x.place) (option_and_then (λ (name : Bytes). slice_get (instances_of name c) at) (option_map (λ (j : JobDef). j.name) o))) (sym (nth-get n config.jobs) ∙ listed)
    ∙ ap (option_map (λ (x : Instance). x.place)) (sym (nth-get at (instances_of job.name c)) ∙ there)

-- what is told when an event has finished
told : (e : ℕ) (d : Chronicle) → List Entry
told e d = telling e (failed_event_of e d) ++ answering_waiter (waiter e d) (is_spoilt e d)

telling-quiet : (e : ℕ) (o : Option Event) → AllByRecursion IsQuiet (telling e o)
telling-quiet e None = tt
telling-quiet e (Some event) = (tt, tt)

told-quiet : (e : ℕ) (d : Chronicle) → AllByRecursion IsQuiet (told e d)
unfolding told
told-quiet e d =
    all-append IsQuiet (telling e (failed_event_of e d)) (answering_waiter (waiter e d) (is_spoilt e d)) (telling-quiet e (failed_event_of e d)) (answering_waiter-all IsQuiet (λ request answer. tt) (waiter e d) (is_spoilt e d))

telling-gives : (e : ℕ) (o : Option Event) → AllByRecursion GivesNone (telling e o)
telling-gives e None = tt
telling-gives e (Some event) = (tt, tt)

told-gives : (e : ℕ) (d : Chronicle) → AllByRecursion GivesNone (told e d)
unfolding told
told-gives e d =
    all-append GivesNone (telling e (failed_event_of e d)) (answering_waiter (waiter e d) (is_spoilt e d)) (telling-gives e (failed_event_of e d)) (answering_waiter-all GivesNone (λ request answer. tt) (waiter e d) (is_spoilt e d))

finishes : (config : Configuration) (c : Chronicle) (e : ℕ) → turn_event config (queue.queue c) c ≡ Some (queue.live_at e true) → effect config Turn c ++ c ≡ told e (Given Turn ∷ c) ++ Finished e ∷ Given Turn ∷ c
unfolding told effect
finishes config c e found =
    let d : Chronicle = Given Turn ∷ c in
    let tells = telling e (failed_event_of e d) in
    let answers = answering_waiter (waiter e d) (is_spoilt e d) in
    ap (λ o. (turn_of o d ++ Given Turn ∷ []) ++ c) found ∙ append_assoc (finishing e d) (Given Turn ∷ []) c ∙ finishing_last tells answers (Finished e) d ∙ sym (append_assoc tells answers (Finished e ∷ d))

-- nobody may move, if nobody waited for it
finished-nobody : (config : Configuration) (c : Chronicle) (e : ℕ) → IsBlockedBy config e (Given Turn ∷ c) None → due config c ≡ [] → offering (told e (Given Turn ∷ c) ++ Finished e ∷ Given Turn ∷ c) ≡ None
    → due config (told e (Given Turn ∷ c) ++ Finished e ∷ Given Turn ∷ c) ≡ []
finished-nobody config c e none rests offers =
    let d : Chronicle = Given Turn ∷ c in
    let f : Chronicle = Finished e ∷ d in
    let w : Chronicle = told e d ++ f in
    let i = length w in
    let before : Stay i config.jobs d = stays-quiet i config.jobs (Given Turn ∷ []) c (tt, tt) (stay-still i config.jobs c (none-moves config c rests)) in
    let after = stay-finished i e d config.jobs (λ n at job y listed there apart waits. none (record { job = n; at = at }) y.place (key-there config d n at job y listed there) waits) before in
    let unasked : asked w ≡ None = same-append asked GivesNone asked-same (told e d) f (told-gives e d) in
    none-due config w (still-stay config.jobs w (stays-quiet i config.jobs (told e d) f (told-quiet e d) after)) offers ∙ none-asked w unasked

-- or the one that did
finished-alone : (config : Configuration) (c : Chronicle) (e i : ℕ) (key : InstanceKey) → AreDistinct config.jobs → instance_place config (Given Turn ∷ c) key ≡ Some i → blocker i (Given Turn ∷ c) ≡ Some e → due config c ≡ []
    → offering (told e (Given Turn ∷ c) ++ Finished e ∷ Given Turn ∷ c) ≡ None → IsAlone key config (told e (Given Turn ∷ c) ++ Finished e ∷ Given Turn ∷ c)
finished-alone config c e i key distinct found waits rests offers =
    let d : Chronicle = Given Turn ∷ c in
    let f : Chronicle = Finished e ∷ d in
    let w : Chronicle = told e d ++ f in
    let it = here config f key i found in
    let before : Stay i config.jobs d = stays-quiet i config.jobs (Given Turn ∷ []) c (tt, tt) (stay-still i config.jobs c (none-moves config c rests)) in
    let after = stay-finished i e d config.jobs (λ n at job y listed there apart its. eqb-false y.place i apart (waits-once y.place i d e its waits)) before in
    let still : (name : Bytes) → instances_of name w ≡ instances_of name f = λ name. same-append (instances_of name) IsQuiet (lists-same name) (told e d) f (told-quiet e d) in
    let stays : Stay it.its.place config.jobs w = subst (λ p. Stay p config.jobs w) (sym it.place) (stays-quiet i config.jobs (told e d) f (told-quiet e d) after) in
    record {
      its = it.its;
      there = same-instance config f w key still ∙ it.there;
      settles = one-settles config.jobs key.job key.at it.job it.its w (job-there config key.job it.job it.in_table) (ap (nth key.at) (still it.job.name) ∙ it.listed) distinct stays;
      unasked = offers;
    }

pub finished-concerns : (places : Chronicle → EventId → Option ℕ) (config : Configuration) (c : Chronicle) (e : ℕ) (on : Option InstanceKey) → AreDistinct config.jobs → IsBlockedBy config e (Given Turn ∷ c) on
    → turn_event config (queue.queue c) c ≡ Some (queue.live_at e true) → Concerns places (unblocked_concern on) config Turn c
finished-concerns places config c e None distinct none found = λ rests.
    let whole = finishes config c e found in
    ap (due config) whole ∙ finished-nobody config c e none rests (ap offering (sym whole) ∙ turn-finishes config c e true found refl)
finished-concerns places config c e (Some key) distinct on found = λ rests.
    let whole = finishes config c e found in
    subst (IsAlone key config) (sym whole) (finished-alone config c e on.0 key distinct on.1 on.2 rests (ap offering (sym whole) ∙ turn-finishes config c e true found refl))
