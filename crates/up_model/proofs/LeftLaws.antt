-- The processes that the instances may still order become fewer by those that they order.
use Rattle.up_model.proofs.Names.{◌≡◌, ℕ, zero, suc, ◌+◌, ◌≤◌, ◌==◌, ◌⊎◌, inl, inr, Bool, true, false, not, List}
use Rattle.up_model.proofs.Names.{[], ◌∷◌, ◌++◌, length, Option, None, Some, is_some, if◌then◌else◌, refl, sym}
use Rattle.up_model.proofs.Names.{◌∙◌, ap, subst, arith, append_assoc, AllByRecursion, JobDef, Process, Main, End}
use Rattle.up_model.proofs.Names.{Failure, Verdict, Input, Answer, Goal, Start, Stop, State, Starting, Stopping}
use Rattle.up_model.proofs.Names.{Who, after, Chronicle, Entry, Given, Queued, Handled, Finished, Made, Aimed}
use Rattle.up_model.proofs.Names.{Released, Failed, Respawned, Entered, Ordered, Signalled, Replied, Loaded}
use Rattle.up_model.proofs.Names.{Outside, Entering, Spoilt, all_overdue, kill, killing, Configuration, end_of}
use Rattle.up_model.proofs.Names.{due, effect, own_file, names_in_order, instance_named, all_instances}
use Rattle.up_model.proofs.Names.{verdict_on_end, end_itself, keep_failure, fail, carry_out, left_in, left_at}
use Rattle.up_model.proofs.Names.{left_among, left, in_force, loading, move_first, offering, offer_next, is_start}
use Rattle.up_model.proofs.Names.{entries_if, or_else, made_at, file_of, goal, state_of, blocker, failure, holders}
use Rattle.up_model.proofs.Names.{pid_of, releasing, unanswered, answering_last, Bindings, work, settle}
use Rattle.up_stanza.specs.declared.action.Action.{Action}
use Rattle.up_model.specs.declared.failure.End.TheVariants as end
use Rattle.up_model.specs.declared.failure.Verdict.TheVariants as verdict
use Rattle.up_model.specs.declared.input.Input.TheVariants as input
use Rattle.up_model.specs.declared.output.Output.{Output}
use Rattle.up_model.specs.declared.output.Output.TheVariants as output
use Rattle.up_model.specs.Left.{is_calm, spawns, Spends}
use Rattle.up_model.specs.Outputs.{order_for, order_by, order_of, signal_of, reply_of, outputs_of}
use Rattle.up_model.specs.Readings.{id_at, process_env}
use Rattle.up_model.proofs.EffectLaws.{loading-all}
use Rattle.up_model.proofs.LeftSums.{among-no_more}
use Rattle.up_model.proofs.ReplyLaws.{releasing-all, answering_hurried-all}
use Rattle.up_model.proofs.Sparing.{same-append, all-append, all-if, all-weaker, spared-offerings}
use Rattle.up_model.proofs.WorkLaws.{IsAbout, due-about}
use Rattle.up_model.proofs.LeftMoves.{ordered, ordered-append, OrdersNone, none-ordered, Spent, none-spent}
use Rattle.up_model.proofs.LeftMoves.{or_else-spends, move_first-spends}

-- an entry of the effect of an input that is no turn and no request, or of an answer
abbrev IsCalm : Entry → Type 0
IsCalm (Given given) = Unit {0}
IsCalm (Queued (Outside given) event) = Unit {0}
IsCalm (Aimed instance Stop environment its) = Unit {0}
IsCalm (Released instance failed) = Unit {0}
IsCalm (Failed instance failure) = Unit {0}
IsCalm (Respawned instance moment) = Unit {0}
IsCalm (Signalled instance signal by_timer) = Unit {0}
IsCalm (Replied request answer) = Unit {0}
IsCalm (Loaded jobs) = Unit {0}
IsCalm e = ⊥

calm-none : (e : Entry) → IsCalm e → OrdersNone e
calm-none (Ordered instance its) calm = absurd calm
calm-none e calm = tt

-- under goal stop an instance can order no more than under another
stop-fewer : (aim : Goal) (state : State) (blocked : Bool) → left_in Stop state blocked ≤ left_in aim state blocked
stop-fewer Start Starting blocked = omega arith
stop-fewer Start Stopping blocked = omega arith
stop-fewer Start state blocked = omega arith
stop-fewer Stop state blocked = omega arith

-- such an entry lets no instance order more
calm-left : (p : ℕ) (e : Entry) (c : Chronicle) → IsCalm e → left_at p (e ∷ c) ≤ left_at p c
calm-left p (Queued (Entering instance entered) event) c calm = absurd calm
calm-left p (Finished event) c calm = absurd calm
calm-left p (Entered instance entered) c calm = absurd calm
calm-left p (Aimed instance Start environment its) c calm = absurd calm
calm-left p (Aimed instance Stop environment its) c calm = by_case (instance == p)
  where
    by_case : (b : Bool) → left_in (if b then Stop else goal p c) (state_of p c) (is_some (blocker p c)) ≤ left_at p c
    by_case true = stop-fewer (goal p c) (state_of p c) (is_some (blocker p c))
    by_case false = omega arith
calm-left p e c calm = omega arith

calm-lefts : (p : ℕ) (es c : List Entry) → AllByRecursion IsCalm es → left_at p (es ++ c) ≤ left_at p c
calm-lefts p [] c calm = omega arith
calm-lefts p (e ∷ es) c calm = omega (arith, calm-left p e (es ++ c) calm.0, calm-lefts p es c calm.1)

-- it brings none and takes none away
calm-all_instances : (e : Entry) (c : Chronicle) → IsCalm e → all_instances (e ∷ c) ≡ all_instances c
calm-all_instances (Made file name) c calm = absurd calm
calm-all_instances (Entered instance entered) c calm = absurd calm
calm-all_instances e c calm = refl

-- and no event is offered by it
calm-offering : (e : Entry) (c : Chronicle) → IsCalm e → offering c ≡ None → offering (e ∷ c) ≡ None
calm-offering (Handled event) c calm none = absurd calm
calm-offering (Given given) c calm none = refl
calm-offering e c calm none = none

calm-offerings : (es c : List Entry) → AllByRecursion IsCalm es → offering c ≡ None → offering (es ++ c) ≡ None
calm-offerings [] c calm none = none
calm-offerings (e ∷ es) c calm none = calm-offering e (es ++ c) calm.0 (calm-offerings es c calm.1 none)

calm-spends : (es c : List Entry) → AllByRecursion IsCalm es → Spent c es
unfolding left
calm-spends es c calm =
    let same : left_among (all_instances (es ++ c)) (es ++ c) ≡ left_among (all_instances c) (es ++ c) = ap (λ xs. left_among xs (es ++ c)) (same-append all_instances IsCalm calm-all_instances es c calm) in
    omega (arith, same, among-no_more c (es ++ c) (all_instances c) (λ q. calm-lefts q es c calm), none-ordered es (all-weaker IsCalm OrdersNone calm-none es calm))

-- what is due where no event is offered
offer-spends : (config : Configuration) (o : Option ℕ) (c : Chronicle) → o ≡ None → Spent c (offer_next config o c)
offer-spends config None c none = none-spent c
offer-spends config (Some event) c none = absurd cc

due-spends : (config : Configuration) (c : Chronicle) → offering c ≡ None → Spent c (due config c)
unfolding due
due-spends config c none =
    or_else-spends c (move_first (names_in_order config c) c) (or_else (offer_next config (offering c) c) (answering_last c)) (move_first-spends (names_in_order config c) c)
    (or_else-spends c (offer_next config (offering c) c) (answering_last c) (offer-spends config (offering c) c none)
    (calm-spends (answering_last c) c (answering_hurried-all IsCalm (λ request answer. tt) (unanswered c) c)))

due-offering : (config : Configuration) (c : Chronicle) → offering c ≡ None → offering (due config c ++ c) ≡ None
due-offering config c none = by_case (due config c) (due-about config c)
  where
    by_case : (es : List Entry) → (es ≡ []) ⊎ IsAbout es → offering (es ++ c) ≡ None
    by_case es (inl nothing) = ap (λ fs. offering (fs ++ c)) nothing ∙ none
    by_case es (inr about) = spared-offerings about.whose about.place es c about.of ∙ none

-- outputs order no more than the entries
pub spawns-append : (xs ys : List Output) → spawns (xs ++ ys) ≡ spawns xs + spawns ys
spawns-append [] ys = omega arith
spawns-append (output.Spawn order ∷ xs) ys = omega (arith, spawns-append xs ys)
spawns-append (x ∷ xs) ys = spawns-append xs ys

for-few : (job : JobDef) (who : Who) (its : Process) (o : Option Action) (environment : Bindings) → spawns (order_for job who its o environment) ≤ 1
for-few job who its None environment = omega arith
for-few job who its (Some action) environment = omega arith

order-few : (file : Option JobDef) (o : Option Who) (its : Process) (environment : Bindings) → spawns (order_by file o its environment) ≤ 1
order-few None o its environment = omega arith
order-few (Some job) None its environment = omega arith
order-few (Some job) (Some who) its environment = for-few job who its _ environment

signal-none : (o : Option Who) (signal : ℕ) (pid : Option ℕ) → spawns (signal_of o signal pid) ≡ 0
signal-none None signal pid = refl
signal-none (Some who) signal None = refl
signal-none (Some who) signal (Some pid) = refl

reply-none : (o : Option ℕ) (answer : Answer) → spawns (reply_of o answer) ≡ 0
reply-none None answer = refl
reply-none (Some id) answer = refl

output-few : (config : Configuration) (e : Entry) (c : Chronicle) → spawns (outputs_of (e ∷ c)) ≤ spawns (outputs_of c) + ordered (e ∷ [])
unfolding outputs_of
output-few config (Given given) c = omega arith
output-few config (Ordered instance its) c =
    omega (arith, spawns-append (outputs_of c) (order_of instance its c), order-few (file_of instance c) (made_at instance c) its (process_env instance its c))
output-few config (Signalled instance signal by_timer) c =
    omega (arith, spawns-append (outputs_of c) (signal_of (made_at instance c) signal (pid_of instance Main c)), signal-none (made_at instance c) signal (pid_of instance Main c))
output-few config (Queued (Entering instance entered) event) c = omega (arith, spawns-append (outputs_of c) (output.Emitted event ∷ []))
output-few config (Queued (Spoilt spoilt) event) c = omega (arith, spawns-append (outputs_of c) (output.Emitted event ∷ []))
output-few config (Replied request answer) c =
    omega (arith, spawns-append (outputs_of c) (reply_of (id_at request c) answer), reply-none (id_at request c) answer)
output-few config e c = omega arith

outputs-few : (config : Configuration) (es c : List Entry) → spawns (outputs_of (es ++ c)) ≤ spawns (outputs_of c) + ordered es
outputs-few config [] c = omega arith
outputs-few config (e ∷ es) c = omega (arith, output-few config e (es ++ c), outputs-few config es c, ordered-append (e ∷ []) es)

-- so what is due leaves fewer, by what it orders
settle-spends : (n : ℕ) (config : Configuration) (c : Chronicle) → offering c ≡ None
    → left (settle n config c) + spawns (outputs_of (settle n config c)) ≤ left c + spawns (outputs_of c)
unfolding settle
settle-spends zero config c none = omega arith
settle-spends (suc n) config c none =
    let rest = settle-spends n config (due config c ++ c) (due-offering config c none) in
    omega (arith, rest, due-spends config c none, outputs-few config (due config c) c)

-- what an end does
end_itself-calm : (p : ℕ) (c : Chronicle) → AllByRecursion IsCalm (end_itself p c)
end_itself-calm p c = all-if IsCalm (is_start (goal p c)) (Aimed p Stop [] (holders p c) ∷ []) (tt, tt)

keep_failure-calm : (p : ℕ) (its : Failure) (c : Chronicle) → AllByRecursion IsCalm (keep_failure p its c)
keep_failure-calm p its c =
    all-append IsCalm (releasing p true (Failed p its ∷ c)) (Failed p its ∷ []) (releasing-all IsCalm (λ request answer. tt) p true tt (Failed p its ∷ c)) (tt, tt)

fail-calm : (p : ℕ) (its : Failure) (c : Chronicle) → AllByRecursion IsCalm (fail p its c)
fail-calm p its c =
    all-append IsCalm (entries_if (not (is_some (failure p c))) (keep_failure p its (end_itself p c ++ c))) (end_itself p c)
    (all-if IsCalm (not (is_some (failure p c))) (keep_failure p its (end_itself p c ++ c)) (keep_failure-calm p its (end_itself p c ++ c))) (end_itself-calm p c)

carry_out-calm : (p : ℕ) (its : Verdict) (c : Chronicle) → AllByRecursion IsCalm (carry_out p its c)
carry_out-calm p verdict.Note c = tt
carry_out-calm p verdict.Respawn c = (tt, tt)
carry_out-calm p verdict.Stop c = end_itself-calm p c
carry_out-calm p (verdict.Fail its) c = fail-calm p its c

end_of-calm : (its_job : Option JobDef) (o : Option ℕ) (its : Process) (how : End) (c : Chronicle) → AllByRecursion IsCalm (end_of its_job o its how c)
end_of-calm None o its how c = tt
end_of-calm (Some job) None its how c = tt
end_of-calm (Some job) (Some p) its how c = carry_out-calm p (verdict_on_end job p its how c) c

killing-calm : (places : List ℕ) → AllByRecursion IsCalm (killing places)
killing-calm [] = tt
killing-calm (place ∷ places) = all-append IsCalm (killing places) (Signalled place kill true ∷ []) (killing-calm places) (tt, tt)

-- a step begins: no event is offered, no more can be ordered, and nothing was yet
record Begins (config : Configuration) (c d : Chronicle) : Type 0 where
  none : offering d ≡ None
  few : left d + spawns (outputs_of d) ≤ left c

given-none : (config : Configuration) (given : Input) (c : Chronicle) → spawns (outputs_of (Given given ∷ c)) ≡ 0
unfolding outputs_of
given-none config given c = refl

begins : (config : Configuration) (es : List Entry) (given : Input) (c : Chronicle) → AllByRecursion IsCalm es → Begins config c ((es ++ Given given ∷ []) ++ c)
begins config es given c calm = subst (Begins config c) (sym (append_assoc es (Given given ∷ []) c)) (record {
  none = calm-offerings es d calm refl;
  few = omega (arith, outputs-few config es d, given-none config given c, calm-spends es d calm, calm-spends (Given given ∷ []) c (tt, tt));
})
  where
    d : Chronicle
    d = Given given ∷ c

effect-begins : (config : Configuration) (given : Input) (c : Chronicle) → is_calm given ≡ true → Begins config c (effect config given c ++ c)
unfolding effect
effect-begins config (input.Request id request) c calm = absurd cc
effect-begins config input.Turn c calm = absurd cc
effect-begins config (input.Emit event) c calm = begins config (Queued (Outside _) event ∷ []) (input.Emit event) c (tt, tt)
effect-begins config (input.Spawned who its pid) c calm = begins config [] (input.Spawned who its pid) c tt
effect-begins config (input.Refused who its) c calm =
    begins config _ (input.Refused who its) c (end_of-calm (own_file who (Given (input.Refused who its) ∷ c)) (instance_named who (Given (input.Refused who its) ∷ c)) its end.Refused (Given (input.Refused who its) ∷ c))
effect-begins config (input.Ended who its how) c calm =
    begins config _ (input.Ended who its how) c (end_of-calm (own_file who (Given (input.Ended who its how) ∷ c)) (instance_named who (Given (input.Ended who its how) ∷ c)) its (end.Ended how) (Given (input.Ended who its how) ∷ c))
effect-begins config (input.Clock reading) c calm =
    begins config _ (input.Clock reading) c (killing-calm (all_overdue (names_in_order config c) (Given (input.Clock reading) ∷ c)))
effect-begins config (input.Load id its) c calm =
    begins config (loading (length c) its) (input.Load id its) c (loading-all IsCalm (λ request answer. tt) (λ jobs. tt) (length c) its)

-- by an input that is no turn and no request fewer can be ordered, by those that it orders
pub spends : (config : Configuration) (c : Chronicle) (given : Input) → is_calm given ≡ true → Spends config c given
unfolding after
spends config c given calm =
    let d : Chronicle = effect (in_force config c) given c ++ c in
    let begun = effect-begins (in_force config c) given c calm in
    omega (arith, begun.few, settle-spends (work (in_force config d) d) (in_force config d) d begun.none)
