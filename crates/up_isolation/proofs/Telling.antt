-- What a job does in a step is among the outputs of the step.
use Rattle.std.proofs.Common.{◌≡◌, ℕ, zero, suc, ◌⊎◌, inl, inr, Bool, true, false, List, [], ◌∷◌, ◌++◌}
use Rattle.std.proofs.Common.{length, refl, sym, ◌∙◌, ap, subst, append_assoc, append-nil}
use Rattle.std.specs.List.{AllByRecursion}
use Rattle.up_stanza.specs.declared.process.Process.TheVariants.{Main}
use Rattle.up_model.specs.declared.failure.End.TheVariants as end
use Rattle.up_model.specs.declared.input.Input.{Input}
use Rattle.up_model.specs.declared.input.Input.TheVariants as input
use Rattle.up_model.specs.declared.output.Output.{Output}
use Rattle.up_model.specs.declared.output.Output.TheVariants as output
use Rattle.up_model.specs.Answers.{after}
use Rattle.up_model.specs.Chronicle.{Chronicle, Entry, Given, Queued, Handled, Finished, Ordered, Signalled}
use Rattle.up_model.specs.Chronicle.{Replied, Entering, Outside, Spoilt}
use Rattle.up_model.specs.Clock.{all_overdue, kill, killing}
use Rattle.up_model.specs.Commands.{outcome_of, entries_of}
use Rattle.up_model.specs.Configuration.{Configuration}
use Rattle.up_model.specs.Due.{due, effect, turn_event, turn_of, finishing, telling, failed_event_of, end_by}
use Rattle.up_model.specs.Files.{own_file, names_in_order}
use Rattle.up_model.specs.Held.{is_spoilt}
use Rattle.up_model.specs.Instances.{instance_named}
use Rattle.up_model.specs.Outputs.{outputs_of, order_of, signal_of, reply_of}
use Rattle.up_model.specs.Queue.{Live, queue}
use Rattle.up_model.specs.Readings.{made_at, id_at, pid_of}
use Rattle.up_model.specs.Replies.{request_at, waiter, answering_waiter}
use Rattle.up_model.specs.Values.{Bytes}
use Rattle.up_model.specs.Work.{work, settle}
use Rattle.up_model.proofs.ReplyLaws.{outcome-all, answering_waiter-all}
use Rattle.up_model.proofs.Sparing.{IsOf, all-append, all-weaker}
use Rattle.up_model.proofs.WorkLaws.{IsAbout, due-about}
use Rattle.up_isolation.specs.Views.{owns, was_asked, outputs_if, deeds_by, deeds, deeds_in, AreAmong}
use Rattle.up_isolation.proofs.Locals.{NotGiven}
use Rattle.up_isolation.proofs.Ends.{IsMute, mute-end}
use Rattle.up_isolation.proofs.Alone.{mute-given}
use Rattle.up_isolation.proofs.Requesting.{mute-allows}
use Rattle.up_model.specs.declared.event.Event.{Event}
use Rattle.std.proofs.Common.{Option, None, Some, if◌then◌else◌}
use Rattle.up_model.specs.Loads.{in_force, loading}
use Rattle.up_model.proofs.EffectLaws.{loading-all}

-- among, part by part
among-more : (xs ys : List Output) (y : Output) → AreAmong xs ys → AreAmong xs (y ∷ ys)
among-more [] ys y among = tt
among-more (x ∷ xs) ys y among = inr among

among-none : (ys : List Output) → AreAmong [] ys
among-none ys = tt

among-refl : (xs : List Output) → AreAmong xs xs
among-refl [] = tt
among-refl (x ∷ xs) = inl (refl, among-refl xs)

among-append : (xs ys us vs : List Output) → AreAmong xs ys → AreAmong us vs → AreAmong (xs ++ us) (ys ++ vs)
among-append [] [] us vs among other = other
among-append [] (y ∷ ys) us vs among other = among-more us (ys ++ vs) y (among-append [] ys us vs tt other)
among-append (x ∷ xs) [] us vs among other = absurd among
among-append (x ∷ xs) (y ∷ ys) us vs (inl here) other = inl (here.0, among-append xs ys us vs here.1 other)
among-append (x ∷ xs) (y ∷ ys) us vs (inr there) other = inr (among-append (x ∷ xs) ys us vs there other)

among-if : (b : Bool) (xs : List Output) → AreAmong (outputs_if b xs) xs
among-if true xs = among-refl xs
among-if false xs = tt

-- what a job does in the last step is among the outputs
pub deeds-among : (job : Bytes) (c : Chronicle) → AreAmong (deeds_in job c) (outputs_of c)
unfolding deeds_in outputs_of
deeds-among job [] = tt
deeds-among job (Given given ∷ c) = tt
deeds-among job (Ordered i its ∷ c) =
    among-append (deeds_in job c) (outputs_of c)
    (outputs_if (owns job i c) (order_of i its c))
    (order_of i its c)
    (deeds-among job c)
    (among-if (owns job i c) (order_of i its c))
deeds-among job (Signalled i signal by_timer ∷ c) =
    among-append (deeds_in job c) (outputs_of c)
    (outputs_if (owns job i c) (signal_of (made_at i c) signal (pid_of i Main c)))
    (signal_of (made_at i c) signal (pid_of i Main c))
    (deeds-among job c) (among-if (owns job i c) (signal_of (made_at i c) signal (pid_of i Main c)))
deeds-among job (Queued (Entering i to) event ∷ c) =
    among-append (deeds_in job c) (outputs_of c)
    (outputs_if (owns job i c) (output.Emitted event ∷ [])) (output.Emitted event ∷ [])
    (deeds-among job c) (among-if (owns job i c) (output.Emitted event ∷ []))
deeds-among job (Queued (Spoilt spoilt) event ∷ c) =
    among-append (deeds_in job c) (outputs_of c) [] (output.Emitted event ∷ [])
    (deeds-among job c) tt
deeds-among job (Replied r answer ∷ c) =
    among-append (deeds_in job c) (outputs_of c)
    (outputs_if (was_asked job (request_at r c)) (reply_of (id_at r c) answer))
    (reply_of (id_at r c) answer)
    (deeds-among job c) (among-if (was_asked job (request_at r c)) (reply_of (id_at r c) answer))
deeds-among job (e ∷ c) = subst (λ xs. AreAmong xs (outputs_of c))
    (sym (append-nil (deeds_in job c))) (deeds-among job c)

-- what it did is what it did before, and in the last step
deeds-step : (job : Bytes) (given : Input) (es c : List Entry)
    → AllByRecursion NotGiven es
    → deeds job (es ++ Given given ∷ c) ≡ deeds job c ++ deeds_in job (es ++ Given given ∷ c)
unfolding deeds deeds_in
deeds-step job given [] c all = refl
deeds-step job given (Given other ∷ es) c all = absurd all.0
deeds-step job given (e ∷ es) c all =
    ap (λ (xs : List Output). xs ++ deeds_by job e (es ++ Given given ∷ c))
    (deeds-step job given es c all.1)
    ∙ append_assoc (deeds job c) (deeds_in job (es ++ Given given ∷ c))
    (deeds_by job e (es ++ Given given ∷ c))

-- a step adds its input and then other entries
record IsStep (given : Input) (c later : Chronicle) : Type 0 where
  entries : List Entry
  plain : AllByRecursion NotGiven entries
  whole : later ≡ entries ++ Given given ∷ c

of-given : (k : Bytes) (p : ℕ) (e : Entry) → IsOf k p e → NotGiven e
of-given k p (Given given) of = of
of-given k p e of = tt

step-more : (given : Input) (es c later : List Entry) → AllByRecursion NotGiven es → IsStep given c later
    → IsStep given c (es ++ later)
step-more given es c later all step = record {
  entries = es ++ step.entries;
  plain = all-append NotGiven es step.entries all step.plain;
  whole = ap (λ (t : List Entry). es ++ t) step.whole ∙ sym (append_assoc es step.entries (Given given ∷ c));
}

due-given : (config : Configuration) (c : Chronicle) → AllByRecursion NotGiven (due config c)
due-given config c = by_sum (due-about config c)
  where
    by_sum : (due config c ≡ []) ⊎ IsAbout (due config c) → AllByRecursion NotGiven (due config c)
    by_sum (inl none) = subst (AllByRecursion NotGiven) (sym none) tt
    by_sum (inr about) = all-weaker (IsOf about.whose about.place) NotGiven (of-given about.whose about.place)
        (due config c) about.of

settle-step : (n : ℕ) (config : Configuration) (given : Input) (c later : Chronicle) → IsStep given c later
    → IsStep given c (settle n config later)
unfolding settle
settle-step zero config given c later step = step
settle-step (suc n) config given c later step = settle-step n config given c (due config later ++ later)
    (step-more given (due config later) c later (due-given config later) step)

mute-plain : (es : List Entry) → AllByRecursion IsMute es → AllByRecursion NotGiven es
mute-plain es all = all-weaker IsMute NotGiven mute-given es all

killing-plain : (is : List ℕ) → AllByRecursion NotGiven (killing is)
killing-plain [] = tt
killing-plain (i ∷ is) =
    all-append NotGiven (killing is) (Signalled i kill true ∷ []) (killing-plain is) (tt, tt)

telling-plain : (p : ℕ) (o : Option Event) → AllByRecursion NotGiven (telling p o)
telling-plain p None = tt
telling-plain p (Some told) = (tt, tt)

turn-plain : (o : Option Live) (c : Chronicle) → AllByRecursion NotGiven (turn_of o c)
turn-plain None c = tt
turn-plain (Some live) c = by_case live.handled
  where
    by_case : (b : Bool)
        → AllByRecursion NotGiven (if b then finishing live.place c else Handled live.place ∷ [])
    by_case true =
        all-append NotGiven (telling live.place (failed_event_of live.place c))
        (answering_waiter (waiter live.place c) (is_spoilt live.place c) ++ Finished live.place ∷ [])
        (telling-plain live.place (failed_event_of live.place c))
        (all-append NotGiven (answering_waiter (waiter live.place c) (is_spoilt live.place c))
        (Finished live.place ∷ [])
        (answering_waiter-all NotGiven (λ request answer. tt) (waiter live.place c)
        (is_spoilt live.place c)) (tt, tt))
    by_case false = (tt, tt)

step-of : (given : Input) (es c : List Entry) → AllByRecursion NotGiven es
    → IsStep given c ((es ++ Given given ∷ []) ++ c)
step-of given es c all = record { entries = es; plain = all; whole = append_assoc es (Given given ∷ []) c }

effect-step : (config : Configuration) (given : Input) (c : Chronicle)
    → IsStep given c (effect config given c ++ c)
unfolding effect
effect-step config (input.Emit event) c =
    step-of (input.Emit event) (Queued (Outside (length c)) event ∷ []) c (tt, tt)
effect-step config (input.Request id request) c =
    step-of (input.Request id request)
    (entries_of (length c) (outcome_of config (length c) request (Given (input.Request id request) ∷ c)))
    c
    (mute-plain (entries_of (length c)
    (outcome_of config (length c) request (Given (input.Request id request) ∷ c)))
    (outcome-all IsMute mute-allows (λ its name. tt) config (length c) request
    (Given (input.Request id request) ∷ c) (λ i signal runs. tt)))
effect-step config (input.Spawned who its pid) c = step-of (input.Spawned who its pid) [] c tt
effect-step config (input.Refused who its) c =
    step-of (input.Refused who its) (end_by who its end.Refused (Given (input.Refused who its) ∷ c)) c
    (mute-plain (end_by who its end.Refused
    (Given (input.Refused who its) ∷ c))
    (mute-end (own_file who (Given (input.Refused who its) ∷ c)) (instance_named who (Given (input.Refused who its) ∷ c)) its end.Refused
    (Given (input.Refused who its) ∷ c)))
effect-step config (input.Ended who its how) c =
    step-of (input.Ended who its how) (end_by who its (end.Ended how) (Given (input.Ended who its how) ∷ c)) c
    (mute-plain (end_by who its (end.Ended how)
    (Given (input.Ended who its how) ∷ c))
    (mute-end (own_file who (Given (input.Ended who its how) ∷ c)) (instance_named who (Given (input.Ended who its how) ∷ c)) its (end.Ended how)
    (Given (input.Ended who its how) ∷ c)))
effect-step config (input.Clock reading) c =
    step-of (input.Clock reading) (killing (all_overdue (names_in_order config c) (Given (input.Clock reading) ∷ c))) c
    (killing-plain (all_overdue (names_in_order config c) (Given (input.Clock reading) ∷ c)))
effect-step config (input.Load id its) c =
    step-of (input.Load id its) (loading (length c) its) c (loading-all NotGiven (λ request answer. tt) (λ jobs. tt) (length c) its)
effect-step config input.Turn c =
    step-of input.Turn (turn_of (turn_event config (queue c) c) (Given input.Turn ∷ c)) c
    (turn-plain (turn_event config (queue c) c) (Given input.Turn ∷ c))

pub deeds-after : (job : Bytes) (config : Configuration) (c : Chronicle) (given : Input)
    → deeds job (after config c given) ≡ deeds job c ++ deeds_in job (after config c given)
unfolding after
deeds-after job config c given =
    let e : Chronicle = effect (in_force config c) given c ++ c in
    let step = settle-step (work (in_force config e) e) (in_force config e) given c e (effect-step (in_force config c) given c) in
    subst (λ (t : Chronicle). deeds job t ≡ deeds job c ++ deeds_in job t)
    (sym step.whole) (deeds-step job given step.entries c step.plain)
