-- What a step comes to that takes no memory.
use Rattle.std.proofs.Common.{◌≡◌, ◌==◌, ℕ, Bool, true, false, List, [], ◌∷◌, ◌++◌, length, take, drop, Option, None, Some, if◌then◌else◌, refl, sym, ◌∙◌, ap, subst, arith, eqb-true}
use Rattle.std.proofs.Math.Seq.{take-append_seam, drop-append_seam}
use Rattle.up_model.specs.declared.input.Input.{Input}
use Rattle.up_model.specs.declared.input.Input.TheVariants as input
use Rattle.up_model.specs.declared.step.Step.{Step}
use Rattle.up_model.specs.Answers.{is_expected, answers, after_all}
use Rattle.up_model.specs.Chronicle.{Chronicle, Given, Handled}
use Rattle.up_model.specs.Configuration.{Configuration}
use Rattle.up_model.specs.Due.{turn_event, turn_of, failed_event_of, finishing, effect}
use Rattle.up_model.specs.Loads.{in_force}
use Rattle.up_model.specs.Outputs.{outputs_of}
use Rattle.up_model.specs.Queue.{Live, queue}
use Rattle.up_model.specs.Readings.{entry_at, event_of, event_at}
use Rattle.up_book.specs.Unblocking.{IsBlockedBy}
use Rattle.up_job.specs.declared.instance_key.InstanceKey.{InstanceKey}
use Rattle.up_model.specs.declared.event_id.EventId.{EventId}
use Rattle.up_engine.specs.Effects.{unblocked_concern}
use Rattle.up_engine.specs.Free.{ConcernsNone, EndsUnseen, IsFreeOf, TurnIsFree, IsFree, StopsAtNoFree}
use Rattle.up_engine.proofs.RunLemmas.{length-answers}
use Rattle.up_cascade.proofs.Unheard.{none-later}

pub true-false : true ≡ false → ⊥
true-false is = absurd cc

pub nothing : {X : Type 0} {x : X} → None ≡ Some x → ⊥
nothing is = absurd cc

-- its input is expected
pub free-expected : (config : Configuration) (c : Chronicle) (given : Input) → IsFree config c given → is_expected given c ≡ true
unfolding is_expected
free-expected config c input.Turn free = refl
free-expected config c (input.Clock reading) free = refl
free-expected config c (input.Emit event) free = absurd free
free-expected config c (input.Request id request) free = absurd free
free-expected config c (input.Spawned who process pid) free = absurd free
free-expected config c (input.Refused who process) free = absurd free
free-expected config c (input.Ended who process how) free = absurd free
free-expected config c (input.Load id loaded) free = absurd free

-- its effect asks for nothing
turn-outputs : (config : Configuration) (e : ℕ) (handled : Bool) (c : Chronicle) → IsFreeOf config e handled (Given input.Turn ∷ c)
    → outputs_of (((if handled then finishing e (Given input.Turn ∷ c) else Handled e ∷ []) ++ Given input.Turn ∷ []) ++ c) ≡ []
unfolding outputs_of
turn-outputs config e false c free = refl
turn-outputs config e true c free = rw (free.unspoilt, free.unasked) refl

event-outputs : (config : Configuration) (live : Option Live) (c : Chronicle) → TurnIsFree config live (Given input.Turn ∷ c)
    → outputs_of ((turn_of live (Given input.Turn ∷ c) ++ Given input.Turn ∷ []) ++ c) ≡ []
unfolding outputs_of
event-outputs config None c free = refl
event-outputs config (Some live) c free = turn-outputs config live.place live.handled c free

pub free-outputs : (config : Configuration) (c : Chronicle) (given : Input) → IsFree config c given → outputs_of (effect config given c ++ c) ≡ []
unfolding effect outputs_of
free-outputs config c input.Turn free = event-outputs config (turn_event config (queue c) c) c free
free-outputs config c (input.Clock reading) free = rw free refl
free-outputs config c (input.Emit event) free = absurd free
free-outputs config c (input.Request id request) free = absurd free
free-outputs config c (input.Spawned who process pid) free = absurd free
free-outputs config c (input.Refused who process) free = absurd free
free-outputs config c (input.Ended who process how) free = absurd free
free-outputs config c (input.Load id loaded) free = absurd free

-- an event that is taken up is the one that was queued
pub event-handled : (e p : ℕ) (c : Chronicle) → event_at e (Handled p ∷ c) ≡ event_at e c
event-handled e p c = by_case (length c == e) refl
  where
    by_case : (b : Bool) → (length c == e) ≡ b → event_of (if b then Some (Handled p) else entry_at e c) ≡ event_of (entry_at e c)
    by_case true same = sym (ap event_of (none-later e c (omega (arith, eqb-true (length c) e same))))
    by_case false apart = refl

-- a run that is down stopped at an input that isn't one of these, if the one at which it stopped isn't
pub stops_at : (steps : List Step) (config : Configuration) (c : Chronicle) (inputs passed left : List Input) (given : Input)
    → inputs ≡ passed ++ given ∷ left → steps ≡ answers config c passed → (IsFree (in_force config (after_all config c passed)) (after_all config c passed) given → ⊥) → StopsAtNoFree steps config c inputs
stops_at steps config c inputs passed left given whole so_far never = λ other rest is.
    let count : length steps ≡ length passed = ap length so_far ∙ length-answers config c passed in
    let front : take (length steps) inputs ≡ passed = rw (count, whole) (take-append_seam passed (given ∷ left)) in
    let back : drop (length steps) inputs ≡ given ∷ left = rw (count, whole) (drop-append_seam passed (given ∷ left)) in
    let both : given ∷ left ≡ other ∷ rest = sym back ∙ is in
    let same : given ≡ other = cc in
    λ free. never (subst (λ x. IsFree (in_force config (after_all config c passed)) (after_all config c passed) x) (sym same) (rw front at free))

-- an event of which nobody is told: it concerns nobody, and no event tells of it
pub unseen-told : (e : ℕ) (c : Chronicle) → EndsUnseen e c → failed_event_of e c ≡ None
unseen-told e c unseen = rw unseen.unspoilt refl

pub unseen-concern : (places : Chronicle → EventId → Option ℕ) (config : Configuration) (e : ℕ) (c d : Chronicle) (on : Option InstanceKey) → EndsUnseen e c → IsBlockedBy config e c on
    → ConcernsNone places config d (unblocked_concern on)
unseen-concern places config e c d None unseen by = tt
unseen-concern places config e c d (Some key) unseen by = absurd (unseen.unblocking by.0 by.2)
