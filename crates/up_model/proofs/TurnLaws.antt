-- Each event is handled once, and finishes once, after it was handled.
use Rattle.std.proofs.Common.{◌≡◌, ℕ, zero, suc, append_assoc, le_of_eq, ◌+◌, ◌<◌, ◌≤◌, ◌==◌, ◌⊎◌, inl, inr, Bool, true, false, List, [], ◌∷◌, ◌++◌, length, Option, None, Some, if◌then◌else◌, refl, sym, ◌∙◌, ap, subst, arith, eqb-true, eq-eqb}
use Rattle.std.specs.List.{AllByRecursion}
use Rattle.up_model.specs.declared.failure.End.TheVariants as end
use Rattle.up_model.specs.declared.input.Input.{Input}
use Rattle.up_model.specs.declared.input.Input.TheVariants as input
use Rattle.up_model.specs.Configuration.{Configuration}
use Rattle.up_model.specs.Chronicle.{Entry, Given, Queued, Handled, Finished, Outside}
use Rattle.up_model.specs.Clock.{all_overdue, killing}
use Rattle.up_model.specs.Queue.{Live, with_handled, without_event, queue}
use Rattle.up_model.specs.Held.{is_held, is_spoilt}
use Rattle.up_model.specs.Instances.{instance_named}
use Rattle.up_model.specs.Commands.{outcome_of, entries_of}
use Rattle.up_model.specs.Replies.{waiter, answering_waiter}
use Rattle.up_model.specs.Due.{due, telling, failed_event_of, finishing, turn_event, turn_of, effect, end_by}
use Rattle.up_model.specs.Values.{Bytes}
use Rattle.up_model.specs.Work.{work, settle}
use Rattle.up_model.specs.Answers.{after, next, is_expected, after_all}
use Rattle.up_model.specs.Files.{own_file, names_in_order}
use Rattle.up_model.specs.Laws.{handled_times, finished_times, IsOrderly}
use Rattle.up_model.specs.Loads.{in_force, loading}
use Rattle.up_model.proofs.EffectLaws.{AllowsEnds, end_of-all, killing-all, telling-all, loading-all}
use Rattle.up_model.proofs.HeldLaws.{held-given}
use Rattle.up_model.proofs.Sparing.{all-weaker, IsOf}
use Rattle.up_model.proofs.ReplyLaws.{Allows, answering_waiter-all, outcome-all}
use Rattle.up_model.proofs.WorkLaws.{IsAbout, due-about}
use Rattle.up_model.proofs.QueueLaws.{queue_by_age, status, status-older, first_status, status-append, status-with_handled, status-with_handled_other, status-without_event, status-without_event_other, turn_event-status, turn_event-held}

-- how often an event was handled and finished, by what the queue says of it
abbrev pub Standing : ℕ → List Entry → Option Bool → Type 0
Standing event c None = (finished_times event c ≡ handled_times event c) × (handled_times event c ≤ 1) × (length c ≤ event → handled_times event c ≡ 0)
Standing event c (Some false) = (handled_times event c ≡ 0) × (finished_times event c ≡ 0)
Standing event c (Some true) = (handled_times event c ≡ 1) × (finished_times event c ≡ 0)

-- so the counts fit the queue, and did so whenever an event was handled or finished
pub record Keeps (config : Configuration) (c : List Entry) : Type 0 where
  pub standing : (event : ℕ) → Standing event c (status event (queue c))
  pub orderly : IsOrderly config c

-- what holds of an event still holds when neither count changed
standing-later : (event : ℕ) (c d : List Entry) (o : Option Bool) → handled_times event d ≡ handled_times event c → finished_times event d ≡ finished_times event c
    → length c ≤ length d → Standing event c o → Standing event d o
standing-later event c d None h f longer s = (f ∙ s.0 ∙ sym h, rw h s.1, λ later. h ∙ s.2 (omega arith))
standing-later event c d (Some false) h f longer s = (h ∙ s.0, f ∙ s.1)
standing-later event c d (Some true) h f longer s = (h ∙ s.0, f ∙ s.1)

-- a new event was neither handled nor finished
standing-queued : (event : ℕ) (c d : List Entry) (o : Option Bool) (b : Bool) → (length c == event) ≡ b → handled_times event d ≡ handled_times event c
    → finished_times event d ≡ finished_times event c → length c ≤ length d
    → Standing event c o → Standing event d (first_status o (if b then Some false else None))
standing-queued event c d (Some false) b same h f longer s = standing-later event c d (Some false) h f longer s
standing-queued event c d (Some true) b same h f longer s = standing-later event c d (Some true) h f longer s
standing-queued event c d None false same h f longer s = standing-later event c d None h f longer s
standing-queued event c d None true same h f longer s =
    let here : length c ≡ event = eqb-true (length c) event same in
    let never : handled_times event c ≡ 0 = s.2 (omega arith) in
    (h ∙ never, f ∙ s.0 ∙ never)

-- an entry that neither handles nor finishes an event
abbrev pub IsQuiet : Entry → Type 0
IsQuiet (Handled event) = ⊥
IsQuiet (Finished event) = ⊥
IsQuiet entry = Unit {0}

-- a chronicle grows by an entry
le_suc : (n : ℕ) → n ≤ suc n
le_suc n = omega arith

-- it leaves the counts fitting
quiet-keeps : (config : Configuration) (e : Entry) (c : List Entry) → IsQuiet e → Keeps config c → Keeps config (e ∷ c)
quiet-keeps config (Handled event) c quiet keeps = absurd quiet
quiet-keeps config (Finished event) c quiet keeps = absurd quiet
quiet-keeps config (Queued origin it) c quiet keeps = record {
  standing = λ event. rw (status-append event (length c) false (queue c)) (standing-queued event c (Queued origin it ∷ c) (status event (queue c)) (length c == event) refl refl refl (le_suc (length c)) (keeps.standing event));
  orderly = keeps.orderly;
}
quiet-keeps config e c quiet keeps = record {
  standing = λ event. standing-later event c (e ∷ c) (status event (queue c)) refl refl (le_suc (length c)) (keeps.standing event);
  orderly = keeps.orderly;
}

-- several such entries do
quiets-keep : (config : Configuration) (es c : List Entry) → AllByRecursion IsQuiet es → Keeps config c → Keeps config (es ++ c)
quiets-keep config [] c quiet keeps = keeps
quiets-keep config (e ∷ es) c quiet keeps = quiet-keeps config e (es ++ c) quiet.0 (quiets-keep config es c quiet.1 keeps)

-- an unhandled event of the queue is handled
handled-keeps : (config : Configuration) (event : ℕ) (c : List Entry) → status event (queue c) ≡ Some false → Keeps config c → Keeps config (Handled event ∷ c)
handled-keeps config event c here keeps = record {
  standing = λ other. by_case other (event == other) refl (keeps.standing other);
  orderly = (now.0, now.1, keeps.orderly);
}
  where
    now : Standing event c (Some false)
    now = subst (Standing event c) here (keeps.standing event)

    by_case : (other : ℕ) (b : Bool) → (event == other) ≡ b → Standing other c (status other (queue c))
        → Standing other (Handled event ∷ c) (status other (with_handled event (queue c)))
    by_case other false differs s = rw (status-with_handled_other event other (queue c) differs) (standing-later other c (Handled event ∷ c) (status other (queue c)) (rw differs refl) refl (le_suc (length c)) s)
    by_case other true same s =
        subst (λ it. Standing it (Handled event ∷ c) (status it (with_handled event (queue c)))) (eqb-true event other same)
        (rw (status-with_handled event (queue c) false here) (rw (eq-eqb event event refl) (ap (λ n. 1 + n) now.0), now.1))

-- a handled event of the queue finishes
finished-keeps : (config : Configuration) (event : ℕ) (c : List Entry) → status event (queue c) ≡ Some true → is_held (in_force config c) event c ≡ false
    → Keeps config c → Keeps config (Finished event ∷ c)
finished-keeps config event c here free keeps = record {
  standing = λ other. by_case other (event == other) refl (keeps.standing other);
  orderly = (now.0, now.1, free, keeps.orderly);
}
  where
    now : Standing event c (Some true)
    now = subst (Standing event c) here (keeps.standing event)

    by_case : (other : ℕ) (b : Bool) → (event == other) ≡ b → Standing other c (status other (queue c))
        → Standing other (Finished event ∷ c) (status other (without_event event (queue c)))
    by_case other false differs s = rw (status-without_event_other event other (queue c) differs) (standing-later other c (Finished event ∷ c) (status other (queue c)) refl (rw differs refl) (le_suc (length c)) s)
    by_case other true same s =
        let old : event < length c = status-older event (length c) (queue c) true (queue_by_age c) here in
        subst (λ it. Standing it (Finished event ∷ c) (status it (without_event event (queue c)))) (eqb-true event other same)
        (rw (status-without_event event (queue c)) (rw (eq-eqb event event refl) (ap (λ n. 1 + n) now.1 ∙ sym now.0), le_of_eq now.0, λ later. absurd (omega arith)))

-- so a turn leaves the counts fitting
turn-keeps : (config : Configuration) (c : List Entry) (found : Option Live) → turn_event (in_force config c) (queue c) c ≡ found → Keeps config (Given input.Turn ∷ c)
    → Keeps config (turn_of found (Given input.Turn ∷ c) ++ Given input.Turn ∷ c)
turn-keeps config c None found keeps = keeps
turn-keeps config c (Some live) found keeps = by_case live.handled refl
  where
    here : status live.place (queue c) ≡ Some live.handled
    here = turn_event-status (length c) (in_force config c) (queue c) c live (queue_by_age c) found

    d : List Entry
    d = Given input.Turn ∷ c

    told : List Entry
    told = telling live.place (failed_event_of live.place d)

    answers : List Entry
    answers = answering_waiter (waiter live.place d) (is_spoilt live.place d)

    by_case : (b : Bool) → live.handled ≡ b
        → Keeps config ((if b then finishing live.place d else Handled live.place ∷ []) ++ d)
    by_case true handled =
        subst (Keeps config) (sym (append_assoc told (answers ++ Finished live.place ∷ []) d ∙ ap (λ rest. told ++ rest) (append_assoc answers (Finished live.place ∷ []) d)))
        (quiets-keep config told (answers ++ Finished live.place ∷ d) (telling-all IsQuiet (λ spoilt event. tt) live.place (failed_event_of live.place d))
        (quiets-keep config answers (Finished live.place ∷ d) (answering_waiter-all IsQuiet (λ request answer. tt) (waiter live.place d) (is_spoilt live.place d))
        (finished-keeps config live.place d (here ∙ ap (λ b. Some b) handled)
        (held-given (in_force config c) live.place input.Turn c ∙ turn_event-held (in_force config c) (queue c) c live found handled) keeps)))
    by_case false handled = handled-keeps config live.place (Given input.Turn ∷ c) (here ∙ ap (λ b. Some b) handled) keeps

-- what is due neither handles nor finishes an event
of-quiet : (job : Bytes) (p : ℕ) (e : Entry) → IsOf job p e → IsQuiet e
of-quiet job p (Handled event) of = of
of-quiet job p (Finished event) of = of
of-quiet job p e of = tt

-- so all that is due is quiet
pub due-quiet : (config : Configuration) (c : List Entry) → AllByRecursion IsQuiet (due config c)
due-quiet config c = by_case (due config c) (due-about config c)
  where
    by_case : (es : List Entry) → (es ≡ []) ⊎ IsAbout es → AllByRecursion IsQuiet es
    by_case es (inl none) = subst (AllByRecursion IsQuiet) (sym none) tt
    by_case es (inr about) = all-weaker (IsOf about.whose about.place) IsQuiet (of-quiet about.whose about.place) es about.of

-- doing what is due leaves the counts fitting
pub settle-keeps : (start : Configuration) (n : ℕ) (config : Configuration) (c : List Entry) → Keeps start c → Keeps start (settle n config c)
unfolding settle
settle-keeps start zero config c keeps = keeps
settle-keeps start (suc n) config c keeps = settle-keeps start n config (due config c ++ c) (quiets-keep start (due config c) c (due-quiet config c) keeps)

quiet-allows : Allows IsQuiet
quiet-allows = record {
  replied = λ request answer. tt;
  released = λ instance failed. tt;
  aimed = λ instance aim environment its. tt;
  restarted = λ instance its. tt;
  queued = λ given event. tt;
}

quiet-ends : AllowsEnds IsQuiet
quiet-ends = record { allows = quiet-allows; failed = λ instance its. tt; respawned = λ instance moment. tt }

-- the effect of an input leaves the counts fitting
pub effect-keeps : (config : Configuration) (given : Input) (c : List Entry) → Keeps config c → Keeps config (effect (in_force config c) given c ++ c)
unfolding effect
effect-keeps config (input.Emit event) c keeps = quiets-keep config (Queued (Outside (length c)) event ∷ Given (input.Emit event) ∷ []) c (tt, (tt, tt)) keeps
effect-keeps config (input.Request id request) c keeps =
    let d : List Entry = Given (input.Request id request) ∷ c in
    rw append_assoc (quiets-keep config (entries_of (length c) (outcome_of (in_force config c) (length c) request d)) d
    (outcome-all IsQuiet quiet-allows (λ job name. tt) (in_force config c) (length c) request d (λ p signal runs. tt)) (quiet-keeps config (Given (input.Request id request)) c tt keeps))
effect-keeps config (input.Spawned who process pid) c keeps = quiet-keeps config (Given (input.Spawned who process pid)) c tt keeps
effect-keeps config (input.Refused who process) c keeps =
    let d : List Entry = Given (input.Refused who process) ∷ c in
    let its : List Entry = end_by who process end.Refused d in
    rw append_assoc (quiets-keep config its d (end_of-all IsQuiet quiet-ends (own_file who d) (instance_named who d) process end.Refused d) (quiet-keeps config (Given (input.Refused who process)) c tt keeps))
effect-keeps config (input.Ended who process how) c keeps =
    let d : List Entry = Given (input.Ended who process how) ∷ c in
    let its : List Entry = end_by who process (end.Ended how) d in
    rw append_assoc (quiets-keep config its d (end_of-all IsQuiet quiet-ends (own_file who d) (instance_named who d) process (end.Ended how) d) (quiet-keeps config (Given (input.Ended who process how)) c tt keeps))
effect-keeps config (input.Clock reading) c keeps =
    let d : List Entry = Given (input.Clock reading) ∷ c in
    rw append_assoc (quiets-keep config (killing (all_overdue (names_in_order (in_force config c) d) d)) d (killing-all IsQuiet (λ place. tt) (all_overdue (names_in_order (in_force config c) d) d)) (quiet-keeps config (Given (input.Clock reading)) c tt keeps))
effect-keeps config input.Turn c keeps = rw append_assoc (turn-keeps config c (turn_event (in_force config c) (queue c) c) refl (quiet-keeps config (Given input.Turn) c tt keeps))
effect-keeps config (input.Load id its) c keeps =
    rw append_assoc (quiets-keep config (loading (length c) its) (Given (input.Load id its) ∷ c) (loading-all IsQuiet (λ request answer. tt) (λ jobs. tt) (length c) its)
    (quiet-keeps config (Given (input.Load id its)) c tt keeps))

-- so does an input
pub after-keeps : (config : Configuration) (c : List Entry) (given : Input) → Keeps config c → Keeps config (after config c given)
unfolding after
after-keeps config c given keeps =
    let d : List Entry = effect (in_force config c) given c ++ c in
    settle-keeps config (work (in_force config d) d) (in_force config d) d (effect-keeps config given c keeps)

-- also if it may not be expected
pub next-keeps : (config : Configuration) (c : List Entry) (given : Input) → Keeps config c → Keeps config (next config c given)
next-keeps config c given keeps = by_case (is_expected given c)
  where
    by_case : (b : Bool) → Keeps config (if b then after config c given else c)
    by_case true = after-keeps config c given keeps
    by_case false = keeps

-- and so do inputs
pub after_all-keeps : (config : Configuration) (c : List Entry) (inputs : List Input) → Keeps config c → Keeps config (after_all config c inputs)
unfolding after_all
after_all-keeps config c [] keeps = keeps
after_all-keeps config c (given ∷ inputs) keeps = after_all-keeps config (next config c given) inputs (next-keeps config c given keeps)

-- at the start they fit
empty-keeps : (config : Configuration) → Keeps config []
empty-keeps config = record { standing = λ event. (refl, le_suc 0, λ later. refl); orderly = tt }

-- so they fit in every chronicle that is reached
pub reached-keeps : (config : Configuration) (inputs : List Input) → Keeps config (after_all config [] inputs)
reached-keeps config inputs = after_all-keeps config [] inputs (empty-keeps config)

-- if they fit, an event finished no more often than it was handled, and that once at most
pub orderly_once : (config : Configuration) (c : List Entry) (event : ℕ) → Keeps config c → (finished_times event c ≤ handled_times event c) × (handled_times event c ≤ 1)
orderly_once config c event keeps = by_case (status event (queue c)) (keeps.standing event)
  where
    by_case : (o : Option Bool) → Standing event c o → (finished_times event c ≤ handled_times event c) × (handled_times event c ≤ 1)
    by_case None s = (le_of_eq s.0, s.1)
    by_case (Some false) s = (omega (arith, s.0, s.1), omega (arith, s.0))
    by_case (Some true) s = (omega (arith, s.0, s.1), omega (arith, s.0))

-- each event is handled once at most
pub handled_once : (config : Configuration) (inputs : List Input) (event : ℕ) → handled_times event (after_all config [] inputs) ≤ 1
handled_once config inputs event = (orderly_once config (after_all config [] inputs) event (reached-keeps config inputs)).1

-- it finishes no more often than it was handled
pub finished_handled : (config : Configuration) (inputs : List Input) (event : ℕ)
    → finished_times event (after_all config [] inputs) ≤ handled_times event (after_all config [] inputs)
finished_handled config inputs event = (orderly_once config (after_all config [] inputs) event (reached-keeps config inputs)).0

-- so it finishes once at most
pub finished_once : (config : Configuration) (inputs : List Input) (event : ℕ) → finished_times event (after_all config [] inputs) ≤ 1
finished_once config inputs event = omega (arith, finished_handled config inputs event, handled_once config inputs event)

-- and in that order
pub orderly : (config : Configuration) (inputs : List Input) → IsOrderly config (after_all config [] inputs)
orderly config inputs = (reached-keeps config inputs).orderly
