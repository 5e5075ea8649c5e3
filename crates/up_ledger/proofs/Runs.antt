-- An instance lets its holders go: what a step has asked for after all entries of that.
use Rattle.std.proofs.Common.{◌≡◌, ℕ, ◌==◌, ◌&&◌, Bool, true, false, not, List, [], ◌∷◌, ◌++◌, map, Option, None, Some, if◌then◌else◌, refl, sym, ◌∙◌, ap, subst, append_assoc}
use Rattle.std.specs.List.{AllByRecursion}
use Rattle.up_model.specs.declared.input.Input.{Input}
use Rattle.up_model.specs.declared.input.Input.TheVariants as input
use Rattle.up_model.specs.declared.output.Output.{Output}
use Rattle.up_model.specs.Chronicle.{Chronicle, Entry, Released, Replied}
use Rattle.up_model.specs.Configuration.{Configuration}
use Rattle.up_model.specs.Readings.{holders}
use Rattle.up_model.specs.Replies.{answering, answering_one, releasing, request_at, status_of, was_answered}
use Rattle.up_model.specs.Requests.{RequestValue}
use Rattle.up_model.specs.Values.{Bytes}
use Rattle.up_model.proofs.ReplyLaws.{answering-all, releasing-all}
use Rattle.up_model.proofs.Sparing.{same-append}
use Rattle.up_job.specs.declared.holder.Holder.{Holder}
use Rattle.up_ledger.specs.declared.step.ActedOn.{ActedOn}
use Rattle.up_ledger.specs.declared.step.Asked.{Asked}
use Rattle.up_ledger.specs.Asking.{given_input, asked_in, asked_of, is_hurried, IsUnheld}
use Rattle.up_book.specs.Keys.{given_place}
use Rattle.up_book.specs.Keeps.{HoldsOlder}
use Rattle.up_ledger.specs.Replying.{replies_to}
use Rattle.up_ledger.specs.Requesting.{OnMeans}
use Rattle.up_ledger.specs.Steps.{Asks}
use Rattle.up_book.specs.Summaries.{holding_at}
use Rattle.up_book.specs.Views.{Places, holding_of}
use Rattle.up_ledger.proofs.Releasing.{released-out}
use Rattle.up_ledger.proofs.StepFrames.{on-stays-by, unheld-by}

-- the entries by which holders are let go
abbrev pub IsMild : Entry → Type 0
IsMild (Released instance failed) = Unit {0}
IsMild (Replied request answer) = Unit {0}
IsMild entry = ⊥

mild-input : (e : Entry) (c : Chronicle) → IsMild e → given_input (e ∷ c) ≡ given_input c
mild-input (Released instance failed) c is = refl
mild-input (Replied request answer) c is = refl
mild-input e c is = absurd is

mild-place : (e : Entry) (c : Chronicle) → IsMild e → given_place (e ∷ c) ≡ given_place c
mild-place (Released instance failed) c is = refl
mild-place (Replied request answer) c is = refl
mild-place e c is = absurd is

mild-on : (config : Configuration) (on : Option ActedOn) (es : List Entry) (c : Chronicle) → AllByRecursion IsMild es → OnMeans config c on → OnMeans config (es ++ c) on
mild-on config on [] c all means = means
mild-on config on (Released instance failed ∷ es) c all means =
    on-stays-by config (Released instance failed) (es ++ c) on tt (λ job. refl) (λ i gone. refl) (mild-on config on es c all.1 means)
mild-on config on (Replied request answer ∷ es) c all means =
    on-stays-by config (Replied request answer) (es ++ c) on tt (λ job. refl) (λ i gone. refl) (mild-on config on es c all.1 means)
mild-on config on (e ∷ es) c all means = absurd all.0

-- no answer among them is to the request that was given at a place
abbrev IsElse : ℕ → Entry → Type 0
IsElse given (Released instance failed) = Unit {0}
IsElse given (Replied request answer) = (request == given) ≡ false
IsElse given entry = ⊥

else-answered : (given : ℕ) (e : Entry) (c : Chronicle) → IsElse given e → was_answered given (e ∷ c) ≡ was_answered given c
else-answered given (Released instance failed) c is = refl
else-answered given (Replied request answer) c is = rw is refl
else-answered given e c is = absurd is

all-one : (given place : ℕ) (request : Option RequestValue) (failed : Bool) (told : Bytes) (others : List Entry) → (place == given) ≡ false → AllByRecursion (IsElse given) others → AllByRecursion (IsElse given) (answering_one place request failed told ++ others)
all-one given place None failed told others apart all = all
all-one given place (Some request) failed told others apart all = (apart, all)

all-else : (given : ℕ) (hs : List ℕ) (failed : Bool) (told : Bytes) (c : Chronicle) (others : List Entry) → AllByRecursion (λ place. (place == given) ≡ false) hs → AllByRecursion (IsElse given) others
    → AllByRecursion (IsElse given) (answering hs failed told c ++ others)
all-else given [] failed told c others apart all = all
all-else given (place ∷ hs) failed told c others apart all =
    subst (AllByRecursion (IsElse given)) (sym (append_assoc (answering hs failed told c) (answering_one place (request_at place c) failed told) others))
    (all-else given hs failed told c (answering_one place (request_at place c) failed told ++ others) apart.1 (all-one given place (request_at place c) failed told others apart.0 all))

mild : (i : ℕ) (failed : Bool) (c : Chronicle) → AllByRecursion IsMild (releasing i failed c)
mild i failed c = releasing-all IsMild (λ request answer. tt) i failed tt c

released-asked : (i : ℕ) (failed : Bool) (c : Chronicle) → IsUnheld c → asked_of (releasing i failed c ++ c) ≡ asked_of c
released-asked i failed c unheld =
    ap (λ its. asked_in its (was_answered (given_place d) d)) (same-append given_input IsMild mild-input (releasing i failed c) c (mild i failed c))
    ∙ ap (λ g. asked_in (given_input c) (was_answered g d)) (same-append given_place IsMild mild-place (releasing i failed c) c (mild i failed c))
    ∙ by_input (given_input c) refl
  where
    d : Chronicle
    d = releasing i failed c ++ c

    g : ℕ
    g = given_place c

    answered : is_hurried (given_input c) ≡ true → was_answered g d ≡ was_answered g c
    answered hurried =
        same-append (was_answered g) (IsElse g) (else-answered g) (releasing i failed c) c
        (all-else g (holders i c) failed (status_of i c) c (Released i failed ∷ []) (unheld hurried i) (tt, tt))

    unasked : (b : Bool) → (b && not true) ≡ false
    unasked true = refl
    unasked false = refl

    by_input : (its : Option Input) → given_input c ≡ its → asked_in its (was_answered g d) ≡ asked_in its (was_answered g c)
    by_input None is = refl
    by_input (Some (input.Request id request)) is = by_wait request.wait refl
      where
        by_wait : (b : Bool) → request.wait ≡ b → asked_in (Some (input.Request id request)) (was_answered g d) ≡ asked_in (Some (input.Request id request)) (was_answered g c)
        by_wait true waits = rw waits (ap (λ b. Some (record { id = id; command = request.command; waits = true; answered = b })) (unasked (was_answered g d) ∙ sym (unasked (was_answered g c))))
        by_wait false waits = rw (answered (ap is_hurried is ∙ ap not waits)) refl
    by_input (Some (input.Emit event)) is = refl
    by_input (Some (input.Spawned who its pid)) is = refl
    by_input (Some (input.Refused who its)) is = refl
    by_input (Some (input.Ended who its how)) is = refl
    by_input (Some (input.Clock reading)) is = refl
    by_input (Some input.Turn) is = refl
    by_input (Some (input.Load id loaded)) is = refl

abbrev IsReply : Entry → Type 0
IsReply (Replied request answer) = Unit {0}
IsReply entry = ⊥

reply-holders : (j : ℕ) (e : Entry) (d : Chronicle) → IsReply e → holders j (e ∷ d) ≡ holders j d
reply-holders j (Replied request answer) d is = refl
reply-holders j e d is = absurd is

mild-holders : (j : ℕ) (hs : List ℕ) (failed : Bool) (told : Bytes) (before c : Chronicle) → holders j (answering hs failed told before ++ c) ≡ holders j c
mild-holders j hs failed told before c = same-append (holders j) IsReply (reply-holders j) (answering hs failed told before) c (answering-all IsReply (λ request answer. tt) hs failed told before)

released-unheld : (i : ℕ) (failed : Bool) (c : Chronicle) → IsUnheld c → IsUnheld (releasing i failed c ++ c)
released-unheld i failed c unheld =
    unheld-by c (releasing i failed c ++ c) (same-append given_input IsMild mild-input (releasing i failed c) c (mild i failed c)) (same-append given_place IsMild mild-place (releasing i failed c) c (mild i failed c)) fewer unheld
  where
    fewer : (j : ℕ) → AllByRecursion (λ p. (p == given_place c) ≡ false) (holders j c) → AllByRecursion (λ p. (p == given_place c) ≡ false) (holders j (releasing i failed c ++ c))
    fewer j all =
        subst (λ d. AllByRecursion (λ p. (p == given_place c) ≡ false) (holders j d)) (sym (append_assoc (answering (holders i c) failed (status_of i c) c) (Released i failed ∷ []) c))
        (subst (AllByRecursion (λ p. (p == given_place c) ≡ false)) (sym (mild-holders j (holders i c) failed (status_of i c) c (Released i failed ∷ c))) (by_case (i == j)))
      where
        by_case : (b : Bool) → AllByRecursion (λ p. (p == given_place c) ≡ false) (if b then [] else holders j c)
        by_case true = tt
        by_case false = all

-- all of it
pub step-released : (outputs : List Output) (asked : Option Asked) (on : Option ActedOn) (places : Places) (config : Configuration) (c : Chronicle) (i : ℕ) (failed : Bool) (its : List Holder) (told : Bytes) → HoldsOlder i c
    → map (holding_of places) its ≡ map (holding_at c) (holders i c) → status_of i c ≡ told → Asks outputs asked on config c → Asks (outputs ++ replies_to its failed told) asked on config (releasing i failed c ++ c)
step-released outputs asked on places config c i failed its told older same text s = record {
  outputs = ap (λ outs. outs ++ replies_to its failed told) s.outputs ∙ sym (released-out places config c i failed its told older same text);
  asked = s.asked ∙ sym (released-asked i failed c s.unheld);
  on = mild-on config on (releasing i failed c) c (mild i failed c) s.on;
  unheld = released-unheld i failed c s.unheld;
}
