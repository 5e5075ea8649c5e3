-- What a step has asked for after an answer, and after its request acted on an instance.
use Rattle.std.proofs.Common.{◌≡◌, ℕ, ◌==◌, ◌&&◌, Bool, true, false, not, List, [], ◌∷◌, ◌++◌, length, Option, None, Some, IfSome, option_map, if◌then◌else◌, refl, sym, ◌∙◌, ap, subst, arith, eqb-true, eq-eqb, ne_eqb, append-nil}
use Rattle.std.specs.List.{AllByRecursion}
use Rattle.up_model.specs.declared.input.Input.{Input}
use Rattle.up_model.specs.declared.input.Input.TheVariants as input
use Rattle.up_model.specs.declared.output.Output.{Output}
use Rattle.up_model.specs.declared.output.Output.TheVariants as output
use Rattle.up_model.specs.declared.request.Answer.{Answer}
use Rattle.up_model.specs.declared.request.Command.TheVariants.{Emit}
use Rattle.up_model.specs.declared.state.Goal.{Goal}
use Rattle.up_model.specs.Chronicle.{Chronicle, Entry, Outside, Given, Queued, Aimed, Restarted, Finished, Replied}
use Rattle.up_model.specs.Configuration.{Configuration}
use Rattle.up_model.specs.Outputs.{outputs_of, reply_of}
use Rattle.up_model.specs.Readings.{entry_at, event_at, holders, id_of, id_at}
use Rattle.up_model.specs.Replies.{answer_to, answering_last, answering_hurried, answering_waiter, if_waits, request_in, request_instance, status_if, waiter, waiter_in, was_answered}
use Rattle.up_model.specs.Requests.{RequestValue}
use Rattle.up_model.specs.Values.{Bytes, Bindings}
use Rattle.up_model.proofs.Places.{older-other}
use Rattle.up_job.specs.declared.instance_key.InstanceKey.{InstanceKey}
use Rattle.up_ledger.specs.declared.step.ActedOn.{ActedOn}
use Rattle.up_ledger.specs.declared.step.ActedOn.TheVariants.{Exists}
use Rattle.up_ledger.specs.declared.step.Asked.{Asked}
use Rattle.up_ledger.specs.Asking.{given_input, asked_in, asked_of, answered_of, due_of, is_hurried, number_asked, IsUnheld}
use Rattle.up_event.specs.declared.live.Finished.{Finished as Finished_}
use Rattle.up_model.specs.declared.event.Event.{Event}
use Rattle.up_model.specs.Held.{is_spoilt}
use Rattle.up_ledger.specs.Eventing.{finished_at, number_of}
use Rattle.up_book.specs.Keeps.{AreOlder, HoldsOlder}
use Rattle.up_book.specs.Keys.{instance_place, given_place}
use Rattle.up_ledger.specs.Replying.{finished_replies, waiter_replies}
use Rattle.up_ledger.specs.Steps.{Asks}
use Rattle.up_ledger.proofs.Holdings.{entry-older}
use Rattle.up_ledger.proofs.Outgoing.{silent-out}
use Rattle.up_ledger.proofs.Requested.{on-aimed, on-restarted}
use Rattle.up_ledger.proofs.StepFrames.{due-some, given-there, on-stays-by}

-- the holders of an instance are older than an input that is given now
pub older-apart : (n : ℕ) (hs : List ℕ) → AreOlder n hs → AllByRecursion (λ place. (place == n) ≡ false) hs
older-apart n [] all = tt
older-apart n (p ∷ hs) all = (ne_eqb p n (λ same. omega (arith, all.0, same)), older-apart n hs all.1)

pub given-unheld : (given : Input) (c : Chronicle) → ((i : ℕ) → HoldsOlder i c) → IsUnheld (Given given ∷ c)
given-unheld given c older hurried i = older-apart (length c) (holders i c) (older i)

answered-in : (its : Option Input) (was : Bool) → answered_of (asked_in its was) ≡ asked_in its true
answered-in None was = refl
answered-in (Some (input.Request id request)) was = refl
answered-in (Some (input.Emit event)) was = refl
answered-in (Some (input.Spawned who its pid)) was = refl
answered-in (Some (input.Refused who its)) was = refl
answered-in (Some (input.Ended who its how)) was = refl
answered-in (Some (input.Clock reading)) was = refl
answered-in (Some input.Turn) was = refl
answered-in (Some (input.Load id loaded)) was = refl

-- the request of the step is answered
pub step-answered : (outputs more : List Output) (asked : Option Asked) (on : Option ActedOn) (config : Configuration) (c : Chronicle) (answer : Answer) → reply_of (id_at (given_place c) c) answer ≡ more → Asks outputs asked on config c
    → Asks (outputs ++ more) (answered_of asked) on config (Replied (given_place c) answer ∷ c)
unfolding outputs_of
step-answered outputs more asked on config c answer replies s = record {
  outputs = ap (λ outs. outs ++ more) s.outputs ∙ ap (λ outs. outputs_of c ++ outs) (sym replies);
  asked = ap answered_of s.asked ∙ answered-in (given_input c) (was_answered (given_place c) c) ∙ sym (ap (λ b. asked_in (given_input c) (if b then true else was_answered (given_place c) c)) (eq-eqb (given_place c) (given_place c) refl));
  on = on-stays-by config (Replied (given_place c) answer) c on tt (λ job. refl) (λ i gone. refl) s.on;
  unheld = s.unheld;
}

-- at once
number-in : (its : Input) (was : Bool) → number_asked (asked_in (Some its) was) ≡ id_of (Some (Given its))
number-in (input.Request id request) was = refl
number-in (input.Emit event) was = refl
number-in (input.Spawned who its pid) was = refl
number-in (input.Refused who its) was = refl
number-in (input.Ended who its how) was = refl
number-in (input.Clock reading) was = refl
number-in input.Turn was = refl
number-in (input.Load id loaded) was = refl

-- before the first input there is no request
none-given : (place : ℕ) (c : Chronicle) → given_input c ≡ None → id_at place c ≡ None
none-given place [] none = refl
none-given place (Given given ∷ c) none = absurd (cc)
none-given place (e ∷ c) none = by_place (length c == place) refl (none-given place c none)
  where
    by_place : (b : Bool) → id_of (Some e) ≡ None → id_at place c ≡ None → id_of (if b then Some e else entry_at place c) ≡ None
    by_place true one older = one
    by_place false one older = older

number-there : (c : Chronicle) → id_at (given_place c) c ≡ number_asked (asked_of c)
number-there c = by_input (given_input c) refl
  where
    was : Bool
    was = was_answered (given_place c) c

    by_input : (its : Option Input) → given_input c ≡ its → id_at (given_place c) c ≡ number_asked (asked_in its was)
    by_input None none = none-given (given_place c) c none
    by_input (Some its) some = ap id_of (given-there c its some).1 ∙ sym (number-in its was)

pub step-replied : (outputs more : List Output) (asked : Option Asked) (on : Option ActedOn) (config : Configuration) (c : Chronicle) (answer : Answer) → reply_of (number_asked asked) answer ≡ more → Asks outputs asked on config c
    → Asks (outputs ++ more) (answered_of asked) on config (Replied (given_place c) answer ∷ c)
step-replied outputs more asked on config c answer replies s =
    let number : id_at (given_place c) c ≡ number_asked asked = number-there c ∙ sym (ap number_asked s.asked) in
    step-answered outputs more asked on config c answer (ap (λ o. reply_of o answer) number ∙ replies) s

-- at the end of the step
pub last-so : (c : Chronicle) (id : ℕ) (text : Bytes) → due_of (asked_of c) ≡ Some id → text ≡ status_if (request_instance c) c → answering_last c ≡ Replied (given_place c) (record { ok = true; text = text }) ∷ []
last-so c id text due is =
    let both = due-some c id due in
    ap (λ o. answering_hurried o c) both.0 ∙ ap (λ t. Replied (given_place c) (record { ok = true; text = t }) ∷ []) (sym is)

pub step-last : (outputs : List Output) (asked : Option Asked) (on : Option ActedOn) (config : Configuration) (c : Chronicle) (id : ℕ) (text : Bytes) → due_of asked ≡ Some id → text ≡ status_if (request_instance c) c → Asks outputs asked on config c
    → Asks (outputs ++ output.Reply id (record { ok = true; text = text }) ∷ []) (answered_of asked) on config (answering_last c ++ c)
step-last outputs asked on config c id text due is s =
    let due_c : due_of (asked_of c) ≡ Some id = ap due_of (sym s.asked) ∙ due in
    let both = due-some c id due_c in
    subst (λ es. Asks (outputs ++ output.Reply id (record { ok = true; text = text }) ∷ []) (answered_of asked) on config (es ++ c)) (sym (last-so c id text due_c is))
    (step-answered outputs (output.Reply id (record { ok = true; text = text }) ∷ []) asked on config c (record { ok = true; text = text }) (ap (λ o. reply_of o (record { ok = true; text = text })) both.1) s)

-- the client that waits for an event
waits-so : (given : ℕ) (its : Option Entry) (r : ℕ) → if_waits given (request_in its) ≡ Some r → (given ≡ r) × ((id : ℕ) × (request : RequestValue) × (its ≡ Some (Given (input.Request id request))) × (request.wait ≡ true))
waits-so given None r found = absurd cc
waits-so given (Some (Given (input.Request id request))) r found = by_wait request.wait refl found
  where
    by_wait : (b : Bool) → request.wait ≡ b → (if b then Some given else None) ≡ Some r
        → (given ≡ r) × ((i : ℕ) × (q : RequestValue) × (Some (Given (input.Request id request)) ≡ Some (Given (input.Request i q))) × (q.wait ≡ true))
    by_wait true waits found = (cc, (id, request, refl, waits))
    by_wait false waits found = absurd cc
waits-so given (Some e) r found = absurd cc

pub waiter-there : (e : ℕ) (c : Chronicle) (r : ℕ) → waiter e c ≡ Some r → (id : ℕ) × (request : RequestValue) × (entry_at r c ≡ Some (Given (input.Request id request))) × (request.wait ≡ true)
waiter-there e c r found = by_entry (entry_at e c) found
  where
    by_entry : (its : Option Entry) → waiter_in its c ≡ Some r → (id : ℕ) × (request : RequestValue) × (entry_at r c ≡ Some (Given (input.Request id request))) × (request.wait ≡ true)
    by_entry (Some (Queued (Outside given) event)) found =
        let its = waits-so given (entry_at given c) r found in
        (its.1.0, its.1.1, ap (λ p. entry_at p c) (sym its.0) ∙ its.1.2, its.1.3)
    by_entry None found = absurd cc
    by_entry (Some e) found = absurd cc

-- which isn't the client of this step, if that doesn't wait
waiter-apart : (e : ℕ) (c : Chronicle) (r : ℕ) → waiter e c ≡ Some r → is_hurried (given_input c) ≡ true → (r == given_place c) ≡ false
waiter-apart e c r found hurried = by_case (r == given_place c) refl
  where
    its : (id : ℕ) × (request : RequestValue) × (entry_at r c ≡ Some (Given (input.Request id request))) × (request.wait ≡ true)
    its = waiter-there e c r found

    by_input : (g : Option Input) → given_input c ≡ g → is_hurried g ≡ true → r ≡ given_place c → ⊥
    by_input None is h same = absurd cc
    by_input (Some one) is h same =
        let there = given-there c one is in
        let both : Some (Given (input.Request its.0 its.1)) ≡ Some (Given one) = sym its.2 ∙ ap (λ p. entry_at p c) same ∙ there.1 in
        let inputs : input.Request its.0 its.1 ≡ one = cc in
        let no : not true ≡ true = ap not (sym its.3) ∙ ap (λ (i : Input). is_hurried (Some i)) inputs ∙ h in
        absurd cc

    by_case : (b : Bool) → (r == given_place c) ≡ b → b ≡ false
    by_case true same = absurd (by_input (given_input c) refl hurried (eqb-true r (given_place c) same))
    by_case false differs = refl

answered-else : (r : ℕ) (answer : Answer) (c : Chronicle) → (is_hurried (given_input c) ≡ true → (r == given_place c) ≡ false) → asked_of (Replied r answer ∷ c) ≡ asked_of c
answered-else r answer c apart = by_input (given_input c) refl
  where
    g : ℕ
    g = given_place c

    unasked : (b : Bool) → (b && not true) ≡ false
    unasked true = refl
    unasked false = refl

    by_input : (its : Option Input) → given_input c ≡ its → asked_in its (if r == g then true else was_answered g c) ≡ asked_in its (was_answered g c)
    by_input None is = refl
    by_input (Some (input.Request id request)) is = by_wait request.wait refl
      where
        by_wait : (b : Bool) → request.wait ≡ b → asked_in (Some (input.Request id request)) (if r == g then true else was_answered g c) ≡ asked_in (Some (input.Request id request)) (was_answered g c)
        by_wait true waits = rw waits (ap (λ b. Some (record { id = id; command = request.command; waits = true; answered = b })) (unasked (if r == g then true else was_answered g c) ∙ sym (unasked (was_answered g c))))
        by_wait false waits = ap (λ b. asked_in (Some (input.Request id request)) (if b then true else was_answered g c)) (apart (ap is_hurried is ∙ ap not waits))
    by_input (Some (input.Emit event)) is = refl
    by_input (Some (input.Spawned who its pid)) is = refl
    by_input (Some (input.Refused who its)) is = refl
    by_input (Some (input.Ended who its how)) is = refl
    by_input (Some (input.Clock reading)) is = refl
    by_input (Some input.Turn) is = refl
    by_input (Some (input.Load id loaded)) is = refl

pub step-waiter : (outputs : List Output) (asked : Option Asked) (on : Option ActedOn) (config : Configuration) (c : Chronicle) (e : ℕ) (spoilt : Bool) → Asks outputs asked on config (Finished e ∷ c)
    → Asks (outputs ++ waiter_replies (number_of (waiter e c) c) spoilt) asked on config (answering_waiter (waiter e c) spoilt ++ Finished e ∷ c)
unfolding outputs_of
step-waiter outputs asked on config c e spoilt s = by_waiter (waiter e c) refl
  where
    d : Chronicle
    d = Finished e ∷ c

    by_waiter : (o : Option ℕ) → waiter e c ≡ o → Asks (outputs ++ waiter_replies (number_of o c) spoilt) asked on config (answering_waiter o spoilt ++ d)
    by_waiter None is = record { outputs = append-nil outputs ∙ s.outputs; asked = s.asked; on = s.on; unheld = s.unheld }
    by_waiter (Some r) is =
        let its = waiter-there e c r is in
        let answer = answer_to Emit spoilt [] in
        let within = entry-older r c (Given (input.Request its.0 its.1)) its.2 in
        let number : id_at r c ≡ Some its.0 = ap id_of its.2 in
        let later : id_at r d ≡ Some its.0 = ap id_of (ap (λ b. if b then Some (Finished e) else entry_at r c) (older-other (length c) r within)) ∙ number in
        record {
          outputs = ap (λ o. outputs ++ waiter_replies o spoilt) number ∙ ap (λ outs. outs ++ waiter_replies (Some its.0) spoilt) s.outputs ∙ sym (ap (λ o. outputs_of d ++ reply_of o answer) later);
          asked = s.asked ∙ sym (answered-else r answer d (λ hurried. waiter-apart e c r is hurried));
          on = on-stays-by config (Replied r answer) d on tt (λ job. refl) (λ i gone. refl) s.on;
          unheld = s.unheld;
        }

-- the request acts on an instance
pub step-aimed : (outputs : List Output) (asked : Option Asked) (on : Option ActedOn) (config : Configuration) (c : Chronicle) (key : InstanceKey) (i : ℕ) (aim : Goal) (environment : Bindings) (places : List ℕ) → instance_place config c key ≡ Some i
    → (is_hurried (given_input c) ≡ true → AllByRecursion (λ place. (place == given_place c) ≡ false) places) → Asks outputs asked on config c → Asks outputs asked (Some (Exists key)) config (Aimed i aim environment places ∷ c)
step-aimed outputs asked on config c key i aim environment places there apart s = record {
  outputs = s.outputs ∙ sym (silent-out config c (Aimed i aim environment places) tt);
  asked = s.asked;
  on = on-aimed config c key i aim environment places there;
  unheld = λ hurried j. either hurried j (i == j);
}
  where
    either : is_hurried (given_input c) ≡ true → (j : ℕ) (b : Bool) → AllByRecursion (λ place. (place == given_place c) ≡ false) (if b then places else holders j c)
    either hurried j true = apart hurried
    either hurried j false = s.unheld hurried j

pub step-restarted : (outputs : List Output) (asked : Option Asked) (on : Option ActedOn) (config : Configuration) (c : Chronicle) (key : InstanceKey) (i : ℕ) (places : List ℕ) → instance_place config c key ≡ Some i
    → (is_hurried (given_input c) ≡ true → AllByRecursion (λ place. (place == given_place c) ≡ false) places) → Asks outputs asked on config c → Asks outputs asked (Some (Exists key)) config (Restarted i places ∷ c)
step-restarted outputs asked on config c key i places there apart s = record {
  outputs = s.outputs ∙ sym (silent-out config c (Restarted i places) tt);
  asked = s.asked;
  on = on-restarted config c key i places there;
  unheld = λ hurried j. either hurried j (i == j);
}
  where
    either : is_hurried (given_input c) ≡ true → (j : ℕ) (b : Bool) → AllByRecursion (λ place. (place == given_place c) ≡ false) (if b then places else holders j c)
    either hurried j true = apart hurried
    either hurried j false = s.unheld hurried j

-- what is left of an event that finishes tells who waits for it
pub finished-waiter : (e : ℕ) (c : Chronicle) (its : Option Finished_) (event : Event) → event_at e c ≡ Some event → its ≡ finished_at e c → finished_replies its ≡ waiter_replies (number_of (waiter e c) c) (is_spoilt e c)
finished-waiter e c its event there told = ap finished_replies told ∙ by_event (event_at e c) there
  where
    by_event : (o : Option Event) → o ≡ Some event
        → finished_replies (option_map (λ (x : Event). record { event = x; spoilt = is_spoilt e c; waiter = number_of (waiter e c) c }) o) ≡ waiter_replies (number_of (waiter e c) c) (is_spoilt e c)
    by_event None there = absurd cc
    by_event (Some x) there = refl

-- it tells of nobody if no client waits
pub unwaited : (e : ℕ) (c : Chronicle) → waiter e c ≡ None → IfSome {T = Finished_} (finished_at e c) (λ its. its.waiter ≡ None)
unwaited e c none = by_event (event_at e c)
  where
    by_event : (o : Option Event) → IfSome {T = Finished_} (option_map (λ (x : Event). record { event = x; spoilt = is_spoilt e c; waiter = number_of (waiter e c) c }) o) (λ its. its.waiter ≡ None)
    by_event None = tt
    by_event (Some x) = rw none refl
