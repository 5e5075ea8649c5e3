-- What a step has asked for, one entry later.
use Rattle.std.proofs.Common.{◌≡◌, ℕ, ◌<◌, ◌==◌, Bool, true, false, List, [], ◌∷◌, ◌++◌, length, Option, None, Some, slice_get, option_map, option_and_then, if◌then◌else◌, refl, sym, ◌∙◌, ap, subst, arith, eq-eqb}
use Rattle.up_model.specs.declared.input.Input.{Input}
use Rattle.up_model.specs.declared.input.Input.TheVariants as input
use Rattle.up_model.specs.declared.output.Output.{Output}
use Rattle.up_model.specs.Chronicle.{Chronicle, Entry, Given, Replied}
use Rattle.up_model.specs.Configuration.{Configuration}
use Rattle.up_model.specs.Instances.{Instance, all_instances, instances_of}
use Rattle.up_model.specs.Values.{Bytes}
use Rattle.up_model.specs.Outputs.{outputs_of}
use Rattle.up_model.specs.Readings.{entry_at, holders, id_of, id_at}
use Rattle.up_model.specs.Requests.{RequestValue}
use Rattle.up_model.specs.Replies.{asked, was_answered, unanswered, unless_answered, if_hurried}
use Rattle.up_model.proofs.Places.{older-other, count, instances-exist}
use Rattle.up_job.specs.declared.instance_key.InstanceKey.{InstanceKey}
use Rattle.up_job.specs.declared.instances.JobInstances.{JobInstances}
use Rattle.up_ledger.specs.declared.step.ActedOn.{ActedOn}
use Rattle.up_ledger.specs.declared.step.ActedOn.TheVariants.{Exists, Gone}
use Rattle.up_ledger.specs.declared.step.Asked.{Asked}
use Rattle.std.specs.List.{AllByRecursion}
use Rattle.up_ledger.specs.Asking.{given_input, asked_in, asked_of, due_of, is_hurried, IsUnheld}
use Rattle.up_book.specs.Keys.{name_at, instance_place, given_place}
use Rattle.up_ledger.specs.Requesting.{IsGone, OnMeans}
use Rattle.up_ledger.specs.Steps.{Asks}
use Rattle.up_book.specs.Views.{Places}
use Rattle.up_book.proofs.One.{There, nth-counted}
use Rattle.up_ledger.proofs.Outgoing.{IsSilent, silent-out}
use Rattle.up_ledger.proofs.Requested.{IsPlain, Mentions, request-plain, status-apart, gone-later}

-- an entry that neither begins a step nor answers
abbrev pub IsUnasked : Entry → Type 0
IsUnasked (Given its) = ⊥
IsUnasked (Replied request answer) = ⊥
IsUnasked entry = Unit {0}

pub input-later : (e : Entry) (c : Chronicle) → IsUnasked e → given_input (e ∷ c) ≡ given_input c
input-later (Given its) c is = absurd is
input-later e c is = refl

pub place-later : (e : Entry) (c : Chronicle) → IsUnasked e → given_place (e ∷ c) ≡ given_place c
place-later (Given its) c is = absurd is
place-later e c is = refl

pub unheld-by : (c d : Chronicle) → given_input d ≡ given_input c → given_place d ≡ given_place c → ((i : ℕ) → AllByRecursion (λ p. (p == given_place c) ≡ false) (holders i c) → AllByRecursion (λ p. (p == given_place c) ≡ false) (holders i d)) → IsUnheld c → IsUnheld d
unheld-by c d input place fewer unheld hurried i =
    subst (λ g. AllByRecursion (λ p. (p == g) ≡ false) (holders i d)) (sym place) (fewer i (unheld (ap is_hurried (sym input) ∙ hurried) i))

pub unheld-later : (e : Entry) (c : Chronicle) → IsUnasked e → ((i : ℕ) → holders i (e ∷ c) ≡ holders i c) → IsUnheld c → IsUnheld (e ∷ c)
unheld-later e c is same unheld =
    unheld-by c (e ∷ c) (input-later e c is) (place-later e c is) (λ i all. subst (λ hs. AllByRecursion (λ p. (p == given_place c) ≡ false) hs) (sym (same i)) all) unheld

pub asked-later : (e : Entry) (c : Chronicle) → IsUnasked e → asked_of (e ∷ c) ≡ asked_of c
asked-later (Given its) c is = absurd is
asked-later (Replied request answer) c is = absurd is
asked-later e c is = refl

silent-unasked : (e : Entry) → IsSilent e → IsUnasked e
silent-unasked (Given its) is = absurd is
silent-unasked (Replied request answer) is = absurd is
silent-unasked e is = tt

-- an entry by which keys stand where they stood, and that speaks of no instance that is gone
pub record Spares (config : Configuration) (c : Chronicle) (e : Entry) : Type 0 where
  pub instances : (job : Bytes) → instances_of job (e ∷ c) ≡ instances_of job c
  pub holders : (i : ℕ) → holders i (e ∷ c) ≡ holders i c
  pub apart : (i : ℕ) → IsGone i c → Mentions i e ≡ false

key-stays : (config : Configuration) (c d : Chronicle) (key : InstanceKey) → ((job : Bytes) → instances_of job d ≡ instances_of job c) → instance_place config d key ≡ instance_place config c key
key-stays config c d key same = ap (option_map {T = Instance} (λ its. its.place)) (by_name (name_at config key.job))
  where
    by_name : (name : Option Bytes) → option_and_then (λ (job : Bytes). slice_get (instances_of job d) key.at) name ≡ option_and_then (λ (job : Bytes). slice_get (instances_of job c) key.at) name
    by_name None = refl
    by_name (Some job) = ap (λ (its : List Instance). slice_get its key.at) (same job)

-- the instance of the request stays what it is
pub on-stays-by : (config : Configuration) (e : Entry) (c : Chronicle) (on : Option ActedOn) → IsPlain e → ((job : Bytes) → instances_of job (e ∷ c) ≡ instances_of job c) → ((i : ℕ) → IsGone i c → Mentions i e ≡ false) → OnMeans config c on
    → OnMeans config (e ∷ c) on
on-stays-by config e c None is instances apart means = request-plain e c is ∙ means
on-stays-by config e c (Some (Exists key)) is instances apart means = (means.0, request-plain e c is ∙ means.1, key-stays config c (e ∷ c) key instances ∙ means.2)
on-stays-by config e c (Some (Gone text)) is instances apart means =
    let gone : IsGone means.0 c = means.3 in
    (means.0, request-plain e c is ∙ means.1, status-apart means.0 e c (apart means.0 gone) gone.0 ∙ means.2, gone-later means.0 e c gone)

pub on-stays : (config : Configuration) (e : Entry) (c : Chronicle) (on : Option ActedOn) → IsPlain e → Spares config c e → OnMeans config c on → OnMeans config (e ∷ c) on
on-stays config e c on is spares means = on-stays-by config e c on is spares.instances spares.apart means

-- the same by other words
pub asks-same : (outputs others : List Output) (asked also : Option Asked) (on too : Option ActedOn) (config : Configuration) (c : Chronicle) → others ≡ outputs → also ≡ asked → too ≡ on → Asks outputs asked on config c → Asks others also too config c
asks-same outputs others asked also on too config c out same acted s = record {
  outputs = out ∙ s.outputs;
  asked = same ∙ s.asked;
  on = subst (OnMeans config c) (sym acted) s.on;
  unheld = s.unheld;
}

-- an entry that asks for nothing
pub step-silent : (outputs : List Output) (asked : Option Asked) (on : Option ActedOn) (config : Configuration) (c : Chronicle) (e : Entry) → IsSilent e → IsPlain e → Spares config c e → Asks outputs asked on config c
    → Asks outputs asked on config (e ∷ c)
step-silent outputs asked on config c e silent plain spares s = record {
  outputs = s.outputs ∙ sym (silent-out config c e silent);
  asked = s.asked ∙ sym (asked-later e c (silent-unasked e silent));
  on = on-stays config e c on plain spares s.on;
  unheld = unheld-later e c (silent-unasked e silent) spares.holders s.unheld;
}

-- one that asks for something more
pub step-more : (outputs more : List Output) (asked : Option Asked) (on : Option ActedOn) (config : Configuration) (c : Chronicle) (e : Entry) → IsUnasked e → IsPlain e → Spares config c e → outputs_of (e ∷ c) ≡ outputs_of c ++ more
    → Asks outputs asked on config c → Asks (outputs ++ more) asked on config (e ∷ c)
step-more outputs more asked on config c e unasked plain spares out s = record {
  outputs = ap (λ its. its ++ more) s.outputs ∙ sym out;
  asked = s.asked ∙ sym (asked-later e c unasked);
  on = on-stays config e c on plain spares s.on;
  unheld = unheld-later e c unasked spares.holders s.unheld;
}

-- an instance of a key exists, so it isn't one that is gone
pub there-exists : (places : Places) (jobs : List JobInstances) (config : Configuration) (c : Chronicle) (key : InstanceKey) (i : ℕ) → There places jobs config c key i → 0 < count i (all_instances c)
there-exists places jobs config c key i t =
    subst (λ p. 0 < count p (all_instances c)) t.place (omega (arith, nth-counted key.at (instances_of t.job.name c) t.its t.in_instances, instances-exist t.its.place t.job.name c))

-- where the input of a step was given
pub given-there : (c : Chronicle) (its : Input) → given_input c ≡ Some its → (given_place c < length c) × (entry_at (given_place c) c ≡ Some (Given its))
given-there [] its there = absurd cc
given-there (Given other ∷ c) its there =
    let same : other ≡ its = cc in
    (omega arith, rw (eq-eqb (length c) (length c) refl) (ap (λ i. Some (Given i)) same))
given-there (e ∷ c) its there =
    let before = given-there c its there in
    (omega (arith, before.0), rw (older-other (length c) (given_place c) before.0) before.1)

-- the request that is still to be answered at the end of the step, by what is kept of it
abbrev hurried_in : ℕ → Option Input → Option ℕ
hurried_in place None = None
hurried_in place (Some its) = if_hurried place its

asked-known : (c : Chronicle) → asked c ≡ hurried_in (given_place c) (given_input c)
asked-known [] = refl
asked-known (Given its ∷ c) = refl
asked-known (e ∷ c) = asked-known c

due-value : (n : ℕ) (request : RequestValue) (w a : Bool) → request.wait ≡ w → due_of (asked_in (Some (input.Request n request)) a) ≡ (if w then None else (if a then None else Some n))
due-value n request true a waits = rw waits refl
due-value n request false true waits = rw waits refl
due-value n request false false waits = rw waits refl

unanswered-by : (c : Chronicle) → unanswered c ≡ unless_answered (hurried_in (given_place c) (given_input c)) c
unanswered-by c = ap (λ o. unless_answered o c) (asked-known c)

-- the client that is still to be answered
pub due-some : (c : Chronicle) (id : ℕ) → due_of (asked_of c) ≡ Some id → (unanswered c ≡ Some (given_place c)) × (id_at (given_place c) c ≡ Some id)
due-some c id due =
    let both = by_input (given_input c) refl due in
    (unanswered-by c ∙ both.0, both.1)
  where
    g : ℕ
    g = given_place c

    by_input : (its : Option Input) → given_input c ≡ its → due_of (asked_in its (was_answered g c)) ≡ Some id → (unless_answered (hurried_in g (given_input c)) c ≡ Some g) × (id_at g c ≡ Some id)
    by_input None is due = absurd cc
    by_input (Some (input.Request n request)) is due = by_wait request.wait (was_answered g c) refl refl
      where
        by_wait : (w a : Bool) → request.wait ≡ w → was_answered g c ≡ a → (unless_answered (hurried_in g (given_input c)) c ≡ Some g) × (id_at g c ≡ Some id)
        by_wait true a waits answered =
            let none : None ≡ Some id = sym (due-value n request true (was_answered g c) waits) ∙ due in
            absurd cc
        by_wait false true waits answered =
            let none : None ≡ Some id = sym (ap (λ b. due_of (asked_in (Some (input.Request n request)) b)) answered ∙ due-value n request false true waits) ∙ due in
            absurd cc
        by_wait false false waits answered =
            let number : Some n ≡ Some id = sym (ap (λ b. due_of (asked_in (Some (input.Request n request)) b)) answered ∙ due-value n request false false waits) ∙ due in
            let there = given-there c (input.Request n request) is in
            (ap (λ its. unless_answered (hurried_in g its) c) is ∙ ap (λ w. unless_answered (if w then None else Some g) c) waits ∙ ap (λ b. if b then None else Some g) answered, ap id_of there.1 ∙ number)
    by_input (Some (input.Emit event)) is due = absurd cc
    by_input (Some (input.Spawned who its pid)) is due = absurd cc
    by_input (Some (input.Refused who its)) is due = absurd cc
    by_input (Some (input.Ended who its how)) is due = absurd cc
    by_input (Some (input.Clock reading)) is due = absurd cc
    by_input (Some input.Turn) is due = absurd cc
    by_input (Some (input.Load n loaded)) is due = absurd cc

pub due-none : (c : Chronicle) → due_of (asked_of c) ≡ None → unanswered c ≡ None
due-none c due = unanswered-by c ∙ by_input (given_input c) refl due
  where
    g : ℕ
    g = given_place c

    by_input : (its : Option Input) → given_input c ≡ its → due_of (asked_in its (was_answered g c)) ≡ None → unless_answered (hurried_in g (given_input c)) c ≡ None
    by_input None is due = ap (λ its. unless_answered (hurried_in g its) c) is
    by_input (Some (input.Request n request)) is due = by_wait request.wait (was_answered g c) refl refl
      where
        by_wait : (w a : Bool) → request.wait ≡ w → was_answered g c ≡ a → unless_answered (hurried_in g (given_input c)) c ≡ None
        by_wait true a waits answered = ap (λ its. unless_answered (hurried_in g its) c) is ∙ ap (λ w. unless_answered (if w then None else Some g) c) waits
        by_wait false true waits answered =
            ap (λ its. unless_answered (hurried_in g its) c) is ∙ ap (λ w. unless_answered (if w then None else Some g) c) waits ∙ ap (λ b. if b then None else Some g) answered
        by_wait false false waits answered =
            let some : Some n ≡ None = sym (ap (λ b. due_of (asked_in (Some (input.Request n request)) b)) answered ∙ due-value n request false false waits) ∙ due in
            absurd cc
    by_input (Some (input.Emit event)) is due = ap (λ its. unless_answered (hurried_in g its) c) is
    by_input (Some (input.Spawned who its pid)) is due = ap (λ its. unless_answered (hurried_in g its) c) is
    by_input (Some (input.Refused who its)) is due = ap (λ its. unless_answered (hurried_in g its) c) is
    by_input (Some (input.Ended who its how)) is due = ap (λ its. unless_answered (hurried_in g its) c) is
    by_input (Some (input.Clock reading)) is due = ap (λ its. unless_answered (hurried_in g its) c) is
    by_input (Some input.Turn) is due = ap (λ its. unless_answered (hurried_in g its) c) is
    by_input (Some (input.Load n loaded)) is due = ap (λ its. unless_answered (hurried_in g its) c) is
