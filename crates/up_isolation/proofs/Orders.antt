-- The starts and signals that name a job are those of its deeds.
use Rattle.std.proofs.Common.{◌≡◌, ℕ, Bool, true, false, List, [], ◌∷◌, ◌++◌, Option, None, Some}
use Rattle.std.proofs.Common.{if◌then◌else◌, bytes_eq, refl, sym, ◌∙◌, ap, ap₂, append-nil}
use Rattle.up_conf.specs.declared.job.JobDef.{JobDef}
use Rattle.up_stanza.specs.declared.action.Action.{Action}
use Rattle.up_stanza.specs.declared.process.Process.{Process}
use Rattle.up_stanza.specs.declared.process.Process.TheVariants.{Main}
use Rattle.up_model.specs.declared.input.Input.{Input}
use Rattle.up_model.specs.declared.output.Output.{Output}
use Rattle.up_model.specs.declared.output.Output.TheVariants as output
use Rattle.up_model.specs.declared.request.Answer.{Answer}
use Rattle.up_model.specs.declared.step.Step.TheVariants as step
use Rattle.up_model.specs.declared.who.Who.{Who}
use Rattle.up_model.specs.Answers.{after, answers, is_expected, next}
use Rattle.up_model.specs.Chronicle.{Chronicle, Given, Queued, Ordered, Signalled, Replied}
use Rattle.up_model.specs.Chronicle.{Entering, Spoilt}
use Rattle.up_model.specs.Configuration.{Configuration}
use Rattle.up_model.specs.Moves.{action_of}
use Rattle.up_model.specs.Outputs.{outputs_of, order_for, order_by, order_of, signal_of, reply_of}
use Rattle.up_model.specs.Readings.{file_of, made_at, id_at, process_env, pid_of}
use Rattle.up_model.specs.Replies.{request_at}
use Rattle.up_model.specs.Values.{Bytes, Bindings}
use Rattle.up_isolation.specs.Steps.{deeds_by_step, is_order_of, joined, orders_of, outputs_in}
use Rattle.up_isolation.specs.Views.{deeds_in, is_of, outputs_if, owns, was_asked}

orders-append : (job : Bytes) (xs ys : List Output) → orders_of job (xs ++ ys) ≡ orders_of job xs ++ orders_of job ys
orders-append job [] ys = refl
orders-append job (x ∷ xs) ys = by_case (is_order_of job x) (orders-append job xs ys)
  where
    by_case : (b : Bool) → orders_of job (xs ++ ys) ≡ orders_of job xs ++ orders_of job ys
        → (if b then x ∷ orders_of job (xs ++ ys) else orders_of job (xs ++ ys))
        ≡ (if b then x ∷ orders_of job xs else orders_of job xs) ++ orders_of job ys
    by_case true both = ap (λ zs. x ∷ zs) both
    by_case false both = both

-- what is ordered for another job is no order of this one
orders-for : (job : Bytes) (def : JobDef) (who : Who) (its : Process) (action : Option Action) (environment : Bindings)
    → bytes_eq who.job job ≡ false → orders_of job (order_for def who its action environment) ≡ []
orders-for job def who its None environment other = refl
orders-for job def who its (Some action) environment other = rw other refl

orders-by : (job : Bytes) (def : Option JobDef) (who : Who) (its : Process) (environment : Bindings)
    → bytes_eq who.job job ≡ false → orders_of job (order_by def (Some who) its environment) ≡ []
orders-by job None who its environment other = refl
orders-by job (Some def) who its environment other = orders-for job def who its (action_of def its) environment other

orders-ordered : (job : Bytes) (def : Option JobDef) (w : Option Who) (its : Process) (environment : Bindings)
    → orders_of job (order_by def w its environment)
    ≡ orders_of job (outputs_if (is_of job w) (order_by def w its environment))
orders-ordered job None None its environment = refl
orders-ordered job (Some def) None its environment = refl
orders-ordered job def (Some who) its environment = by_case (bytes_eq who.job job) refl
  where
    its_order : List Output
    its_order = order_by def (Some who) its environment

    by_case : (b : Bool) → bytes_eq who.job job ≡ b → orders_of job its_order ≡ orders_of job (outputs_if b its_order)
    by_case true is = refl
    by_case false is = orders-by job def who its environment is

orders-signalled : (job : Bytes) (w : Option Who) (signal : ℕ) (pid : Option ℕ)
    → orders_of job (signal_of w signal pid) ≡ orders_of job (outputs_if (is_of job w) (signal_of w signal pid))
orders-signalled job None signal pid = refl
orders-signalled job (Some who) signal None = by_case (bytes_eq who.job job)
  where
    by_case : (b : Bool) → [] ≡ orders_of job (outputs_if b [])
    by_case true = refl
    by_case false = refl
orders-signalled job (Some who) signal (Some pid) = by_case (bytes_eq who.job job) refl
  where
    by_case : (b : Bool) → bytes_eq who.job job ≡ b
        → (if bytes_eq who.job job then output.Signal who pid signal ∷ [] else [])
        ≡ orders_of job (outputs_if b (output.Signal who pid signal ∷ []))
    by_case true is = refl
    by_case false is = rw is refl

-- events and replies are no orders
no-event : (job : Bytes) (b : Bool) (one : Output) → is_order_of job one ≡ false
    → orders_of job (outputs_if b (one ∷ [])) ≡ []
no-event job true one none = rw none refl
no-event job false one none = refl

no-reply : (job : Bytes) (b : Bool) (id : Option ℕ) (answer : Answer) → orders_of job (outputs_if b (reply_of id answer)) ≡ []
no-reply job true None answer = refl
no-reply job true (Some id) answer = refl
no-reply job false id answer = refl

orders-both : (job : Bytes) (xs ys zs ws : List Output) → orders_of job xs ≡ orders_of job zs
    → orders_of job ys ≡ orders_of job ws → orders_of job (xs ++ ys) ≡ orders_of job (zs ++ ws)
orders-both job xs ys zs ws one other =
    orders-append job xs ys ∙ ap₂ (λ us vs. us ++ vs) one other ∙ sym (orders-append job zs ws)

-- of the last step
pub orders-step : (job : Bytes) (c : Chronicle) → orders_of job (outputs_of c) ≡ orders_of job (deeds_in job c)
unfolding outputs_of deeds_in
orders-step job [] = refl
orders-step job (Given given ∷ c) = refl
orders-step job (Ordered i its ∷ c) =
    orders-both job (outputs_of c) (order_of i its c) (deeds_in job c)
    (outputs_if (owns job i c) (order_of i its c))
    (orders-step job c) (orders-ordered job (file_of i c) (made_at i c) its (process_env i its c))
orders-step job (Signalled i signal by_timer ∷ c) =
    orders-both job (outputs_of c) (signal_of (made_at i c) signal (pid_of i Main c)) (deeds_in job c)
    (outputs_if (owns job i c) (signal_of (made_at i c) signal (pid_of i Main c)))
    (orders-step job c) (orders-signalled job (made_at i c) signal (pid_of i Main c))
orders-step job (Queued (Entering i to) event ∷ c) =
    orders-both job (outputs_of c) (output.Emitted event ∷ []) (deeds_in job c)
    (outputs_if (owns job i c) (output.Emitted event ∷ []))
    (orders-step job c) (sym (no-event job (owns job i c) (output.Emitted event) refl))
orders-step job (Queued (Spoilt spoilt) event ∷ c) =
    orders-both job (outputs_of c) (output.Emitted event ∷ []) (deeds_in job c) []
    (orders-step job c) refl
orders-step job (Replied r answer ∷ c) =
    orders-both job (outputs_of c) (reply_of (id_at r c) answer) (deeds_in job c)
    (outputs_if (was_asked job (request_at r c)) (reply_of (id_at r c) answer))
    (orders-step job c) (no-reply job true (id_at r c) answer
    ∙ sym (no-reply job (was_asked job (request_at r c)) (id_at r c) answer))
orders-step job (e ∷ c) =
    orders-step job c ∙ sym (ap (orders_of job) (append-nil (deeds_in job c)))

-- of a run
pub orders-run : (job : Bytes) (config : Configuration) (c : Chronicle) (inputs : List Input)
    → orders_of job (outputs_in (answers config c inputs)) ≡ orders_of job (joined (deeds_by_step job config c inputs))
unfolding answers deeds_by_step
orders-run job config c [] = refl
orders-run job config c (given ∷ inputs) =
    by_case (is_expected given c) (orders-run job config (next config c given) inputs)
  where
    rest : List Output
    rest = outputs_in (answers config (next config c given) inputs)

    others : List Output
    others = joined (deeds_by_step job config (next config c given) inputs)

    by_case : (b : Bool) → orders_of job rest ≡ orders_of job others
        → orders_of job (outputs_in ((if b then step.Gave (outputs_of (after config c given))
        else step.NotExpected) ∷ answers config (next config c given) inputs))
        ≡ orders_of job ((if b then deeds_in job (after config c given) else []) ++ others)
    by_case true both =
        orders-both job (outputs_of (after config c given)) rest (deeds_in job (after config c given)) others
        (orders-step job (after config c given)) both
    by_case false both = both
