-- The request of a step.
use Rattle.std.specs.List.{AllByRecursion}
use Rattle.std.specs.Prelude.{◌≡◌, ℕ, ◌==◌, Bool, true, false, not, ◌&&◌, [], ◌∷◌, List, Option, None, Some, option_map, if◌then◌else◌}
use Rattle.up_model.specs.declared.input.Input.{Input}
use Rattle.up_model.specs.declared.input.Input.TheVariants as input
use Rattle.up_model.specs.declared.request.Command.TheVariants.{ReloadConfiguration}
use Rattle.up_model.specs.Chronicle.{Chronicle, Given}
use Rattle.up_model.specs.Readings.{holders}
use Rattle.up_model.specs.Replies.{was_answered}
use Rattle.up_ledger.specs.declared.step.Asked.{Asked}
use Rattle.up_job.specs.declared.holder.Holder.{Holder}
use Rattle.up_job.specs.declared.holder.Holder.TheVariants as holder
use Rattle.up_book.specs.Keys.{given_place}

-- the input of a step
abbrev pub given_input : Chronicle → Option Input
given_input [] = None
given_input (Given its ∷ c) = Some its
given_input (entry ∷ c) = given_input c

-- The request that it is. Of a client that doesn't wait it is known whether it was answered; that of a load is answered by the load alone.
abbrev pub asked_in : Option Input → (answered : Bool) → Option Asked
asked_in (Some (input.Request id request)) answered =
    Some (record { id = id; command = request.command; waits = request.wait; answered = answered && not request.wait })
asked_in (Some (input.Load id loaded)) answered =
    Some (record { id = id; command = ReloadConfiguration; waits = false; answered = true })
asked_in other answered = None

abbrev pub asked_of : Chronicle → Option Asked
asked_of c = asked_in (given_input c) (was_answered (given_place c) c)

-- whether it is a request of a client that doesn't wait
abbrev pub is_hurried : Option Input → Bool
is_hurried (Some (input.Request id request)) = not request.wait
is_hurried other = false

-- no instance is held by the request of this step, if its client doesn't wait
abbrev pub IsUnheld : Chronicle → Type 0
IsUnheld c = is_hurried (given_input c) ≡ true → (instance : ℕ) → AllByRecursion (λ place. (place == given_place c) ≡ false) (holders instance c)

-- the number of a client that waits, and of one that is still to be answered at the end of the step
abbrev pub waiter_of : Option Asked → Option ℕ
waiter_of None = None
waiter_of (Some asked) = if asked.waits then Some asked.id else None

abbrev pub due_of : Option Asked → Option ℕ
due_of None = None
due_of (Some asked) = if asked.waits then None else (if asked.answered then None else Some asked.id)

abbrev pub answered_of : Option Asked → Option Asked
answered_of None = None
answered_of (Some asked) = Some (record asked { answered = not asked.waits })

-- the client as a holder of the instance that it acts on
abbrev pub client_of : Option Asked → List Holder
client_of None = []
client_of (Some asked) = holder.Client asked.id asked.command ∷ []

-- the number under which the request is answered
abbrev pub number_asked : Option Asked → Option ℕ
number_asked asked = option_map (λ (its : Asked). its.id) asked
