-- What clients are answered that held an instance.
use Rattle.std.specs.Prelude.{ℕ, Bool, true, false, Option, None, Some, List, [], ◌∷◌, ◌++◌}
use Rattle.std.specs.List.{list_any}
use Rattle.up_event.specs.declared.live.Finished.{Finished}
use Rattle.up_model.specs.declared.output.Output.{Output}
use Rattle.up_model.specs.declared.output.Output.TheVariants as output
use Rattle.up_model.specs.declared.request.Command.TheVariants.{Emit}
use Rattle.up_model.specs.Replies.{answer_to}
use Rattle.up_model.specs.Values.{Bytes}
use Rattle.up_job.specs.declared.holder.Holder.{Holder}
use Rattle.up_job.specs.declared.holder.Holder.TheVariants as holder

-- whether a holder is a client
abbrev pub is_client : Holder → Bool
is_client (holder.Event id) = false
is_client (holder.Client id command) = true

-- whether one of these is
abbrev pub any_client : List Holder → Bool
any_client holders = list_any is_client holders

abbrev pub reply_to : Holder → (failed : Bool) → Bytes → List Output
reply_to (holder.Event id) failed told = []
reply_to (holder.Client id command) failed told = output.Reply id (answer_to command failed told) ∷ []

abbrev pub replies_to : List Holder → (failed : Bool) → Bytes → List Output
replies_to [] failed told = []
replies_to (its ∷ holders) failed told = reply_to its failed told ++ replies_to holders failed told

-- what the client is answered that waits for an event
abbrev pub waiter_replies : Option ℕ → (spoilt : Bool) → List Output
waiter_replies None spoilt = []
waiter_replies (Some id) spoilt = output.Reply id (answer_to Emit spoilt []) ∷ []

-- and once that has finished
abbrev pub finished_replies : Option Finished → List Output
finished_replies None = []
finished_replies (Some finished) = waiter_replies finished.waiter finished.spoilt
