-- Who is let in.
use Rattle.std.specs.Prelude.{◌≡◌, ◌++◌, ◌∷◌, ◌⊎◌, ℕ, Bool, true, false, List, [], None, Some}
use Rattle.up_edge.specs.Calls.{Calls, with_entry, with_failure}
use Rattle.up_daemon.specs.declared.clients.client.Client.{Client}
use Rattle.up_edge.specs.declared.passed.Passed.{Passed}
use Rattle.up_edge.specs.declared.passed.Passed.TheVariants.{Accepted}

-- the most clients that are connected
abbrev pub most_clients : ℕ
most_clients = 64

-- a client who has just come: nothing was said and nothing waits
pub record IsNew (number : ℕ) (client : Client) : Type 0 where
  pub named : client.number ≡ number
  pub said : client.feed ≡ record { rest = []; fault = None }
  pub waiting : client.waiting.items ≡ []
  pub unanswered : client.unanswered ≡ None
  pub answers : client.answers.items ≡ []

-- One accept by the door: the client that waited, and whose number is that of none that is connected, is the last one now. Or nobody waited, or the accept failed and was counted, and the
-- clients are as before.
abbrev pub LetsIn : Bool → (ℕ → Bool) → (old new : List Client) → (before after : Calls Passed) → Type 0
LetsIn true connected old new before after =
    (number : ℕ) × (client : Client) × (connected number ≡ false) × (after ≡ with_entry (Accepted (Some number)) before)
    × (new ≡ old ++ client ∷ []) × IsNew number client
LetsIn false connected old new before after =
    (new ≡ old) × ((after ≡ with_entry (Accepted None) before) ⊎ (after ≡ with_failure before))
