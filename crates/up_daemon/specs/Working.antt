-- What the work of a daemon is seen as: an engine that answers, and a round that goes on.
use Rattle.std.specs.Prelude.{◌≡◌, ◌++◌, ◌∷◌, ◌⊎◌, ℕ, Bool, true, false, List, [], reverse}
use Rattle.std.specs.List.{AllByRecursion}
use Rattle.up_edge.specs.Calls.{Calls, emptied, with_entry, with_failure}
use Rattle.up_edge.specs.declared.happened.Happened.{Happened}
use Rattle.up_edge.specs.declared.happened.Happened.TheVariants.{Spawned, Signalled}
use Rattle.up_engine.specs.declared.engine.Engine.{Engine}
use Rattle.up_engine.specs.Stands.{Stands}
use Rattle.up_model.specs.declared.event.Event.{Event}
use Rattle.up_model.specs.declared.input.Input.{Input}
use Rattle.up_model.specs.declared.loaded.Loaded.{Loaded}
use Rattle.up_model.specs.declared.output.Order.{Order}
use Rattle.up_model.specs.declared.output.Output.{Output}
use Rattle.up_model.specs.declared.who.Who.{Who}
use Rattle.up_model.specs.Answers.{answer, after_all}
use Rattle.up_model.specs.Chronicle.{Chronicle}
use Rattle.up_model.specs.Configuration.{Configuration}
use Rattle.up_edge.specs.declared.passed.Passed.{Passed}
use Rattle.up_daemon.specs.declared.work.Work.{Work}
use Rattle.up_daemon.specs.Answering.{outputs_in}
use Rattle.up_daemon.specs.Peers.{peers_of, numbers_of, IsAtRest, last_number}
use Rattle.up_daemon.specs.Rounds.{IsRound, Reaches, ran, ran_not}
use Rattle.up_daemon.specs.RoundStates.{Part, FindingEnds, LettingIn, WritingTo, HasOrders, DaemonState, RoundState, opened, with_input}

-- the numbers of its clients
abbrev pub numbers_in : Work → List ℕ
numbers_in work = numbers_of (peers_of work.clients.list.items)

-- the round so far, with the calls of host, door and source, and the orders that are left
abbrev pub state_of : Work → Calls Happened → Calls Passed → Calls Loaded → List Output → RoundState
state_of work host door source left =
    record {
      clients = peers_of work.clients.list.items;
      next = work.next;
      fed = work.log.fed.items;
      gave = work.log.gave.items;
      left = left;
      host = host;
      door = door;
      source = source;
    }

-- the round came to this part and state, and its engine stands for the history with what was fed
pub record IsAt (config : Configuration) (c : Chronicle) (start : DaemonState) (part : Part) (engine : Engine)
    (state : RoundState) : Type 0 where
  pub stands : Stands engine config (after_all config c state.fed)
  pub reaches : Reaches config c start part state

-- whatever is said of a round, by its start, holds of each that begins so: the door has these clients, these are the events that it feeds
-- first, and of the calls of host, door and source none is recorded yet
abbrev pub OfOpened : Work → (connected : ℕ → Bool) → (first : List Event) → Calls Happened → Calls Passed → Calls Loaded
    → (Configuration → Chronicle → DaemonState → Type 0) → Type 0
OfOpened work connected first host door source says = (config : Configuration) (c : Chronicle) (start : DaemonState)
    → Stands work.engine config c → (start.connected ≡ connected) → (start.first ≡ first)
    → (state_of work (emptied host) (emptied door) (emptied source) [] ≡ opened start) → says config c start

-- a round has come to its end
abbrev pub IsOver : Configuration → Chronicle → DaemonState → Work → Calls Happened → Calls Passed → Calls Loaded → Type 0
IsOver config c start work host door source = IsAt config c start (WritingTo []) work.engine (state_of work host door source [])

-- a round goes from the one state to the other, whatever history its engine stands for: it feeds these inputs, for which these outputs are given
abbrev pub RunsRound : Engine → DaemonState → List Input → List (List Output) → DaemonState → Type 0
RunsRound engine start fed gave end = (config : Configuration) (c : Chronicle) → Stands engine config c → IsRound config c start fed gave end

-- whatever round is at the one is at the other afterwards
abbrev pub Leads : Part → Engine → RoundState → Part → Engine → RoundState → Type 0
Leads part engine state part_after engine_after state_after =
    (config : Configuration) (c : Chronicle) (start : DaemonState)
    → IsAt config c start part engine state → IsAt config c start part_after engine_after state_after

-- from part to part, without a call of the door or the source
abbrev pub Goes : Part → Work → Calls Happened → Part → Work → Calls Happened → Type 0
Goes part old host part_after new host_after = (door : Calls Passed) (source : Calls Loaded)
    → Leads part old.engine (state_of old host door source []) part_after new.engine (state_of new host_after door source [])

-- orders are carried out, in any part that has some
abbrev pub Carries : Work → Calls Happened → List Output → Work → Calls Happened → List Output → Type 0
Carries old host before new host_after after = (part : Part) → HasOrders part
    → (door : Calls Passed) (source : Calls Loaded)
    → Leads part old.engine (state_of old host door source before) part new.engine (state_of new host_after door source after)

-- an input was fed, and what was given for it was put on a stack of orders, whose last is the next
pub record IsFed (given : Input) (old new : Work) (before after : List Output) : Type 0 where
  pub outputs : List Output
  pub fed : new.log.fed.items ≡ old.log.fed.items ++ given ∷ []
  pub gave : new.log.gave.items ≡ old.log.gave.items ++ outputs ∷ []
  pub left : reverse after ≡ outputs ++ reverse before
  pub clients : new.clients ≡ old.clients
  pub next : new.next ≡ old.next
  pub answered : (config : Configuration) (c : Chronicle)
      → Stands old.engine config (after_all config c old.log.fed.items)
      → (outputs ≡ outputs_in (answer config (after_all config c old.log.fed.items) given))
      × Stands new.engine config (after_all config c new.log.fed.items)

-- the round comes to a state with this input, whatever is given for it by the model
abbrev pub Comes : Configuration → Chronicle → DaemonState → Part → Input → RoundState → Type 0
Comes config c start part given state = (outputs : List Output)
    → outputs ≡ outputs_in (answer config (after_all config c state.fed) given)
    → Reaches config c start part (with_input given outputs state)

-- the input is fed and its orders are carried out, in any part that has some
abbrev pub Takes : Work → Calls Happened → Input → Work → Calls Happened → Type 0
Takes old host given new host_after = (config : Configuration) (c : Chronicle) (start : DaemonState) (part : Part) → HasOrders part
    → (door : Calls Passed) (source : Calls Loaded)
    → Stands old.engine config (after_all config c old.log.fed.items)
    → Comes config c start part given (state_of old host door source [])
    → IsAt config c start part new.engine (state_of new host_after door source [])

-- a process was started by one call of the host, and this input is its answer
abbrev pub IsStarted : Order → Input → (before after : Calls Happened) → Type 0
IsStarted order given before after =
    ((pid : ℕ) × (given ≡ ran order pid) × (after ≡ with_entry (Spawned order pid) before))
    ⊎ ((given ≡ ran_not order) × (after ≡ with_failure before))

-- a signal was sent by one call of the host
abbrev pub IsSent : Who → ℕ → ℕ → (before after : Calls Happened) → Type 0
IsSent who pid signal before after =
    (after ≡ with_entry (Signalled who pid signal) before) ⊎ (after ≡ with_failure before)

-- the part after a look for an end
abbrev pub part_after : Bool → Part
part_after true = FindingEnds
part_after false = LettingIn

-- what was fed and given stays, the engine, and the number of the next request: a part of the round that concerns clients alone
pub record IsUntouched (old new : Work) : Type 0 where
  pub engine : new.engine ≡ old.engine
  pub log : new.log ≡ old.log
  pub next : new.next ≡ old.next

-- no request may enter now
abbrev pub NoneEnters : Work → Type 0
NoneEnters work = AllByRecursion IsAtRest (peers_of work.clients.list.items) ⊎ (work.next ≡ last_number)
