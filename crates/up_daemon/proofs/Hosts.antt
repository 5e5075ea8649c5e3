-- One call of the host more, and what is fed of it.
use Rattle.std.proofs.Common.{◌∷◌, ℕ, List, reverse, refl, inl, inr}
use Rattle.up_edge.specs.Calls.{Calls}
use Rattle.up_edge.specs.declared.happened.Happened.{Happened}
use Rattle.up_engine.specs.Stands.{Stands}
use Rattle.up_model.specs.Answers.{after_all}
use Rattle.up_model.specs.Chronicle.{Chronicle}
use Rattle.up_model.specs.Configuration.{Configuration}
use Rattle.up_model.specs.declared.input.Input.{Input}
use Rattle.up_model.specs.declared.loaded.Loaded.{Loaded}
use Rattle.up_model.specs.declared.output.Order.{Order}
use Rattle.up_model.specs.declared.output.Output.{Output}
use Rattle.up_model.specs.declared.output.Output.TheVariants as output
use Rattle.up_model.specs.declared.who.Who.{Who}
use Rattle.up_edge.specs.declared.passed.Passed.{Passed}
use Rattle.up_daemon.specs.declared.work.Work.{Work}
use Rattle.up_daemon.specs.Rounds.{Starts, StartFails, Signals, SignalFails}
use Rattle.up_daemon.specs.RoundStates.{Part, DaemonState}
use Rattle.up_daemon.specs.Working.{state_of, IsAt, Carries, Comes, IsFed, IsStarted, IsSent}

-- an input is fed at a state to which the round comes with it
pub fed_at : (config : Configuration) (c : Chronicle) (start : DaemonState) (part : Part) (given : Input) (old new : Work) (before after : List Output)
    (host : Calls Happened) (door : Calls Passed) (source : Calls Loaded) → IsFed given old new before after
    → Stands old.engine config (after_all config c old.log.fed.items)
    → Comes config c start part given (state_of old host door source (reverse before))
    → IsAt config c start part new.engine (state_of new host door source (reverse after))
fed_at config c start part given old new before after host door source fed stands comes =
    let answered = fed.answered config c stands in
    record {
      stands = answered.1;
      reaches = rw (fed.fed, fed.gave, fed.left, fed.clients, fed.next) (comes fed.outputs answered.0);
    }

-- a process is started, and its answer is fed
pub carries_start : (old new : Work) (host host_after : Calls Happened) (order : Order) (given : Input) (before after : List Output)
    → IsStarted order given host host_after → IsFed given old new before after
    → Carries old host (output.Spawn order ∷ reverse before) new host_after (reverse after)
carries_start old new host host_after order given before after (inl ran_as) fed part here door source config c start at =
    fed_at config c start part given old new before after host_after door source fed at.stands
    (λ outputs is. rw (ran_as.1, ran_as.2) (Starts part here order ran_as.0 outputs (reverse before) (state_of old host door source (output.Spawn order ∷ reverse before)) refl (rw ran_as.1 at is) at.reaches))
carries_start old new host host_after order given before after (inr refused) fed part here door source config c start at =
    fed_at config c start part given old new before after host_after door source fed at.stands
    (λ outputs is. rw (refused.0, refused.1) (StartFails part here order outputs (reverse before) (state_of old host door source (output.Spawn order ∷ reverse before)) refl (rw refused.0 at is) at.reaches))

-- a signal is sent
pub carries_signal : (work : Work) (host host_after : Calls Happened) (who : Who) (pid signal : ℕ) (left : List Output)
    → IsSent who pid signal host host_after
    → Carries work host (output.Signal who pid signal ∷ left) work host_after left
carries_signal work host host_after who pid signal left (inl sent) part here door source config c start at =
    record { stands = at.stands; reaches = rw sent (Signals part here who pid signal left (state_of work host door source (output.Signal who pid signal ∷ left)) refl at.reaches) }
carries_signal work host host_after who pid signal left (inr refused) part here door source config c start at =
    record { stands = at.stands; reaches = rw refused (SignalFails part here who pid signal left (state_of work host door source (output.Signal who pid signal ∷ left)) refl at.reaches) }
