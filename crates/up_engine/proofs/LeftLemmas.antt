-- What is left to be ordered, in an engine that is sound.
use Rattle.std.proofs.Common.{◌≡◌, ◌≤◌, ◌+◌, true, List, sym, subst}
use Rattle.std.proofs.Math.Logic.{∥∥₁_elim}
use Rattle.std.specs.Coded.{le_prop}
use Rattle.up_ledger.proofs.LeftKept.{left-kept}
use Rattle.up_ledger.specs.Eventing.{place_of}
use Rattle.up_book.specs.Keys.{Resting}
use Rattle.up_ledger.specs.Ledgers.{Stands}
use Rattle.up_ledger.specs.Lefts.{left_of_jobs}
use Rattle.up_ledger.specs.declared.ledger.Ledger.{Ledger}
use Rattle.up_engine.specs.Sound.{Rests}
use Rattle.up_cascade.specs.Unfired.{IsAtRest}
use Rattle.up_engine.proofs.Loading.{rest-after}
use Rattle.up_model.specs.declared.input.Input.{Input}
use Rattle.up_model.specs.declared.output.Output.{Output}
use Rattle.up_model.specs.Answers.{after}
use Rattle.up_model.specs.Chronicle.{Chronicle}
use Rattle.up_model.specs.Configuration.{Configuration}
use Rattle.up_model.specs.Loads.{in_force}
use Rattle.up_model.specs.Left.{left, is_calm, spawns}
use Rattle.up_model.specs.Outputs.{outputs_of}
use Rattle.up_model.specs.Queue.{queue}
use Rattle.up_model.proofs.LeftLaws.{spends}

-- a sound book stays sound by a step
pub sound_after : (config other : Configuration) (old new : Ledger) (given : Input) → ∥ Rests config old ∥₁
    → ((start : Configuration) (c : Chronicle) → config ≡ in_force start c → Stands old Resting config c → IsAtRest config c → other ≡ in_force start (after start c given))
    → ((start : Configuration) (c : Chronicle) → config ≡ in_force start c → Stands old Resting config c → IsAtRest config c → Stands new Resting other (after start c given)) → ∥ Rests other new ∥₁
sound_after config other old new given sound forces steps =
    ∥∥₁_elim sound squash₁ (λ rests.
    let start = rests.0 in
    let c = rests.1 in
    let force = forces start c rests.2 rests.3 rests.4 in
    let stood = subst (λ conf. Stands old Resting conf c) rests.2 rests.3 in
    ∣ (start, after start c given, force, steps start c rests.2 rests.3 rests.4, subst (λ conf. IsAtRest conf (after start c given)) (sym force) (rest-after start given c stood.past.regular.known stood.past.lives.distinct (subst (λ conf. IsAtRest conf c) rests.2 rests.4))) ∣₁)

-- what is left by what is kept is what the chronicle says
pub left_told : (config : Configuration) (book : Ledger) (c : Chronicle) → Stands book Resting config c → left_of_jobs book.past.instances ≡ left c
left_told config book c s = left-kept (place_of book.past.events (queue c)) book.past.instances config c s.past.lives.jobs s.past.lives.distinct s.past.regular.known

-- and the step leaves fewer processes to be ordered, by those that it orders
pub left_after : (config other : Configuration) (old new : Ledger) (given : Input) (outputs : List Output) → is_calm given ≡ true → ∥ Rests config old ∥₁
    → ((start : Configuration) (c : Chronicle) → config ≡ in_force start c → Stands old Resting config c → IsAtRest config c → Stands new Resting other (after start c given))
    → ((start : Configuration) (c : Chronicle) → config ≡ in_force start c → Stands old Resting config c → IsAtRest config c → outputs ≡ outputs_of (after start c given))
    → left_of_jobs new.past.instances + spawns outputs ≤ left_of_jobs old.past.instances
left_after config other old new given outputs calm sound steps gives =
    ∥∥₁_elim sound le_prop (λ rests.
    let start = rests.0 in
    let c = rests.1 in
    rw (left_told other new (after start c given) (steps start c rests.2 rests.3 rests.4), left_told config old c rests.3, gives start c rests.2 rests.3 rests.4) (spends start c given calm))
