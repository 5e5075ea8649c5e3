use Rattle.std.proofs.Common.{refl, ◌∷◌, []}
use Rattle.up_model.specs.Chronicle.{Queued, Spoilt}
use Rattle.up_model.specs.declared.output.Output.TheVariants.{Emitted}
use Rattle.up_ledger.proofs.Outgoing.{spoilt-out}
use Rattle.up_ledger.proofs.Ledgers.{more, calm}
use Rattle.up_ledger.proofs.ledger.Ledger.tell_if.Goals as goal

pub returns-in_ok-queue_failure_event-in-Some-clause-after : goal.returns-in_ok-queue_failure_event-in-Some-clause-after
returns-in_ok-queue_failure_event-in-Some-clause-after c config c' spoilt s =
    let e = Queued (Spoilt spoilt) c.in-Some.event in
    rw c.in-Some.is (more c.args.self.now _ config c' e (Emitted c.in-Some.event ∷ []) s (c.in_ok-queue_failure_event-in-Some.ensures config c' spoilt s.past) refl refl tt tt (calm config c' e (λ job. refl) (λ i. refl) (λ i. refl))
    (spoilt-out config c' spoilt c.in-Some.event) c.in_ok-push_emitted-in-Some.ensures refl refl)
