use Rattle.std.proofs.Common.{refl, ◌∷◌, []}
use Rattle.up_model.specs.Chronicle.{Queued, Entering}
use Rattle.up_model.specs.declared.output.Output.TheVariants.{Emitted}
use Rattle.up_ledger.proofs.Outgoing.{entering-out}
use Rattle.up_ledger.proofs.Ledgers.{keyed, more, calm}
use Rattle.up_ledger.proofs.ledger.LedgerBook.announce.Goals as goal

pub returns-clause-after : goal.returns-clause-after
returns-clause-after c config c' i s found =
    let old = c.args.self.now in
    let e = Queued (Entering i c.args.state) c.args.event in
    more old _ config c' e (Emitted c.args.event ∷ []) s (c.in_ok-announce.ensures.after config c' i s.past (keyed old.past config c' c.args.key i s.past found)) refl refl tt tt (calm config c' e (λ job. refl) (λ j. refl) (λ j. refl))
    (entering-out config c' i c.args.state c.args.event) c.in_ok-push_emitted.ensures refl refl

pub returns-clause-events : goal.returns-clause-events
returns-clause-events c config c' i s found k j other = c.in_ok-announce.ensures.events config c' i k j s.past other
