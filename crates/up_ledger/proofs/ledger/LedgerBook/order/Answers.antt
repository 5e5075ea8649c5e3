use Rattle.std.proofs.Common.{refl}
use Rattle.up_model.specs.Chronicle.{Ordered}
use Rattle.up_book.specs.Sending.{listed}
use Rattle.up_ledger.proofs.Ledgers.{keyed, more, calm, ordered}
use Rattle.std.proofs.Common.{◌∙◌}
use Rattle.up_model.specs.Queue.{queue}
use Rattle.up_ledger.proofs.ledger.LedgerBook.order.Goals as goal

pub returns-clause-after : goal.returns-clause-after
returns-clause-after c config c' i s found there =
    let old = c.args.self.now in
    let e = Ordered i c.args.process in
    more old _ config c' e (listed c.in_ok-order.order) s (c.order.ensures.after config c' i s.past (keyed old.past config c' c.args.key i s.past found)) refl refl tt tt (calm config c' e (λ job. refl) (λ j. refl) (λ j. refl))
    (ordered old.past config c' c.args.key i c.args.job.now c.args.process c.in_ok-order.order s.past found there c.in_ok-order.ensures) c.in_ok-put.ensures refl refl

pub returns-clause-events : goal.returns-clause-events
returns-clause-events c config c' i s found there k j other = c.order.ensures.places (queue c') k ∙ other
