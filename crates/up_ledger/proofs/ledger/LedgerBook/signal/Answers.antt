use Rattle.std.proofs.Common.{refl, false}
use Rattle.up_model.specs.Chronicle.{Signalled}
use Rattle.up_book.specs.Sending.{listed}
use Rattle.up_ledger.proofs.Ledgers.{keyed, more, calm, signalled}
use Rattle.std.proofs.Common.{◌∙◌}
use Rattle.up_model.specs.Queue.{queue}
use Rattle.up_ledger.proofs.ledger.LedgerBook.signal.Goals as goal

pub returns-clause-after : goal.returns-clause-after
returns-clause-after c config c' i s found =
    let old = c.args.self.now in
    let e = Signalled i c.args.signal false in
    more old _ config c' e (listed c.in_ok-sent.sent) s (c.signal.ensures.after config c' i s.past (keyed old.past config c' c.args.key i s.past found)) refl refl tt tt (calm config c' e (λ job. refl) (λ j. refl) (λ j. refl))
    (signalled old.past config c' c.args.key i c.args.signal false c.in_ok-sent.sent s.past found c.in_ok-sent.ensures) c.in_ok-put.ensures refl refl

pub returns-clause-events : goal.returns-clause-events
returns-clause-events c config c' i s found k j other = c.signal.ensures.places (queue c') k ∙ other
