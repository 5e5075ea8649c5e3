use Rattle.std.proofs.Common.{refl}
use Rattle.up_model.specs.Chronicle.{Offered, StopOn}
use Rattle.up_ledger.proofs.Ledgers.{keyed, silent, calm}
use Rattle.std.proofs.Common.{◌∙◌}
use Rattle.up_model.specs.Queue.{queue}
use Rattle.up_ledger.proofs.ledger.LedgerBook.offer_stop.Goals as goal

pub returns-clause-after : goal.returns-clause-after
returns-clause-after c config c' i e s found there event =
    let old = c.args.self.now in
    let x = Offered (StopOn i) e in
    silent old _ config c' x s (c.in_ok-holds.ensures.after config c' i e s.past (keyed old.past config c' c.args.key i s.past found) there event) tt tt (calm config c' x (λ job. refl) (λ j. refl) (λ j. refl))

pub returns-clause-holds : goal.returns-clause-holds
returns-clause-holds c config c' i e s found there event =
    let old = c.args.self.now in
    c.in_ok-holds.ensures.holds config c' i e s.past (keyed old.past config c' c.args.key i s.past found) there event

pub returns-clause-events : goal.returns-clause-events
returns-clause-events c config c' i e s found there event k j other = c.in_ok-holds.ensures.places (queue c') k ∙ other
