use Rattle.std.proofs.Common.{refl}
use Rattle.up_model.specs.Chronicle.{Offered, StartOn}
use Rattle.up_book.proofs.Keyed.{job-there}
use Rattle.up_ledger.proofs.Ledgers.{silent, calm}
use Rattle.std.proofs.Common.{◌∙◌}
use Rattle.up_model.specs.Queue.{queue}
use Rattle.up_ledger.proofs.ledger.LedgerBook.offer_start.Goals as goal

pub returns-clause-after : goal.returns-clause-after
returns-clause-after c config c' e s there env event =
    let job = job-there config c.args.index c.args.job.now there in
    let x = Offered (StartOn c.args.job.now.name) e in
    silent c.args.self.now _ config c' x s (c.in_ok-holds.ensures.after config c' e s.past job env (s.index.by_event.starts c.args.index c.args.job.now job) event) tt tt (calm config c' x (λ job. refl) (λ j. refl) (λ j. refl))

pub returns-clause-holds : goal.returns-clause-holds
returns-clause-holds c config c' e s there env event =
    let job = job-there config c.args.index c.args.job.now there in
    c.in_ok-holds.ensures.holds config c' e s.past job env (s.index.by_event.starts c.args.index c.args.job.now job) event

pub returns-clause-events : goal.returns-clause-events
returns-clause-events c config c' e s there env event k j other = c.in_ok-holds.ensures.places (queue c') k ∙ other
