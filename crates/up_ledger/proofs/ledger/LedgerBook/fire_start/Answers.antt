use Rattle.std.proofs.Common.{refl}
use Rattle.up_model.specs.Chronicle.{Fired, StartOn}
use Rattle.up_model.specs.Seen.{seen, taken}
use Rattle.up_book.proofs.Keyed.{job-there}
use Rattle.up_ledger.proofs.Ledgers.{silent, calm}
use Rattle.std.proofs.Common.{◌∙◌}
use Rattle.up_model.specs.Queue.{queue}
use Rattle.up_ledger.proofs.ledger.LedgerBook.fire_start.Goals as goal

pub returns-clause-after : goal.returns-clause-after
returns-clause-after c config c' s there =
    let ts = taken c.args.job.now.start_on (seen config (StartOn c.args.job.now.name) c') in
    let x = Fired (StartOn c.args.job.now.name) ts in
    silent c.args.self.now _ config c' x s (c.in_ok-taken.ensures.after config c' ts s.past (job-there config c.args.index c.args.job.now there)) tt tt (calm config c' x (λ job. refl) (λ j. refl) (λ j. refl))

pub returns-clause-taken : goal.returns-clause-taken
returns-clause-taken c config c' s there =
    let ts = taken c.args.job.now.start_on (seen config (StartOn c.args.job.now.name) c') in
    c.in_ok-taken.ensures.taken config c' ts s.past (job-there config c.args.index c.args.job.now there)

pub returns-clause-events : goal.returns-clause-events
returns-clause-events c config c' s there k j other = c.in_ok-taken.ensures.places (queue c') k ∙ other
