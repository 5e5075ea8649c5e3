use Rattle.std.proofs.Common.{refl}
use Rattle.up_model.specs.Chronicle.{Fired, StopOn}
use Rattle.up_model.specs.Seen.{seen, taken}
use Rattle.up_ledger.proofs.Ledgers.{keyed, silent, calm}
use Rattle.std.proofs.Common.{◌∙◌}
use Rattle.up_model.specs.Queue.{queue}
use Rattle.up_ledger.proofs.ledger.LedgerBook.fire_stop.Goals as goal

pub returns-clause-after : goal.returns-clause-after
returns-clause-after c config c' i s found there =
    let old = c.args.self.now in
    let ts = taken c.args.job.now.stop_on (seen config (StopOn i) c') in
    let x = Fired (StopOn i) ts in
    silent old _ config c' x s (c.in_ok-taken.ensures.after config c' i ts s.past (keyed old.past config c' c.args.key i s.past found) there) tt tt (calm config c' x (λ job. refl) (λ j. refl) (λ j. refl))

pub returns-clause-taken : goal.returns-clause-taken
returns-clause-taken c config c' i s found there =
    let old = c.args.self.now in
    let ts = taken c.args.job.now.stop_on (seen config (StopOn i) c') in
    c.in_ok-taken.ensures.taken config c' i ts s.past (keyed old.past config c' c.args.key i s.past found) there

pub returns-clause-events : goal.returns-clause-events
returns-clause-events c config c' i s found there k j other = c.in_ok-taken.ensures.places (queue c') k ∙ other
