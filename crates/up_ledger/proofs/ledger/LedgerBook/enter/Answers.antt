use Rattle.up_model.specs.Chronicle.{Entered}
use Rattle.up_ledger.proofs.Ledgers.{keyed, exists-so, silent, spares-entered}
use Rattle.std.proofs.Common.{◌∙◌}
use Rattle.up_model.specs.Queue.{queue}
use Rattle.up_ledger.proofs.ledger.LedgerBook.enter.Goals as goal

pub returns-clause-after : goal.returns-clause-after
returns-clause-after c config c' i s found moves =
    let old = c.args.self.now in
    silent old _ config c' (Entered i c.args.state) s (c.enter.ensures.after config c' i s.past (keyed old.past config c' c.args.key i s.past found) moves) tt tt
    (spares-entered config c' i c.args.state moves (exists-so old.past config c' c.args.key i s.past found))

pub returns-clause-events : goal.returns-clause-events
returns-clause-events c config c' i s found moves k j other = c.enter.ensures.places (queue c') k ∙ other
