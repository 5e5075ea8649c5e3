use Rattle.std.proofs.Common.{refl}
use Rattle.up_model.specs.Chronicle.{Respawned}
use Rattle.up_model.specs.Clock.{now}
use Rattle.up_ledger.proofs.Ledgers.{keyed, silent, calm}
use Rattle.up_ledger.proofs.ledger.LedgerBook.respawn.Goals as goal

pub returns : goal.returns
returns c config c' i s found =
    let old = c.args.self.now in
    let e = Respawned i (now c') in
    silent old _ config c' e s (c.respawn.ensures config c' i s.past (keyed old.past config c' c.args.key i s.past found)) tt tt (calm config c' e (λ job. refl) (λ j. refl) (λ j. refl))
