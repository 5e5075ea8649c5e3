use Rattle.std.proofs.Common.{Some, ap}
use Rattle.up_ledger.specs.declared.step.ActedOn.{ActedOn}
use Rattle.up_ledger.proofs.Ledgers.{keyed, told-last}
use Rattle.up_ledger.proofs.ledger.Ledger.told_of.Goals as goal

pub returns-in_ok-text-in-Exists : goal.returns-in_ok-text-in-Exists
returns-in_ok-text-in-Exists c config c' s means =
    told-last config c' (Some c.args.on.now) c.in-Exists.key c.in_ok-text-in-Exists.text (ap (λ (its : ActedOn). Some its) c.in-Exists.is) means
    (λ i found. c.in_ok-text-in-Exists.ensures config c' i s.past (keyed c.args.self.now.past config c' c.in-Exists.key i s.past found))
