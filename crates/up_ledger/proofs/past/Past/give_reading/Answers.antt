use Rattle.std.proofs.Common.{refl}
use Rattle.up_ledger.proofs.Giving.{forgets-clock}
use Rattle.up_ledger.proofs.past.Past.give_reading.Goals as goal

pub returns-clause-after : goal.returns-clause-after
returns-clause-after c config c' f = forgets-clock c.args.self.now _ config c' c.args.reading f refl refl refl c.later_of-self.ensures
