use Rattle.up_isolation.proofs.Telling.{deeds-among, deeds-after}
use Rattle.up_isolation.proofs.laws.deeds_are_outputs.Goals as goal

pub returns-clause-added : goal.returns-clause-added
returns-clause-added c = deeds-after

pub returns-clause-among : goal.returns-clause-among
returns-clause-among c = deeds-among
