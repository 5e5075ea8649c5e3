use Rattle.up_isolation.proofs.Orders.{orders-run}
use Rattle.up_isolation.proofs.Stepping.{deeds-run, steps-of}
use Rattle.up_isolation.proofs.laws.deeds_are_answers.Goals as goal

pub returns-clause-whole : goal.returns-clause-whole
returns-clause-whole c = deeds-run

pub returns-clause-among : goal.returns-clause-among
returns-clause-among c = steps-of

pub returns-clause-orders : goal.returns-clause-orders
returns-clause-orders c = orders-run
