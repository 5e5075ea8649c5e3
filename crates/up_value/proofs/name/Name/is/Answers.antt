-- For the gate's time alone: with this answer a wrong body is refused sooner.
use Rattle.std.proofs.Common.{rules}
use Rattle.up_value.proofs.name.Name.is.Goals as goal

pub returns-clause-test : goal.returns-clause-test
returns-clause-test c = search rules

pub returns-clause-equal : goal.returns-clause-equal
returns-clause-equal c = search rules
