-- For the gate's time alone: with this answer a wrong body is refused sooner.
use Rattle.std.proofs.Common.{rules}
use Rattle.up_value.proofs.fault.TextFault.number.Goals as goal

pub returns-in-BadExpansion : goal.returns-in-BadExpansion
returns-in-BadExpansion c = search rules
