-- for the gate's time alone
use Rattle.std.proofs.Common.{rules}
use Rattle.up_model.proofs.output.Order.copy.Goals as goal

pub returns : goal.returns
returns c = search rules
