-- For the gate's time alone: with this answer a wrong body is refused sooner.
use Rattle.std.proofs.Common.{rules}
use Rattle.up_model.proofs.input.Input.copy.Goals as goal

pub returns-in-Turn : goal.returns-in-Turn
returns-in-Turn c = search rules
