-- For the gate's time alone: with this answer a wrong body is refused sooner.
use Rattle.std.proofs.Common.{rules}
use Rattle.up_engine.proofs.fault.StepError.number.Goals as goal

pub returns-in-Down : goal.returns-in-Down
returns-in-Down c = search rules
