-- For the gate's time alone: with this answer a wrong body is refused sooner.
use Rattle.std.proofs.Common.{rules}
use Rattle.up_model.proofs.request.Command.name.Goals as goal

pub returns-in-Restart : goal.returns-in-Restart
returns-in-Restart c = search rules
