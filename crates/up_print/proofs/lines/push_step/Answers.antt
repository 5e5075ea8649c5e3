-- For the gate's time alone: with this answer a wrong body is refused sooner.
use Rattle.std.proofs.Common.{rules}
use Rattle.up_print.proofs.lines.push_step.Goals as goal

pub returns-in-NotExpected : goal.returns-in-NotExpected
returns-in-NotExpected c = search rules
