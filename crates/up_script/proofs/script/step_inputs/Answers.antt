-- For the gate's time alone: with this answer a wrong body is refused sooner.
use Rattle.std.proofs.Common.{rules}
use Rattle.up_script.proofs.script.step_inputs.Goals as goal

pub returns-then-branch-clause-inputs : goal.returns-then-branch-clause-inputs
returns-then-branch-clause-inputs c = search rules
