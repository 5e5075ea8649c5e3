use Rattle.std.proofs.Common.{arith}
use Rattle.up_script.proofs.Stepping.{bad_step, line_within, no_step, one_step, step_less}
use Rattle.up_script.proofs.script.text_inputs.Goals as goal

pub returns-in-None : goal.returns-in-None
returns-in-None c = grind (arith, bad_step, line_within, no_step, one_step, step_less)
