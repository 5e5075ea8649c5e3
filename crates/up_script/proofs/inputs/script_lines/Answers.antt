use Rattle.std.proofs.Common.{◌∙◌, Ok, ap, sym}
use Rattle.up_script.proofs.Loadless.{script-loadless}
use Rattle.up_script.proofs.inputs.script_lines.Goals as goal

pub same_inputs-requires : goal.same_inputs-requires
same_inputs-requires c =
    script-loadless 1 c.as_slice.result.now c.as_slice-2.result.now (ap Ok c.as_slice-2.ensures ∙ sym c.in-Ok.is ∙ c.in_ok-read.ensures)
