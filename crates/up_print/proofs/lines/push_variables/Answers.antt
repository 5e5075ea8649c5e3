use Rattle.std.proofs.Common.{rules, append_assoc}
use Rattle.up_print.specs.Lines.{variable_text}
use Rattle.up_print.proofs.Growing.{one_more}
use Rattle.up_print.proofs.lines.push_variables.Goals as goal

pub loop-i-preserved : goal.loop-i-preserved
loop-i-preserved c =
    let more = one_more variable_text c.args.vars.now c.loop-i.i in
    let pair = c.at.ensures.pair in
    rw more (rw pair (search (rules, append_assoc)))
