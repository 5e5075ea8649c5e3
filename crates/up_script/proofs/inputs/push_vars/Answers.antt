use Rattle.std.proofs.Common.{rules, append_assoc}
use Rattle.up_script.specs.Written.{variable_token}
use Rattle.up_script.proofs.Growing.{one_more}
use Rattle.up_script.proofs.inputs.push_vars.Goals as goal

pub loop-i-preserved : goal.loop-i-preserved
loop-i-preserved c =
    let more = one_more variable_token c.args.vars.now c.loop-i.i in
    let pair = c.at.ensures.pair in
    rw more (rw pair (search (rules, append_assoc)))
