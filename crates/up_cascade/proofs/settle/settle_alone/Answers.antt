use Rattle.up_cascade.specs.Settling.{settle_one}
use Rattle.up_cascade.proofs.settle.settle_alone.Goals as goal

pub returns : goal.returns
returns g c c' its s there = c.in_ok-reply_last.ensures.after c.args.setup.now (settle_one 5 its.file its c') (c.in_ok-moves_on.ensures.after c' its s there)
