use Rattle.std.proofs.Common.{◌∙◌}
use Rattle.up_marks.proofs.EventRuns.{ordered-rest, run-here}
use Rattle.up_marks.proofs.finder.of_event.Goals as goal

pub upto_len-requires : goal.upto_len-requires
upto_len-requires c = ordered-rest c.below_len.result c.args.leaves.now c.split_at.result.1.now c.split_at.ensures.back c.requires

pub returns : goal.returns
returns c =
    c.split_at-2.ensures.front
    ∙ run-here c.args.name.now c.args.leaves.now c.split_at.result.1.now c.below_len.result c.upto_len.result c.below_len.ensures.within c.below_len.ensures.below
    c.split_at.ensures.back c.upto_len.ensures.upto
