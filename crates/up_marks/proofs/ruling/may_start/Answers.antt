use Rattle.std.proofs.Common.{◌∙◌}
use Rattle.up_marks.proofs.MayMatch.{any-stop}
use Rattle.up_marks.proofs.ruling.may_start.Goals as goal

pub returns : goal.returns
returns c are = c.one_admits.ensures ∙ any-stop c.args.event.now c.args.job.now.start_on c.args.leaves.now are
